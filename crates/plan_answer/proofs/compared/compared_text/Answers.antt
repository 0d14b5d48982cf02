use Rattle.std.proofs.Common.{◌≡◌, ◌++◌, ◌∙◌, List, ℕ, ap, arith, length, map, rules, string_bytes}
use Rattle.std.specs.Int.{w128}
use Rattle.std.specs.Prelude.{FitsSigned}
use Rattle.std.proofs.lemmas.Int.{fits_signed_from_abs, to_z-of_z}
use Rattle.plan_answer.specs.Compared.{IsCostsText, count_line, move_lines, moved_count}
use Rattle.plan_answer.proofs.compared.compared_text.Goals as goal

pub returns : goal.returns
returns c =
    let P = c.args.problem.now in
    let names = map string_bytes P.departments.items in
    let bound = c.ranges.bound in
    let before : FitsSigned w128 c.cost-before.result = fits_signed_from_abs w128 c.cost-before.result (omega (arith, c.cost-before.ensures.bounded)) in
    let after : FitsSigned w128 c.cost-after.result = fits_signed_from_abs w128 c.cost-after.result (omega (arith, c.cost-after.ensures.bounded)) in
    let costs : IsCostsText P c.cost-before.result c.cost-after.result c.args.bound c.in_ok-text.text.items = simp to_z-of_z at c.in_ok-text.ensures in
    let many : c.len.result ≡ length P.departments.items = search rules in
    let counted : string_bytes c.in_ok-line.line ≡ count_line (moved_count names c.args.today.now c.args.best.now) (length P.departments.items) =
    rw (c.moved_count-moved.ensures, many, c.deref.ensures.value, c.locations.ensures.value, c.locations-2.ensures.value) at c.in_ok-line.ensures in
    let first : c.extend_from_slice.new.self.items ≡ c.in_ok-text.text.items ++ c.as_bytes.result.now = search rules in
    let moves : c.push_moves.new.text.items ≡ c.extend_from_slice.new.self.items ++ move_lines names (map string_bytes P.places.items) c.args.today.now c.args.best.now =
    rw (c.deref-2.ensures.value, c.deref-3.ensures.value, c.locations-3.ensures.value, c.locations-4.ensures.value) at c.in_ok-push_moves.ensures in
    record {
      costs = c.in_ok-text.text.items;
      told = rw (c.cost-before.ensures.value, c.cost-after.ensures.value) at costs;
      is =
          moves
          ∙ ap (λ (t : List ℕ). t ++ move_lines names (map string_bytes P.places.items) c.args.today.now c.args.best.now) (first
          ∙ ap (λ (t : List ℕ). c.in_ok-text.text.items ++ t) (c.as_bytes.ensures.value ∙ counted));
    }
