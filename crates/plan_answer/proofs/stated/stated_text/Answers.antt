use Rattle.std.proofs.Common.{rules, ◌≡◌, ◌++◌, List, ℕ, ap, ◌∙◌}
use Rattle.std.proofs.lemmas.Int.{to_z-of_z}
use Rattle.plan_answer.specs.Answer.{places_text}
use Rattle.plan_answer.specs.Stated.{IsStatedLine}
use Rattle.plan_answer.proofs.stated.stated_text.Goals as goal

pub returns : goal.returns
returns c =
    let P = c.args.problem.now in
    let p = c.args.permutation.now in
    let line = c.in_ok-stated_line.field-0.items in
    let listing = c.in_ok-dearest_text.field-0.items in
    let cost = c.ranges.cost in
    let bound = c.ranges.bound in
    let stated : IsStatedLine P c.args.cost c.args.bound line = simp to_z-of_z at c.in_ok-stated_line.ensures in
    let places : c.in_ok-text.text.items ≡ places_text P p = c.in_ok-text.ensures in
    let first : c.extend_from_slice.new.self.items ≡ places_text P p ++ line = search rules in
    let second : c.extend_from_slice-2.new.self.items ≡ c.extend_from_slice.new.self.items ++ listing = search rules in
    record {
      line = line;
      listing = listing;
      stated = stated;
      dearest = c.in_ok-dearest_text.ensures;
      is = second ∙ ap (λ (text : List ℕ). text ++ listing) first;
    }
