use Rattle.std.proofs.Common.{rules, ◌≡◌, ◌++◌, List, ℕ, ap, append_assoc, ◌∙◌}
use Rattle.std.proofs.lemmas.Int.{to_z-of_z}
use Rattle.plan_answer.specs.Answer.{places_text}
use Rattle.plan_answer.specs.Charged.{IsChargedVerdict}
use Rattle.plan_answer.proofs.charged.charged_text.Goals as goal

pub returns : goal.returns
returns c =
    let P = c.args.problem.now in
    let p = c.args.permutation.now in
    let verdict = c.in_ok-charged_verdict.field-0.items in
    let split = c.in_ok-parts_text.field-0.items in
    let listing = c.in_ok-dearest_text.field-0.items in
    let cost = c.ranges.cost in
    let bound = c.ranges.bound in
    let proved : IsChargedVerdict P c.args.is_forbidding c.args.cost c.args.bound verdict = simp to_z-of_z at c.in_ok-charged_verdict.ensures in
    let places : c.in_ok-text.text.items ≡ places_text P p = c.in_ok-text.ensures in
    let first : c.extend_from_slice.new.self.items ≡ places_text P p ++ verdict = search rules in
    let second : c.extend_from_slice-2.new.self.items ≡ c.extend_from_slice.new.self.items ++ split = search rules in
    let third : c.extend_from_slice-3.new.self.items ≡ c.extend_from_slice-2.new.self.items ++ listing = search rules in
    record {
      verdict = verdict;
      split = split;
      listing = listing;
      proved = proved;
      divided = c.in_ok-parts_text.ensures;
      dearest = c.in_ok-dearest_text.ensures;
      is = third ∙ ap (λ (text : List ℕ). text ++ listing) (second ∙ ap (λ (text : List ℕ). text ++ split) first);
    }
