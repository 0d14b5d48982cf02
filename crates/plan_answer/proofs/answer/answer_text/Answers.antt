use Rattle.std.proofs.Common.{rules, ◌≡◌, ◌++◌, List, ℕ, ap, ◌∙◌}
use Rattle.std.proofs.lemmas.Int.{to_z-of_z}
use Rattle.plan_answer.specs.Answer.{IsVerdictText, places_text}
use Rattle.plan_answer.proofs.answer.answer_text.Goals as goal

pub returns : goal.returns
returns c =
    let P = c.args.problem.now in
    let p = c.args.permutation.now in
    let verdict = c.in_ok-verdict_text.field-0.items in
    let listing = c.in_ok-dearest_text.field-0.items in
    let cost = c.ranges.cost in
    let bound = c.ranges.bound in
    let proved : IsVerdictText P c.args.cost c.args.bound verdict = simp to_z-of_z at c.in_ok-verdict_text.ensures in
    let places : c.in_ok-text.text.items ≡ places_text P p = c.in_ok-text.ensures in
    let first : c.extend_from_slice.new.self.items ≡ places_text P p ++ verdict = search rules in
    let second : c.extend_from_slice-2.new.self.items ≡ c.extend_from_slice.new.self.items ++ listing = search rules in
    record {
      verdict = verdict;
      listing = listing;
      proved = proved;
      dearest = c.in_ok-dearest_text.ensures;
      is = second ∙ ap (λ (text : List ℕ). text ++ listing) first;
    }
