use Rattle.std.proofs.Common.{◌≡◌, ◌++◌, ◌∙◌, List, ℕ, ap, rules}
use Rattle.plan_answer.specs.Lines.{rounded_text}
use Rattle.plan_answer.proofs.answer.dearest_text.Goals as goal

pub returns : goal.returns
returns c =
    let listing = c.in_ok-pairs_text.field-0.items in
    let first : c.in_ok-text.text.items ≡ rounded_text c.args.problem.now.rounded = c.in_ok-text.ensures in
    let second : c.extend_from_slice.new.self.items ≡ c.in_ok-text.text.items ++ listing = search rules in
    record {
      pairs = c.in_ok-pairs.pairs.items;
      listing = listing;
      dearest = c.in_ok-pairs.ensures;
      listed = rw c.deref.ensures.value at c.in_ok-pairs_text.ensures;
      is = second ∙ ap (λ (text : List ℕ). text ++ listing) first;
    }
