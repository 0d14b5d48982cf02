use Rattle.std.proofs.Common.{◌≡◌, rules}
use Rattle.std.specs.Prelude.{int_lt}
use Rattle.std.proofs.lemmas.Int.{to_z-of_z}
use Rattle.plan_answer.specs.Answer.{has_fixed}
use Rattle.plan_answer.specs.Lines.{kept_text}
use Rattle.plan_answer.specs.Stated.{stated_line}
use Rattle.plan_answer.proofs.stated.stated_line.Goals as goal

pub returns : goal.returns
returns c =
    let cost = c.ranges.cost in
    let bound = c.ranges.bound in
    let kept : c.kept_text-kept.result.now ≡ kept_text (has_fixed c.args.problem.now) = rw c.depth.ensures.value at c.kept_text-kept.ensures in
    let told : c.push_stated.new.text.items ≡ stated_line (int_lt c.args.bound c.args.cost) c.deref.result.now c.deref-2.result.now c.kept_text-kept.result.now = search rules in
    record {
      cost = c.in_ok-cost_words.cost_words.items;
      bound = c.in_ok-bound_words.bound_words.items;
      spelled_cost = simp to_z-of_z at c.in_ok-cost_words.ensures;
      spelled_bound = simp to_z-of_z at c.in_ok-bound_words.ensures;
      is = rw (c.deref.ensures.value, c.deref-2.ensures.value, kept) at told;
    }
