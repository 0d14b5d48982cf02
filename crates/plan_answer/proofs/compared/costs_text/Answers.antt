use Rattle.std.proofs.Common.{◌≡◌, ◌++◌, ◌∙◌, List, ℕ, ap, codes, rules}
use Rattle.std.specs.Prelude.{int_lt}
use Rattle.std.proofs.lemmas.Int.{to_z-of_z}
use Rattle.plan_answer.specs.Answer.{has_fixed}
use Rattle.plan_answer.specs.Compared.{costs_of, proved_text}
use Rattle.plan_answer.specs.Lines.{kept_text}
use Rattle.plan_answer.proofs.compared.costs_text.Goals as goal

pub returns : goal.returns
returns c =
    let before = c.ranges.before in
    let after = c.ranges.after in
    let bound = c.ranges.bound in
    let kept : c.kept_text-kept.result.now ≡ kept_text (has_fixed c.args.problem.now) = rw c.depth.ensures.value at c.kept_text-kept.ensures in
    let started : c.in_ok-text.text.items ≡ codes "today " = search rules in
    let costs : c.push_costs.new.text.items ≡ c.in_ok-text.text.items ++ costs_of c.deref.result.now c.deref-2.result.now c.deref-3.result.now = search rules in
    let told : c.push_proved.new.text.items ≡ c.push_costs.new.text.items ++ proved_text (int_lt c.args.bound c.args.after) c.deref-4.result.now c.deref-5.result.now c.kept_text-kept.result.now = search rules in
    let all =
    told
    ∙ ap (λ (t : List ℕ). t ++ proved_text (int_lt c.args.bound c.args.after) c.deref-4.result.now c.deref-5.result.now c.kept_text-kept.result.now) (costs
    ∙ ap (λ (t : List ℕ). t ++ costs_of c.deref.result.now c.deref-2.result.now c.deref-3.result.now) started) in
    record {
      today = c.in_ok-today.today.items;
      best = c.in_ok-best.best.items;
      bound = c.in_ok-bound_words.bound_words.items;
      less = c.in_ok-less.less.items;
      spelled_today = simp to_z-of_z at c.in_ok-today.ensures;
      spelled_best = simp to_z-of_z at c.in_ok-best.ensures;
      spelled_bound = simp to_z-of_z at c.in_ok-bound_words.ensures;
      told_less = simp to_z-of_z at c.in_ok-less.ensures;
      is = rw (c.deref.ensures.value, c.deref-2.ensures.value, c.deref-3.ensures.value, c.deref-4.ensures.value, c.deref-5.ensures.value, kept) at all;
    }
