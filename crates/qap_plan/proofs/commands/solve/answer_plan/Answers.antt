use Rattle.std.proofs.Common.{inl, inr}
use Rattle.std.proofs.lemmas.Result.{IfOk-weaker}
use Rattle.qap_plan.proofs.commands.solve.answer_plan.Goals as goal

pub returns-then-is_plain : goal.returns-then-is_plain
returns-then-is_plain g c = IfOk-weaker c.solve_named.result _ _ (λ status tells success. record {
  loaded = c.in_ok-loaded.loaded;
  read = c.in_ok-loaded.ensures.loaded;
  answered = inl (c.is_plain.ensures c.if-is_plain.true, tells success);
}) c.solve_named.ensures

pub returns : goal.returns
returns g c = IfOk-weaker c.solve_restricted.result _ _ (λ status tells success. record {
  loaded = c.in_ok-loaded.loaded;
  read = c.in_ok-loaded.ensures.loaded;
  answered = inr (tells success);
}) c.solve_restricted.ensures
