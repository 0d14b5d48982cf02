use Rattle.std.proofs.Common.{List, ℕ, subst}
use Rattle.std.proofs.lemmas.Result.{IfOk-weaker}
use Rattle.plan_files.specs.Begun.{IsArrangementOf}
use Rattle.plan_files.proofs.layout_file.arrangement_in.Goals as goal

pub returns-clause-arrangement : goal.returns-clause-arrangement
returns-clause-arrangement g c = IfOk-weaker c.arrangement_of.result _ _ (λ p is. record {
  text = c.in_ok-text.text.items;
  read = c.in_ok-text.ensures;
  arrangement = subst (λ (t : List ℕ). IsArrangementOf c.args.problem.now t p) c.deref.ensures.value is;
}) c.arrangement_of.ensures.arrangement
