use Rattle.std.proofs.Common.{rules}
use Rattle.qap_plan.proofs.commands.show.show_instance.Goals as goal

pub returns : goal.returns
returns g c = λ is. record {
  problem = c.in_ok-instance.instance;
  text = c.in_ok-text.text.items;
  permutation = c.in-Ok.answer.permutation;
  cost = c.in-Ok.answer.cost;
  bound = c.in-Ok.answer.bound;
  read = c.in_ok-instance.ensures;
  held = c.in_ok-text.ensures;
  answer = search rules;
  repeats = search rules;
}
