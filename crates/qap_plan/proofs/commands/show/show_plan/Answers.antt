use Rattle.std.proofs.Common.{rules}
use Rattle.qap_plan.proofs.commands.show.show_plan.Goals as goal

pub returns : goal.returns
returns g c = λ is. record {
  loaded = c.in_ok-loaded.loaded;
  text = c.in_ok-text.text.items;
  permutation = c.in-Ok.answer.permutation;
  cost = c.in-Ok.answer.cost;
  bound = c.in-Ok.answer.bound;
  words = c.in-Ok-plan_words.words.items;
  read = c.in_ok-loaded.ensures.loaded;
  plain = search rules;
  held = c.in_ok-text.ensures;
  answer = search rules;
  stated = search rules;
  repeats = search rules;
}
