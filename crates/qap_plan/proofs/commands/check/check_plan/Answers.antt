use Rattle.std.proofs.Common.{option_map, rules}
use Rattle.qap_plan.proofs.commands.check.check_plan.Goals as goal

pub returns-in-Ok : goal.returns-in-Ok
returns-in-Ok g c = λ is. record {
  loaded = c.in_ok-loaded.loaded;
  text = c.in_ok-text.text.items;
  proof = option_map (λ v. v.items) c.in_ok-proof.proof;
  line = c.in-Ok.line.items;
  read = c.in_ok-loaded.ensures.loaded;
  plain = search rules;
  held = c.in_ok-text.ensures;
  named = c.in_ok-proof.ensures;
  confirms = search rules;
  prints = search rules;
}
