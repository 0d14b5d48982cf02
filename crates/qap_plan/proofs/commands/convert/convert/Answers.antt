use Rattle.std.proofs.Common.{rules}
use Rattle.qap_plan.proofs.commands.convert.convert.Goals as goal

pub returns-in-Ok-open : goal.returns-in-Ok-open
returns-in-Ok-open g c = λ is. record {
  loaded = c.in_ok-loaded.loaded;
  texts = c.in-Ok.texts;
  is_device = c.is_device-is_device.result;
  read = c.in_ok-loaded.ensures.loaded;
  converted = search rules;
  device = search rules;
  writes = search rules;
}
