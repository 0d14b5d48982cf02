use Rattle.std.proofs.Common.{rules}
use Rattle.qap_plan.proofs.commands.split.write_parts.Goals as goal

pub returns-clause-told : goal.returns-clause-told
returns-clause-told g c = λ success. record {
  texts = c.in-Ok.texts;
  written = c.write_files-status.new.sink;
  of_skeleton = search rules;
  writes = search rules;
  prints = search rules;
}
