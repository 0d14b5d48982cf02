-- The word of no formal and of no field.
use Rattle.space_script.proofs.Cases.{none_of}
use Rattle.space_script.proofs.Patterns.{no_pattern}
use Rattle.space_script.proofs.fields.read_pattern.Goals as goal

pub returns-in-None : goal.returns-in-None
returns-in-None c = no_pattern c.args.word.now c.in_default.ensures (none_of _ _ _ c.in_ok-field.ensures c.in-None.is)
