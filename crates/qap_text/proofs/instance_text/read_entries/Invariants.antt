use Rattle.qap_text.proofs.Spellings.{HasRead}
use Rattle.qap_text.proofs.instance_text.read_entries.Given as goal

abbrev pub invariant-loop : goal.invariant-loop
invariant-loop l = HasRead l.text l.from l.entries.items l.stop l.counter
