use Rattle.std.proofs.Common.{◌∷◌, length, pos, take}
use Rattle.qap_text.specs.Spelling.{Spells}
use Rattle.qap_text.proofs.instance_writing.push_flows.Given as goal

abbrev pub invariant-loop-k : goal.invariant-loop-k
invariant-loop-k l = Spells l.text.items 0 (pos l.instance.size ∷ take l.k l.instance.a) (length l.text.items)
