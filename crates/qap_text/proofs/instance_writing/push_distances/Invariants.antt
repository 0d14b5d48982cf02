use Rattle.std.proofs.Common.{◌∷◌, ◌++◌, length, pos, take}
use Rattle.qap_text.specs.Spelling.{Spells}
use Rattle.qap_text.proofs.instance_writing.push_distances.Given as goal

abbrev pub invariant-loop-k : goal.invariant-loop-k
invariant-loop-k l = Spells l.text.items 0 (pos l.instance.size ∷ l.instance.a ++ take l.k l.instance.b) (length l.text.items)
