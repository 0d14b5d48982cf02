use Rattle.std.proofs.Common.{◌-◌, ◌<◌, ◌++◌, length, take, drop, sym, ap, subst, ◌∙◌, arith, length-take}
use Rattle.std.proofs.lemmas.Grind.{common_steps}
use lib.Seq.{take-add, take-take}
use Rattle.std.specs.Io.KnownBytes.{Appends}
use Rattle.std.proofs.KnownBytes.{Appends-trans}
use Rattle.qap_io.proofs.writing.put.Goals as goal

pub loop-written-preserved : goal.loop-written-preserved
loop-written-preserved g c =
    let text = c.args.text.now in
    let written = c.loop-written.written in
    let taken = c.in-Ok.taken in
    let wrote = c.in-Ok.ensures in
    let bound = wrote.bound in
    let room = length-take (length text - written) (drop written text) in
    let joined = ap (λ l. take written text ++ l) (take-take taken (length text - written) (drop written text) (omega arith)) ∙ sym (take-add written taken text) in
    let some : 0 < taken = omega arith in
    (omega arith, subst (Appends _ _) joined (Appends-trans _ _ _ _ _ c.loop-written.invariant.1 wrote.bytes), let count = wrote.count in grind (arith, common_steps))
