use Rattle.std.proofs.Common.{◌<◌, length, subst, sym, arith}
use Rattle.qap_proof.proofs.MissingParts.{IsSized, ListsMissingTo-more}
use Rattle.qap_proof.proofs.missing.short_leaves.Goals as goal

pub loop-number-preserved : goal.loop-number-preserved
loop-number-preserved c =
    let ls = c.args.leaves.now in
    let i = c.loop-number.number in
    let l = c.index-leaves-number.result in
    let within : i < length ls = omega (arith, c.loop-number-test.true) in
    ListsMissingTo-more c.args.proof.now.root.size c.args.proof.now.cost ls i l c.loop-number.parts.items c.push_short.new.parts.items within c.index-leaves-number.is
    (subst (IsSized c.args.proof.now.root.size) (sym c.index-leaves-number.is) (c.requires i l within)) c.in_ok-push_short.ensures c.loop-number.invariant
