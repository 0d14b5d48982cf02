use Rattle.std.proofs.Common.{◌+◌, sym, subst}
use Rattle.qap_proof.proofs.AscendingNodes.{IsAscendingTo, IsAscendingTo-none, IsAscendingTo-placing}
use Rattle.qap_proof.proofs.ascending.ascending.Goals as goal
use Rattle.qap_proof.proofs.ascending.ascending.Goals.{in-Some+in_ok-put, in_default}

pub loop-facility-preserved : goal.loop-facility-preserved
loop-facility-preserved c =
    let x = c.args.node.now in
    let i = c.loop-facility.facility in
    let y = c.loop-facility.root in
    elim c.match-at.branch [
      | in-Some+in_ok-put w ↦
          subst (IsAscendingTo (i + 1) x) (sym w.root-is)
          (subst (IsAscendingTo (i + 1) x) (sym w.in_ok-put.ensures.ok) (IsAscendingTo-placing i w.in-Some.location x y c.size.ensures.placement c.loop-facility.invariant w.in-Some.ensures))
      | in_default w ↦ subst (IsAscendingTo (i + 1) x) (sym w.root-is) (IsAscendingTo-none i x y c.loop-facility.invariant w.in_default.ensures)
    ]
