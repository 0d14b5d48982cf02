use Rattle.std.proofs.Common.{arith, subst}
use Rattle.qap_search.specs.Certificate.Stopped.{IsNotStopped, IsStopped, IsStoppedFault}
use Rattle.qap_search.proofs.runs.run_ending.closed.Goals as goal

pub unreachable-requires-in-Err-NotATree : goal.unreachable-requires-in-Err-NotATree
unreachable-requires-in-Err-NotATree g c =
    let I = c.args.instance.now in
    let tuples = c.args.tuples.items in
    let fault : IsNotStopped I tuples = subst (IsStoppedFault I tuples) c.in-Err-NotATree.field-0-is (c.in-Err-NotATree.ensures {u = tt}) in
    let tree = c.requires.tree in
    c.stopped_law.ensures.not_refused I tree.0 tuples tree.1 c.instance_law.ensures tree.2 fault

pub returns-in-Ok-clause-certifies : goal.returns-in-Ok-clause-certifies
returns-in-Ok-clause-certifies g c = λ known commits tree.
    let I = c.args.instance.now in
    let tuples = c.args.tuples.items in
    let C = c.in-Ok.certificate in
    let s : IsStopped I tuples C = c.in-Ok.ensures {u = tt} in
    let counted = c.stopped_law.ensures.counted I known tuples commits C tree s in (
      record {
        certified = c.stopped_law.ensures.certifies I known tuples commits C tree s;
        tree = s.tree;
        closes = s.closes;
        closed_before = c.stopped_law.ensures.closed_before I known tuples commits C tree s;
        decided = counted.0;
        left = omega (arith, counted.1, c.requires.open);
        counted = omega (arith, counted.1, counted.2);
      },
      c.stopped_law.ensures.no_dearer I known tuples commits C tree s,
    )
