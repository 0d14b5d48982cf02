use Rattle.std.proofs.Common.{◌+◌, length, get_or, sym, subst, arith}
use Rattle.qap_proof.proofs.Roots.{HasTurns, HasTurns-more, HasRootLine-turns, HasTurn-of_root, root_numbers, none_listed, some_listed}
use Rattle.qap_proof.proofs.root.root_from_one.Goals.{then-is_empty-via-then-is_empty, then-is_empty-via-else-is_empty+then-values-ne0}
use Rattle.qap_proof.proofs.root.root_from_one.Goals as goal

pub returns-then-is_empty : goal.returns-then-is_empty
returns-then-is_empty c =
    λ x h is.
    let numbers = root_numbers c.args.n c.args.values.now x h is in
    elim c.then-is_empty.branch [
      | then-is_empty-via-then-is_empty w ↦ omega (arith, numbers.0, numbers.1, none_listed (length c.args.values.now) w.if-is_empty.ensures)
      | then-is_empty-via-else-is_empty+then-values-ne0 w ↦ omega (arith, numbers.0, w.if-values-ne0.true)
    ]

pub returns-in_default : goal.returns-in_default
returns-in_default c =
    λ y h is.
    let zs = c.args.values.now in
    let turn = c.loop-turn.turn in
    c.in_default.ensures (get_or y.facilities turn 0) (get_or y.places turn 0)
    (HasTurn-of_root c.args.n zs turn c.loop-turn.root y c.loop-turn.invariant h is (omega (arith, c.loop-turn-test.true, c.if-values-ne0.false)))

pub loop-turn-preserved : goal.loop-turn-preserved
loop-turn-preserved c =
    let zs = c.args.values.now in
    let turn = c.loop-turn.turn in
    subst (HasTurns c.args.n zs (turn + 1)) (sym c.in_ok-put.ensures.ok)
    (HasTurns-more c.args.n zs turn c.loop-turn.root c.in-Some.facility c.in-Some.location c.loop-turn.invariant c.in-Some.ensures)

pub returns : goal.returns
returns c =
    let zs = c.args.values.now in
    let turn = c.loop-turn.turn in
    HasRootLine-turns c.args.n zs turn c.loop-turn.root c.loop-turn.invariant
    (omega (arith, c.loop-turn-test.false, c.if-values-ne0.false, some_listed (length zs) c.if-is_empty.ensures)) (omega (arith, c.loop-turn-test.false, c.loop-turn.auto.turn-end, c.if-values-ne0.false))
