use Rattle.std.proofs.Common.{◌≡◌, ◌+◌, ◌-◌, ◌<◌, get_or, arith, refl}
use Rattle.assign_dual.proofs.Walks.{Walk-start, Walk-more, Walk-row, Walk-matching, Walk-augments}
use Rattle.assign_dual.proofs.path.augment.Goals as goal

pub loop-place-init : goal.loop-place-init
loop-place-init c = Walk-start _ _ _ _ _ _ _ c.requires.path c.requires.matches

pub offset_bounds-matching-row : goal.offset_bounds-matching-row
offset_bounds-matching-row c =
    let q = c.loop-place.place - 1 in
    let e : c.loop-place.place ≡ q + 1 = omega arith in
    let less : get_or c.args.tree_rows.now c.loop-place.place 0 < get_or c.args.tree_rows.now 0 0 = Walk-row _ _ _ _ _ _ _ _ _ _ _ _ c.requires.path c.requires.matches c.loop-place.invariant e in
    omega (arith, c.requires.root, c.requires.small)

pub bounds-matching-row : goal.bounds-matching-row
bounds-matching-row c =
    let q = c.loop-place.place - 1 in
    let e : c.loop-place.place ≡ q + 1 = omega arith in
    let less : get_or c.args.tree_rows.now c.loop-place.place 0 < get_or c.args.tree_rows.now 0 0 = Walk-row _ _ _ _ _ _ _ _ _ _ _ _ c.requires.path c.requires.matches c.loop-place.invariant e in
    omega (arith, c.requires.root, c.requires.matches.matching_count)

pub loop-place-preserved : goal.loop-place-preserved
loop-place-preserved c =
    let q = c.loop-place.place - 1 in
    let e : c.loop-place.place ≡ q + 1 = omega arith in
    Walk-more _ _ _ _ _ _ _ _ _ _ _ _ c.requires.path c.requires.matches c.requires.root c.loop-place.invariant e

pub returns-clause-matches : goal.returns-clause-matches
returns-clause-matches c =
    Walk-matching _ _ _ _ _ _ _ _ _ _ _ c.requires.path c.requires.root c.loop-place.invariant (omega arith)

pub returns-clause-moves : goal.returns-clause-moves
returns-clause-moves c =
    Walk-augments _ _ _ _ _ _ _ _ _ _ _ c.requires.path c.requires.matches.row_of_count c.requires.root refl c.loop-place.invariant (omega arith)
