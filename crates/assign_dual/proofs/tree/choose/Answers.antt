use Rattle.std.proofs.lemmas.List.Edits.{swapped_from_swap}
use Rattle.assign_dual.proofs.Swapping.{IsBijection-swapped, KeepsScanned-swapped}
use Rattle.assign_dual.proofs.tree.choose.Goals as goal

pub returns-clause-order : goal.returns-clause-order
returns-clause-order g c =
    let below = c.requires.left in
    let within = c.nearest-best.ensures.within in
    IsBijection-swapped _ _ _ _ c.requires.order c.swap.ensures.len below within
    (swapped_from_swap _ _ _ _ 0 below within c.swap.ensures.after)

pub returns-clause-scanned : goal.returns-clause-scanned
returns-clause-scanned g c =
    let within = c.nearest-best.ensures.within in
    KeepsScanned-swapped _ _ _ _ c.nearest-best.ensures.from_done within
    (swapped_from_swap _ _ _ _ 0 c.requires.left within c.swap.ensures.after)
