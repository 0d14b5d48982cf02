use Rattle.std.proofs.Common.{◌∙◌, ap, length, map, subst}
use Rattle.plan_table.specs.Halves.{AreMirrored}
use Rattle.plan_table.specs.Listing.{filled}
use Rattle.plan_table.proofs.ListedFlows.{entries_mirrored}
use Rattle.plan_table.proofs.trips.entries_of.Goals as goal

pub returns : goal.returns
returns c =
    let mirrored = subst (AreMirrored (length c.args.names.now)) c.deref-4.ensures.value c.in_ok-check_mirrored.ensures in
    entries_mirrored c.args.is_symmetric (length c.args.names.now) c.args.cells.items c.in_ok-all.all.items c.in_ok-entries-2.entries.items c.if-not-is_symmetric.false c.in_ok-all.ensures.many
    (rw c.deref-2.ensures.value at c.in_ok-all.ensures.each)
    (c.in_ok-entries-2.ensures ∙ ap (map filled) c.deref-3.ensures.value) mirrored
