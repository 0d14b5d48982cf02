use Rattle.std.proofs.Common.{◌≡◌, length, map, arith, sym, subst, List}
use Rattle.std.proofs.lemmas.List.{take_at}
use Rattle.pair_duals.specs.Filling.{AreEntries}
use Rattle.pair_duals.specs.Start.{own_entry}
use Rattle.pair_duals.proofs.Fillings.{AreEntries-filled}
use Rattle.pair_duals.proofs.start.start_entries.Goals as goal

pub returns-clause-entries : goal.returns-clause-entries
returns-clause-entries g c =
    let value = g.N.Number.value in
    let D = c.args.duals.now in
    let same : length c.fill_start.new.entries ≡ c.resize.new.self.len = omega (arith, c.fill_start.auto.entries, c.deref_mut.ensures.len, c.in_ok-resize.ensures.len) in
    subst (λ (xs : List g.row.N.Denot). AreEntries (length D.facilities) (own_entry c.args.instance.now D c.args.node.now) (map value xs)) (sym (take_at c.fill_start.new.entries _ c.resize.new.self.len same))
    (AreEntries-filled (length D.facilities) (own_entry c.args.instance.now D c.args.node.now) _ (map value c.fill_start.new.entries) c.fill_start.ensures)
