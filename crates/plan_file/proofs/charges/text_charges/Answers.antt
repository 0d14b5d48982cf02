use Rattle.std.proofs.Common.{◌≡◌, ◌≤◌, arith, length, map, rules, string_bytes, subst, sym}
use Rattle.std.specs.Int.{w64}
use Rattle.std.specs.Prelude.{FitsSigned}
use Rattle.std.proofs.lemmas.Int.{to_z-of_z}
use Rattle.std.proofs.lemmas.List.{length-map}
use Rattle.plan_charge.specs.Charges.{AreCharges}
use Rattle.plan_charge.specs.declared.charges.Charges.{Charges}
use Rattle.plan_file.specs.Charges.{AreGridCosts, HasRow}
use Rattle.plan_file.specs.Last.{IsUpToLast}
use Rattle.plan_file.proofs.Costs.{charges_made, costs_made}
use Rattle.plan_file.proofs.charges.text_charges.Goals as goal

pub entries_of-requires-clause-count : goal.entries_of-requires-clause-count
entries_of-requires-clause-count c = c.payers-count.ensures.within

pub returns-clause-charges : goal.returns-clause-charges
returns-clause-charges c =
    let grid = c.in-Ok.grid in
    let charges : Charges = record { count = c.payers-count.result; weight = c.in_ok-weight.weight; entries = c.in_ok-entries.entries } in
    let fits : FitsSigned w64 c.in_ok-weight.weight = search rules in
    subst (λ w. AreCharges (length c.args.places.now) (record { count = c.payers-count.result; weight = w; entries = c.in_ok-entries.entries })) (sym (to_z-of_z w64 c.in_ok-weight.weight fits))
    (charges_made (map string_bytes grid.rows.items) (map string_bytes grid.columns.items) grid.entries.items (map string_bytes c.args.departments.now) (map string_bytes c.args.places.now) (length c.args.places.now) charges
    (omega (arith, c.payers-count.ensures.within, c.requires))
    c.in_ok-check_room.ensures
    c.in_ok-weight.ensures.range
    c.in_ok-entries.ensures)

pub returns-clause-costs : goal.returns-clause-costs
returns-clause-costs c =
    let grid = c.in-Ok.grid in
    let departments = c.args.departments.now in
    let names = map string_bytes departments in
    let sites = map string_bytes c.args.places.now in
    let rows = map string_bytes grid.rows.items in
    let columns = map string_bytes grid.columns.items in
    let count = c.payers-count.result in
    let charges : Charges = record { count = count; weight = c.in_ok-weight.weight; entries = c.in_ok-entries.entries } in
    let some = subst (λ r. IsUpToLast (HasRow (map string_bytes r) names) (length departments) count) c.deref.ensures.value c.payers-count.ensures in
    let fits : FitsSigned w64 c.in_ok-weight.weight = search rules in
    let all = subst (λ m. IsUpToLast (HasRow rows names) m count) (sym (length-map departments string_bytes)) some in
    record {
      rows = rows;
      columns = columns;
      scale = grid.scale;
      entries = grid.entries.items;
      read = c.in-Ok.ensures.text;
      departments = c.in-Ok.ensures.departments;
      known = c.in-Ok.ensures.known;
      places = c.in-Ok.ensures.places;
      costs =
          subst (λ w. AreGridCosts names sites c.args.fraction rows columns grid.scale grid.entries.items (record { count = count; weight = w; entries = c.in_ok-entries.entries })) (sym (to_z-of_z w64 c.in_ok-weight.weight fits))
          (costs_made names sites c.args.fraction rows columns grid.scale grid.entries.items (length c.args.places.now) charges
          (sym (length-map c.args.places.now string_bytes))
          all
          c.in_ok-weight.ensures.fine
          c.in_ok-weight.ensures.weight
          c.in_ok-entries.ensures);
    }
