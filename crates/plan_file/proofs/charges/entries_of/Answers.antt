use Rattle.std.proofs.Common.{◌≡◌, ◌∙◌, ◌++◌, ◌∷◌, ◌*◌, ◌/◌, ◌%◌, ◌<◌, [], ap, arith, length, map, pos, rules, string_bytes, subst, sym}
use Rattle.std.proofs.lemmas.List.{get_or-map, length-map}
use Rattle.plan_table.specs.Names.{HasName}
use Rattle.plan_table.specs.Trips.{name_at}
use Rattle.plan_file.specs.Charges.{IsCostCell, IsCostOf}
use Rattle.plan_file.proofs.FilledRows.{AreFilled-more, AreFilled-none, column_inside, row_inside}
use Rattle.plan_file.proofs.charges.entries_of.Goals as goal

pub loop-q-init : goal.loop-q-init
loop-q-init c = AreFilled-none _ (pos 0) (length c.args.places.now) c.in_ok-entries.entries.items c.in_ok-entries.ensures.items

pub cost_of-entry-requires-clause-place : goal.cost_of-entry-requires-clause-place
cost_of-entry-requires-clause-place c =
    let places = c.args.places.now in
    let n = length places in
    let k = c.loop-q.q % n in
    let column = column_inside c.loop-q.q n c.args.count c.loop-q-test.true in
    let place = get_or-map string_bytes places k c.index-places-k.result [] column ∙ ap string_bytes (sym c.index-places-k.is) ∙ sym c.as_str-in-loop-q.ensures.value in
    subst (HasName (map string_bytes c.args.grid.now.columns.items)) place (c.requires.places k (omega (arith, column, length-map places string_bytes)))

pub loop-q-preserved : goal.loop-q-preserved
loop-q-preserved c =
    let departments = c.args.departments.now in
    let places = c.args.places.now in
    let n = length places in
    let q = c.loop-q.q in
    let names = map string_bytes departments in
    let sites = map string_bytes places in
    let rows = map string_bytes c.args.grid.now.rows.items in
    let columns = map string_bytes c.args.grid.now.columns.items in
    let cells = c.args.grid.now.entries.items in
    let entry = c.cost_of-entry.result in
    let row : q / n < length departments = omega (arith, row_inside q n c.args.count c.loop-q-test.true, c.requires.count) in
    let column = column_inside q n c.args.count c.loop-q-test.true in
    let department = get_or-map string_bytes departments (q / n) c.index-departments-i.result [] row ∙ ap string_bytes (sym c.index-departments-i.is) ∙ sym c.as_str.ensures.value in
    let place = get_or-map string_bytes places (q % n) c.index-places-k.result [] column ∙ ap string_bytes (sym c.index-places-k.is) ∙ sym c.as_str-in-loop-q.ensures.value in
    let cost = subst (λ d. IsCostOf rows columns cells d (name_at sites (q % n)) entry) (sym department) (subst (λ p. IsCostOf rows columns cells c.as_str.result.now p entry) (sym place) c.cost_of-entry.ensures.cost) in
    let pushed : c.push.new.self.items ≡ c.loop-q.entries.items ++ entry ∷ [] = search rules in
    AreFilled-more (IsCostCell rows columns cells names sites) (pos 0) n q c.loop-q.entries.items c.push.new.self.items entry c.loop-q.invariant (record { cost = cost; in_range = c.cost_of-entry.ensures.range }) pushed
