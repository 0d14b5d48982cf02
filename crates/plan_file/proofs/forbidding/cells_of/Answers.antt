use Rattle.std.proofs.Common.{◌≡◌, ◌∙◌, ◌↔◌, ◌++◌, ◌∷◌, ◌*◌, ◌/◌, ◌%◌, ◌<◌, [], ap, arith, false, length, map, rules, string_bytes, subst, sym}
use Rattle.std.specs.Prelude.{IsTrue}
use Rattle.std.proofs.lemmas.List.{get_or-map}
use Rattle.plan_table.specs.Trips.{name_at}
use Rattle.plan_file.specs.Choices.{IsBarred}
use Rattle.plan_file.specs.Charges.{IsBarCell}
use Rattle.plan_file.proofs.FilledRows.{AreFilled-more, AreFilled-none, column_inside, row_inside}
use Rattle.plan_file.proofs.forbidding.cells_of.Goals as goal

pub loop-q-init : goal.loop-q-init
loop-q-init c = AreFilled-none _ false (length c.args.places.now) c.in_ok-cells.cells.items c.in_ok-cells.ensures.items

pub loop-q-preserved : goal.loop-q-preserved
loop-q-preserved c =
    let departments = c.args.departments.now in
    let places = c.args.places.now in
    let n = length places in
    let q = c.loop-q.q in
    let names = map string_bytes departments in
    let sites = map string_bytes places in
    let charging = c.args.charging.now in
    let cell = c.is_barred-cell.result in
    let row : q / n < length departments = omega (arith, row_inside q n c.args.count c.loop-q-test.true, c.requires.count) in
    let column = column_inside q n c.args.count c.loop-q-test.true in
    let department = get_or-map string_bytes departments (q / n) c.index-departments-i.result [] row ∙ ap string_bytes (sym c.index-departments-i.is) ∙ sym c.as_str.ensures.value in
    let place = get_or-map string_bytes places (q % n) c.index-places-k.result [] column ∙ ap string_bytes (sym c.index-places-k.is) ∙ sym c.as_str-in-loop-q.ensures.value in
    let so = subst (λ d. IsTrue cell ↔ IsBarred charging d (name_at sites (q % n))) (sym department) (subst (λ p. IsTrue cell ↔ IsBarred charging c.as_str.result.now p) (sym place) c.is_barred-cell.ensures) in
    let pushed : c.push.new.self.items ≡ c.loop-q.cells.items ++ cell ∷ [] = search rules in
    AreFilled-more (IsBarCell charging names sites) false n q c.loop-q.cells.items c.push.new.self.items cell c.loop-q.invariant so pushed
