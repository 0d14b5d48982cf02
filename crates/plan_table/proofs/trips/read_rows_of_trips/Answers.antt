use Rattle.std.proofs.Common.{◌≡◌, ◌++◌, ◌∷◌, ◌∙◌, [], ap, get_or, map, rules, subst, sym}
use Rattle.std.specs.String.{string_bytes}
use Rattle.std.proofs.lemmas.List.{get_or-map}
use Rattle.csv.specs.Records.{fields_of}
use Rattle.plan_table.specs.Listing.{IsTripOf}
use Rattle.plan_table.proofs.ListedFlows.{AreTripsOf-more}
use Rattle.plan_table.proofs.trips.read_rows_of_trips.Goals as goal

pub loop-row-preserved : goal.loop-row-preserved
loop-row-preserved c =
    let names = map string_bytes c.args.names.now in
    let rows = map fields_of c.args.rows.now in
    let i = c.loop-row.row-index in
    let t = c.in_ok-trip.trip in
    let here : get_or rows i [] ≡ fields_of c.row-item.result = get_or-map fields_of c.args.rows.now i c.row-item.result [] c.loop-row-test.true ∙ ap fields_of (sym c.row-item.is) in
    let pushed : c.push.new.self.items ≡ c.loop-row.trips.items ++ t ∷ [] = search rules in
    let more = AreTripsOf-more c.args.reading names rows i c.loop-row.trips.items c.push.new.self.items t c.loop-row.invariant.many c.loop-row.invariant.each (subst (λ r. IsTripOf c.args.reading names r t) (sym here) c.in_ok-trip.ensures) pushed in
    record { many = more.0; each = more.1 }
