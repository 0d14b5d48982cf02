use Rattle.std.proofs.Common.{◌≡◌, ◌≤◌, arith, length, map, string_bytes, subst, sym}
use Rattle.std.proofs.lemmas.List.{length-map}
use Rattle.plan_charge.specs.declared.forbidden.Forbidden.{Forbidden}
use Rattle.plan_table.specs.Trips.{name_at}
use Rattle.plan_file.specs.Choices.{AreKnownChoices, IsRestricted}
use Rattle.plan_file.specs.Last.{IsUpToLast}
use Rattle.plan_file.proofs.Forbids.{barred_made, forbidden_made}
use Rattle.plan_file.proofs.forbidding.forbidden_of.Goals as goal

pub cells_of-requires-clause-count : goal.cells_of-requires-clause-count
cells_of-requires-clause-count c = c.restricted-count.ensures.within

pub returns-clause-forbidden : goal.returns-clause-forbidden
returns-clause-forbidden c =
    let f : Forbidden = record { count = c.restricted-count.result; cells = c.in_ok-cells.cells } in
    forbidden_made c.args.charging.now (map string_bytes c.args.departments.now) (map string_bytes c.args.places.now) (length c.args.places.now) f (omega (arith, c.restricted-count.ensures.within, c.requires)) c.in_ok-check_room.ensures c.in_ok-cells.ensures

pub returns-clause-barred : goal.returns-clause-barred
returns-clause-barred c =
    let departments = c.args.departments.now in
    let names = map string_bytes departments in
    let sites = map string_bytes c.args.places.now in
    let charging = c.args.charging.now in
    let f : Forbidden = record { count = c.restricted-count.result; cells = c.in_ok-cells.cells } in
    let rows = subst (λ m. IsUpToLast (λ i. IsRestricted charging sites (name_at names i)) m c.restricted-count.result) (sym (length-map departments string_bytes)) c.restricted-count.ensures in
    record {
      known_forbidden = subst (AreKnownChoices names sites) c.deref.ensures.value c.in_ok-check_choices.ensures;
      known_allowed = subst (AreKnownChoices names sites) c.deref-2.ensures.value c.in_ok-check_choices-2.ensures;
      rows = rows;
      each = barred_made charging names sites (length c.args.places.now) f (sym (length-map c.args.places.now string_bytes)) rows c.in_ok-cells.ensures;
    }
