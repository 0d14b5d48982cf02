use Rattle.std.proofs.Common.{◌≡◌}
use Rattle.qap_io.specs.Number.{from_one}
use Rattle.qap_lines.proofs.Locations.{no_location-no_permutation, no_other-permutation}
use Rattle.qap_lines.proofs.permutation.permutation_from_one.Goals as goal

pub returns-in_default : goal.returns-in_default
returns-in_default c =
    let none = rw c.in_default.is at c.in_ok-locations.ensures in
    no_location-no_permutation c.args.values.now none

pub returns : goal.returns
returns c =
    let items = c.in-Some.locations.items in
    let is : c.args.values.now ≡ from_one items = rw c.in-Some.is at c.in_ok-locations.ensures in
    no_other-permutation c.args.values.now items is c.in-Err.ensures.2
