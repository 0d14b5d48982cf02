use Rattle.std.proofs.Common.{◌≡◌, rules, tests}
use Rattle.std.specs.Prelude.{◌≢◌}
use Rattle.std.proofs.lemmas.Iterator.{IsFirst-from_position, YieldsList-from_slice}
use Rattle.tuple_space.proofs.hold.place_by.Goals as goal

pub returns : goal.returns
returns c =
    let holder = c.args.holder in
    IsFirst-from_position _ _ c.position.result (λ h. h.by ≡ holder) (λ h. h.by ≢ holder) c.position.ensures.ran
    (YieldsList-from_slice c.args.rows.now cc) (λ x q k. search (rules, tests)) (λ x q k. search (rules, tests))
