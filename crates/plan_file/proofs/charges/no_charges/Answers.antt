use Rattle.std.proofs.Common.{pos, refl}
use Rattle.plan_charge.specs.declared.charges.Charges.{Charges}
use Rattle.plan_file.proofs.Costs.{charges_none}
use Rattle.plan_file.proofs.charges.no_charges.Goals as goal

pub returns-clause-charges : goal.returns-clause-charges
returns-clause-charges c =
    let charges : Charges = record { count = 0; weight = pos 0; entries = c.new.result } in
    charges_none c.args.size charges c.in_ok-check_room.ensures refl refl c.new.ensures.items
