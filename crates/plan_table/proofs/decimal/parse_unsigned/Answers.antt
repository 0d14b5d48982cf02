use Rattle.std.proofs.Common.{◌+◌, ◌-◌, ◌∙◌, ap, arith, drop, length, length-drop, take}
use Rattle.std.proofs.lemmas.List.{take_all}
use Rattle.std.specs.Option.{option_map}
use Rattle.plan_table.specs.Decimal.{held_unsigned, pointed, unsigned_at}
use Rattle.plan_table.proofs.decimal.parse_unsigned.Goals as goal

pub returns-in-Some : goal.returns-in-Some
returns-in-Some c =
    let word = c.args.word.now in
    let behind = c.in-Some.point + 1 in
    let long = length-drop behind word in
    c.pointed.ensures
    ∙ ap (λ fraction. option_map held_unsigned (pointed (take c.in-Some.point word) fraction)) (take_all (length word - behind) (drop behind word) (omega arith))
    ∙ ap (λ point. option_map held_unsigned (unsigned_at word point)) c.in-Some.ensures.place
