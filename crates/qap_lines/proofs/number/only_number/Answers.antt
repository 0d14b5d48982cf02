use Rattle.std.proofs.Common.{◌≡◌, ◌∷◌, rules}
use Rattle.qap_lines.proofs.NumberLists.{one_number-length}
use Rattle.qap_lines.proofs.number.only_number.Goals as goal

pub returns-in_default-front_number : goal.returns-in_default-front_number
returns-in_default-front_number c = λ z spelled.
    let is : c.args.text.now ≡ 32 ∷ c.in-Some-eq32-default.word.now = search rules in
    c.if-numeral-word.false (one_number-length c.args.text.now c.in-Some-eq32-default.word.now _ _ z is c.in-Some.ensures spelled)
