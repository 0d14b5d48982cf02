use Rattle.std.proofs.Common.{◌≡◌, ◌∷◌, ◌++◌, [], Some, subst}
use Rattle.std.specs.String.{string_bytes}
use Rattle.std.proofs.lemmas.Map.Text.{hash_map_updates_text}
use Rattle.plan_table.specs.Numbers.{AreNumbers}
use Rattle.plan_table.proofs.NumberLists.{AreNumbers-more}
use Rattle.plan_table.proofs.numbers.add_number.Goals as goal

pub returns : goal.returns
returns c =
    let own = c.in_ok-from_str.field-0 in
    let same : string_bytes own ≡ c.args.name.now = c.in_ok-from_str.ensures.ok in
    let updated = hash_map_updates_text (string_bytes own) c.args.numbers.now c.insert.new.self (Some c.args.number) c.in_ok-insert.ensures.updates in
    λ names many before.
    subst (λ name. AreNumbers c.insert.new.self (names ++ name ∷ [])) same (AreNumbers-more c.args.numbers.now c.insert.new.self names (string_bytes own) c.args.number updated many before)
