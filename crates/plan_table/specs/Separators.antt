-- The separator of a text.
use Rattle.std.specs.Prelude.{ℕ, ◌+◌, ◌==◌, Bool, true, false, not, max, nat_lt, if◌then◌else◌, List, [], ◌∷◌}
use Rattle.plan_table.specs.declared.separator.Separator.{Separator}
use Rattle.plan_table.specs.declared.separator.Separator.TheVariants.{Comma, Semicolon, Tab}

-- how often a byte occurs in the rest of the first line outside quotes
abbrev pub count_outside : ℕ → Bool → List ℕ → ℕ
count_outside byte quoted [] = 0
count_outside byte quoted (b ∷ bs) =
    if b == 34 then count_outside byte (not quoted) bs else if quoted then count_outside byte true bs else if b == 10 then 0 else if b == byte then count_outside byte false bs + 1 else count_outside byte false bs

-- the one that occurs most often; of two that occur equally often, the first of these three
abbrev pub separator_by : ℕ → ℕ → ℕ → Separator
separator_by commas semicolons tabs =
    if nat_lt commas (max semicolons tabs) then (if nat_lt semicolons tabs then Tab else Semicolon) else Comma

-- a text's separator, from the bytes of its first line outside quotes
abbrev pub separator_of : List ℕ → Separator
separator_of text = separator_by (count_outside 44 false text) (count_outside 59 false text) (count_outside 9 false text)
