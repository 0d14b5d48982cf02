-- A listed arrangement: a department and its place on each line.
use Rattle.std.specs.Prelude.{◌≡◌, ℕ, List, [], ◌∷◌, map, take, codes, string_bytes}
use Rattle.std.specs.Char.{to_ascii_lowercase}
use Rattle.plan_table.specs.Table.{AreRecordsOf, word_at}
use Rattle.plan_table.specs.declared.pin.Pin.{Pin}

-- the fields of the first line
abbrev pub layout_head : List (List ℕ)
layout_head = codes "department" ∷ codes "place" ∷ []

-- below the first line of the text, which is in upper or lower case, each record begins with a department and its place
pub record IsLayoutText (text : List ℕ) (pins : List Pin) : Type 0 where
  pub head : List (List ℕ)
  pub records : List (List (List ℕ))
  pub read : AreRecordsOf text (head ∷ records)
  pub headed : map (λ (word : List ℕ). map to_ascii_lowercase word) (take 2 head) ≡ layout_head
  pub departments : map (λ p. string_bytes p.department) pins ≡ map (λ (fields : List (List ℕ)). word_at fields 0) records
  pub places : map (λ p. string_bytes p.place) pins ≡ map (λ (fields : List (List ℕ)). word_at fields 1) records
