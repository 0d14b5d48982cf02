-- Entries, and other items, under their numbers.
use Rattle.std.specs.Prelude.{◌≡◌, ◌<◌, ℕ, All, AllPairs, IfSome, List, Option, map}
use Rattle.std.specs.Map.{values_of}
use Rattle.tuple_space.specs.declared.entry.Entry.{Entry}

-- entries in order of number, and how many more fit without allocation
pub record EntriesValue : Type 0 where
  pub items : List Entry
  pub room : ℕ

-- items, each under its number
abbrev pub numbered : {A : Type 0} → (A → ℕ) → List A → List (ℕ × A)
numbered number xs = map (λ x. (number x, x)) xs

-- each value is stored under its number
abbrev pub AreNumbered : {A : Type 0} → (A → ℕ) → List (ℕ × A) → Type 0
AreNumbered number pairs = pairs ≡ numbered number (values_of pairs)

-- places under their numbers, which increase, and each entry is stored under its own
pub record AreInPlaces (pairs : List (ℕ × Option Entry)) : Type 0 where
  pub own : All (λ p. IfSome p.1 (λ e. e.number ≡ p.0)) pairs
  pub rising : AllPairs (λ p q. p.0 < q.0) pairs
