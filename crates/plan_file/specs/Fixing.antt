-- Departments fixed at places, by name and by number.
use Rattle.std.specs.Prelude.{◌≡◌, ℕ, ◌<◌, ⊤, List, [], ◌∷◌, length, string_bytes}
use Rattle.qap_cost.specs.Placement.{Placement}
use Rattle.plan_table.specs.Trips.{name_at}
use Rattle.plan_table.specs.declared.pin.Pin.{Pin}

-- a number is that of a name
abbrev pub IsNameAt : List (List ℕ) → ℕ → List ℕ → Type 0
IsNameAt names i name = (i < length names) × (name_at names i ≡ name)

-- facilities and locations, in sequence, are the named departments and places
abbrev pub AreNamed : List (List ℕ) → List (List ℕ) → List Pin → List ℕ → List ℕ → Type 0
AreNamed departments places [] [] [] = ⊤
AreNamed departments places [] [] (k ∷ ks) = ⊥
AreNamed departments places [] (f ∷ fs) ks = ⊥
AreNamed departments places (p ∷ ps) [] ks = ⊥
AreNamed departments places (p ∷ ps) (f ∷ fs) [] = ⊥
AreNamed departments places (p ∷ ps) (f ∷ fs) (k ∷ ks) =
    IsNameAt departments f (string_bytes p.department) × IsNameAt places k (string_bytes p.place) × AreNamed departments places ps fs ks

-- the named departments are at their places, and nothing else is placed
pub record AreFixed (pins : List Pin) (departments places : List (List ℕ)) (x : Placement) : Type 0 where
  pub size : x.size ≡ length places
  pub named : AreNamed departments places pins x.facilities x.places
