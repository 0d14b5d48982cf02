-- When leases end.
use Rattle.std.specs.Prelude.{◌≡◌, ℕ, ◌≤◌, ◌==◌, ◌&&◌, ◌⊎◌, Bool, true, false, not, nat_lt, if◌then◌else◌, List, [], ◌∷◌, All, IsPermutation}
use Rattle.std.specs.List.{list_any, sum_by}
use Rattle.std.specs.declared.cmp.Reverse.{Reverse}
use Rattle.tuple_space.specs.Entry.{is_held}
use Rattle.tuple_space.specs.Lease.{is_live, is_permanent}
use Rattle.tuple_space.specs.Space.{SpaceValue}
use Rattle.tuple_space.specs.declared.entry.Entry.{Entry}
use Rattle.tuple_space.specs.declared.lease.LeaseEnd.{LeaseEnd}
use Rattle.tuple_space.specs.declared.lease.LeaseEnd.TheVariants.{Never, At}

-- a moment, and the number of an entry whose lease does not end before it; the earlier is the greater
abbrev pub Ending : Type 0
Ending = Reverse (ℕ × ℕ)

-- endings, and how many more fit without allocation
pub record EndsValue : Type 0 where
  pub rows : List Ending
  pub room : ℕ

-- a lease does not end before a moment
abbrev pub lasts_until : ℕ → LeaseEnd → Bool
lasts_until moment Never = true
lasts_until moment (At end) = not (nat_lt end moment)

-- an ending is one of an entry
abbrev pub is_ending_of : Entry → Ending → Bool
is_ending_of e r = (r.0.1 == e.number) && lasts_until r.0.0 e.end

-- the ending of a lease, if it ends
abbrev pub ending : LeaseEnd → ℕ → List Ending
ending Never number = []
ending (At end) number = record { 0 = (end, number) } ∷ []

-- an ending is due at a moment
abbrev pub has_come : ℕ → Ending → Bool
has_come moment r = not (nat_lt moment r.0.0)

-- how many are due
abbrev pub count_come : ℕ → List Ending → ℕ
count_come moment rows = sum_by (λ r. if has_come moment r then 1 else 0) rows

-- an entry is or was visited when its lease ends, and is removed with its last hold; or it is permanent
abbrev pub IsWatched : List Ending → ℕ → Entry → Type 0
IsWatched rows moment e =
    (is_permanent e.end ≡ true) ⊎ ((list_any (is_ending_of e) rows ≡ true) ⊎ ((is_live moment e.end ≡ false) × (is_held e ≡ true)))

-- this holds for all entries
abbrev pub AreWatched : List Ending → ℕ → List Entry → Type 0
AreWatched rows moment entries = All (IsWatched rows moment) entries

-- an ending that is due at a moment was removed, and this is the number of its entry
pub record IsTakenOut (moment number : ℕ) (old new : List Ending) : Type 0 where
  pub row : Ending
  pub own : row.0.1 ≡ number
  pub come : row.0.0 ≤ moment
  pub rest : IsPermutation old (row ∷ new)

-- the endings of an entry are among these, as they were among those
abbrev pub KeepsEndings : List Ending → List Ending → Entry → Type 0
KeepsEndings old new e = list_any (is_ending_of e) old ≡ true → list_any (is_ending_of e) new ≡ true

-- what is written after the last number, at a moment, is watched if everything was before
abbrev pub Watches : List Ending → List Ending → ℕ → ℕ → (SpaceValue → SpaceValue) → Type 0
Watches old new moment last go =
    (w : SpaceValue) → w.last ≡ last → w.moment ≡ moment → AreWatched old moment w.entries → AreWatched new moment (go w).entries
