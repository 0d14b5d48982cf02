-- Charges as extra facilities: one for each facility that pays, fixed at an extra location.
use Rattle.std.specs.Prelude.{ℕ, ◌+◌, ◌-◌, ◌/◌, ◌%◌, ◌≡◌, ◌<◌, ◌==◌, nat_lt, if◌then◌else◌, List, ◌++◌, length, ℤ, pos, slice_index_or}
use Rattle.std.specs.List.{range_with_len}
use Rattle.qap_cost.specs.Instance.{InRange, IsInstance, Problem, entry}
use Rattle.qap_cost.specs.Placement.{Placement}
use Rattle.plan_charge.specs.Charges.{charge_at}
use Rattle.plan_charge.specs.declared.charges.Charges.{Charges}

-- the flow from i to j: those of the instance, and the weight from extra facility n + i to facility i
abbrev pub flow_with : Problem → Charges → ℕ → ℕ → ℤ
flow_with I c i j =
    if nat_lt i I.size
    then (if nat_lt j I.size then entry I.size I.a i j else pos 0)
    else (if j + I.size == i then c.weight else pos 0)

-- the distance from k to l: those of the instance, and the entries of row i from extra location n + i
abbrev pub distance_with : Problem → Charges → ℕ → ℕ → ℤ
distance_with I c k l =
    if nat_lt l I.size
    then (if nat_lt k I.size then entry I.size I.b k l else charge_at I.size c (k - I.size) l)
    else pos 0

-- the instance with an extra facility and an extra location for each facility that pays
pub record IsExtended (I : Problem) (c : Charges) (J : Problem) : Type 0 where
  pub instance : IsInstance J
  pub size : J.size ≡ I.size + c.count
  pub flow : (i j : ℕ) → i < J.size → j < J.size → entry J.size J.a i j ≡ flow_with I c i j
  pub distance : (k l : ℕ) → k < J.size → l < J.size → entry J.size J.b k l ≡ distance_with I c k l

-- the extra facilities are at the extra locations of the same numbers
pub record IsExtendedNode (count : ℕ) (x y : Placement) : Type 0 where
  pub size : y.size ≡ x.size + count
  pub facilities : y.facilities ≡ x.facilities ++ range_with_len x.size count
  pub places : y.places ≡ x.places ++ range_with_len x.size count

-- the permutation with each extra facility at the extra location of the same number
abbrev pub extended_list : ℕ → List ℕ → List ℕ
extended_list count p = p ++ range_with_len (length p) count

-- the first numbers of a matrix of this many columns, by rows, whose entries a function gives
pub record IsTable (f : ℕ → ℕ → ℤ) (columns count : ℕ) (xs : List ℤ) : Type 0 where
  pub many : length xs ≡ count
  pub each : (k : ℕ) → k < count → slice_index_or xs k (pos 0) ≡ f (k / columns) (k % columns)
  pub in_range : (k : ℕ) → k < count → InRange (slice_index_or xs k (pos 0))
