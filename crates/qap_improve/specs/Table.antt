-- The cost change of each exchange of two facilities, and how another exchange alters it
-- (Taillard, Robust taboo search for the quadratic assignment problem, Parallel Computing 17, 1991).
use Rattle.std.specs.Prelude.{◌≡◌, ◌≢◌, ◌⊎◌, ℕ, ◌+◌, ◌*◌, ◌<◌, ◌≤◌, List, length, map, ℤ, ◌+ℤ◌, ◌-ℤ◌, ◌*ℤ◌, unsigned_abs, slice_index_or}
use Rattle.qap_cost.specs.Instance.{Problem, entry}
use Rattle.qap_cost.specs.Objective.{cost_of}
use Rattle.qap_improve.specs.Difference.{flow, distance}
use Rattle.qap_improve.specs.Exchange.{exchanging}
use Rattle.qap_improve.specs.declared.contrast.Contrast.{Contrast}
use Rattle.qap_improve.specs.declared.table.Differences.{Differences}

-- x is the cost after facilities r and s have exchanged their locations, minus the cost before
abbrev pub IsDifference : Problem → List ℕ → ℕ → ℕ → ℤ → Type 0
IsDifference I p r s x = cost_of I p +ℤ x ≡ cost_of I (exchanging p r s)

-- row r, column s is the difference of r and s, for all r < s
pub record AreDifferences (I : Problem) (p : List ℕ) (table : List ℤ) : Type 0 where
  pub count : length table ≡ I.size * I.size
  pub each : (r s : ℕ) → r < s → s < I.size → IsDifference I p r s (entry I.size table r s)

-- they are at their positions before t
pub record HasFilled (I : Problem) (p : List ℕ) (table : List ℤ) (t : ℕ) : Type 0 where
  pub count : length table ≡ I.size * I.size
  pub before : (r s : ℕ) → r < s → s < I.size → r * I.size + s < t → IsDifference I p r s (entry I.size table r s)

-- what is kept: the differences, where a number of the code represents its value, and memory for each facility's contrast
pub record AreKept {X : Type 0} (value : X → ℤ) (I : Problem) (p : List ℕ) (kept : Differences X) : Type 0 where
  pub differences : AreDifferences I p (map value kept.entries.items)
  pub contrasts : length kept.contrasts.items ≡ I.size

-- neither of r and s is u or v
pub record AreOthers (u v r s : ℕ) : Type 0 where
  pub first_of_r : r ≢ u
  pub second_of_r : r ≢ v
  pub first_of_s : s ≢ u
  pub second_of_s : s ≢ v

-- after u and v have exchanged their locations: before position t those of all other pairs are updated, and from
-- there on they are the old ones
pub record HasMoved (I : Problem) (q : List ℕ) (u v : ℕ) (table : List ℤ) (t : ℕ) : Type 0 where
  pub count : length table ≡ I.size * I.size
  pub before : (r s : ℕ) → r < s → s < I.size → r * I.size + s < t → AreOthers u v r s → IsDifference I q r s (entry I.size table r s)
  pub behind : (r s : ℕ) → r < s → s < I.size → t ≤ r * I.size + s → IsDifference I (exchanging q u v) r s (entry I.size table r s)

-- they are those of q, except for pairs of u or v with facility k or a later one
pub record HasSettled (I : Problem) (q : List ℕ) (u v k : ℕ) (table : List ℤ) : Type 0 where
  pub count : length table ≡ I.size * I.size
  pub each : (r s : ℕ) → r < s → s < I.size → (r ≡ u → s < k) → (r ≡ v → s < k) → (s ≡ u → r < k) → (s ≡ v → r < k) → IsDifference I q r s (entry I.size table r s)

-- each is that of q or unchanged, and that of facilities k and w is that of q
pub record Settles (I : Problem) (q : List ℕ) (k w : ℕ) (old new : List ℤ) : Type 0 where
  pub count : length new ≡ length old
  pub each : (r s : ℕ) → r < s → s < I.size →
      IsDifference I q r s (entry I.size new r s) ⊎ ((entry I.size new r s ≡ entry I.size old r s) × (r ≡ k → s ≢ w) × (r ≡ w → s ≢ k))

-- how the flows and the distances between k and two others, u and v, differ
pub record IsContrast (I : Problem) (p : List ℕ) (u v k : ℕ) (x : Contrast) : Type 0 where
  pub flows : x.flow ≡ flow I u k -ℤ flow I v k
  pub flows_back : x.flow_back ≡ flow I k u -ℤ flow I k v
  pub distances : x.distance ≡ distance I p u k -ℤ distance I p v k
  pub distances_back : x.distance_back ≡ distance I p k u -ℤ distance I p k v

-- bounded like differences of two entries within the limit
pub record IsSmall (limit : ℕ) (x : Contrast) : Type 0 where
  pub flow : unsigned_abs x.flow ≤ 2 * limit
  pub flow_back : unsigned_abs x.flow_back ≤ 2 * limit
  pub distance : unsigned_abs x.distance ≤ 2 * limit
  pub distance_back : unsigned_abs x.distance_back ≤ 2 * limit

-- those between each facility and two others, before position t
pub record HasContrasts (I : Problem) (p : List ℕ) (u v : ℕ) (xs : List Contrast) (t : ℕ) : Type 0 where
  pub count : length xs ≡ I.size
  pub each : (k : ℕ) (other : Contrast) → k < t → IsContrast I p u v k (slice_index_or xs k other)

-- those between each facility and two others
abbrev pub AreContrasts : Problem → List ℕ → ℕ → ℕ → List Contrast → Type 0
AreContrasts I p u v xs = HasContrasts I p u v xs I.size

-- the change of the difference of two facilities with these contrasts to two that have exchanged
abbrev pub change_of_difference : Contrast → Contrast → ℤ
change_of_difference x y =
    (x.flow -ℤ y.flow) *ℤ (y.distance -ℤ x.distance)
    +ℤ (x.flow_back -ℤ y.flow_back) *ℤ (y.distance_back -ℤ x.distance_back)
