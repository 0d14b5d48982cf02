-- Facilities at locations, with the flows and the distances between them in tables that are read row by row.
use Rattle.std.specs.Prelude.{◌≡◌, ℕ, ◌+◌, ◌*◌, ◌^◌, ◌<◌, ◌≤◌, IsTrue, List, length, ℤ, unsigned_abs}
use Rattle.qap_cost.specs.Instance.{Problem, entry}
use Rattle.qap_cost.specs.Objective.{Permutes}
use Rattle.qap_improve.specs.Difference.{flow, distance}
use Rattle.qap_improve.specs.Exchange.{partner}
use Rattle.qap_improve.specs.declared.facility_table.Content.{Content}
use Rattle.qap_improve.specs.declared.facility_table.Content.TheVariants.{Flows, FlowsBack, Distances, DistancesBack}
use Rattle.qap_improve.specs.declared.arrangement.Arrangement.{Arrangement}

-- row i, column j of an n by n table is f(i, j)
pub record IsTable (n : ℕ) (f : ℕ → ℕ → ℤ) (table : List ℤ) : Type 0 where
  pub count : length table ≡ n * n
  pub each : (i j : ℕ) → i < n → j < n → entry n table i j ≡ f i j

-- likewise before position t
pub record IsTableBefore (t n : ℕ) (f : ℕ → ℕ → ℤ) (table : List ℤ) : Type 0 where
  pub count : length table ≡ n * n
  pub each : (i j : ℕ) → i < n → j < n → i * n + j < t → entry n table i j ≡ f i j

-- the entry in row i, column j of such a table
abbrev pub content : Problem → List ℕ → Content → ℕ → ℕ → ℤ
content I p Flows i j = flow I i j
content I p FlowsBack i j = flow I j i
content I p Distances i j = distance I p i j
content I p DistancesBack i j = distance I p j i

-- rows r and s are exchanged, and so are columns r and s
abbrev pub AreExchanged : ℕ → ℕ → ℕ → List ℤ → List ℤ → Type 0
AreExchanged n r s old new = IsTable n (λ i j. entry n old (partner r s i) (partner r s j)) new

-- no entry of either matrix exceeds the limit in absolute value
pub record HasEntriesWithin (limit : ℕ) (I : Problem) : Type 0 where
  pub flows : (i j : ℕ) → i < I.size → j < I.size → unsigned_abs (entry I.size I.a i j) ≤ limit
  pub distances : (i j : ℕ) → i < I.size → j < I.size → unsigned_abs (entry I.size I.b i j) ≤ limit

-- 256 times two products of differences of entries are at most 256 * 2 * 10^16, which is below 2^63
abbrev pub HasSmallEntries : Problem → Type 0
HasSmallEntries I = HasEntriesWithin (5 * 10 ^ 7) I

-- these locations, and their four tables
pub record IsArrangement (I : Problem) (x : Arrangement) : Type 0 where
  pub permutation : Permutes I x.locations.items
  pub flows : IsTable I.size (content I x.locations.items Flows) x.flows.items
  pub flows_back : IsTable I.size (content I x.locations.items FlowsBack) x.flows_back.items
  pub distances : IsTable I.size (content I x.locations.items Distances) x.distances.items
  pub distances_back : IsTable I.size (content I x.locations.items DistancesBack) x.distances_back.items
  pub small : IsTrue x.are_small → HasSmallEntries I
