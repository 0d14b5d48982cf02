-- The cost change when two facilities are exchanged, computed from rows of flows and distances (Burkard and Rendl 1984).
use Rattle.std.specs.Prelude.{◌≡◌, ℕ, List, length, ℤ, pos, ◌+ℤ◌, ◌-ℤ◌, ◌*ℤ◌, slice_index_or}
use Rattle.qap_cost.specs.Range.{AllWithin}
use Rattle.qap_cost.specs.Row.{IsRow}
use Rattle.qap_cost.specs.Sum.{sum_to}
use Rattle.qap_improve.specs.declared.rows.Rows.{Rows}

-- n numbers, none above the limit in absolute value
pub record IsRowWithin (limit n : ℕ) (xs : List ℤ) : Type 0 where
  pub count : length xs ≡ n
  pub within : AllWithin limit xs

-- likewise for each of the two rows of flows and the two rows of distances
pub record AreRowsWithin (limit n : ℕ) (x : Rows) : Type 0 where
  pub size : x.size ≡ n
  pub flow_first : IsRowWithin limit n x.flow_first.now
  pub flow_second : IsRowWithin limit n x.flow_second.now
  pub distance_first : IsRowWithin limit n x.distance_first.now
  pub distance_second : IsRowWithin limit n x.distance_second.now

-- rows r and s of two n by n tables
pub record AreRowsOf (n : ℕ) (flows distances : List ℤ) (r s : ℕ) (x : Rows) : Type 0 where
  pub size : x.size ≡ n
  pub flow_first : IsRow n flows r x.flow_first.now
  pub flow_second : IsRow n flows s x.flow_second.now
  pub distance_first : IsRow n distances r x.distance_first.now
  pub distance_second : IsRow n distances s x.distance_second.now

-- the first facility's flow with i less the second's with j, times the second's distance from j less the first's from i
abbrev pub crossed : Rows → ℕ → ℕ → ℤ
crossed x i j =
    (slice_index_or x.flow_first.now i (pos 0) -ℤ slice_index_or x.flow_second.now j (pos 0))
    *ℤ (slice_index_or x.distance_second.now j (pos 0) -ℤ slice_index_or x.distance_first.now i (pos 0))

-- the change with facility k, in both directions
abbrev pub crossed_with : Rows → Rows → ℕ → ℤ
crossed_with there back k = crossed back k k +ℤ crossed there k k

-- the changes with all n facilities except r and s, and among these two
abbrev pub change_by_rows : ℕ → Rows → Rows → ℕ → ℕ → ℤ
change_by_rows n there back r s =
    ((sum_to (crossed_with there back) n -ℤ crossed_with there back r) -ℤ crossed_with there back s) +ℤ (crossed there r s +ℤ crossed there s r)
