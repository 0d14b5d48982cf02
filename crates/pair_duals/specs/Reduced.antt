-- The reduced form of the cost of the completions of a node under pair duals (Hahn and Grant 1998): a number, a matrix, and the
-- residual of each pair.
use Rattle.std.specs.Prelude.{◌≡◌, ℕ, ◌+◌, ◌<◌, ◌==◌, if◌then◌else◌, Bool, true, false, List, [], length, remove, ℤ, pos, ◌+ℤ◌, ◌-ℤ◌, ◌*ℤ◌, ◌≤ℤ◌, slice_index, slice_index_or, nat_lt}
use Rattle.qap_cost.specs.Sum.{sum_to}
use Rattle.qap_cost.specs.Instance.{Problem, entry}
use Rattle.qap_cost.specs.Objective.{cost_of}
use Rattle.qap_cost.specs.Placement.{Placement, Completes, free_facilities, free_locations, fixed_cost_of}
use Rattle.gilmore_lawler.specs.ReducedMatrix.{linear_cost}
use Rattle.pair_duals.specs.PairDuals.{Duals, alpha_of, beta_of, residual}
use Rattle.pair_duals.specs.Seats.{Seats}

-- a number, and a square matrix with a row for each free facility and a column for each free location of a given node
pub record Form : Type 0 where
  pub value : ℤ
  pub rows : List ℕ
  pub columns : List ℕ
  pub entries : List ℤ
  pub depth : ℕ
  pub is_lined : Bool

-- the form with no rows
abbrev pub empty_form : Form
empty_form = record { value = pos 0; rows = []; columns = []; entries = []; depth = 0; is_lined = false }

-- the number of rows of a form
abbrev pub count_of : Form → ℕ
count_of R = length R.rows

-- row r, column c
abbrev pub at : Form → ℕ → ℕ → ℤ
at R r c = entry (length R.rows) R.entries r c

-- the free facilities and locations of y are those at these indices among the duals'
pub record AreNumbers (D : Duals) (y : Placement) (rows columns : List ℕ) : Type 0 where
  pub row_count : length rows ≡ length (free_facilities y)
  pub column_count : length columns ≡ length (free_locations y)
  pub rows_within : (r : ℕ) → r < length rows → slice_index rows r < length D.facilities
  pub columns_within : (c : ℕ) → c < length columns → slice_index columns c < length D.locations
  pub facilities : (r : ℕ) → r < length rows → slice_index D.facilities (slice_index rows r) ≡ slice_index (free_facilities y) r
  pub locations : (c : ℕ) → c < length columns → slice_index D.locations (slice_index columns c) ≡ slice_index (free_locations y) c

-- such facilities and locations exist
pub record AreWithin (D : Duals) (rows columns : List ℕ) : Type 0 where
  pub each_row : (r : ℕ) → r < length rows → slice_index rows r < length D.facilities
  pub each_column : (c : ℕ) → c < length columns → slice_index columns c < length D.locations

-- the sum over all t < r < m of f(r,t)
abbrev pub sum_of_pairs : (ℕ → ℕ → ℤ) → ℕ → ℤ
sum_of_pairs f m = sum_to (λ r. sum_to (f r) r) m

-- the residual of rows r and t if they take these columns
abbrev pub left_of_pair : Problem → Duals → List ℕ → List ℕ → List ℕ → ℕ → ℕ → ℤ
left_of_pair I D rows columns seat r t =
    residual I D (slice_index rows r) (slice_index columns (slice_index seat r)) (slice_index rows t) (slice_index columns (slice_index seat t))

-- each completion of y costs, scaled, the value, the entries at its seats, and what the duals leave of its pairs
pub record IsFormOf (I : Problem) (D : Duals) (y : Placement) (R : Form) : Type 0 where
  pub numbers : AreNumbers D y R.rows R.columns
  pub identity : (p seat : List ℕ) → Completes y p → Seats y p seat
      → pos D.scale *ℤ cost_of I p ≡ (R.value +ℤ sum_to (λ r. at R r (slice_index seat r)) (count_of R)) +ℤ sum_of_pairs (left_of_pair I D R.rows R.columns seat) (count_of R)

-- no entry is less than nothing
pub record IsNonNegative (R : Form) : Type 0 where
  pub each : (r c : ℕ) → r < count_of R → c < count_of R → pos 0 ≤ℤ at R r c

-- a number for each row and one for each column; every entry is at least their sum
pub record AreUnder (R : Form) (u v : List ℤ) : Type 0 where
  pub below : (r c : ℕ) → r < count_of R → c < count_of R → (slice_index_or u r (pos 0) +ℤ slice_index_or v c (pos 0)) ≤ℤ at R r c

-- ---- a node's own form

-- f, except 0 at k
abbrev pub but : ℕ → (ℕ → ℤ) → ℕ → ℤ
but k f j = (if j == k then pos 0 else f j)

-- the sum of f over the numbers below n other than k
abbrev pub sum_but : ℕ → (ℕ → ℤ) → ℕ → ℤ
sum_but k f n = sum_to (but k f) n

-- the scaled linear cost, plus the duals for each other free facility and each other free location of y
abbrev pub dual_entry : Problem → Duals → Placement → List ℕ → List ℕ → ℕ → ℕ → ℤ
dual_entry I D y rows columns r c =
    pos D.scale *ℤ linear_cost I y (slice_index (free_facilities y) r) (slice_index (free_locations y) c)
    +ℤ (sum_but r (λ t. alpha_of D (slice_index rows r) (slice_index columns c) (slice_index rows t)) (length rows)
    +ℤ sum_but c (λ d. beta_of D (slice_index rows r) (slice_index columns c) (slice_index columns d)) (length columns))

-- the form of y from the duals alone
pub record IsStart (I : Problem) (D : Duals) (y : Placement) (R : Form) : Type 0 where
  pub numbers : AreNumbers D y R.rows R.columns
  pub depth : R.depth ≡ 0
  pub is_lined : R.is_lined ≡ false
  pub value : R.value ≡ pos D.scale *ℤ fixed_cost_of I y
  pub entries : (r c : ℕ) → r < count_of R → c < count_of R → at R r c ≡ dual_entry I D y R.rows R.columns r c

-- ---- a line

-- the least of f(0), .., f(m - 1)
pub record IsLeast (f : ℕ → ℤ) (m : ℕ) (least : ℤ) : Type 0 where
  pub below : (r : ℕ) → r < m → least ≤ℤ f r
  pub reached : (r : ℕ) × (r < m) × (least ≡ f r)

-- the entry in column c, row r, less the row's number
abbrev pub less_row : ℕ → List ℤ → List ℤ → ℕ → ℕ → ℤ
less_row m entries u c r = entry m entries r c -ℤ slice_index_or u r (pos 0)

-- each number is the minimum of its column after subtracting a number from each row
pub record AreLeast (m : ℕ) (entries u v : List ℤ) : Type 0 where
  pub count : length v ≡ m
  pub least : (c : ℕ) → c < m → IsLeast (less_row m entries u c) m (slice_index_or v c (pos 0))

-- each number is the minimum of its row
pub record AreLeastOfRows (m : ℕ) (entries u : List ℤ) : Type 0 where
  pub count : length u ≡ m
  pub least : (r : ℕ) → r < m → IsLeast (entry m entries r) m (slice_index_or u r (pos 0))

-- an entry less the numbers of its row and its column
abbrev pub less_both : ℕ → List ℤ → List ℤ → List ℤ → ℕ → ℕ → ℤ
less_both m entries u v r c = entry m entries r c -ℤ (slice_index_or u r (pos 0) +ℤ slice_index_or v c (pos 0))

-- the same with the row's own number
abbrev pub less_own : ℕ → List ℤ → ℤ → List ℤ → ℕ → ℕ → ℤ
less_own m entries own v r c = entry m entries r c -ℤ (own +ℤ slice_index_or v c (pos 0))

-- a number for each row, and the column minima that remain, move from the matrix to the value
pub record IsLine (old new : Form) (u v : List ℤ) : Type 0 where
  pub least : AreLeast (count_of old) old.entries u v
  pub rows : new.rows ≡ old.rows
  pub columns : new.columns ≡ old.columns
  pub depth : new.depth ≡ old.depth
  pub is_lined : new.is_lined ≡ true
  pub value : new.value ≡ old.value +ℤ (sum_to (λ r. slice_index_or u r (pos 0)) (count_of old) +ℤ sum_to (λ c. slice_index_or v c (pos 0)) (count_of old))
  pub entries : (r c : ℕ) → r < count_of old → c < count_of old → at new r c ≡ less_both (count_of old) old.entries u v r c

-- ---- a child

-- the index, among all, of the k-th of those other than h
abbrev pub past : ℕ → ℕ → ℕ
past h k = (if nat_lt k h then k else k + 1)

-- the entry in row r, column c of the child that puts row h at column g
abbrev pub child_entry : Problem → Duals → List ℕ → List ℕ → List ℤ → ℕ → ℕ → ℕ → ℕ → ℤ
child_entry I D rows columns entries h g r c =
    entry (length rows) entries (past h r) (past g c) +ℤ residual I D (slice_index rows (past h r)) (slice_index columns (past g c)) (slice_index rows h) (slice_index columns g)

-- the form of the child that puts row h at column g: the entry there is added to the value, and the residuals of the pairs with it
-- to the other entries
pub record IsChild (I : Problem) (D : Duals) (old : Form) (h g : ℕ) (new : Form) : Type 0 where
  pub depth : new.depth ≡ old.depth + 1
  pub is_lined : new.is_lined ≡ false
  pub value : new.value ≡ old.value +ℤ at old h g
  pub rows : new.rows ≡ remove old.rows h
  pub columns : new.columns ≡ remove old.columns g
  pub entries : (r c : ℕ) → r + 1 < count_of old → c + 1 < count_of old → at new r c ≡ child_entry I D old.rows old.columns old.entries h g r c
