-- The Gilmore-Lawler matrix of a node of the search (Gilmore 1962; Lawler 1963): a lower bound on the cost of each free
-- facility at each free location.
use Rattle.std.specs.Prelude.{◌≡◌, ℕ, ◌<◌, List, length, map, remove, ℤ, ◌+ℤ◌, ◌*ℤ◌, slice_index}
use Rattle.qap_cost.specs.Sum.{sum_to}
use Rattle.qap_cost.specs.Instance.{Problem, entry}
use Rattle.qap_cost.specs.Matrix.{Square, entry_of}
use Rattle.qap_cost.specs.Placement.{Placement, free_facilities, free_locations}
use Rattle.gilmore_lawler.specs.LeastProduct.{IsLeastProduct}

-- the cost of facility i at location k with the t-th placed facility
abbrev pub cost_with : Problem → Placement → ℕ → ℕ → ℕ → ℤ
cost_with I x i k t =
    let h = slice_index x.facilities t in
    let g = slice_index x.places t in
    entry I.size I.a i h *ℤ entry I.size I.b k g +ℤ entry I.size I.a h i *ℤ entry I.size I.b g k

-- the cost of facility i at location k alone and with the placed facilities
abbrev pub linear_cost : Problem → Placement → ℕ → ℕ → ℤ
linear_cost I x i k = entry I.size I.a i i *ℤ entry I.size I.b k k +ℤ sum_to (cost_with I x i k) (length x.facilities)

-- the row of the r-th free one, at the free ones other than itself
abbrev pub others : ℕ → List ℤ → List ℕ → ℕ → List ℤ
others n matrix free r = map (entry n matrix (slice_index free r)) (remove free r)

-- the entry in row r, column c: the linear cost, and the least cost of the r-th free facility with the other free
-- facilities, over all placements of these on the free locations other than the c-th
pub record IsReducedEntry (I : Problem) (x : Placement) (r c : ℕ) (value : ℤ) : Type 0 where
  pub least : ℤ
  pub is_least : IsLeastProduct (others I.size I.a (free_facilities x) r) (others I.size I.b (free_locations x) c) least
  pub sum : value ≡ linear_cost I x (slice_index (free_facilities x) r) (slice_index (free_locations x) c) +ℤ least

-- a row for each free facility and a column for each free location, both ascending
pub record IsReduced (I : Problem) (x : Placement) (M : Square) : Type 0 where
  pub size : M.size ≡ length (free_facilities x)
  pub entries : (r c : ℕ) → r < M.size → c < M.size → IsReducedEntry I x r c (entry_of M r c)
