-- Lists of rows of one length, and the rows whose products are the entries of a Gilmore-Lawler matrix.
use Rattle.std.specs.Prelude.{◌≡◌, ℕ, ◌*◌, ◌<◌, ◌++◌, ◌∷◌, [], List, length, map, take, drop, ℤ, pos, ◌*ℤ◌, slice_index, slice_index_or}
use Rattle.std.specs.List.{flat_map, range_with_len}
use Rattle.qap_cost.specs.Sum.{sum_to}
use Rattle.qap_cost.specs.Instance.{Problem, entry}
use Rattle.gilmore_lawler.specs.declared.side.Side.{Side}
use Rattle.gilmore_lawler.specs.declared.side.Side.TheVariants.{Flow, Distance}
use Rattle.gilmore_lawler.specs.Order.{IsArranged, IsAscending, IsDescending}
use Rattle.gilmore_lawler.specs.ReducedMatrix.{others}

-- row r of a list of rows of this length
abbrev pub segment : {X : Type 0} → ℕ → List X → ℕ → List X
segment width xs r = take width (drop (r * width) xs)

-- this many rows of this length, each of which has its property
pub record IsTable {X : Type 0} (width count : ℕ) (P : ℕ → List X → Type 0) (xs : List X) : Type 0 where
  pub size : length xs ≡ count * width
  pub rows : (r : ℕ) → r < count → P r (segment width xs r)

-- the dot product of two lists
abbrev pub dot : List ℤ → List ℤ → ℤ
dot xs ys = sum_to (λ j. slice_index_or xs j (pos 0) *ℤ slice_index_or ys j (pos 0)) (length xs)

-- each number is below n
pub record AllBelow (n : ℕ) (xs : List ℕ) : Type 0 where
  pub each : (j : ℕ) → j < length xs → slice_index xs j < n

-- the matrix of a side: the flows or the distances
abbrev pub matrix_of : Problem → Side → List ℤ
matrix_of I Flow = I.a
matrix_of I Distance = I.b

-- flows are sorted in ascending order, distances in descending order
abbrev pub IsOrdered : Side → List ℤ → Type 0
IsOrdered Flow xs = IsAscending xs
IsOrdered Distance xs = IsDescending xs

-- the entry of i with another one, and of that one with i
abbrev pub pair_with : ℕ → List ℤ → ℕ → ℕ → List ℤ
pair_with n matrix i h = entry n matrix i h ∷ entry n matrix h i ∷ []

-- the entry of i with itself, and the pairs with each placed one in turn
abbrev pub linear_row : ℕ → List ℤ → List ℕ → ℕ → List ℤ
linear_row n matrix placed i = entry n matrix i i ∷ flat_map (pair_with n matrix i) placed

-- the row of the r-th free one: with itself and the placed ones, and then, sorted, with the other free ones
pub record IsFactorRow (I : Problem) (side : Side) (placed free : List ℕ) (r : ℕ) (row : List ℤ) : Type 0 where
  pub sorted : List ℤ
  pub moved : IsArranged (others I.size (matrix_of I side) free r) sorted
  pub ordered : IsOrdered side sorted
  pub is : row ≡ linear_row I.size (matrix_of I side) placed (slice_index free r) ++ sorted

-- the products of one row with each of this many others
abbrev pub product_row : ℕ → ℕ → List ℤ → List ℤ → List ℤ
product_row width count row others = map (λ c. dot row (segment width others c)) (range_with_len 0 count)

-- row r of the products of the rows of two tables
abbrev pub IsProductRow : ℕ → ℕ → List ℤ → List ℤ → ℕ → List ℤ → Type 0
IsProductRow width count xs ys r row = row ≡ product_row width count (segment width xs r) ys
