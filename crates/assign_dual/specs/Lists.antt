-- How large a matrix the allocated memory suffices for.
use Rattle.std.specs.Prelude.{ℕ, ◌*◌, ◌≤◌, vec_capacity}
use Rattle.assign_dual.specs.declared.assignment.Assignment.{Assignment}
use Rattle.assign_dual.specs.declared.lists.NumberLists.{NumberLists}
use Rattle.assign_dual.specs.declared.lists.TreeLists.{TreeLists}

-- the lists need no more memory for n columns
abbrev pub HoldsTrees : ℕ → TreeLists → Type 0
HoldsTrees n lists = (n ≤ vec_capacity lists.row_of) × (3 * n ≤ vec_capacity lists.indices)

-- likewise for the lists of numbers: the n * n entries, and four numbers for each column
abbrev pub HoldsNumbers : {X : Type 0} → ℕ → NumberLists X → Type 0
HoldsNumbers n lists = (n * n ≤ vec_capacity lists.entries) × (4 * n ≤ vec_capacity lists.zeros)

-- an assignment of n rows and columns can be written to these lists without allocation
abbrev pub HasRoomFor : ℕ → Assignment → Type 0
HasRoomFor n a = (n ≤ vec_capacity a.matching) × (n ≤ vec_capacity a.u) × (n ≤ vec_capacity a.v)
