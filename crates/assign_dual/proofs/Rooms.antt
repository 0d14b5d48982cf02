-- Lists that have memory for many columns have it for fewer.
use Rattle.std.proofs.Common.{ℕ, ◌*◌, ◌≤◌, arith}
use Rattle.std.proofs.lemmas.Nat.{mul-le}
use Rattle.assign_dual.specs.Lists.{HoldsNumbers, HoldsTrees}
use Rattle.assign_dual.specs.declared.lists.NumberLists.{NumberLists}
use Rattle.assign_dual.specs.declared.lists.TreeLists.{TreeLists}

-- the lists of a tree with memory for m columns have it for fewer
pub HoldsTrees-fewer : (n m : ℕ) (lists : TreeLists) → n ≤ m → HoldsTrees m lists → HoldsTrees n lists
HoldsTrees-fewer n m lists few h =
    let columns = h.0 in
    let indices = h.1 in
    (omega arith, omega arith)

-- the same for the lists of numbers
pub HoldsNumbers-fewer : {X : Type 0} (n m : ℕ) (lists : NumberLists X) → n ≤ m → HoldsNumbers m lists → HoldsNumbers n lists
HoldsNumbers-fewer n m lists few h =
    let entries = h.0 in
    let zeros = h.1 in
    let square : n * n ≤ m * m = mul-le _ _ _ _ few few in
    (omega arith, omega arith)
