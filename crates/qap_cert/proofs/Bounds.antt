-- The rows that a child's reduced matrix is made from.
use Rattle.std.proofs.Common.{◌≡◌, ◌∙◌, ◌++◌, ◌∷◌, [], ℕ, ap, sym}
use Rattle.qap_cost.specs.Instance.{Problem}
use Rattle.qap_cost.specs.Placement.{Placement, placing}
use Rattle.gilmore_lawler.specs.FlowRows.{FlowSide}

-- the rows that were made for a node's children are those of each
pub rows_of_child : (I : Problem) (x y : Placement) (f k : ℕ) (r : FlowSide) → r ≡ record { instance = I; facilities = x.facilities ++ f ∷ [] } → y ≡ placing x f k → r ≡ record { instance = I; facilities = y.facilities }
rows_of_child I x y f k r r_is y_is =
    r_is ∙ ap (λ (z : Placement). let s : FlowSide = record { instance = I; facilities = z.facilities } in s) (sym y_is)
