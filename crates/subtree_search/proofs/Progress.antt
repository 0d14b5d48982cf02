-- How a search goes on.
use Rattle.std.proofs.Common.{◌≡◌, ℕ, ◌<◌, ◌∙◌, ap, ap₂, arith, List, [], ◌∷◌, ◌++◌, ◌-◌, length, take, get_or}
use Rattle.std.proofs.lemmas.Int.{ints}
use Rattle.std.proofs.Math.Seq.{take-append_seam}
use Rattle.std.proofs.lemmas.List.{length_push}
use Rattle.qap_cost.specs.Instance.{Problem}
use Rattle.qap_cost.specs.Placement.{Placement, free_facilities, free_locations}
use Rattle.pair_duals.specs.Seats.{child_at}
use Rattle.subtree_search.specs.Best.{Best}
use Rattle.subtree_search.specs.Lines.{IsLineOf, row_on, column_on}
use Rattle.subtree_search.specs.Outcomes.{Advances}
use Rattle.subtree_search.specs.Path.{before_last}
use Rattle.subtree_search.specs.declared.line.Line.{Line}
use Rattle.subtree_search.specs.declared.line.Line.TheVariants.{Row, Column}

-- one step after another
pub Advances-both : (I : Problem) (limit : ℕ) (a b c : Best) (l m n : ℕ) → Advances I limit a b l m → Advances I limit b c m n → Advances I limit a c l n
Advances-both I limit a b c l m n one other =
    let h = one.no_worse in
    let k = other.no_worse in
    record { incumbent = other.incumbent; no_worse = omega (arith, ints, h, k); later = omega (arith, one.later, other.later); within = other.within }

-- the row and the column of a child on a line
pub row_within : (m k : ℕ) (line : Line) → IsLineOf m line → k < m → row_on line k < m
row_within m k (Row h) on below = on
row_within m k (Column g) on below = below

-- the column lies within the form too
pub column_within : (m k : ℕ) (line : Line) → IsLineOf m line → k < m → column_on line k < m
column_within m k (Row h) on below = below
column_within m k (Column g) on below = on

-- ---- back to the parent

front : (xs : List ℕ) (x : ℕ) → take (length (xs ++ x ∷ []) - 1) (xs ++ x ∷ []) ≡ xs
front xs x =
    let count : length (xs ++ x ∷ []) - 1 ≡ length xs = omega (arith, length_push xs x) in
    ap (λ (k : ℕ). take k (xs ++ x ∷ [])) count ∙ take-append_seam xs (x ∷ [])

-- the node before the last step to a child is its parent
pub before_last-child : (y : Placement) (h g : ℕ) → before_last (child_at y h g) ≡ y
before_last-child y h g =
    ap₂ (λ (F G : List ℕ). record { size = y.size; facilities = F; places = G }) (front y.facilities (get_or (free_facilities y) h 0)) (front y.places (get_or (free_locations y) g 0))

-- the path after a child is searched, and left again
pub back_at : (y above below after : Placement) (h g : ℕ) → below ≡ above → above ≡ child_at y h g → after ≡ before_last below → after ≡ y
back_at y above below after h g same at popped = popped ∙ ap before_last (same ∙ at) ∙ before_last-child y h g
