-- What makes a tree prove a bound: the splits omit no permutation, and the duals of each leaf close its part, by the
-- bound of Gilmore (1962) and Lawler (1963).
use Rattle.std.specs.Prelude.{ℕ, ◌-◌, ◌<◌, List, [], ◌∷◌, length, ℤ}
use Rattle.qap_cost.specs.Instance.{Problem}
use Rattle.qap_cost.specs.Placement.{Placement, IsFreeFacility, free_locations, placing}
use Rattle.gilmore_lawler.specs.Closing.{AreDuals, Closes}
use Rattle.qap_cert.specs.Tree.{Node, split, bound, Nodes, no_nodes, node}

-- there is a dual for each free facility and each free location, and these close the part
pub record ClosesPart (I : Problem) (g : ℤ) (x : Placement) (u v : List ℤ) : Type 0 where
  pub duals : AreDuals (x.size - length x.facilities) u v
  pub closes : Closes I g x u v

abbrev mutual
  -- no permutation that completes x costs less than g, and the tree shows why: each part that a split on a free facility
  -- makes is closed, and the duals of a leaf close its part
  pub Valid : Problem → ℤ → Placement → Node → Type 0
  Valid I g x (split f children) =
      (length x.facilities < x.size) × IsFreeFacility x f × AllValid I g x f (free_locations x) children
  Valid I g x (bound u v) = ClosesPart I g x u v

  -- the children, one for each of these locations of the facility
  pub AllValid : Problem → ℤ → Placement → ℕ → List ℕ → Nodes → Type 0
  AllValid I g x f [] no_nodes = Unit {0}
  AllValid I g x f (k ∷ ks) (node t rest) = Valid I g (placing x f k) t × AllValid I g x f ks rest
  AllValid I g x f _ _ = ⊥
