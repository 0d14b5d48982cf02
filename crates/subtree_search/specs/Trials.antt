-- What a trial leaves of a child of a split.
use Rattle.std.specs.Prelude.{◌≡◌, ℕ, ◌++◌, ◌∷◌, List, length, ℤ, Option, Some, None}
use Rattle.qap_cost.specs.Instance.{Problem}
use Rattle.qap_cost.specs.Placement.{Placement}
use Rattle.pair_duals.specs.PairDuals.{Duals}
use Rattle.pair_duals.specs.Reduced.{Form, IsChild}
use Rattle.subtree_search.specs.Lines.{column_on, row_on}
use Rattle.subtree_search.specs.Recorded.{HasKid}
use Rattle.subtree_search.specs.declared.line.Line.{Line}
use Rattle.subtree_search.specs.declared.split.OpenChild.{OpenChild}

-- the mark of child number c says that its text follows, and no text is added
pub record IsMarked (ends : List ℕ → Type 0) (c : ℕ) (old new : List ℕ → Type 0) : Type 0 where
  pub each : (t before after : List ℕ) → ends t → length before ≡ c → old (t ++ before ++ 46 ∷ after) → new (t ++ before ++ 43 ∷ after)

-- the k-th child on the line has a form, and is marked so
pub record IsBegun (I : Problem) (D : Duals) (R : Form) (line : Line) (k : ℕ) (ends old new : List ℕ → Type 0) : Type 0 where
  pub form : Form
  pub child : IsChild I D R (row_on line k) (column_on line k) form
  pub marked : IsMarked ends k old new

-- it is settled, for every bound up to c; or left open, and marked
abbrev pub Settles : Problem → Duals → Placement → Form → Line → ℕ → ℤ → (List ℕ → Type 0) → (List ℕ → Type 0) → (List ℕ → Type 0) → Option OpenChild → Type 0
Settles I D y R line k c ends old new None = HasKid I D y R line k c ends old new
Settles I D y R line k c ends old new (Some child) = IsBegun I D R line k ends old new
