-- What a trial leaves of a child.
use Rattle.std.proofs.Common.{◌≡◌, ℕ, List, ◌++◌, ◌∷◌, length, ◌∙◌, ap₂, subst}
use Rattle.qap_cost.specs.Instance.{Problem}
use Rattle.qap_cost.specs.Placement.{Placement}
use Rattle.pair_duals.specs.PairDuals.{Duals}
use Rattle.pair_duals.specs.Reduced.{Form, IsChild}
use Rattle.pair_duals.specs.Seats.{child_at}
use Rattle.subtree_search.specs.Lines.{child_on, column_on, row_on}
use Rattle.subtree_search.specs.Trials.{IsBegun}
use Rattle.subtree_search.specs.declared.line.Line.{Line}

pub at_child : (y x : Placement) (line : Line) (k h g : ℕ) → x ≡ child_at y h g → h ≡ row_on line k → g ≡ column_on line k → x ≡ child_on y line k
at_child y x line k h g is row column = is ∙ ap₂ (child_at y) row column

pub IsBegun-left : (I : Problem) (D : Duals) (R S : Form) (line : Line) (k h g : ℕ) (ends old mid new : List ℕ → Type 0) → h ≡ row_on line k → g ≡ column_on line k → IsChild I D R h g S
    → ((t before after : List ℕ) → ends t → length before ≡ k → old (t ++ before ++ 46 ∷ after) → mid (t ++ before ++ 43 ∷ after)) → ((t : List ℕ) → mid t → new t) → IsBegun I D R line k ends old new
IsBegun-left I D R S line k h g ends old mid new row column child marks same = record {
  form = S;
  child = subst (λ (a : ℕ). IsChild I D R a (column_on line k) S) row (subst (λ (b : ℕ). IsChild I D R h b S) column child);
  marked = record { each = λ t before after there long had. same (t ++ before ++ 43 ∷ after) (marks t before after there long had) };
}
