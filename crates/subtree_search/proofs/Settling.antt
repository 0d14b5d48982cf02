-- The children of a split that are left open, and what they cover.
use Rattle.std.proofs.Common.{◌≡◌, ℕ, ◌+◌, ◌<◌, ◌≤◌, List, [], ◌∷◌, ◌++◌, sym, ◌∙◌, ap, ap₂, subst, arith, inl, inr, refl}
use Rattle.std.specs.Prelude.{ℤ, ◌≤ℤ◌, All, Option, Some, None}
use Rattle.std.proofs.lemmas.Int.{ints}
use Rattle.std.proofs.lemmas.Bool.{cases_lt}
use Rattle.std.proofs.lemmas.List.Elements.{All-push, Contains-append_left, Contains-push}
use Rattle.qap_cost.specs.Instance.{Problem}
use Rattle.qap_cost.specs.Objective.{cost_of}
use Rattle.qap_cost.specs.Placement.{Placement, Completes}
use Rattle.pair_duals.specs.PairDuals.{Duals}
use Rattle.pair_duals.specs.Reduced.{Form, IsNonNegative, count_of}
use Rattle.pair_duals.specs.Seats.{child_at}
use Rattle.subtree_search.specs.Closed.{IsClosed}
use Rattle.subtree_search.specs.Evaluated.{IsSkipped}
use Rattle.subtree_search.specs.Images.{IsImage, table_of}
use Rattle.subtree_search.specs.Lines.{IsLineOf, child_on, column_on, row_on}
use Rattle.subtree_search.specs.Opens.{Adds, Becomes, CompletesOpen, IsOpen, IsOpenAt, IsSettled}
use Rattle.subtree_search.specs.Premises.{IsNode}
use Rattle.subtree_search.specs.declared.line.Line.{Line}
use Rattle.subtree_search.specs.declared.split.OpenChild.{OpenChild}
use Rattle.subtree_search.proofs.Closings.{IsClosed-pruned}
use Rattle.subtree_search.proofs.Covers.{CompletesChild-cover, HasTwin-image}
use Rattle.subtree_search.proofs.Progress.{column_within, row_within}

-- a closed node is settled, whatever is open
pub IsSettled-closed : (I : Problem) (y x : Placement) (c : ℤ) (children : List OpenChild) → IsClosed I x c → IsSettled I y c children x
IsSettled-closed I y x c children closed = record { each = λ p done. inl (closed.least p done) }

-- an open child is
pub IsSettled-open : (I : Problem) (scale : ℕ) (y x : Placement) (c : ℤ) (children : List OpenChild) (child : OpenChild) → IsOpenAt I scale y x child → IsSettled I y c (children ++ child ∷ []) x
IsSettled-open I scale y x c children child at = record {
  each = λ p done. inr (record {
    child = child;
    listed = Contains-push children child;
    other = p;
    completes = subst (λ (z : Placement). Completes z p) (sym at.is) done;
    cost = refl;
  });
}

-- with more open children, and for a lower cost
more_open : (I : Problem) (y : Placement) (children more : List OpenChild) (c : ℤ) → CompletesOpen I y children c → CompletesOpen I y (children ++ more) c
more_open I y children more c h = record { child = h.child; listed = Contains-append_left children more h.child h.listed; other = h.other; completes = h.completes; cost = h.cost }

-- what is settled at a cost is settled at a lower one
pub IsSettled-lower : (I : Problem) (y x : Placement) (c d : ℤ) (children : List OpenChild) → d ≤ℤ c → IsSettled I y c children x → IsSettled I y d children x
IsSettled-lower I y x c d children less h = record { each = λ p done. elim (h.each p done) [ inl below ↦ inl (omega (arith, ints, below, less)) | inr found ↦ inr found ] }

-- also with more open children
pub IsSettled-more : (I : Problem) (y x : Placement) (c d : ℤ) (children more : List OpenChild) → d ≤ℤ c → IsSettled I y c children x → IsSettled I y d (children ++ more) x
IsSettled-more I y x c d children more less h =
    record { each = λ p done. elim (h.each p done) [ inl below ↦ inl (omega (arith, ints, below, less)) | inr found ↦ inr (more_open I y children more (cost_of I p) found) ] }

-- an image of an earlier child is settled where that is
pub IsSettled-image : (I : Problem) (D : Duals) (step : ℕ) (y : Placement) (R : Form) (line : Line) (k : ℕ) (c : ℤ) (children : List OpenChild) → IsNode I D step y R → IsLineOf (count_of R) line → k < count_of R → IsImage I y (table_of line) k
    → ((j : ℕ) → j < k → IsSettled I y c children (child_on y line j)) → IsSettled I y c children (child_on y line k)
IsSettled-image I D step y R line k c children n on below image settled =
    let count = n.form.numbers.row_count in
    record {
      each = λ p done.
          let twin = HasTwin-image I y line image.permutation image.earlier k p n.placement n.size (subst (λ (m : ℕ). IsLineOf m line) count on) (omega (arith, below, count)) image.before image.takes done in
          elim ((settled image.earlier image.before).each twin.other twin.completes) [
            | inl least ↦ inl (subst (λ z. c ≤ℤ z) twin.cost least)
            | inr found ↦ inr (subst (CompletesOpen I y children) twin.cost found)
          ];
    }

-- so is a child that its parent skips
pub IsSettled-skipped : (I : Problem) (D : Duals) (step : ℕ) (y : Placement) (R : Form) (line : Line) (k : ℕ) (c : ℤ) (children : List OpenChild) → IsNode I D step y R → IsNonNegative R → IsLineOf (count_of R) line → k < count_of R → IsSkipped I D y R line k c
    → ((j : ℕ) → j < k → IsSettled I y c children (child_on y line j)) → IsSettled I y c children (child_on y line k)
IsSettled-skipped I D step y R line k c children n least on below (inl reaches) settled =
    let h = row_on line k in
    let g = column_on line k in
    let closed = IsClosed-pruned I D step y R h g c n least (row_within (count_of R) k line on below) (column_within (count_of R) k line on below) reaches in
    IsSettled-closed I y (child_on y line k) c children closed
IsSettled-skipped I D step y R line k c children n least on below (inr image) settled = IsSettled-image I D step y R line k c children n on below image settled

-- one child more
pub settled_more : (I : Problem) (y : Placement) (line : Line) (c : ℤ) (children : List OpenChild) (n : ℕ) → ((k : ℕ) → k < n → IsSettled I y c children (child_on y line k)) → IsSettled I y c children (child_on y line n) → (k : ℕ) → k < n + 1 → IsSettled I y c children (child_on y line k)
settled_more I y line c children n before here k below =
    elim (cases_lt k n) [
      | inl earlier ↦ before k earlier
      | inr later ↦ let is : n ≡ k = omega arith in subst (λ (j : ℕ). IsSettled I y c children (child_on y line j)) is here
    ]

-- all of them
pub settled_all : (I : Problem) (D : Duals) (step : ℕ) (y : Placement) (R : Form) (line : Line) (c : ℤ) (children : List OpenChild) (n : ℕ) → IsNode I D step y R → IsLineOf (count_of R) line → count_of R ≤ n → ((k : ℕ) → k < n → IsSettled I y c children (child_on y line k)) → IsSettled I y c children y
settled_all I D step y R line c children n node on all each =
    let count = node.form.numbers.row_count in
    record {
      each = λ p done.
          let child = CompletesChild-cover y line p node.placement (subst (λ (m : ℕ). IsLineOf m line) count on) done in
          (each child.number (omega (arith, child.within, count, all))).each p child.completes;
    }

-- ---- what becomes of a child

-- a child is settled by what becomes of it
pub IsSettled-become : (I : Problem) (scale : ℕ) (y x : Placement) (c : ℤ) (o : Option OpenChild) (old new : List OpenChild) → Becomes I scale y x c o → Adds o old new → IsSettled I y c new x
IsSettled-become I scale y x c None old new closed added = IsSettled-closed I y x c new closed
IsSettled-become I scale y x c (Some child) old new opened added = subst (λ (l : List OpenChild). IsSettled I y c l x) (sym added) (IsSettled-open I scale y x c old child opened)

-- what was settled before stays so
pub IsSettled-add : (I : Problem) (y x : Placement) (c d : ℤ) (o : Option OpenChild) (old new : List OpenChild) → Adds o old new → d ≤ℤ c → IsSettled I y c old x → IsSettled I y d new x
IsSettled-add I y x c d None old new added less h = subst (λ (l : List OpenChild). IsSettled I y d l x) (sym added) (IsSettled-lower I y x c d old less h)
IsSettled-add I y x c d (Some child) old new added less h = subst (λ (l : List OpenChild). IsSettled I y d l x) (sym added) (IsSettled-more I y x c d old (child ∷ []) less h)

-- all children that are left open are open ones, also the one that is added
pub All-add : (I : Problem) (scale : ℕ) (y x : Placement) (c : ℤ) (o : Option OpenChild) (old new : List OpenChild) → Becomes I scale y x c o → Adds o old new → All (IsOpen I scale y) old → All (IsOpen I scale y) new
All-add I scale y x c None old new closed added h = subst (All (IsOpen I scale y)) (sym added) h
All-add I scale y x c (Some child) old new at added h = subst (All (IsOpen I scale y)) (sym added) (All-push (IsOpen I scale y) old child h at.opened)

-- the child of number k on the line
pub IsSettled-child : (I : Problem) (scale : ℕ) (x y : Placement) (line : Line) (r s k : ℕ) (c : ℤ) (o : Option OpenChild) (old new : List OpenChild) → x ≡ y → r ≡ row_on line k → s ≡ column_on line k → Becomes I scale x (child_at x r s) c o → Adds o old new → IsSettled I y c new (child_on y line k)
IsSettled-child I scale x y line r s k c o old new same row column become added =
    let at : child_at x r s ≡ child_on y line k = ap (λ (z : Placement). child_at z r s) same ∙ ap₂ (child_at y) row column in
    subst (λ (z : Placement). IsSettled I z c new (child_on y line k)) same (subst (IsSettled I x c new) at (IsSettled-become I scale x (child_at x r s) c o old new become added))
