-- The lines of a tree's text: the text determines them.
use Rattle.std.proofs.Common.{◌≡◌, ℕ, ◌+◌, ◌-◌, ◌<◌, ◌++◌, List, [], ◌∷◌, length, ℤ, pos, refl, sym, ◌∙◌, ap, subst, arith, append_assoc}
use Rattle.std.specs.Prelude.{codes, Bool, true, Option, None, Some}
use Rattle.qap_cost.specs.Placement.{Placement, IsPlacement}
use Rattle.qap_cost.specs.Range.{AllLimited}
use Rattle.qap_lines.proofs.Fronts.{no_line-nil}
use Rattle.qap_lines.proofs.Lines.{HasNoLine-append, HasNoLine-cons}
use Rattle.qap_lines.proofs.NumberLists.{AllLimited-one, HasNoLine-named, IsNamed-numbers_text, IsNamed-unique}
use Rattle.qap_lines.specs.Line.{HasNoLine, IsLine}
use Rattle.qap_lines.specs.LineText.{line_text, numbers_text}
use Rattle.qap_lines.specs.Number.{IsNamed}
use Rattle.qap_proof.specs.Cell.{IsPlaceOf, own_on}
use Rattle.qap_proof.specs.Text.{letter}
use Rattle.qap_proof.specs.declared.side.Side.{Side}
use Rattle.qap_proof.specs.declared.side.Side.TheVariants.{Facility, Location}
use Rattle.pair_duals.proofs.Seatings.{facilities_of, locations_of}
use Rattle.proof_tree.specs.Shape.{ArePairRows, HasShape, MayBePairRows}
use Rattle.proof_tree.specs.Text.{children_text, marks, own_text, rows_text, split_text, tree_text}
use Rattle.proof_tree.specs.Tree.{Children, PairRows, Tree, closed, grown, image, leaf, no_children, split}
use Rattle.proof_check.specs.Walk.{own_of}
use Rattle.proof_check.proofs.TreeWalks.{duals_without}

-- ---- names

pub no_line-letter : (side : Side) → HasNoLine (letter side)
no_line-letter Facility = HasNoLine-cons 115 _ (λ e. omega arith) no_line-nil
no_line-letter Location = HasNoLine-cons 116 _ (λ e. omega arith) no_line-nil

pub no_line-leaf : HasNoLine (codes "x")
no_line-leaf = HasNoLine-cons 120 _ (λ e. omega arith) no_line-nil

pub no_line-own : HasNoLine (codes "p")
no_line-own = HasNoLine-cons 112 _ (λ e. omega arith) no_line-nil

pub no_line-one : HasNoLine (codes "m")
no_line-one = HasNoLine-cons 109 _ (λ e. omega arith) no_line-nil

pub no_line-both : HasNoLine (codes "g")
no_line-both = HasNoLine-cons 103 _ (λ e. omega arith) no_line-nil

no_line-marks : (ts : Children) → HasNoLine (marks ts)
no_line-marks no_children = no_line-nil
no_line-marks (closed rest) = HasNoLine-cons 46 (marks rest) (λ e. omega arith) (no_line-marks rest)
no_line-marks (image m rest) = HasNoLine-cons 43 (marks rest) (λ e. omega arith) (no_line-marks rest)
no_line-marks (grown t rest) = HasNoLine-cons 43 (marks rest) (λ e. omega arith) (no_line-marks rest)

pub no_line-named : (name : List ℕ) (zs : List ℤ) → HasNoLine name → AllLimited zs → HasNoLine (name ++ numbers_text zs)
no_line-named name zs none limited = HasNoLine-named name (name ++ numbers_text zs) zs none (IsNamed-numbers_text name zs limited)

-- two lists of numbers with one text behind one name
pub one_numbers : (name : List ℕ) (xs ys : List ℤ) → AllLimited xs → AllLimited ys → name ++ numbers_text xs ≡ name ++ numbers_text ys → xs ≡ ys
one_numbers name xs ys h k e = IsNamed-unique name (name ++ numbers_text xs) xs ys (IsNamed-numbers_text name xs h) (subst (λ (l : List ℕ). IsNamed name l ys) (sym e) (IsNamed-numbers_text name ys k))

-- ---- trees

-- the line of a split without its line feed
abbrev pub split_line : Side → ℕ → List ℕ → List ℤ → List ℕ
split_line side number marked u = (letter side ++ numbers_text (pos (number + 1) ∷ [])) ++ (32 ∷ marked) ++ numbers_text u

-- the line of a node without pair duals of its own
abbrev pub bare_line : Tree → List ℕ
bare_line (leaf d) = codes "x" ++ numbers_text d.u
bare_line (split d side number ts) = split_line side number (marks ts) d.u

-- what follows it
abbrev pub below_text : Tree → List ℕ
below_text (leaf d) = []
below_text (split d side number ts) = children_text ts

-- the tree without the pair duals of its root
abbrev pub bare : Tree → Tree
bare (leaf d) = leaf (duals_without d.u)
bare (split d side number ts) = split (duals_without d.u) side number ts

-- the numbers of the root's line
abbrev pub line_of : Tree → List ℤ
line_of (leaf d) = d.u
line_of (split d side number ts) = d.u

pub bare_text : (t : Tree) (rest : List ℕ) → own_of t ≡ None → tree_text t ++ rest ≡ bare_line t ++ 10 ∷ (below_text t ++ rest)
bare_text (leaf d) rest none = ap (λ o. (own_text o ++ line_text (codes "x") d.u) ++ rest) none ∙ append_assoc (codes "x" ++ numbers_text d.u) (10 ∷ []) rest
bare_text (split d side number ts) rest none =
    ap (λ o. ((own_text o ++ split_text side number (marks ts) d.u) ++ children_text ts) ++ rest) none
    ∙ append_assoc (split_text side number (marks ts) d.u) (children_text ts) rest
    ∙ append_assoc (split_line side number (marks ts) d.u) (10 ∷ []) (children_text ts ++ rest)

pub own_tree_text : (t : Tree) (P : PairRows) → own_of t ≡ Some P → tree_text t ≡ own_text (Some P) ++ tree_text (bare t)
own_tree_text (leaf d) P own = ap (λ o. own_text o ++ line_text (codes "x") d.u) own
own_tree_text (split d side number ts) P own =
    ap (λ o. (own_text o ++ split_text side number (marks ts) d.u) ++ children_text ts) own ∙ append_assoc (own_text (Some P)) (split_text side number (marks ts) d.u) (children_text ts)

pub bare-none : (t : Tree) → own_of (bare t) ≡ None
bare-none (leaf d) = refl
bare-none (split d side number ts) = refl

pub duals_of_root : (t : Tree) (y : Placement) (above : Bool) → HasShape y above t → AllLimited (line_of t)
duals_of_root (leaf d) y above h = h.u.limited
duals_of_root (split d side number ts) y above h = h.0.u.limited

own_free : (side : Side) (y : Placement) (number own : ℕ) → IsPlacement y → IsPlaceOf (own_on side y) number own → number < y.size
own_free Facility y number own is at = let free = (facilities_of y is).each own at.within in omega (arith, free.within, at.is)
own_free Location y number own is at = let free = (locations_of y is).each own at.within in omega (arith, free.within, at.is)

-- what a split is on is below the size
pub number_within : (side : Side) (y : Placement) (number own : ℕ) → IsPlacement y → IsPlaceOf (own_on side y) number own → number < y.size
number_within = own_free

no_line-split : (side : Side) (number : ℕ) (ts : Children) (u : List ℤ) → number < 256 → AllLimited u → HasNoLine (split_line side number (marks ts) u)
no_line-split side number ts u small limited =
    HasNoLine-append ((letter side ++ numbers_text (pos (number + 1) ∷ [])) ++ (32 ∷ marks ts)) (numbers_text u)
    (HasNoLine-append (letter side ++ numbers_text (pos (number + 1) ∷ [])) (32 ∷ marks ts) (no_line-named (letter side) (pos (number + 1) ∷ []) (no_line-letter side) (AllLimited-one (pos (number + 1)) (omega (arith, small))))
    (HasNoLine-cons 32 (marks ts) (λ e. omega arith) (no_line-marks ts)))
    (no_line-named [] u no_line-nil limited)

no_line-bare : (t : Tree) (y : Placement) (above : Bool) → IsPlacement y → HasShape y above t → HasNoLine (bare_line t)
no_line-bare (leaf d) y above is h = no_line-named (codes "x") d.u no_line-leaf h.u.limited
no_line-bare (split d side number ts) y above is h = no_line-split side number ts d.u (omega (arith, own_free side y number h.1 is h.2, is.small)) h.0.u.limited

-- the first line of a tree without pair duals of its own, and what follows it
pub IsLine-bare : (t : Tree) (y : Placement) (above : Bool) (rest : List ℕ) → IsPlacement y → HasShape y above t → own_of t ≡ None → IsLine (tree_text t ++ rest) (bare_line t) (below_text t ++ rest)
IsLine-bare t y above rest is h none = record { is = bare_text t rest none; first = no_line-bare t y above is h }

abbrev IsNothing : Option PairRows → Type 0
IsNothing None = Unit {0}
IsNothing (Some P) = ⊥

may_be : (above : Bool) (m : ℕ) (o : Option PairRows) (P : PairRows) → o ≡ Some P → MayBePairRows above m o → ArePairRows m P
may_be above m None P e h = absurd (none_some P e)
  where
    none_some : (P : PairRows) → None ≡ Some P → ⊥
    none_some P e = subst IsNothing e tt
may_be above m (Some Q) P e h = subst (MayBePairRows above m) e h

-- the pair duals of a root have their shape
pub ArePairRows-own : (t : Tree) (y : Placement) (above : Bool) (P : PairRows) → HasShape y above t → own_of t ≡ Some P → ArePairRows (y.size - length y.facilities) P
ArePairRows-own (leaf d) y above P h own = may_be above (y.size - length y.facilities) d.own P own h.own
ArePairRows-own (split d side number ts) y above P h own = may_be above (y.size - length y.facilities) d.own P own h.0.own

-- the first line of a tree with pair duals of its own, and what follows it
pub IsLine-own : (t : Tree) (y : Placement) (above : Bool) (P : PairRows) (rest : List ℕ) → HasShape y above t → own_of t ≡ Some P
    → IsLine (tree_text t ++ rest) (codes "p" ++ numbers_text (pos P.scale ∷ [])) (rows_text P.rows ++ (tree_text (bare t) ++ rest))
IsLine-own t y above P rest h own =
    let rows = ArePairRows-own t y above P h own in
    record {
      is = ap (λ l. l ++ rest) (own_tree_text t P own)
          ∙ append_assoc (line_text (codes "p") (pos P.scale ∷ []) ++ rows_text P.rows) (tree_text (bare t)) rest
          ∙ append_assoc (line_text (codes "p") (pos P.scale ∷ [])) (rows_text P.rows) (tree_text (bare t) ++ rest)
          ∙ append_assoc (codes "p" ++ numbers_text (pos P.scale ∷ [])) (10 ∷ []) (rows_text P.rows ++ (tree_text (bare t) ++ rest));
      first = no_line-named (codes "p") (pos P.scale ∷ []) no_line-own (AllLimited-one (pos P.scale) (omega (arith, rows.scale)));
    }

-- without them it may inherit some
pub HasShape-bare : (t : Tree) (y : Placement) (above : Bool) → HasShape y above t → HasShape y true (bare t)
HasShape-bare (leaf d) y above h = record { own = refl; u = h.u }
HasShape-bare (split d side number ts) y above h = (record { own = refl; u = h.0.u }, h.1, h.2, h.3, h.4)
