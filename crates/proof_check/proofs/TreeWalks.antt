-- Trees that were read, one child after another.
use Rattle.std.proofs.Common.{◌≡◌, ℕ, ◌+◌, ◌<◌, ◌≤◌, ◌++◌, List, [], ◌∷◌, length, take, drop, get_or, ℤ, pos, refl, sym, ◌∙◌, ap, ap₂, subst, arith, append_assoc, append-nil}
use Rattle.std.specs.Prelude.{Bool, codes, Option, None, Some, true}
use Rattle.std.proofs.lemmas.List.{length-take-le, take_all, take-append-drop, take_more}
use Rattle.qap_cost.specs.Instance.{Problem}
use Rattle.qap_cost.specs.Placement.{Placement}
use Rattle.qap_lines.specs.LineText.{line_text, numbers_text}
use Rattle.pair_duals.specs.PairDuals.{Duals, Fit}
use Rattle.pair_duals.specs.Reduced.{Form, IsChild, IsLine, IsStart}
use Rattle.qap_proof.specs.Shape.{free_count}
use Rattle.qap_proof.specs.declared.leaf.Leaf.{Leaf}
use Rattle.qap_proof.specs.declared.side.Side.{Side}
use Rattle.proof_tree.specs.Image.{IsImage}
use Rattle.proof_tree.specs.Leaves.{AllHaveLeaves, HasLeaves}
use Rattle.proof_tree.specs.Shape.{AreLimited, ArePairRows, AreNodeDuals, HasShape, AllHaveShape, IsImageOf}
use Rattle.proof_tree.specs.Text.{image_text, own_text, rows_text, tree_text, children_text, split_text, marks}
use Rattle.proof_tree.specs.Tree.{PairRows, NodeDuals, Image, Tree, leaf, split, Children, no_children, closed, image, grown, child_count, row_of, column_of, child_on}
use Rattle.proof_tree.specs.Valid.{AreListed, Begins, IsClosed, IsLined, ReachesBound, Under, under}
use Rattle.proof_check.specs.Flow.{Flow, Passes}
use Rattle.proof_check.specs.Walk.{PushesLeaf, SkimsChildren, SkimsLined, SkimsSplit, SkimsTree, WalksChildren, WalksLined, WalksSplit, WalksTree, is_there, own_of}
use Rattle.proof_check.proofs.Flows.{Passes-nil, Passes-trans}
use Rattle.proof_check.proofs.Lines.{line_text-named}

-- the duals of a node that has no pair duals of its own
abbrev pub duals_without : List ℤ → NodeDuals
duals_without u = record { own = None; u = u }

lined : (I : Problem) (y : Placement) (D : Duals) (old new : Form) (u v : List ℤ) → IsLine old new u v → IsLined I y (Some (under D old)) (duals_without u) (under D new)
lined I y D old new u v line = record { start = old; v = v; begins = (refl, refl); line = line }

stated : (y : Placement) (m : ℕ) (u : List ℤ) → m ≡ free_count y → AreLimited m u → AreNodeDuals true (free_count y) (duals_without u)
stated y m u same limited = record { own = refl; u = subst (λ (k : ℕ). AreLimited k u) same limited }

-- there are as many marks as children
pub marks_count : (ts : Children) → length (marks ts) ≡ child_count ts
marks_count no_children = refl
marks_count (closed rest) = let more = marks_count rest in omega (arith, more)
marks_count (image m rest) = let more = marks_count rest in omega (arith, more)
marks_count (grown t rest) = let more = marks_count rest in omega (arith, more)

-- a leaf
pub SkimsLined-leaf : (y : Placement) (m : ℕ) (u : List ℤ) (line : List ℕ) (a : Flow) → m ≡ free_count y → AreLimited m u → line ≡ codes "x" ++ numbers_text u → SkimsLined y line a a
SkimsLined-leaf y m u line a same limited is = record {
  skimmed = record {
    text = [];
    consumed = Passes-nil a;
    tree = leaf (duals_without u);
    is = line_text-named (codes "x") line u is;
    shape = stated y m u same limited;
  };
  bare = refl;
}

-- one that reaches the bound
pub WalksLined-leaf : (I : Problem) (step : ℕ) (bound cost : ℤ) (y : Placement) (D : Duals) (old new : Form) (m : ℕ) (u v : List ℤ) (line : List ℕ) (a : Flow) (before after : List Leaf) → m ≡ free_count y → AreLimited m u → line ≡ codes "x" ++ numbers_text u → IsLine old new u v
    → PushesLeaf (λ g. ReachesBound step g D.scale new.value) bound cost y before after → WalksLined I step bound cost y (under D old) line a a before after
unfolding SkimsLined-leaf
WalksLined-leaf I step bound cost y D old new m u v line a before after same limited is drawn pushed = record {
  walked = record {
    skimmed = (SkimsLined-leaf y m u line a same limited is).skimmed;
    leaves = pushed.leaves;
    listed = pushed.listed;
    valid = (under D new, lined I y D old new u v drawn, pushed.below);
  };
  bare = refl;
}

split_count : (ts : Children) (m k : ℕ) (marked : List ℕ) → marks ts ≡ marked → length marked ≡ m → m ≡ k → child_count ts ≡ k
split_count ts m k marked are long same = sym (marks_count ts) ∙ ap length are ∙ long ∙ same

-- a split and its children
pub SkimsLined-split : (y : Placement) (m : ℕ) (u : List ℤ) (side : Side) (number : ℕ) (marked line : List ℕ) (a b : Flow) → m ≡ free_count y → AreLimited m u → length marked ≡ m → line ++ 10 ∷ [] ≡ split_text side number marked u → SkimsSplit y side number marked a b → SkimsLined y line a b
SkimsLined-split y m u side number marked line a b same limited long is h =
    let w = h.skimmed in
    record {
      skimmed = record {
        text = w.text;
        consumed = w.consumed;
        tree = split (duals_without u) side number w.children;
        is = sym (append_assoc line (10 ∷ []) w.text) ∙ ap (λ l. l ++ w.text) is ∙ ap (λ l. split_text side number l u ++ w.text) (sym w.marks_are) ∙ ap (λ l. split_text side number (marks w.children) u ++ l) w.is;
        shape = (stated y m u same limited, h.own, h.place, split_count w.children m (free_count y) marked w.marks_are long same, w.shapes);
      };
      bare = refl;
    }

-- the grammar of a split that is valid
skimmed_split : (I : Problem) (step : ℕ) (bound cost : ℤ) (y : Placement) (now : Under) (side : Side) (number : ℕ) (marked : List ℕ) (a b : Flow) (before after : List Leaf) → WalksSplit I step bound cost y now side number marked a b before after → SkimsSplit y side number marked a b
skimmed_split I step bound cost y now side number marked a b before after h = record { own = h.own; place = h.place; skimmed = h.walked.skimmed }

-- a split and its children, which are valid
pub WalksLined-split : (I : Problem) (step : ℕ) (bound cost : ℤ) (y : Placement) (D : Duals) (old new : Form) (m : ℕ) (u v : List ℤ) (side : Side) (number : ℕ) (marked line : List ℕ) (a b : Flow) (before after : List Leaf) → m ≡ free_count y → length y.facilities + free_count y ≡ y.size
    → AreLimited m u → length marked ≡ m → line ++ 10 ∷ [] ≡ split_text side number marked u → IsLine old new u v → WalksSplit I step bound cost y (under D new) side number marked a b before after
    → WalksLined I step bound cost y (under D old) line a b before after
unfolding SkimsLined-split skimmed_split
WalksLined-split I step bound cost y D old new m u v side number marked line a b before after same whole limited long is drawn h =
    let w = h.walked in
    let count : child_count w.skimmed.children ≡ free_count y = split_count w.skimmed.children m (free_count y) marked w.skimmed.marks_are long same in
    record {
      walked = record {
        skimmed = (SkimsLined-split y m u side number marked line a b same limited long is (skimmed_split I step bound cost y (under D new) side number marked a b before after h)).skimmed;
        leaves = w.leaves;
        listed = w.listed;
        valid = (under D new, h.own, lined I y D old new u v drawn, h.place, omega (arith, count, whole), w.valid);
      };
      bare = refl;
    }

-- ---- pair duals of its own

abbrev with_own : PairRows → Tree → Tree
with_own P (leaf d) = leaf (record { own = Some P; u = d.u })
with_own P (split d side number ts) = split (record { own = Some P; u = d.u }) side number ts

with_own-text : (P : PairRows) (t : Tree) → own_of t ≡ None → tree_text (with_own P t) ≡ own_text (Some P) ++ tree_text t
with_own-text P (leaf d) bare = ap (λ o. own_text (Some P) ++ (own_text o ++ line_text (codes "x") d.u)) (sym bare)
with_own-text P (split d side number ts) bare =
    append_assoc (own_text (Some P)) (split_text side number (marks ts) d.u) (children_text ts)
    ∙ ap (λ o. own_text (Some P) ++ ((own_text o ++ split_text side number (marks ts) d.u) ++ children_text ts)) (sym bare)

with_own-shape : (P : PairRows) (t : Tree) (y : Placement) (above : Bool) → ArePairRows (free_count y) P → HasShape y true t → HasShape y above (with_own P t)
with_own-shape P (leaf d) y above rows h = record { own = rows; u = h.u }
with_own-shape P (split d side number ts) y above rows h = (record { own = rows; u = h.0.u }, h.1, h.2, h.3, h.4)

begun : (I : Problem) (y : Placement) (D : Duals) (R : Form) (P : PairRows) (d : NodeDuals) (above : Option Under) (now : Under) → d.own ≡ None → AreListed y P D → Fit I D → IsStart I D y R → IsLined I y (Some (under D R)) d now → IsLined I y above (record { own = Some P; u = d.u }) now
begun I y D R P d above now bare listed fit start h =
    let b = subst (λ (o : Option PairRows). Begins I y (Some (under D R)) o now.duals h.start) bare h.begins in
    let D_is = sym b.0 in
    let R_is = sym b.1 in
    record {
      start = h.start;
      v = h.v;
      begins = begins_own I y above P now.duals h.start (subst (λ (E : Duals). AreListed y P E) D_is listed) (subst (λ (E : Duals). Fit I E) D_is fit) (subst (λ (Q : Form). IsStart I now.duals y Q) R_is (subst (λ (E : Duals). IsStart I E y R) D_is start));
      line = h.line;
    }
  where
    begins_own : (I : Problem) (y : Placement) (above : Option Under) (P : PairRows) (D : Duals) (R : Form) → AreListed y P D → Fit I D → IsStart I D y R → Begins I y above (Some P) D R
    begins_own I y None P D R a b c = (a, b, c)
    begins_own I y (Some x) P D R a b c = (a, b, c)

with_own-valid : (P : PairRows) (t : Tree) (I : Problem) (step : ℕ) (bound cost : ℤ) (y : Placement) (D : Duals) (R : Form) (above : Option Under) (ls : List Leaf) → own_of t ≡ None → AreListed y P D → Fit I D → IsStart I D y R
    → HasLeaves I step bound cost y (Some (under D R)) t ls → HasLeaves I step bound cost y above (with_own P t) ls
with_own-valid P (leaf d) I step bound cost y D R above ls bare listed fit start h = (h.0, begun I y D R P d above h.0 bare listed fit start h.1, h.2)
with_own-valid P (split d side number ts) I step bound cost y D R above ls bare listed fit start h = (h.0, h.1, begun I y D R P d above h.0 bare listed fit start h.2, h.3, h.4, h.5)

-- the line of the scale, the rows, and the tree by them
pub SkimsTree-own : (y : Placement) (above : Bool) (P : PairRows) (line next : List ℕ) (a b c d : Flow) → line ≡ codes "p" ++ numbers_text (pos P.scale ∷ []) → ArePairRows (free_count y) P → Passes a b (rows_text P.rows) → Passes b c (next ++ 10 ∷ []) → SkimsLined y next c d → SkimsTree y above line a d
SkimsTree-own y above P line next a b c d is rows read advanced h =
    let w = h.skimmed in
    let rest = (next ++ 10 ∷ []) ++ w.text in
    let tree_is : rest ≡ tree_text w.tree = append_assoc next (10 ∷ []) w.text ∙ w.is in
    record {
      text = rows_text P.rows ++ rest;
      consumed = Passes-trans a b d (rows_text P.rows) rest read (Passes-trans b c d (next ++ 10 ∷ []) w.text advanced w.consumed);
      tree = with_own P w.tree;
      is = sym (append_assoc line (10 ∷ []) (rows_text P.rows ++ rest)) ∙ ap (λ l. l ++ (rows_text P.rows ++ rest)) (line_text-named (codes "p") line (pos P.scale ∷ []) is)
          ∙ sym (append_assoc (line_text (codes "p") (pos P.scale ∷ [])) (rows_text P.rows) rest) ∙ ap (λ l. own_text (Some P) ++ l) tree_is ∙ sym (with_own-text P w.tree h.bare);
      shape = with_own-shape P w.tree y above rows w.shape;
    }

-- likewise where that is valid
pub WalksTree-own : (I : Problem) (step : ℕ) (bound cost : ℤ) (y : Placement) (above : Option Under) (D : Duals) (R : Form) (P : PairRows) (line next : List ℕ) (a b c d : Flow) (before after : List Leaf) → line ≡ codes "p" ++ numbers_text (pos P.scale ∷ []) → ArePairRows (free_count y) P → Passes a b (rows_text P.rows)
    → Passes b c (next ++ 10 ∷ []) → AreListed y P D → Fit I D → IsStart I D y R → WalksLined I step bound cost y (under D R) next c d before after
    → WalksTree I step bound cost y above line a d before after
unfolding SkimsTree-own
WalksTree-own I step bound cost y above D R P line next a b c d before after is rows read advanced listed fit start h =
    let w = h.walked in
    record {
      skimmed = SkimsTree-own y (is_there above) P line next a b c d is rows read advanced (record { skimmed = w.skimmed; bare = h.bare });
      leaves = w.leaves;
      listed = w.listed;
      valid = with_own-valid P w.skimmed.tree I step bound cost y D R above w.leaves h.bare listed fit start w.valid;
    }

-- ---- one child

-- a child that is closed without a text
pub SkimsChildren-closed : (y : Placement) (side : Side) (own c : ℕ) (a : Flow) → SkimsChildren y side own c (46 ∷ []) a a
SkimsChildren-closed y side own c a = record { text = []; consumed = Passes-nil a; children = closed no_children; marks_are = refl; is = refl; shapes = tt }

-- one that reaches the bound
pub WalksChildren-closed : (I : Problem) (step : ℕ) (bound cost : ℤ) (y : Placement) (now : Under) (side : Side) (own c : ℕ) (a : Flow) (before after : List Leaf)
    → PushesLeaf (λ g. IsClosed I step g now (row_of side own c) (column_of side own c)) bound cost (child_on side y own c) before after → WalksChildren I step bound cost y now side own c (46 ∷ []) a a before after
unfolding SkimsChildren-closed
WalksChildren-closed I step bound cost y now side own c a before after h = record {
  skimmed = SkimsChildren-closed y side own c a;
  leaves = h.leaves;
  listed = h.listed;
  valid = (h.leaves, [], sym (append-nil h.leaves), h.below, refl);
}

-- a child that is the image of an earlier one
pub SkimsChildren-image : (y : Placement) (side : Side) (own c : ℕ) (line : List ℕ) (m : Image) (a b : Flow) → Passes a b (line ++ 10 ∷ []) → line ++ 10 ∷ [] ≡ image_text m → IsImageOf y.size c m → SkimsChildren y side own c (43 ∷ []) a b
SkimsChildren-image y side own c line m a b read is shape = record {
  text = line ++ 10 ∷ [];
  consumed = read;
  children = image m no_children;
  marks_are = refl;
  is = is ∙ sym (append-nil (image_text m));
  shapes = (shape, tt);
}

-- one by permutations that map that child to it
pub WalksChildren-image : (I : Problem) (step : ℕ) (bound cost : ℤ) (y : Placement) (now : Under) (side : Side) (own c : ℕ) (line : List ℕ) (m : Image) (a b : Flow) (before : List Leaf) → Passes a b (line ++ 10 ∷ []) → line ++ 10 ∷ [] ≡ image_text m → IsImageOf y.size c m → IsImage I y side own c m
    → WalksChildren I step bound cost y now side own c (43 ∷ []) a b before before
unfolding SkimsChildren-image
WalksChildren-image I step bound cost y now side own c line m a b before read is shape takes = record {
  skimmed = SkimsChildren-image y side own c line m a b read is shape;
  leaves = [];
  listed = sym (append-nil before);
  valid = (takes, refl);
}

-- a child with a tree
pub SkimsChildren-grown : (y : Placement) (side : Side) (own c : ℕ) (line : List ℕ) (a b d : Flow) → Passes a b (line ++ 10 ∷ []) → SkimsTree (child_on side y own c) true line b d → SkimsChildren y side own c (43 ∷ []) a d
SkimsChildren-grown y side own c line a b d read h = record {
  text = (line ++ 10 ∷ []) ++ h.text;
  consumed = Passes-trans a b d (line ++ 10 ∷ []) h.text read h.consumed;
  children = grown h.tree no_children;
  marks_are = refl;
  is = append_assoc line (10 ∷ []) h.text ∙ h.is ∙ sym (append-nil (tree_text h.tree));
  shapes = (h.shape, tt);
}

-- one that is valid
pub WalksChildren-grown : (I : Problem) (step : ℕ) (bound cost : ℤ) (y : Placement) (now : Under) (side : Side) (own c : ℕ) (R : Form) (line : List ℕ) (a b d : Flow) (before after : List Leaf) → Passes a b (line ++ 10 ∷ []) → IsChild I now.duals now.form (row_of side own c) (column_of side own c) R
    → WalksTree I step bound cost (child_on side y own c) (Some (under now.duals R)) line b d before after → WalksChildren I step bound cost y now side own c (43 ∷ []) a d before after
unfolding SkimsChildren-grown
WalksChildren-grown I step bound cost y now side own c R line a b d before after read child h = record {
  skimmed = SkimsChildren-grown y side own c line a b d read h.skimmed;
  leaves = h.leaves;
  listed = h.listed;
  valid = (R, h.leaves, [], sym (append-nil h.leaves), child, h.valid, refl);
}

-- ---- one child more

abbrev joined : Children → Children → Children
joined no_children others = others
joined (closed rest) others = closed (joined rest others)
joined (image m rest) others = image m (joined rest others)
joined (grown t rest) others = grown t (joined rest others)

joined-marks : (ts others : Children) → marks (joined ts others) ≡ marks ts ++ marks others
joined-marks no_children others = refl
joined-marks (closed rest) others = ap (λ l. 46 ∷ l) (joined-marks rest others)
joined-marks (image m rest) others = ap (λ l. 43 ∷ l) (joined-marks rest others)
joined-marks (grown t rest) others = ap (λ l. 43 ∷ l) (joined-marks rest others)

joined-text : (ts others : Children) → children_text (joined ts others) ≡ children_text ts ++ children_text others
joined-text no_children others = refl
joined-text (closed rest) others = joined-text rest others
joined-text (image m rest) others = ap (λ l. image_text m ++ l) (joined-text rest others) ∙ sym (append_assoc (image_text m) (children_text rest) (children_text others))
joined-text (grown t rest) others = ap (λ l. tree_text t ++ l) (joined-text rest others) ∙ sym (append_assoc (tree_text t) (children_text rest) (children_text others))

joined-shapes : (ts others : Children) (y : Placement) (side : Side) (own c d : ℕ) → d ≡ c + child_count ts → AllHaveShape y side own c ts → AllHaveShape y side own d others → AllHaveShape y side own c (joined ts others)
joined-shapes no_children others y side own c d at h k = let same : d ≡ c = omega (arith, at) in subst (λ (i : ℕ). AllHaveShape y side own i others) same k
joined-shapes (closed rest) others y side own c d at h k = joined-shapes rest others y side own (c + 1) d (omega (arith, at)) h k
joined-shapes (image m rest) others y side own c d at h k = (h.0, joined-shapes rest others y side own (c + 1) d (omega (arith, at)) h.1 k)
joined-shapes (grown t rest) others y side own c d at h k = (h.0, joined-shapes rest others y side own (c + 1) d (omega (arith, at)) h.1 k)

joined-valid : (ts others : Children) (I : Problem) (step : ℕ) (bound cost : ℤ) (y : Placement) (now : Under) (side : Side) (own c d : ℕ) (ls ks : List Leaf) → d ≡ c + child_count ts → AllHaveLeaves I step bound cost y now side own c ts ls
    → AllHaveLeaves I step bound cost y now side own d others ks → AllHaveLeaves I step bound cost y now side own c (joined ts others) (ls ++ ks)
joined-valid no_children others I step bound cost y now side own c d ls ks at h k =
    let same : d ≡ c = omega (arith, at) in
    subst (λ (l : List Leaf). AllHaveLeaves I step bound cost y now side own c others (l ++ ks)) (sym h) (subst (λ (i : ℕ). AllHaveLeaves I step bound cost y now side own i others ks) same k)
joined-valid (closed rest) others I step bound cost y now side own c d ls ks at h k = (
  h.0,
  h.1 ++ ks,
  ap (λ (l : List Leaf). l ++ ks) h.2 ∙ append_assoc h.0 h.1 ks,
  h.3,
  joined-valid rest others I step bound cost y now side own (c + 1) d h.1 ks (omega (arith, at)) h.4 k,
)
joined-valid (image m rest) others I step bound cost y now side own c d ls ks at h k = (h.0, joined-valid rest others I step bound cost y now side own (c + 1) d ls ks (omega (arith, at)) h.1 k)
joined-valid (grown t rest) others I step bound cost y now side own c d ls ks at h k = (
  h.0,
  h.1,
  h.2 ++ ks,
  ap (λ (l : List Leaf). l ++ ks) h.3 ∙ append_assoc h.1 h.2 ks,
  h.4,
  h.5,
  joined-valid rest others I step bound cost y now side own (c + 1) d h.2 ks (omega (arith, at)) h.6 k,
)

-- no child yet
pub SkimsChildren-none : (y : Placement) (side : Side) (own c : ℕ) (a : Flow) → SkimsChildren y side own c [] a a
SkimsChildren-none y side own c a = record { text = []; consumed = Passes-nil a; children = no_children; marks_are = refl; is = refl; shapes = tt }

-- children and then others
pub SkimsChildren-more : (y : Placement) (side : Side) (own c d : ℕ) (marked others : List ℕ) (a b e : Flow) → d ≡ c + length marked → SkimsChildren y side own c marked a b → SkimsChildren y side own d others b e → SkimsChildren y side own c (marked ++ others) a e
SkimsChildren-more y side own c d marked others a b e at h k = record {
  text = h.text ++ k.text;
  consumed = Passes-trans a b e h.text k.text h.consumed k.consumed;
  children = joined h.children k.children;
  marks_are = joined-marks h.children k.children ∙ ap₂ (λ x z. x ++ z) h.marks_are k.marks_are;
  is = ap₂ (λ x z. x ++ z) h.is k.is ∙ sym (joined-text h.children k.children);
  shapes = joined-shapes h.children k.children y side own c d (omega (arith, at, marks_count h.children, ap length h.marks_are)) h.shapes k.shapes;
}

pub WalksChildren-none : (I : Problem) (step : ℕ) (bound cost : ℤ) (y : Placement) (now : Under) (side : Side) (own c : ℕ) (a : Flow) (before : List Leaf) → WalksChildren I step bound cost y now side own c [] a a before before
unfolding SkimsChildren-none
WalksChildren-none I step bound cost y now side own c a before = record { skimmed = SkimsChildren-none y side own c a; leaves = []; listed = sym (append-nil before); valid = refl }

-- likewise where all are valid
pub WalksChildren-more : (I : Problem) (step : ℕ) (bound cost : ℤ) (y : Placement) (now : Under) (side : Side) (own c d : ℕ) (marked others : List ℕ) (a b e : Flow) (before mid after : List Leaf) → d ≡ c + length marked
    → WalksChildren I step bound cost y now side own c marked a b before mid → WalksChildren I step bound cost y now side own d others b e mid after → WalksChildren I step bound cost y now side own c (marked ++ others) a e before after
unfolding SkimsChildren-more
WalksChildren-more I step bound cost y now side own c d marked others a b e before mid after at h k = record {
  skimmed = SkimsChildren-more y side own c d marked others a b e at h.skimmed k.skimmed;
  leaves = h.leaves ++ k.leaves;
  listed = k.listed ∙ ap (λ (l : List Leaf). l ++ k.leaves) h.listed ∙ append_assoc before h.leaves k.leaves;
  valid = joined-valid h.skimmed.children k.skimmed.children I step bound cost y now side own c d h.leaves k.leaves (omega (arith, at, marks_count h.skimmed.children, ap length h.skimmed.marks_are)) h.valid k.valid;
}

-- ---- one child of a list of marks

next_marks : (marked : List ℕ) (c mark : ℕ) → c < length marked → get_or marked c 0 ≡ mark → take c marked ++ mark ∷ [] ≡ take (c + 1) marked
next_marks marked c mark inside is = ap (λ z. take c marked ++ z ∷ []) (sym is) ∙ sym (take_more marked c 0 inside)

-- the child behind the first ones
pub SkimsChildren-next : (y : Placement) (side : Side) (own first last c mark : ℕ) (marked : List ℕ) (a b e : Flow) → last ≡ first + c → c < length marked → get_or marked c 0 ≡ mark → SkimsChildren y side own first (take c marked) a b → SkimsChildren y side own last (mark ∷ []) b e
    → SkimsChildren y side own first (take (c + 1) marked) a e
SkimsChildren-next y side own first last c mark marked a b e at inside is h k =
    subst (λ (l : List ℕ). SkimsChildren y side own first l a e) (next_marks marked c mark inside is)
    (SkimsChildren-more y side own first last (take c marked) (mark ∷ []) a b e (omega (arith, at, length-take-le c marked (omega (arith, inside)))) h k)

-- likewise where all are valid
pub WalksChildren-next : (I : Problem) (step : ℕ) (bound cost : ℤ) (y : Placement) (now : Under) (side : Side) (own c mark : ℕ) (marked : List ℕ) (a b e : Flow) (before mid after : List Leaf) → c < length marked → get_or marked c 0 ≡ mark
    → WalksChildren I step bound cost y now side own 0 (take c marked) a b before mid → WalksChildren I step bound cost y now side own c (mark ∷ []) b e mid after → WalksChildren I step bound cost y now side own 0 (take (c + 1) marked) a e before after
WalksChildren-next I step bound cost y now side own c mark marked a b e before mid after inside is h k =
    subst (λ (l : List ℕ). WalksChildren I step bound cost y now side own 0 l a e before after) (next_marks marked c mark inside is)
    (WalksChildren-more I step bound cost y now side own 0 c (take c marked) (mark ∷ []) a b e before mid after (omega (arith, length-take-le c marked (omega (arith, inside)))) h k)

-- all of them
pub all_marks : (marked : List ℕ) (c : ℕ) → length marked ≤ c → take c marked ≡ marked
all_marks marked c all = take_all c marked all

-- first ones, and the others from the next child on
pub SkimsChildren-others : (y : Placement) (side : Side) (own c : ℕ) (marked : List ℕ) (a b e : Flow) → c ≤ length marked → SkimsChildren y side own 0 (take c marked) a b → SkimsChildren y side own c (drop c marked) b e → SkimsChildren y side own 0 marked a e
SkimsChildren-others y side own c marked a b e inside h k =
    subst (λ (l : List ℕ). SkimsChildren y side own 0 l a e) (take-append-drop c marked)
    (SkimsChildren-more y side own 0 c (take c marked) (drop c marked) a b e (omega (arith, length-take-le c marked inside)) h k)
