-- Trees that were walked along, one behind another.
use Rattle.std.proofs.Common.{◌≡◌, ℕ, zero, suc, ◌+◌, ◌-◌, ◌<◌, ◌≤◌, ◌++◌, List, [], ◌∷◌, ℤ, refl, sym, ◌∙◌, ap, subst, inl, inr, arith, append_assoc, length-append}
use Rattle.std.specs.Prelude.{codes, Bool, false, Result, Ok, Err, MatchResult}
use Rattle.qap_cost.specs.Placement.{Placement}
use Rattle.qap_lines.specs.Line.{line_after}
use Rattle.qap_lines.specs.LineText.{numbers_text, line_text}
use Rattle.qap_proof.proofs.Rows.{line_after-more, line_after-none, with_last, child_count-with_last, nodes_count-with_last, trees_text-with_last, AllHaveShape-with_last}
use Rattle.qap_proof.specs.Shape.{IsSplit, HasShape, free_count, has_duals}
use Rattle.qap_proof.specs.Text.{letter, split_numbers, tree_text, trees_text}
use Rattle.qap_proof.specs.TextFault.{IsEndFault, IsFaultFromTree, IsLineFault, IsNodeFault, IsTreeTextFault}
use Rattle.qap_proof.specs.Tree.{Split, Node, split, Nodes, no_nodes, node_count, nodes_count, child_count, child_of, facility_on}
use Rattle.qap_proof.specs.Walk.{BeginsWithTree, BeginsWithTrees, EndsBehindTree, IsFaultBefore}
use Rattle.qap_proof.specs.declared.error.ProofError.{ProofError}

-- what follows from an answer, on either side
pub map_result : {X Y : Type 0} (P P' : X → Type 0) (Q Q' : Y → Type 0) (r : Result X Y) → ((x : X) → P x → P' x) → ((y : Y) → Q y → Q' y) → MatchResult r P Q → MatchResult r P' Q'
map_result P P' Q Q' (Ok x) f g h = f x h
map_result P P' Q Q' (Err y) f g h = g y h

-- a line of a name and numbers, with what is behind it
pub line_text-behind : (text bytes name rest : List ℕ) (zs : List ℤ) → text ≡ bytes ++ 10 ∷ rest → bytes ≡ name ++ numbers_text zs → text ≡ line_text name zs ++ rest
line_text-behind text bytes name rest zs is spelled =
    is ∙ ap (λ l. l ++ 10 ∷ rest) spelled ∙ sym (append_assoc (name ++ numbers_text zs) (10 ∷ []) rest)

-- a tree of one line
pub BeginsWithTree-line : (x : Placement) (earlier : ℕ) (duals : Bool) (line : ℕ) (text bytes rest name : List ℕ) (zs : List ℤ) (next : ℕ) (P : Node → Type 0) (t : Node) → HasShape x earlier duals t → tree_text t ≡ line_text name zs → node_count t ≡ 1
    → text ≡ bytes ++ 10 ∷ rest → bytes ≡ name ++ numbers_text zs → next ≡ line_after line 1 → P t → BeginsWithTree x earlier duals line text rest next P
BeginsWithTree-line x earlier duals line text bytes rest name zs next P t shape said one is spelled next_is holds = record {
  tree = t;
  shape = shape;
  is = line_text-behind text bytes name rest zs is spelled ∙ ap (λ l. l ++ rest) (sym said);
  next_is = next_is ∙ ap (line_after line) (sym one);
  holds = holds;
}

-- a split and its children
pub BeginsWithTree-split : (x : Placement) (earlier : ℕ) (duals : Bool) (line : ℕ) (text bytes rest behind : List ℕ) (after : ℕ) (s : Split) (P : Node → Type 0) (Q : Nodes → Type 0) → IsSplit x s → text ≡ bytes ++ 10 ∷ rest
    → bytes ≡ letter s.side ++ numbers_text (split_numbers s) → (h : BeginsWithTrees x s (free_count x) (line_after line 1) rest behind after Q) → P (split s h.trees) → BeginsWithTree x earlier duals line text behind after P
BeginsWithTree-split x earlier duals line text bytes rest behind after s P Q splits is spelled h holds = record {
  tree = split s h.trees;
  shape = (splits, h.counted, h.shapes);
  is = line_text-behind text bytes (letter s.side) rest (split_numbers s) is spelled ∙ ap (λ l. line_text (letter s.side) (split_numbers s) ++ l) h.is
      ∙ sym (append_assoc (line_text (letter s.side) (split_numbers s)) (trees_text h.trees) behind);
  next_is = h.next_is ∙ line_after-more line 1 (nodes_count h.trees);
  holds = holds;
}

-- no child yet
pub BeginsWithTrees-none : (x : Placement) (s : Split) (line : ℕ) (text : List ℕ) (P : Nodes → Type 0) → line ≤ 18446744073709551615 → P no_nodes → BeginsWithTrees x s 0 line text text line P
BeginsWithTrees-none x s line text P small holds = record {
  trees = no_nodes;
  shapes = tt;
  counted = refl;
  is = refl;
  next_is = line_after-none line small;
  holds = holds;
}

-- one child more
pub BeginsWithTrees-more : (x : Placement) (s : Split) (count line : ℕ) (text rest : List ℕ) (next : ℕ) (P Q : Nodes → Type 0) (behind : List ℕ) (after : ℕ) (R : Node → Type 0) → (h : BeginsWithTrees x s count line text rest next P)
    → (k : BeginsWithTree (child_of x s count) count (has_duals s.duals) next rest behind after R) → Q (with_last h.trees k.tree) → BeginsWithTrees x s (count + 1) line text behind after Q
BeginsWithTrees-more x s count line text rest next P Q behind after R h k holds = record {
  trees = with_last h.trees k.tree;
  shapes = AllHaveShape-with_last x s 0 count h.trees k.tree (omega (arith, h.counted)) h.shapes k.shape;
  counted = child_count-with_last h.trees k.tree ∙ ap (λ j. j + 1) h.counted;
  is = h.is ∙ ap (λ l. trees_text h.trees ++ l) k.is ∙ sym (append_assoc (trees_text h.trees) (tree_text k.tree) behind)
      ∙ ap (λ l. l ++ behind) (sym (trees_text-with_last h.trees k.tree));
  next_is = k.next_is ∙ ap (λ j. line_after j (node_count k.tree)) h.next_is ∙ line_after-more line (nodes_count h.trees) (node_count k.tree)
      ∙ ap (line_after line) (sym (nodes_count-with_last h.trees k.tree));
  holds = holds;
}

-- the same children, counted and begun otherwise, and what follows of them
pub BeginsWithTrees-at : (x : Placement) (s : Split) (count all line first : ℕ) (text rest : List ℕ) (next : ℕ) (P : ℕ → Nodes → Type 0) (Q : Nodes → Type 0) → count ≡ all → line ≡ first → BeginsWithTrees x s count line text rest next (P line)
    → ((ts : Nodes) → P first ts → Q ts) → BeginsWithTrees x s all first text rest next Q
BeginsWithTrees-at x s count all line first text rest next P Q many begins h follows = record {
  trees = h.trees;
  shapes = h.shapes;
  counted = h.counted ∙ many;
  is = h.is;
  next_is = h.next_is ∙ ap (λ l. line_after l (nodes_count h.trees)) begins;
  holds = follows h.trees (subst (λ (l : ℕ). P l h.trees) begins h.holds);
}

-- a fault of the child behind some, but not all
pub IsFaultBefore-at : (x : Placement) (s : Split) (count line : ℕ) (text rest : List ℕ) (next : ℕ) (P : Nodes → Type 0) (e : ProofError) → (h : BeginsWithTrees x s count line text rest next P) → count < free_count x
    → IsTreeTextFault (free_count (child_of x s count)) (child_of x s count) count (has_duals s.duals) next rest e → IsFaultBefore x s line text e
IsFaultBefore-at x s count line text rest next P e h few fault = (
  h.trees,
  rest,
  h.is,
  h.shapes,
  omega (arith, h.counted, few),
  subst (λ (c : ℕ). IsTreeTextFault (free_count (child_of x s c)) (child_of x s c) c (has_duals s.duals) (line_after line (nodes_count h.trees)) rest e) (sym h.counted)
      (subst (λ (k : ℕ). IsTreeTextFault (free_count (child_of x s count)) (child_of x s count) count (has_duals s.duals) k rest e) h.next_is fault),
)

-- a fault of the first line is one of the tree
pub IsTreeTextFault-line : (m : ℕ) (x : Placement) (earlier : ℕ) (duals : Bool) (number : ℕ) (text : List ℕ) (e : ProofError) → IsLineFault number text (IsNodeFault x earlier duals number) e → IsTreeTextFault m x earlier duals number text e
IsTreeTextFault-line zero x earlier duals number text e fault = fault
IsTreeTextFault-line (suc m) x earlier duals number text e fault = inl fault

-- a fault among the children is one of the tree
pub IsTreeTextFault-among : (x : Placement) (earlier : ℕ) (duals : Bool) (number : ℕ) (text bytes rest : List ℕ) (s : Split) (e : ProofError) → IsSplit x s → text ≡ bytes ++ 10 ∷ rest → bytes ≡ letter s.side ++ numbers_text (split_numbers s)
    → IsFaultBefore x s (line_after number 1) rest e → IsTreeTextFault (free_count x) x earlier duals number text e
IsTreeTextFault-among x earlier duals number text bytes rest s e splits is spelled k =
    let m = free_count x - 1 in
    let fuel : free_count x ≡ suc m = omega (arith, splits.some) in
    let c = child_count k.0 in
    let inner : free_count (child_of x s c) ≡ m =
    omega (arith, splits.some, length-append x.facilities (facility_on s.side x s.number c ∷ [])) in
    let moved = subst (λ (j : ℕ). IsTreeTextFault j (child_of x s c) c (has_duals s.duals) (line_after (line_after number 1) (nodes_count k.0)) k.1 e) inner k.5 in
    subst (λ (j : ℕ). IsTreeTextFault j x earlier duals number text e) (sym fuel)
    (inr (s, rest, line_text-behind text bytes (letter s.side) rest (split_numbers s) is spelled, splits, (k.0, k.1, k.2, k.3, k.4, moved)))

-- a tree and the end behind it
pub EndsBehindTree-end : (x : Placement) (line : ℕ) (text rest : List ℕ) (next : ℕ) (P : Node → Type 0) → BeginsWithTree x 0 false line text rest next P → rest ≡ codes "end\n" → EndsBehindTree x text P
EndsBehindTree-end x line text rest next P h is = record {
  tree = h.tree;
  shape = h.shape;
  is = h.is ∙ ap (λ l. tree_text h.tree ++ l) is;
  holds = h.holds;
}

-- a fault of the last line, behind such a tree
pub IsFaultFromTree-end : (x : Placement) (line : ℕ) (text rest : List ℕ) (next : ℕ) (P : Node → Type 0) (e : ProofError) → BeginsWithTree x 0 false line text rest next P → IsEndFault next rest e → IsFaultFromTree x line text e
IsFaultFromTree-end x line text rest next P e h fault = inr (
  h.tree,
  h.shape,
  record { rest = rest; is = h.is; holds = subst (λ (k : ℕ). IsEndFault k rest e) h.next_is fault },
)
