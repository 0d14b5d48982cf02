-- Trees that were walked along, one behind another.
use Rattle.std.proofs.Common.{◌≡◌, ℕ, ◌+◌, ◌-◌, ◌<◌, ◌≤◌, ◌++◌, List, [], ◌∷◌, length, ℤ, refl, sym, ◌∙◌, ap, subst, inr, arith, append_assoc}
use Rattle.std.specs.Prelude.{codes, Option, Some, Result, Ok, Err, MatchResult}
use Rattle.qap_cost.specs.Placement.{IsFree}
use Rattle.qap_cert.proofs.Readings.{with_last, AllHaveShape-with_last, child_count-with_last, nodes_count-with_last, trees_text-with_last, line_text-behind}
use Rattle.qap_cert.proofs.Trees.{line_after-more, line_after-none}
use Rattle.qap_lines.specs.Line.{line_after, IsLine}
use Rattle.qap_cert.specs.Code.{joined}
use Rattle.qap_cert.specs.NodeLine.{IsNodeLine}
use Rattle.qap_cert.specs.TextFault.{IsEndFault, IsFaultAmong, IsFaultFromTree, IsSplitLine, IsTreeTextFault}
use Rattle.gilmore_lawler.specs.Closing.{AreDuals}
use Rattle.qap_cert.specs.Shape.{HasShape, AllHaveShape, child_count}
use Rattle.qap_lines.specs.LineText.{numbers_text, line_text}
use Rattle.qap_cert.specs.Text.{tree_text, trees_text}
use Rattle.qap_cert.specs.Tree.{Node, split, bound, Nodes, no_nodes, node, node_count, nodes_count}
use Rattle.qap_cert.specs.Version.{MayName, split_numbers}
use Rattle.qap_cert.specs.Walk.{BeginsWithTree, BeginsWithTrees, EndsBehindTree, IsFaultBefore}
use Rattle.qap_cert.specs.declared.error.CertError.{CertError}
use Rattle.qap_cert.specs.declared.version.Version.{Version}

-- what follows from an answer, on either side
pub map_result : {X Y : Type 0} (P P' : X → Type 0) (Q Q' : Y → Type 0) (r : Result X Y) → ((x : X) → P x → P' x) → ((y : Y) → Q y → Q' y) → MatchResult r P Q → MatchResult r P' Q'
map_result P P' Q Q' (Ok x) f g h = f x h
map_result P P' Q Q' (Err y) f g h = g y h

-- the line of a split
pub split_of : (v : Version) (n : ℕ) (placed line : List ℕ) (o : Option ℕ) (f : ℕ) → IsNodeLine v n placed line o → o ≡ Some f → IsSplitLine v n placed line f × (length placed < n) × IsFree n placed f
split_of v n placed line o f h is = subst (IsNodeLine v n placed line) is h

-- no tree yet
pub BeginsWithTrees-none : (w : Version) (n : ℕ) (placed : List ℕ) (line : ℕ) (text : List ℕ) (P : Nodes → Type 0) → line ≤ 18446744073709551615 → P no_nodes → BeginsWithTrees w n placed 0 line text text line P
BeginsWithTrees-none w n placed line text P small holds = record {
  trees = no_nodes;
  shapes = tt;
  counted = refl;
  is = refl;
  next_is = line_after-none line small;
  holds = holds;
}

-- one tree more
pub BeginsWithTrees-more : (w : Version) (n : ℕ) (placed : List ℕ) (count line : ℕ) (text rest : List ℕ) (next : ℕ) (P Q : Nodes → Type 0) (behind : List ℕ) (after : ℕ) (R : Node → Type 0)
    → (h : BeginsWithTrees w n placed count line text rest next P) → (k : BeginsWithTree w n placed next rest behind after R)
    → Q (with_last h.trees k.tree) → BeginsWithTrees w n placed (count + 1) line text behind after Q
BeginsWithTrees-more w n placed count line text rest next P Q behind after R h k holds = record {
  trees = with_last h.trees k.tree;
  shapes = AllHaveShape-with_last w n placed h.trees k.tree h.shapes k.shape;
  counted = child_count-with_last h.trees k.tree ∙ ap (λ j. j + 1) h.counted;
  is = h.is ∙ ap (λ l. trees_text w h.trees ++ l) k.is ∙ sym (append_assoc (trees_text w h.trees) (tree_text w k.tree) behind)
      ∙ ap (λ l. l ++ behind) (sym (trees_text-with_last w h.trees k.tree));
  next_is = k.next_is ∙ ap (λ j. line_after j (node_count k.tree)) h.next_is ∙ line_after-more line (nodes_count h.trees) (node_count k.tree)
      ∙ ap (line_after line) (sym (nodes_count-with_last h.trees k.tree));
  holds = holds;
}

-- a bound
pub BeginsWithTree-bound : (w : Version) (n : ℕ) (placed : List ℕ) (line : ℕ) (text bytes rest : List ℕ) (next : ℕ) (P : Node → Type 0) (u v : List ℤ)
    → IsLine text bytes rest → AreDuals (n - length placed) u v → bytes ≡ codes "b" ++ numbers_text (u ++ v) → next ≡ line_after line 1 → P (bound u v) → BeginsWithTree w n placed line text rest next P
BeginsWithTree-bound w n placed line text bytes rest next P u v first duals spelled next_is holds = record {
  tree = bound u v;
  shape = duals;
  is = line_text-behind text (codes "b") rest (u ++ v) (subst (λ l. IsLine text l rest) spelled first);
  next_is = next_is;
  holds = holds;
}

-- a split and its children
pub BeginsWithTree-split : (w : Version) (n : ℕ) (placed inner : List ℕ) (line count : ℕ) (text rest behind : List ℕ) (next after : ℕ) (f : ℕ) (P : Node → Type 0) (Q : Nodes → Type 0)
    → length placed < n → IsFree n placed f → MayName w n placed f → inner ≡ placed ++ f ∷ [] → count ≡ n - length placed
    → text ≡ line_text (codes "s") (split_numbers w f) ++ rest → next ≡ line_after line 1
    → (h : BeginsWithTrees w n inner count next rest behind after Q) → P (split f h.trees) → BeginsWithTree w n placed line text behind after P
BeginsWithTree-split w n placed inner line count text rest behind next after f P Q some free may inner_is count_is is next_is h holds = record {
  tree = split f h.trees;
  shape = (some, free, may, h.counted ∙ count_is, subst (λ (xs : List ℕ). AllHaveShape w n xs h.trees) inner_is h.shapes);
  is = is ∙ ap (λ l. line_text (codes "s") (split_numbers w f) ++ l) h.is ∙ sym (append_assoc (line_text (codes "s") (split_numbers w f)) (trees_text w h.trees) behind);
  next_is = h.next_is ∙ ap (λ (k : ℕ). line_after k (nodes_count h.trees)) next_is ∙ line_after-more line 1 (nodes_count h.trees);
  holds = holds;
}

AllHaveShape-joined : (w : Version) (n : ℕ) (placed : List ℕ) (ts us : Nodes) → AllHaveShape w n placed ts → AllHaveShape w n placed us → AllHaveShape w n placed (joined ts us)
AllHaveShape-joined w n placed no_nodes us h k = k
AllHaveShape-joined w n placed (node t rest) us h k = (h.0, AllHaveShape-joined w n placed rest us h.1 k)

child_count-joined : (ts us : Nodes) → child_count (joined ts us) ≡ child_count ts + child_count us
child_count-joined no_nodes us = omega arith
child_count-joined (node t rest) us = omega (arith, child_count-joined rest us)

nodes_count-joined : (ts us : Nodes) → nodes_count (joined ts us) ≡ nodes_count ts + nodes_count us
nodes_count-joined no_nodes us = omega arith
nodes_count-joined (node t rest) us = omega (arith, nodes_count-joined rest us)

trees_text-joined : (w : Version) (ts us : Nodes) → trees_text w (joined ts us) ≡ trees_text w ts ++ trees_text w us
trees_text-joined w no_nodes us = refl
trees_text-joined w (node t rest) us = ap (λ l. tree_text w t ++ l) (trees_text-joined w rest us) ∙ sym (append_assoc (tree_text w t) (trees_text w rest) (trees_text w us))

-- trees, and others behind them
pub BeginsWithTrees-joined : (w : Version) (n : ℕ) (placed : List ℕ) (count more all line : ℕ) (text rest : List ℕ) (next : ℕ) (P Q R : Nodes → Type 0) (behind : List ℕ) (after : ℕ)
    → (h : BeginsWithTrees w n placed count line text rest next P) → (k : BeginsWithTrees w n placed more next rest behind after Q) → all ≡ count + more
    → R (joined h.trees k.trees) → BeginsWithTrees w n placed all line text behind after R
BeginsWithTrees-joined w n placed count more all line text rest next P Q R behind after h k all_is holds = record {
  trees = joined h.trees k.trees;
  shapes = AllHaveShape-joined w n placed h.trees k.trees h.shapes k.shapes;
  counted = omega (arith, child_count-joined h.trees k.trees, h.counted, k.counted);
  is = h.is ∙ ap (λ l. trees_text w h.trees ++ l) k.is ∙ sym (append_assoc (trees_text w h.trees) (trees_text w k.trees) behind)
      ∙ ap (λ l. l ++ behind) (sym (trees_text-joined w h.trees k.trees));
  next_is = k.next_is ∙ ap (λ j. line_after j (nodes_count k.trees)) h.next_is ∙ line_after-more line (nodes_count h.trees) (nodes_count k.trees)
      ∙ ap (line_after line) (sym (nodes_count-joined h.trees k.trees));
  holds = holds;
}

-- a fault behind some trees, but not all
pub IsFaultBefore-at : (w : Version) (n : ℕ) (placed : List ℕ) (count all line : ℕ) (text rest : List ℕ) (next : ℕ) (P : Nodes → Type 0) (e : CertError)
    → (h : BeginsWithTrees w n placed count line text rest next P) → count < all
    → IsTreeTextFault w n (n - length placed) placed next rest e → IsFaultBefore w n placed all line text e
IsFaultBefore-at w n placed count all line text rest next P e h few fault =
    (h.trees, rest, h.is, h.shapes, omega (arith, h.counted, few), subst (λ (k : ℕ). IsTreeTextFault w n (n - length placed) placed k rest e) h.next_is fault)

-- the same where the fault is among others behind the first trees
pub IsFaultBefore-joined : (w : Version) (n : ℕ) (placed : List ℕ) (count more all line : ℕ) (text rest : List ℕ) (next : ℕ) (P : Nodes → Type 0) (e : CertError)
    → (h : BeginsWithTrees w n placed count line text rest next P) → all ≡ count + more → IsFaultBefore w n placed more next rest e → IsFaultBefore w n placed all line text e
IsFaultBefore-joined w n placed count more all line text rest next P e h all_is k = (
  joined h.trees k.0,
  k.1,
  h.is ∙ ap (λ l. trees_text w h.trees ++ l) k.2 ∙ sym (append_assoc (trees_text w h.trees) (trees_text w k.0) k.1) ∙ ap (λ l. l ++ k.1) (sym (trees_text-joined w h.trees k.0)),
  AllHaveShape-joined w n placed h.trees k.0 h.shapes k.3,
  omega (arith, child_count-joined h.trees k.0, h.counted, k.4),
  subst (λ (j : ℕ). IsTreeTextFault w n (n - length placed) placed j k.1 e)
      (ap (λ j. line_after j (nodes_count k.0)) h.next_is ∙ line_after-more line (nodes_count h.trees) (nodes_count k.0) ∙ ap (line_after line) (sym (nodes_count-joined h.trees k.0))) k.5,
)

-- it is a fault among all the children of a split
pub IsFaultAmong-before : (w : Version) (n : ℕ) (placed : List ℕ) (count line : ℕ) (text : List ℕ) (e : CertError) → count + length placed ≤ n + 1
    → IsFaultBefore w n placed count line text e → IsFaultAmong w n placed line text (λ line rest. IsTreeTextFault w n (n - length placed) placed line rest e)
IsFaultAmong-before w n placed count line text e few k = (k.0, k.1, k.2, k.3, omega (arith, k.4, few), k.5)

-- a tree, where nothing is placed above it, and the end behind it
pub EndsBehindTree-end : (w : Version) (n : ℕ) (placed : List ℕ) (line : ℕ) (text rest : List ℕ) (next : ℕ) (P : Node → Type 0) → placed ≡ [] → BeginsWithTree w n placed line text rest next P
    → rest ≡ codes "end\n" → EndsBehindTree w n text P
EndsBehindTree-end w n placed line text rest next P none h is = record {
  tree = h.tree;
  shape = subst (λ (xs : List ℕ). HasShape w n xs h.tree) none h.shape;
  is = h.is ∙ ap (λ l. tree_text w h.tree ++ l) is;
  holds = h.holds;
}

-- a fault of the last line, behind such a tree
pub IsFaultFromTree-end : (w : Version) (n : ℕ) (placed : List ℕ) (line : ℕ) (text rest : List ℕ) (next : ℕ) (P : Node → Type 0) (e : CertError) → placed ≡ [] → BeginsWithTree w n placed line text rest next P
    → IsEndFault next rest e → IsFaultFromTree w n line text e
IsFaultFromTree-end w n placed line text rest next P e none h fault = inr (
  h.tree,
  subst (λ (xs : List ℕ). HasShape w n xs h.tree) none h.shape,
  record { rest = rest; is = h.is; holds = subst (λ (k : ℕ). IsEndFault k rest e) h.next_is fault },
)
