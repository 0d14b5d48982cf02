-- Trees read one after another.
use Rattle.std.proofs.Common.{◌≡◌, ℕ, zero, suc, ◌+◌, ◌-◌, ◌<◌, ◌++◌, List, [], ◌∷◌, ℤ, refl, sym, ◌∙◌, ap, subst, inl, inr, arith, append_assoc, append-nil, length, length-append}
use Rattle.std.specs.Prelude.{codes}
use Rattle.number_list.specs.NumberList.{numbers_held}
use Rattle.number_list.specs.declared.lists.NumberList.{NumberList}
use Rattle.qap_cert.proofs.Trees.{line_after-more}
use Rattle.qap_lines.specs.Line.{line_after, IsLine}
use Rattle.qap_cert.specs.Shape.{HasShape, AllHaveShape, child_count}
use Rattle.qap_lines.specs.LineText.{numbers_text, line_text}
use Rattle.qap_cert.specs.Text.{tree_text, trees_text}
use Rattle.qap_cost.specs.Placement.{IsFree}
use Rattle.qap_cert.specs.Fault.{IsFacilityFault}
use Rattle.qap_cert.specs.TextFault.{IsFaultAmong, IsLineFault, IsNodeFault, IsSplitLine, IsTreeTextFault}
use Rattle.qap_cert.specs.Version.{MayName, split_numbers}
use Rattle.qap_cert.specs.declared.version.Version.{Version}
use Rattle.qap_cert.specs.Tree.{Node, Nodes, no_nodes, node, bound, node_step, node_of, nodes_of, node_count, nodes_count}
use Rattle.qap_cert.specs.declared.error.CertError.{CertError}
use Rattle.qap_cert.specs.declared.tree.Tree.{Tree}
use Rattle.qap_cert.specs.declared.tree.Tree.TheFolds.{fold-roll-Tree}
use Rattle.qap_cert.specs.declared.tree.Tree.TheOpen.{Bound as Layer}
use Rattle.qap_cert.specs.declared.tree.Tree.TheVariants.{Bound, rolls-Bound}

-- trees in a row, and one more behind them
abbrev pub with_last : Nodes → Node → Nodes
with_last no_nodes t = node t no_nodes
with_last (node x rest) t = node x (with_last rest t)

-- what trees and one more behind them say
pub nodes_of-push : (xs : List Tree) (t : Tree) → nodes_of (xs ++ t ∷ []) ≡ with_last (nodes_of xs) (node_of t)
nodes_of-push [] t = refl
nodes_of-push (x ∷ xs) t = ap (node (node_of x)) (nodes_of-push xs t)

-- trees of a shape, and one more that has it
pub AllHaveShape-with_last : (w : Version) (n : ℕ) (placed : List ℕ) (ts : Nodes) (t : Node) → AllHaveShape w n placed ts → HasShape w n placed t → AllHaveShape w n placed (with_last ts t)
AllHaveShape-with_last w n placed no_nodes t h k = (k, tt)
AllHaveShape-with_last w n placed (node x rest) t h k = (h.0, AllHaveShape-with_last w n placed rest t h.1 k)

-- there is one tree more
pub child_count-with_last : (ts : Nodes) (t : Node) → child_count (with_last ts t) ≡ child_count ts + 1
child_count-with_last no_nodes t = omega arith
child_count-with_last (node x rest) t = omega (arith, child_count-with_last rest t)

-- there are the nodes of that tree more
pub nodes_count-with_last : (ts : Nodes) (t : Node) → nodes_count (with_last ts t) ≡ nodes_count ts + node_count t
nodes_count-with_last no_nodes t = omega arith
nodes_count-with_last (node x rest) t = omega (arith, nodes_count-with_last rest t)

-- its text stands behind that of the others
pub trees_text-with_last : (w : Version) (ts : Nodes) (t : Node) → trees_text w (with_last ts t) ≡ trees_text w ts ++ tree_text w t
trees_text-with_last w no_nodes t = append-nil (tree_text w t)
trees_text-with_last w (node x rest) t = ap (λ l. tree_text w x ++ l) (trees_text-with_last w rest t) ∙ sym (append_assoc (tree_text w x) (trees_text w rest) (tree_text w t))

-- this many trees were read from a text, whose first line has this number; rest and next are what is behind them
pub record HaveRead (w : Version) (n : ℕ) (placed : List ℕ) (line : ℕ) (text : List ℕ) (ts : Nodes) (count : ℕ) (rest : List ℕ) (next : ℕ) : Type 0 where
  pub shapes : AllHaveShape w n placed ts
  pub counted : child_count ts ≡ count
  pub is : text ≡ trees_text w ts ++ rest
  pub next_is : next ≡ line_after line (nodes_count ts)

-- one tree more was read
pub HaveRead-more : (w : Version) (n : ℕ) (placed : List ℕ) (line : ℕ) (text : List ℕ) (xs ys : List Tree) (t : Tree) (count : ℕ) (rest : List ℕ) (next : ℕ) (behind : List ℕ) (after : ℕ)
    → HaveRead w n placed line text (nodes_of xs) count rest next → HasShape w n placed (node_of t) → rest ≡ tree_text w (node_of t) ++ behind
    → after ≡ line_after next (node_count (node_of t)) → ys ≡ xs ++ t ∷ [] → HaveRead w n placed line text (nodes_of ys) (count + 1) behind after
HaveRead-more w n placed line text xs ys t count rest next behind after h shape is after_is pushed =
    let row : nodes_of ys ≡ with_last (nodes_of xs) (node_of t) = ap nodes_of pushed ∙ nodes_of-push xs t in
    rw row (record {
      shapes = AllHaveShape-with_last w n placed (nodes_of xs) (node_of t) h.shapes shape;
      counted = child_count-with_last (nodes_of xs) (node_of t) ∙ ap (λ k. k + 1) h.counted;
      is = h.is ∙ ap (λ l. trees_text w (nodes_of xs) ++ l) is ∙ sym (append_assoc (trees_text w (nodes_of xs)) (tree_text w (node_of t)) behind)
          ∙ ap (λ l. l ++ behind) (sym (trees_text-with_last w (nodes_of xs) (node_of t)));
      next_is = after_is ∙ ap (λ k. line_after k (node_count (node_of t))) h.next_is ∙ line_after-more line (nodes_count (nodes_of xs)) (node_count (node_of t))
          ∙ ap (line_after line) (sym (nodes_count-with_last (nodes_of xs) (node_of t)));
    })

-- a line of a name and numbers, with what is behind it
pub line_text-behind : (text name rest : List ℕ) (zs : List ℤ) → IsLine text (name ++ numbers_text zs) rest → text ≡ line_text name zs ++ rest
line_text-behind text name rest zs h = h.is ∙ sym (append_assoc (name ++ numbers_text zs) (10 ∷ []) rest)

-- a fault of the first line is one of the tree
pub IsTreeTextFault-line : (w : Version) (n m : ℕ) (placed : List ℕ) (number : ℕ) (text : List ℕ) (e : CertError) → IsLineFault number text (IsNodeFault w n placed number) e → IsTreeTextFault w n m placed number text e
IsTreeTextFault-line w n zero placed number text e fault = fault
IsTreeTextFault-line w n (suc m) placed number text e fault = inl fault

-- so is one of a split's facility
IsNodeFault-facility : (w : Version) (n : ℕ) (placed : List ℕ) (number : ℕ) (line : List ℕ) (f : ℕ) (e : CertError) → IsSplitLine w n placed line f → IsFacilityFault n placed number f e → IsNodeFault w n placed number line e
IsNodeFault-facility w n placed number line f e is (inl deep) = subst (IsNodeFault w n placed number line) (sym deep.0) (refl, f, is, deep.1)
IsNodeFault-facility w n placed number line f e is (inr taken) = subst (IsNodeFault w n placed number line) (sym taken.0) (refl, f, is, taken.1, taken.2)

-- a fault of the facility that the first line names is one of the tree
pub IsTreeTextFault-facility : (w : Version) (n m : ℕ) (placed : List ℕ) (number : ℕ) (text line rest : List ℕ) (f : ℕ) (e : CertError) → IsLine text line rest → IsSplitLine w n placed line f → IsFacilityFault n placed number f e → IsTreeTextFault w n m placed number text e
IsTreeTextFault-facility w n m placed number text line rest f e first is fault =
    IsTreeTextFault-line w n m placed number text e (inr (line, rest, first, IsNodeFault-facility w n placed number line f e is fault))

-- a fault among the children is one of the tree
pub IsTreeTextFault-among : (w : Version) (n : ℕ) (placed inner : List ℕ) (number next : ℕ) (text rest : List ℕ) (f : ℕ) (e : CertError) → length placed < n → inner ≡ placed ++ f ∷ []
    → text ≡ line_text (codes "s") (split_numbers w f) ++ rest → MayName w n placed f → IsFree n placed f → next ≡ line_after number 1
    → IsFaultAmong w n inner next rest (λ line rest. IsTreeTextFault w n (n - length inner) inner line rest e) → IsTreeTextFault w n (n - length placed) placed number text e
IsTreeTextFault-among w n placed inner number next text rest f e some inner_is is may free next_is fault =
    let m = n - length inner in
    let fuel : n - length placed ≡ suc m = omega (arith, ap length inner_is, length-append placed (f ∷ [])) in
    let moved = subst (λ (xs : List ℕ). IsFaultAmong w n xs (line_after number 1) rest (λ line rest. IsTreeTextFault w n m xs line rest e)) inner_is
    (subst (λ (k : ℕ). IsFaultAmong w n inner k rest (λ line rest. IsTreeTextFault w n m inner line rest e)) next_is fault) in
    subst (λ (k : ℕ). IsTreeTextFault w n k placed number text e) (sym fuel) (inr (f, rest, is, may, free, moved))

-- what a bound says
pub node_of-Bound : (t : Tree) (u v : NumberList) → t ≡ Bound u v → node_of t ≡ bound (numbers_held u) (numbers_held v)
node_of-Bound t u v is = ap node_of is ∙ ap node_of (sym (rolls-Bound u v)) ∙ fold-roll-Tree Node node_step (Layer u v)
