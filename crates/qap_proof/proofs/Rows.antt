-- Children of a split one after another, and one more behind them.
use Rattle.std.proofs.Common.{◌≡◌, ℕ, ◌+◌, ◌≤◌, ◌++◌, ℤ, sym, ◌∙◌, ap, subst, inl, inr, arith, append_assoc, append-nil}
use Rattle.qap_cost.specs.Instance.{Problem}
use Rattle.qap_cost.specs.Placement.{Placement}
use Rattle.qap_lines.specs.Line.{line_after}
use Rattle.qap_proof.specs.Fault.{IsTreeFault, IsTreeFaultAmong}
use Rattle.qap_proof.specs.Shape.{HasShape, AllHaveShape, has_duals}
use Rattle.qap_proof.specs.Text.{tree_text, trees_text}
use Rattle.qap_proof.specs.Tree.{Split, Node, Nodes, no_nodes, node, node_count, nodes_count, child_count, child_of, child}
use Rattle.qap_proof.specs.Valid.{Valid, AllValid}
use Rattle.qap_proof.specs.declared.error.ProofError.{ProofError}

-- the line behind some nodes and then others
pub line_after-more : (line a b : ℕ) → line_after (line_after line a) b ≡ line_after line (a + b)
line_after-more line a b = omega arith

-- no lines further is the same line
pub line_after-none : (line : ℕ) → line ≤ 18446744073709551615 → line ≡ line_after line 0
line_after-none line h = omega arith

-- the children with one more behind them
abbrev pub with_last : Nodes → Node → Nodes
with_last no_nodes t = node t no_nodes
with_last (node y rest) t = node y (with_last rest t)

-- with one more behind them there is one child more
pub child_count-with_last : (ts : Nodes) (t : Node) → child_count (with_last ts t) ≡ child_count ts + 1
child_count-with_last no_nodes t = omega arith
child_count-with_last (node y rest) t = omega (arith, child_count-with_last rest t)

-- and as many nodes more as it has
pub nodes_count-with_last : (ts : Nodes) (t : Node) → nodes_count (with_last ts t) ≡ nodes_count ts + node_count t
nodes_count-with_last no_nodes t = omega arith
nodes_count-with_last (node y rest) t = omega (arith, nodes_count-with_last rest t)

-- its text stands behind theirs
pub trees_text-with_last : (ts : Nodes) (t : Node) → trees_text (with_last ts t) ≡ trees_text ts ++ tree_text t
trees_text-with_last no_nodes t = append-nil (tree_text t)
trees_text-with_last (node y rest) t = ap (λ l. tree_text y ++ l) (trees_text-with_last rest t) ∙ sym (append_assoc (tree_text y) (trees_text rest) (tree_text t))

-- the one behind those from number c on is of number at
pub AllHaveShape-with_last : (x : Placement) (s : Split) (c at : ℕ) (ts : Nodes) (t : Node) → at ≡ c + child_count ts → AllHaveShape x s c ts → HasShape (child_of x s at) at (has_duals s.duals) t → AllHaveShape x s c (with_last ts t)
AllHaveShape-with_last x s c at no_nodes t e h k =
    let here : at ≡ c = omega (arith, e) in (subst (λ (j : ℕ). HasShape (child_of x s j) j (has_duals s.duals) t) here k, tt)
AllHaveShape-with_last x s c at (node y rest) t e h k = (h.0, AllHaveShape-with_last x s (c + 1) at rest t (omega (arith, e)) h.1 k)

-- one more valid child behind valid ones leaves all of them valid
pub AllValid-with_last : (I : Problem) (g : ℤ) (x : Placement) (s : Split) (c at : ℕ) (ts : Nodes) (t : Node) → at ≡ c + child_count ts → AllValid I g x s c ts → Valid I g (child x s at) t → AllValid I g x s c (with_last ts t)
AllValid-with_last I g x s c at no_nodes t e h k =
    let here : at ≡ c = omega (arith, e) in (subst (λ (j : ℕ). Valid I g (child x s j) t) here k, tt)
AllValid-with_last I g x s c at (node y rest) t e h k = (h.0, AllValid-with_last I g x s (c + 1) at rest t (omega (arith, e)) h.1 k)

-- the last has the first fault
pub IsTreeFaultAmong-last : (I : Problem) (g : ℤ) (x : Placement) (s : Split) (c at line next : ℕ) (ts : Nodes) (t : Node) (e : ProofError) → at ≡ c + child_count ts → line ≤ 18446744073709551615 → next ≡ line_after line (nodes_count ts)
    → AllValid I g x s c ts → IsTreeFault I g (child x s at) next t e → IsTreeFaultAmong I g x s c line (with_last ts t) e
IsTreeFaultAmong-last I g x s c at line next no_nodes t e at_is small next_is h k =
    let here : at ≡ c = omega (arith, at_is) in
    let begins : next ≡ line = next_is ∙ sym (line_after-none line small) in
    inl (subst (λ (j : ℕ). IsTreeFault I g (child x s j) line t e) here (subst (λ (l : ℕ). IsTreeFault I g (child x s at) l t e) begins k))
IsTreeFaultAmong-last I g x s c at line next (node y rest) t e at_is small next_is h k =
    inr (
      h.0,
      IsTreeFaultAmong-last I g x s (c + 1) at (line_after line (node_count y)) next rest t e (omega (arith, at_is)) (omega arith)
          (next_is ∙ sym (line_after-more line (node_count y) (nodes_count rest))) h.1 k,
    )

-- one of those before the last has it
pub IsTreeFaultAmong-with_last : (I : Problem) (g : ℤ) (x : Placement) (s : Split) (c line : ℕ) (ts : Nodes) (t : Node) (e : ProofError) → IsTreeFaultAmong I g x s c line ts e → IsTreeFaultAmong I g x s c line (with_last ts t) e
IsTreeFaultAmong-with_last I g x s c line no_nodes t e h = absurd h
IsTreeFaultAmong-with_last I g x s c line (node y rest) t e (inl h) = inl h
IsTreeFaultAmong-with_last I g x s c line (node y rest) t e (inr h) = inr (h.0, IsTreeFaultAmong-with_last I g x s (c + 1) (line_after line (node_count y)) rest t e h.1)
