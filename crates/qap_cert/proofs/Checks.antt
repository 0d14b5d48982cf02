-- The children of a split, which are checked in this order, each for its location.
use Rattle.std.proofs.Common.{◌≡◌, ℕ, suc, ◌+◌, ◌<◌, ◌≤◌, ◌++◌, ◌∷◌, [], List, length, get_or, drop, sym, ◌∙◌, ap, ap₂, subst, inl, inr, arith}
use Rattle.std.proofs.Math.Seq.{drop-cons}
use Rattle.std.specs.Prelude.{ℤ}
use Rattle.qap_cost.specs.Instance.{Problem}
use Rattle.qap_cost.specs.Placement.{Placement, placing}
use Rattle.qap_cert.specs.Fault.{IsTreeFault, IsTreeFaultAmong}
use Rattle.qap_lines.specs.Line.{line_after}
use Rattle.qap_cert.specs.Shape.{AllHaveShape}
use Rattle.qap_cert.specs.Tree.{Node, Nodes, node, node_of, nodes_of, node_count, nodes_count}
use Rattle.qap_cert.specs.Valid.{Valid, AllValid}
use Rattle.qap_cert.specs.declared.error.CertError.{CertError}
use Rattle.qap_cert.specs.declared.version.Version.TheVariants.{Second}
use Rattle.qap_cert.specs.declared.tree.Tree.{Tree}
use Rattle.qap_cert.proofs.Trees.{line_after-more}

-- of all children, for the locations ks, the rest are still to be checked, for the locations ls and from this line on; what
-- holds of them holds of all
pub record Checked (I : Problem) (g : ℤ) (x : Placement) (f line next : ℕ) (ks : List ℕ) (all : Nodes) (ls : List ℕ) (rest : Nodes) : Type 0 where
  pub valid : AllValid I g x f ls rest → AllValid I g x f ks all
  pub fault : (e : CertError) → IsTreeFaultAmong I g x f ls next rest e → IsTreeFaultAmong I g x f ks line all e
  pub lines : line_after next (nodes_count rest) ≡ line_after line (nodes_count all)
  pub small : next ≤ 18446744073709551615
  pub shape : AllHaveShape Second x.size (x.facilities ++ f ∷ []) rest

-- the first of the rest is valid: those behind it are still to be checked
pub Checked-more : (I : Problem) (g : ℤ) (x : Placement) (f line next after : ℕ) (ks : List ℕ) (all : Nodes) (k : ℕ) (ls : List ℕ) (t : Node) (rest : Nodes) → Checked I g x f line next ks all (k ∷ ls) (node t rest) → Valid I g (placing x f k) t → after ≡ line_after next (node_count t) → Checked I g x f line after ks all ls rest
Checked-more I g x f line next after ks all k ls t rest h valid is = record {
  valid = λ others. h.valid (valid, others);
  fault = λ e others. h.fault e (inr (valid, subst (λ (j : ℕ). IsTreeFaultAmong I g x f ls j rest e) is others));
  lines = ap (λ (j : ℕ). line_after j (nodes_count rest)) is ∙ line_after-more next (node_count t) (nodes_count rest) ∙ h.lines;
  small = omega arith;
  shape = h.shape.1;
}

-- the child of number i and its location are the first that are still to be checked
pub Checked-at : (I : Problem) (g : ℤ) (x : Placement) (f line next : ℕ) (ks : List ℕ) (ts : List Tree) (i : ℕ) (child : Tree) → i < length ts → i < length ks → child ≡ get_or ts i child → Checked I g x f line next ks (nodes_of ts) (drop i ks) (nodes_of (drop i ts)) → Checked I g x f line next ks (nodes_of ts) (get_or ks i 0 ∷ drop (i + 1) ks) (node (node_of child) (nodes_of (drop (i + 1) ts)))
Checked-at I g x f line next ks ts i child in_ts in_ks is h =
    let k = get_or ks i 0 in
    let one : suc i ≡ i + 1 = omega arith in
    let at_k : drop i ks ≡ k ∷ drop (i + 1) ks = drop-cons ks i 0 in_ks ∙ ap (λ (j : ℕ). k ∷ drop j ks) one in
    let at_t : drop i ts ≡ child ∷ drop (i + 1) ts = drop-cons ts i child in_ts ∙ ap₂ (λ (t : Tree) (j : ℕ). t ∷ drop j ts) (sym is) one in
    subst (λ (us : List Tree). Checked I g x f line next ks (nodes_of ts) (k ∷ drop (i + 1) ks) (nodes_of us)) at_t
    (subst (λ (js : List ℕ). Checked I g x f line next ks (nodes_of ts) js (nodes_of (drop i ts))) at_k h)

-- a fault of the first of the rest is one among all children
pub Checked-fault : (I : Problem) (g : ℤ) (x : Placement) (f line next : ℕ) (ks : List ℕ) (all : Nodes) (k : ℕ) (ls : List ℕ) (t : Node) (rest : Nodes) (e : CertError) → Checked I g x f line next ks all (k ∷ ls) (node t rest) → IsTreeFault I g (placing x f k) next t e → IsTreeFaultAmong I g x f ks line all e
Checked-fault I g x f line next ks all k ls t rest e h fault = h.fault e (inl fault)
