-- Leaves that are listed child by child.
use Rattle.std.proofs.Common.{◌≡◌, ℕ, suc, ◌+◌, ◌<◌, ◌++◌, ◌∷◌, [], List, length, get_or, drop, refl, sym, ◌∙◌, ap, ap₂, subst, arith}
use Rattle.std.proofs.Math.Seq.{drop-cons}
use Rattle.std.proofs.lemmas.List.{append_assoc, append-nil}
use Rattle.std.specs.Prelude.{ℤ, Some}
use Rattle.qap_cost.specs.Instance.{Problem}
use Rattle.qap_cost.specs.Placement.{Placement}
use Rattle.qap_proof.specs.Cover.{AreAllLeaves, leaf}
use Rattle.qap_proof.specs.Leaves.{AreAllPushed, ArePushed}
use Rattle.qap_proof.specs.Memory.{node_of, nodes_of}
use Rattle.qap_proof.specs.Shape.{AllHaveShape}
use Rattle.qap_proof.specs.Tree.{Pair, Split, Node, split, cut, Nodes, no_nodes, node, facility_on, location_on, child_of, Place, child, node_at}
use Rattle.qap_proof.specs.Valid.{AllValid, Reaches}
use Rattle.qap_proof.specs.declared.leaf.Leaf.{Leaf}
use Rattle.qap_proof.specs.declared.tree.Tree.{Tree}

-- of all children, the rest, from number c on, are still to be listed; behind the old leaves stand those of the others
pub record Listed (I : Problem) (g : ℤ) (x : Placement) (s : Split) (c : ℕ) (all rest : Nodes) (old new : List Leaf) : Type 0 where
  pub shape : AllHaveShape x s c rest
  pub valid : AllValid I g x s c rest
  pub leaves : List Leaf
  pub is : new ≡ old ++ leaves
  pub whole : (others : List Leaf) → AreAllLeaves I x s c rest others → AreAllLeaves I x s 0 all (leaves ++ others)

-- at first all children are left, and nothing stands behind the old leaves
pub Listed-none : (I : Problem) (g : ℤ) (x : Placement) (s : Split) (all : Nodes) (old : List Leaf) → AllHaveShape x s 0 all → AllValid I g x s 0 all → Listed I g x s 0 all all old old
Listed-none I g x s all old shape valid = record { shape = shape; valid = valid; leaves = []; is = sym (append-nil old); whole = λ others are. are }

-- the tree of number i is the first of those that are still to be listed
pub Listed-at : (I : Problem) (g : ℤ) (x : Placement) (s : Split) (ts : List Tree) (i : ℕ) (t : Tree) (old new : List Leaf) → i < length ts → t ≡ get_or ts i t → Listed I g x s i (nodes_of ts) (nodes_of (drop i ts)) old new
    → Listed I g x s i (nodes_of ts) (node (node_of t) (nodes_of (drop (i + 1) ts))) old new
Listed-at I g x s ts i t old new within is h =
    let one : suc i ≡ i + 1 = omega arith in
    let at : drop i ts ≡ t ∷ drop (i + 1) ts = drop-cons ts i t within ∙ ap₂ (λ (u : Tree) (j : ℕ). u ∷ drop j ts) (sym is) one in
    subst (λ (us : List Tree). Listed I g x s i (nodes_of ts) (nodes_of us) old new) at h

-- the next child's leaves stand behind the others: one child fewer is left
pub Listed-more : (I : Problem) (g : ℤ) (x : Placement) (s : Split) (c : ℕ) (all : Nodes) (t : Node) (rest : Nodes) (old new after : List Leaf) → Listed I g x s c all (node t rest) old new → ArePushed I (child x s c) t new after
    → Listed I g x s (c + 1) all rest old after
Listed-more I g x s c all t rest old new after h pushed = record {
  shape = h.shape.1;
  valid = h.valid.1;
  leaves = h.leaves ++ pushed.leaves;
  is = pushed.is ∙ ap (λ ls. ls ++ pushed.leaves) h.is ∙ append_assoc old h.leaves pushed.leaves;
  whole = λ others are.
      subst (AreAllLeaves I x s 0 all) (sym (append_assoc h.leaves pushed.leaves others)) (h.whole (pushed.leaves ++ others) (pushed.leaves, others, refl, pushed.are, are));
}

-- when no child is left, the leaves of all children stand behind the old ones
pub Listed-all : (I : Problem) (g : ℤ) (x : Placement) (s : Split) (c : ℕ) (all rest : Nodes) (old new : List Leaf) → rest ≡ no_nodes → Listed I g x s c all rest old new → AreAllPushed I x s all old new
Listed-all I g x s c all rest old new none h = record {
  leaves = h.leaves;
  is = h.is;
  are = subst (AreAllLeaves I x s 0 all) (append-nil h.leaves) (h.whole [] (subst (λ ts. AreAllLeaves I x s c ts []) (sym none) refl));
}

-- the leaves of a split are those of its children, wherever its node stands
pub ArePushed-split : (I : Problem) (p : Place) (x : Placement) (s : Split) (ts : Nodes) (old new : List Leaf) → x ≡ node_at p → AreAllPushed I x s ts old new → ArePushed I p (split s ts) old new
ArePushed-split I p x s ts old new here h = record { leaves = h.leaves; is = h.is; are = subst (λ y. AreAllLeaves I y s 0 ts h.leaves) here h.are }

-- the leaves of a tree are those of an equal tree
pub ArePushed-same : (I : Problem) (p : Place) (t u : Node) (old new : List Leaf) → t ≡ u → ArePushed I p t old new → ArePushed I p u old new
ArePushed-same I p t u old new same h = subst (λ (v : Node). ArePushed I p v old new) same h

-- the leaf of a child that is cut
pub ArePushed-cut : (I : Problem) (x : Placement) (s : Split) (c : ℕ) (t : Node) (y : Placement) (z : ℤ) (old new : List Leaf) (d : Pair) → t ≡ cut → y ≡ child_of x s c → s.duals ≡ Some d
    → Reaches I x d (facility_on s.side x s.number c) (location_on s.side x s.number c) z → new ≡ old ++ leaf y z ∷ [] → ArePushed I (child x s c) t old new
ArePushed-cut I x s c t y z old new d is here has reaches pushed =
    ArePushed-same I (child x s c) cut t old new (sym is) (record {
      leaves = leaf y z ∷ [];
      is = pushed;
      are = (z, record { duals = d; has = has; reaches = reaches }, ap (λ (w : Placement). leaf w z ∷ []) here);
    })
