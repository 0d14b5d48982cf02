-- What is reported of a tree by what is reported of its parts.
use Rattle.std.proofs.Common.{◌≡◌, ℕ, ◌≤◌, ℤ, refl, sym, ◌∙◌, ap, subst, inl, inr, arith}
use Rattle.std.specs.Prelude.{Option, Some, None, true}
use Rattle.std.proofs.lemmas.Bool.{false≢true}
use Rattle.qap_cost.specs.Instance.{Problem}
use Rattle.qap_cost.specs.Placement.{Placement}
use Rattle.qap_lines.specs.Line.{line_after}
use Rattle.qap_proof.proofs.Rows.{with_last, AllValid-with_last, IsTreeFaultAmong-last, IsTreeFaultAmong-with_last}
use Rattle.qap_proof.specs.Fault.{IsTreeFault}
use Rattle.qap_proof.specs.Shape.{IsSplit, free_count, has_duals}
use Rattle.qap_proof.specs.Tree.{Pair, Split, Node, closed, split, Nodes, no_nodes, nodes_count, child_count, Place, child, node_at}
use Rattle.gilmore_lawler.specs.Closing.{Fits}
use Rattle.qap_proof.specs.Valid.{MayFit, Valid}
use Rattle.qap_proof.specs.Walk.{IsToldOf, IsToldOfAll, IsToldOfClosed, IsToldOfDuals, IsToldOfSplit}
use Rattle.qap_proof.specs.declared.error.ProofError.{ProofError}
use Rattle.qap_proof.specs.declared.error.ProofError.TheVariants.{NotFeasible}

-- nothing was reported before, and the tree is valid, or has this fault
pub IsToldOf-valid : (I : Problem) (g : ℤ) (p : Place) (line : ℕ) (told : Option ProofError) (t : Node) → told ≡ None → Valid I g p t → IsToldOf I g p line told None t
IsToldOf-valid I g p line told t none h = subst (λ (o : Option ProofError). IsToldOf I g p line o None t) (sym none) h

-- where nothing was reported before, the first fault of a tree may be reported of it
pub IsToldOf-fault : (I : Problem) (g : ℤ) (p : Place) (line : ℕ) (told : Option ProofError) (t : Node) (e : ProofError) → told ≡ None → IsTreeFault I g p line t e → IsToldOf I g p line told (Some e) t
IsToldOf-fault I g p line told t e none h = subst (λ (o : Option ProofError). IsToldOf I g p line o (Some e) t) (sym none) h

-- what is reported of a closed node is reported of the tree that it is
pub IsToldOf-closed : (I : Problem) (g : ℤ) (p : Place) (line : ℕ) (told after : Option ProofError) (d : Pair) → IsToldOfClosed I g (node_at p) line told after d → IsToldOf I g p line told after (closed d)
IsToldOf-closed I g p line (Some e) after d h = h
IsToldOf-closed I g p line None None d h = h
IsToldOf-closed I g p line None (Some e) d h = h

-- the same for a split and its children, where it has the shape
pub IsToldOf-split : (I : Problem) (g : ℤ) (p : Place) (line : ℕ) (told after : Option ProofError) (s : Split) (ts : Nodes) → IsSplit (node_at p) s → child_count ts ≡ free_count (node_at p)
    → IsToldOfSplit I g (node_at p) s line told after ts → IsToldOf I g p line told after (split s ts)
IsToldOf-split I g p line (Some e) after s ts is counted h = h
IsToldOf-split I g p line None None s ts is counted h = (is.free, h.0, omega (arith, counted, is.some), h.1)
IsToldOf-split I g p line None (Some e) s ts is counted h = h

-- the same where the node is given as it is
pub IsToldOf-split_at : (I : Problem) (g : ℤ) (p : Place) (x : Placement) (line : ℕ) (told after : Option ProofError) (s : Split) (ts : Nodes) → x ≡ node_at p → IsSplit x s → child_count ts ≡ free_count x
    → IsToldOfSplit I g x s line told after ts → IsToldOf I g p line told after (split s ts)
IsToldOf-split_at I g p x line told after s ts here is counted h =
    IsToldOf-split I g p line told after s ts (subst (λ (y : Placement). IsSplit y s) here is) (counted ∙ ap free_count here) (subst (λ (y : Placement). IsToldOfSplit I g y s line told after ts) here h)

-- what is reported of a split's duals, and then of its children, is reported of the split
pub IsToldOfSplit-parts : (I : Problem) (g : ℤ) (x : Placement) (s : Split) (line : ℕ) (told between after : Option ProofError) (ts : Nodes) → IsToldOfDuals I x s line told between
    → IsToldOfAll I g x s (line_after line 1) between after ts → IsToldOfSplit I g x s line told after ts
IsToldOfSplit-parts I g x s line (Some d) between after ts h k =
    subst (λ (o : Option ProofError). IsToldOfAll I g x s (line_after line 1) o after ts) h k
IsToldOfSplit-parts I g x s line None None None ts h k = (h, k)
IsToldOfSplit-parts I g x s line None None (Some e) ts h k = inr (h, k)
IsToldOfSplit-parts I g x s line None (Some d) after ts h k =
    subst (λ (o : Option ProofError). IsToldOfSplit I g x s line None o ts) (sym k) (inl h)

-- no child yet
pub IsToldOfAll-none : (I : Problem) (g : ℤ) (x : Placement) (s : Split) (line : ℕ) (told : Option ProofError) → IsToldOfAll I g x s line told told no_nodes
IsToldOfAll-none I g x s line (Some e) = refl
IsToldOfAll-none I g x s line None = tt

-- one child more
pub IsToldOfAll-more : (I : Problem) (g : ℤ) (x : Placement) (s : Split) (line : ℕ) (told before after : Option ProofError) (count next : ℕ) (ts : Nodes) (t : Node) → child_count ts ≡ count → line ≤ 18446744073709551615
    → next ≡ line_after line (nodes_count ts) → IsToldOfAll I g x s line told before ts → IsToldOf I g (child x s count) next before after t → IsToldOfAll I g x s line told after (with_last ts t)
IsToldOfAll-more I g x s line (Some d) before after count next ts t counted small next_is h k =
    subst (λ (o : Option ProofError). IsToldOf I g (child x s count) next o after t) h k
IsToldOfAll-more I g x s line None None None count next ts t counted small next_is h k =
    AllValid-with_last I g x s 0 count ts t (omega (arith, counted)) h k
IsToldOfAll-more I g x s line None None (Some e) count next ts t counted small next_is h k =
    IsTreeFaultAmong-last I g x s 0 count line next ts t e (omega (arith, counted)) small next_is h k
IsToldOfAll-more I g x s line None (Some d) after count next ts t counted small next_is h k =
    subst (λ (o : Option ProofError). IsToldOfAll I g x s line None o (with_last ts t)) (sym k) (IsTreeFaultAmong-with_last I g x s 0 line ts t d h)

-- nothing was reported before, and the duals of the split don't fit
pub IsToldOfDuals-misfit : (I : Problem) (x : Placement) (s : Split) (line : ℕ) (told : Option ProofError) (d : Pair) → told ≡ None → s.duals ≡ Some d → (Fits I x d.u d.v → ⊥) → IsToldOfDuals I x s line told (Some (NotFeasible line))
IsToldOfDuals-misfit I x s line told d none has misfit =
    subst (λ (o : Option ProofError). IsToldOfDuals I x s line o (Some (NotFeasible line))) (sym none)
    (refl, λ fits. misfit (subst (MayFit I x) has fits))

-- where nothing was reported of the first children, nothing was reported before
pub none_told-all : (I : Problem) (g : ℤ) (x : Placement) (s : Split) (line : ℕ) (told after : Option ProofError) (ts : Nodes) → IsToldOfAll I g x s line told after ts → after ≡ None → told ≡ None
none_told-all I g x s line (Some d) after ts h none = sym h ∙ none
none_told-all I g x s line None after ts h none = refl

-- the same of the duals of a split
pub none_told-duals : (I : Problem) (x : Placement) (s : Split) (line : ℕ) (told after : Option ProofError) → IsToldOfDuals I x s line told after → after ≡ None → told ≡ None
none_told-duals I x s line (Some d) after h none = sym h ∙ none
none_told-duals I x s line None after h none = refl

-- a split that has duals has some
pub some_duals : (o : Option Pair) → has_duals o ≡ true → (d : Pair) × (o ≡ Some d)
some_duals None h = absurd (false≢true h)
some_duals (Some d) h = (d, refl)
