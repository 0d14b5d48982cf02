-- Trees one after another, whose shape is judged in this order.
use Rattle.std.proofs.Common.{◌≡◌, ℕ, ◌-◌, ◌<◌, ◌≤◌, ◌++◌, ◌∷◌, [], List, length, sym, ◌∙◌, ap, subst, inl, inr, Result, Ok, Err}
use Rattle.std.specs.Prelude.{MatchResult}
use Rattle.qap_cost.specs.Placement.{IsFree}
use Rattle.qap_cert.specs.Fault.{IsSplitFault, IsShapeFault, IsShapeFaultAmong}
use Rattle.qap_lines.specs.Line.{line_after}
use Rattle.qap_cert.specs.Shape.{HasShape, AllHaveShape, child_count}
use Rattle.qap_cert.specs.Tree.{Node, split, Nodes, node_count, nodes_count}
use Rattle.qap_cert.specs.declared.error.CertError.{CertError}
use Rattle.qap_cert.specs.declared.version.Version.TheVariants.{Second}
use Rattle.qap_cert.proofs.Trees.{line_after-more}

-- the rest are still to be judged, from this line on; what holds of them holds of all
pub record Judged (n : ℕ) (placed : List ℕ) (line next : ℕ) (all rest : Nodes) : Type 0 where
  pub shape : AllHaveShape Second n placed rest → AllHaveShape Second n placed all
  pub fault : (e : CertError) → IsShapeFaultAmong n placed next rest e → IsShapeFaultAmong n placed line all e
  pub lines : line_after next (nodes_count rest) ≡ line_after line (nodes_count all)
  pub small : next ≤ 18446744073709551615

-- what a split has, from what its children have
pub Judged-split : (n : ℕ) (placed inner : List ℕ) (line below : ℕ) (t : Node) (f : ℕ) (children : Nodes) (r : Result ℕ CertError) → t ≡ split f children → inner ≡ placed ++ f ∷ [] → length placed < n → IsFree n placed f → child_count children ≡ n - length placed → below ≡ line_after line 1 → MatchResult r (λ next. AllHaveShape Second n inner children × (next ≡ line_after below (nodes_count children))) (λ e. IsShapeFaultAmong n inner below children e) → MatchResult r (λ next. HasShape Second n placed t × (next ≡ line_after line (node_count t))) (λ e. IsShapeFault n placed line t e)
Judged-split n placed inner line below t f children (Ok next) is more some free count start h =
    subst (λ (x : Node). HasShape Second n placed x × (next ≡ line_after line (node_count x))) (sym is)
    ((some, free, free.within, count, subst (λ (xs : List ℕ). AllHaveShape Second n xs children) more h.0), h.1 ∙ ap (λ (k : ℕ). line_after k (nodes_count children)) start ∙ line_after-more line 1 (nodes_count children))
Judged-split n placed inner line below t f children (Err e) is more some free count start h =
    subst (λ (x : Node). IsShapeFault n placed line x e) (sym is)
    (inr (some, free, count, subst (λ (xs : List ℕ). IsShapeFaultAmong n xs (line_after line 1) children e) more (subst (λ (k : ℕ). IsShapeFaultAmong n inner k children e) start h)))

-- a fault of a split's facility or count of children is one of the tree
pub IsShapeFault-split : (n : ℕ) (placed : List ℕ) (line : ℕ) (t : Node) (f k : ℕ) (children : Nodes) (e : CertError) → t ≡ split f children → child_count children ≡ k → IsSplitFault n placed line f k e → IsShapeFault n placed line t e
IsShapeFault-split n placed line t f k children e is count fault =
    subst (λ (x : Node). IsShapeFault n placed line x e) (sym is) (inl (subst (λ (j : ℕ). IsSplitFault n placed line f j e) (sym count) fault))
