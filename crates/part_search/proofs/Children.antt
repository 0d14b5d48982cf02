-- The open nodes that a split leaves: what they cover, and their values.
use Rattle.std.proofs.Common.{◌≡◌, ℕ, ◌+◌, ◌<◌, inl, inr, List, [], ◌∷◌, ◌++◌, length, get_or, map, take, ℤ, sym, ap, ap₂, subst, ◌∙◌, arith}
use Rattle.std.specs.Prelude.{All}
use Rattle.std.proofs.lemmas.Int.{ints}
use Rattle.std.proofs.lemmas.List.{map-append, take_more}
use Rattle.std.proofs.lemmas.List.Elements.{All-contains, All-cons, All-head, All-nil, All-tail}
use Rattle.qap_cost.specs.Instance.{Problem}
use Rattle.qap_cost.specs.Objective.{cost_of}
use Rattle.qap_cost.specs.Placement.{IsPlacement, Placement}
use Rattle.qap_cost.proofs.Nodes.{parent_of}
use Rattle.qap_cost.proofs.Placements.{IsPlacement-placing}
use Rattle.subtree_search.specs.Closed.{IsClosed}
use Rattle.subtree_search.specs.Opens.{IsOpen, IsSettled, node_of}
use Rattle.subtree_search.specs.declared.split.OpenChild.{OpenChild}
use Rattle.part_search.specs.Covers.{HasValue, IsAbove, IsCovered}
use Rattle.part_search.specs.Ground.{IsChildValue, node_part}
use Rattle.part_search.specs.Tuples.{open_of}
use Rattle.part_search.specs.declared.open_node.Open.{Open}

-- a child's value holds where its parent's does
pub child_has_value : (I : Problem) (scale : ℕ) (d : ℤ) (at o : Open) (child : OpenChild) → o.node ≡ node_of at.node child → IsChildValue at.value child.value scale o.value → IsOpen I scale at.node child → HasValue I d (open_of at) → HasValue I d (open_of o)
child_has_value I scale d at o child is value opened h = record {
  placement = subst IsPlacement (sym is) (IsPlacement-placing at.node child.facility child.location h.placement opened.facility opened.location);
  same_size = ap (λ (x : Placement). x.size) is ∙ h.same_size;
  bounded = λ g below best. subst (λ (x : Placement). IsClosed I x g) (sym is) (record {
    least = λ p done.
        elim value [
          | inl same ↦ (h.bounded g (omega (arith, ints, below, same)) best).least p (parent_of at.node child.facility child.location p h.placement done)
          | inr own ↦ let least = own (cost_of I p) (opened.least p done) in omega (arith, ints, below, least)
        ];
  });
}

-- one child more
pub values_more : (I : Problem) (scale : ℕ) (d : ℤ) (at o : Open) (child : OpenChild) (opens : List Open) → o.node ≡ node_of at.node child → IsChildValue at.value child.value scale o.value → IsOpen I scale at.node child → HasValue I d (open_of at) → All (HasValue I d) (map open_of opens) → All (HasValue I d) (map open_of (opens ++ o ∷ []))
values_more I scale d at o child [] is value opened h all = All-cons (HasValue I d) (open_of o) [] (child_has_value I scale d at o child is value opened h) (All-nil (HasValue I d))
values_more I scale d at o child (x ∷ xs) is value opened h all =
    All-cons (HasValue I d) (open_of x) (map open_of (xs ++ o ∷ [])) (All-head (HasValue I d) (open_of x) (map open_of xs) all)
    (values_more I scale d at o child xs is value opened h (All-tail (HasValue I d) (open_of x) (map open_of xs) all))

-- and its node
pub nodes_more : (y : Placement) (opens new : List Open) (o : Open) (children : List OpenChild) (i : ℕ) (d : OpenChild) → new ≡ opens ++ o ∷ [] → i < length children → o.node ≡ node_of y (get_or children i d) → map node_part opens ≡ map (node_of y) (take i children) → map node_part new ≡ map (node_of y) (take (i + 1) children)
nodes_more y opens new o children i d is below node before =
    ap (map node_part) is
    ∙ map-append node_part opens (o ∷ [])
    ∙ ap₂ (λ (xs : List Placement) (x : Placement). xs ++ x ∷ []) before node
    ∙ sym (ap (map (node_of y)) (take_more children i d below) ∙ map-append (node_of y) (take i children) (get_or children i d ∷ []))

-- where no completion of any of the open nodes costs less than g, none of a child that is one of them does
above_each : (I : Problem) (y : Placement) (g : ℤ) (opens : List Open) (children : List OpenChild) → map node_part opens ≡ map (node_of y) children → All (IsAbove I g) (map open_of opens) → All (λ child. IsClosed I (node_of y child) g) children
above_each I y g [] [] e all = All-nil (λ child. IsClosed I (node_of y child) g)
above_each I y g [] (c ∷ cs) e all = let long : length (map node_part []) ≡ length (map (node_of y) (c ∷ cs)) = ap length e in absurd (omega arith)
above_each I y g (o ∷ os) [] e all = let long : length (map node_part (o ∷ os)) ≡ length (map (node_of y) []) = ap length e in absurd (omega arith)
above_each I y g (o ∷ os) (c ∷ cs) e all =
    let first : o.node ≡ node_of y c = cc in
    let rest : map node_part os ≡ map (node_of y) cs = cc in
    All-cons (λ child. IsClosed I (node_of y child) g) c cs
    (subst (λ (x : Placement). IsClosed I x g) first (All-head (IsAbove I g) (open_of o) (map open_of os) all))
    (above_each I y g os cs rest (All-tail (IsAbove I g) (open_of o) (map open_of os) all))

-- open children that settle a node cover it
pub covered : (I : Problem) (y : Placement) (c : ℤ) (opens : List Open) (children : List OpenChild) → map node_part opens ≡ map (node_of y) children → IsSettled I y c children y → IsCovered I y c (map open_of opens)
covered I y c opens children e settled = record {
  below = λ g under all. record {
    least = λ p done.
        elim (settled.each p done) [
          | inl least ↦ omega (arith, ints, under, least)
          | inr found ↦
              let each = above_each I y g opens children e all in
              let least = (All-contains (λ child. IsClosed I (node_of y child) g) children found.child each found.listed).least found.other found.completes in
              let cost = found.cost in
              omega (arith, ints, least, cost)
        ];
  };
}
