-- The leaves that show less than the cost, and why nothing is missing beside them.
use Rattle.std.proofs.Common.{◌≡◌, ℕ, false, ◌+◌, ◌<◌, ◌≤◌, ◌++◌, ◌∷◌, [], List, length, get_or, ℤ, refl, sym, ◌∙◌, ap, subst, inl, inr, arith}
use Rattle.std.specs.Prelude.{◌≤ℤ◌, ◌<ℤ◌, All, Contains, map}
use Rattle.std.specs.Cmp.{int_cmp_total, int_ranks}
use Rattle.std.specs.List.Sorted.{IsPermutation, IsSortedByKey}
use Rattle.std.specs.Ordering.{int_cmp, is_lt}
use Rattle.std.proofs.lemmas.Int.{by_lt_z, ints}
use Rattle.std.proofs.lemmas.Bool.{cases_lt}
use Rattle.std.proofs.lemmas.List.{get_or-map, get_or_default, length-map, map-append}
use Rattle.std.proofs.lemmas.List.Elements.{All-append, All-cons, All-nil, All-push, Contains-append_left, Contains-append_right}
use Rattle.std.proofs.lemmas.List.Sorted.{All-permutation, Contains-permutation, IsPermutation-map, ranks_by, sorted_far}
use Rattle.gilmore_lawler.proofs.Rearrangement.{not_below}
use Rattle.qap_cost.specs.Instance.{Problem}
use Rattle.qap_cost.specs.Objective.{Permutes, cost_of}
use Rattle.qap_cost.specs.Placement.{Completes, Placement}
use Rattle.qap_proof.proofs.CoverLaws.{completes_part}
use Rattle.qap_proof.proofs.Covers.{leaves_bound, leaves_shown}
use Rattle.qap_proof.specs.Claim.{Claim, IsProof, IsRoot, NoneCompletesForLess, Proves}
use Rattle.qap_proof.specs.Cover.{AreAllLeaves, AreLeaves, leaf}
use Rattle.qap_proof.specs.Missing.{AreMissing, IsAscendingOf, IsHardestFirst, IsListed, IsMissing, IsMissingBounded, ListsMissing}
use Rattle.qap_proof.specs.Tree.{Node, closed, split, cut, mirrored, Nodes, no_nodes, node, Split, child_of, Place, whole, child, node_at}
use Rattle.qap_proof.specs.declared.leaf.Leaf.{Leaf}
use Rattle.qap_proof.specs.declared.missing.MissingPart.{MissingPart}

-- the leaf's node has this size
abbrev pub IsSized : ℕ → Leaf → Type 0
IsSized n l = l.node.size ≡ n

one_sized : (n : ℕ) (x : Placement) (z : ℤ) (ls : List Leaf) → x.size ≡ n → ls ≡ leaf x z ∷ [] → All (IsSized n) ls
one_sized n x z ls size is = subst (All (IsSized n)) (sym is) (All-cons (IsSized n) (leaf x z) [] size (All-nil (IsSized n)))

mutual
  -- the nodes of the leaves are of the size of the tree's
  pub leaves_sized : (t : Node) (I : Problem) (p : Place) (ls : List Leaf) → AreLeaves I p t ls → All (IsSized (node_at p).size) ls
  leaves_sized (closed d) I p ls are = one_sized (node_at p).size (node_at p) _ ls refl are
  leaves_sized (split s children) I p ls are = all_leaves_sized children I (node_at p) s 0 ls are
  leaves_sized cut I (whole x) ls are = absurd are
  leaves_sized cut I (child x s c) ls are = one_sized x.size (child_of x s c) are.0 ls refl are.2
  leaves_sized (mirrored j m) I p ls are = subst (All (IsSized (node_at p).size)) (sym are) (All-nil (IsSized (node_at p).size))

  all_leaves_sized : (ts : Nodes) (I : Problem) (x : Placement) (s : Split) (c : ℕ) (ls : List Leaf) → AreAllLeaves I x s c ts ls → All (IsSized x.size) ls
  all_leaves_sized no_nodes I x s c ls are = subst (All (IsSized x.size)) (sym are) (All-nil (IsSized x.size))
  all_leaves_sized (node t rest) I x s c ls are =
      subst (All (IsSized x.size)) (sym are.2)
      (All-append (IsSized x.size) are.0 are.1 (leaves_sized t I (child x s c) are.0 are.3) (all_leaves_sized rest I x s (c + 1) are.1 are.4))

-- where no part is completed for less, neither is the root
pub enough : (I : Problem) (C : Claim) (ms : List MissingPart) → IsProof C → Proves I C → AreMissing I C ms → All (IsMissingBounded I C.cost) ms → NoneCompletesForLess I C.root C.cost
enough I C ms shape proved missing bounded =
    let size : I.size ≡ C.root.size = sym proved.same_size ∙ sym shape.root.size in
    let ls = missing.leaves in
    leaves_bound C.tree I C.cost C.bound C.root ls shape.root.placement size proved.tree missing.are
    (λ k d below p permutes done.
    let l = get_or ls k d in
    by_lt_z l.value C.cost
    (λ less.
    let found = missing.lists.all k d below less in
    let count : length (map (λ (m : MissingPart). m.leaf) ms) ≡ length ms = length-map ms (λ (m : MissingPart). m.leaf) in
    let inside : found.0 < length ms = omega (arith, found.1, count) in
    part_of found.0 inside k d found.2 p permutes done)
    (λ most.
    let shown = leaves_shown C.tree I C.bound C.root ls shape.root.placement size proved.tree missing.are k d below p permutes done in
    omega (arith, ints, most, shown)))
  where
    part_of : (j : ℕ) → j < length ms → (k : ℕ) (d : Leaf) → get_or (map (λ (m : MissingPart). m.leaf) ms) j k ≡ k → (p : List ℕ) → Permutes I p → Completes (get_or missing.leaves k d).node p → C.cost ≤ℤ cost_of I p
    part_of j inside k d is p permutes done =
        let some : MissingPart = record { leaf = k; node = C.root; value = C.cost } in
        let m = get_or ms j some in
        let own = missing.lists.each j some inside in
        let number : m.leaf ≡ k = sym (get_or-map (λ (m : MissingPart). m.leaf) ms j some k inside) ∙ is in
        let at : Completes (get_or missing.leaves m.leaf d).node p = subst (λ (i : ℕ). Completes (get_or missing.leaves i d).node p) (sym number) done in
        bounded j some inside p permutes (completes_part I m.node (get_or missing.leaves m.leaf d).node p own.root.size permutes (own.node d).places at)

-- of the first leaves these are missing
pub record ListsMissingTo (n : ℕ) (c : ℤ) (ls : List Leaf) (i : ℕ) (ms : List MissingPart) : Type 0 where
  pub each : All (IsMissing n c ls) ms
  pub all : (k : ℕ) (d : Leaf) → k < i → (get_or ls k d).value <ℤ c → Contains (map (λ (m : MissingPart). m.leaf) ms) k

-- the missing parts in another order are still the missing parts
pub ListsMissing-moved : (n : ℕ) (c : ℤ) (ls : List Leaf) (old new : List MissingPart) → IsPermutation old new → ListsMissing n c ls old → ListsMissing n c ls new
ListsMissing-moved n c ls old new moved lists = record {
  each = All-permutation (IsMissing n c ls) old new moved lists.each;
  all = λ k d below less.
      Contains-permutation (map (λ (m : MissingPart). m.leaf) old) (map (λ (m : MissingPart). m.leaf) new) k
      (IsPermutation-map (λ (m : MissingPart). m.leaf) old new moved) (lists.all k d below less);
}

-- of the first 0 leaves nothing is missing
pub ListsMissingTo-none : (n : ℕ) (c : ℤ) (ls : List Leaf) → ListsMissingTo n c ls 0 []
ListsMissingTo-none n c ls = record { each = All-nil (IsMissing n c ls); all = λ k d below. absurd (omega (arith, below)) }

-- the part of the next leaf has come behind, or that leaf shows enough
pub ListsMissingTo-more : (n : ℕ) (c : ℤ) (ls : List Leaf) (i : ℕ) (l : Leaf) (old new : List MissingPart) → i < length ls → l ≡ get_or ls i l → l.node.size ≡ n → IsListed c i l old new → ListsMissingTo n c ls i old
    → ListsMissingTo n c ls (i + 1) new
ListsMissingTo-more n c ls i l old new within is size listed to =
    let at : (d : Leaf) → get_or ls i d ≡ l = λ d. get_or_default ls i d l within ∙ sym is in
    elim listed [
      | inl short ↦
          let m = short.1 in
          let own : IsMissing n c ls m = record {
            within = omega (arith, within, short.2);
            root = subst (λ (k : ℕ). IsRoot k m.node) size short.3.root;
            node = λ d.
                subst (λ (x : Leaf). IsAscendingOf x.node m.node) (sym (ap (λ (k : ℕ). get_or ls k d) short.2 ∙ at d)) short.3;
            value = λ d. short.4 ∙ ap (λ (x : Leaf). x.value) (sym (ap (λ (k : ℕ). get_or ls k d) short.2 ∙ at d));
            short = subst (λ (z : ℤ). z <ℤ c) (sym short.4) short.0;
          } in
          let numbers : List MissingPart → List ℕ = map (λ (x : MissingPart). x.leaf) in
          let pushed : numbers new ≡ numbers old ++ m.leaf ∷ [] = ap numbers short.5 ∙ map-append (λ (x : MissingPart). x.leaf) old (m ∷ []) in
          record {
            each = subst (All (IsMissing n c ls)) (sym short.5) (All-push (IsMissing n c ls) old m to.each own);
            all = λ k d below less.
                subst (λ (ks : List ℕ). Contains ks k) (sym pushed)
                (elim (cases_lt k i) [
                  | inl before ↦ Contains-append_left (numbers old) (m.leaf ∷ []) k (to.all k d before less)
                  | inr past ↦
                      let here : k ≡ m.leaf = omega (arith, past, below, short.2) in
                      Contains-append_right (numbers old) (m.leaf ∷ []) k (0, omega arith, sym here)
                ]);
          }
      | inr stays ↦ record {
        each = subst (All (IsMissing n c ls)) (sym stays.1) to.each;
        all = λ k d below less.
            elim (cases_lt k i) [
              | inl before ↦ subst (λ (ms : List MissingPart). Contains (map (λ (x : MissingPart). x.leaf) ms) k) (sym stays.1) (to.all k d before less)
              | inr past ↦
                  let here : k ≡ i = omega (arith, past, below) in
                  let value : (get_or ls k d).value ≡ l.value = ap (λ (x : Leaf). x.value) (ap (λ (j : ℕ). get_or ls j d) here ∙ at d) in
                  absurd (omega (arith, ints, less, stays.0, value))
            ];
      }
    ]

-- once the first leaves are all of them, the parts are all that are missing
pub ListsMissing-all : (n : ℕ) (c : ℤ) (ls : List Leaf) (i : ℕ) (ms : List MissingPart) → length ls ≤ i → ListsMissingTo n c ls i ms → ListsMissing n c ls ms
ListsMissing-all n c ls i ms past to = record { each = to.each; all = λ k d below less. to.all k d (omega (arith, below, past)) less }

-- what a sort by value ensures
pub IsHardestFirst-sorted : (ms : List MissingPart) → IsSortedByKey (λ (m : MissingPart). m.value) int_cmp ms → IsHardestFirst ms
IsHardestFirst-sorted ms sorted = λ i j d less below.
    let x = (get_or ms j d).value in
    let y = (get_or ms i d).value in
    let last : is_lt (int_cmp x y) ≡ false = sorted_far (λ (a b : MissingPart). is_lt (int_cmp a.value b.value)) (ranks_by int_cmp_total (λ (m : MissingPart). m.value)) ms sorted i j d (omega (arith, less)) below in
    not_below x y (int_cmp x y) (int_ranks x y) last
