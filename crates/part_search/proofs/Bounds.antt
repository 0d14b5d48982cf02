-- What the tuples of a search prove of its root.
use Rattle.std.proofs.Common.{◌≡◌, ℕ, zero, suc, ◌≤◌, ◌<◌, List, [], ◌∷◌, length, get_or, map, cond, ℤ, ◌≤ℤ◌, refl, sym, arith}
use Rattle.std.specs.Prelude.{All, Contains}
use Rattle.std.specs.List.{sum_by}
use Rattle.std.proofs.lemmas.Int.{ints}
use Rattle.std.proofs.lemmas.List.Elements.{All-nil}
use Rattle.std.proofs.lemmas.List.Sums.{sum_by-cons}
use Rattle.shared_space.specs.Law.{Content}
use Rattle.subtree_search.specs.Best.{Best}
use Rattle.subtree_search.specs.Closed.{IsClosed}
use Rattle.tuple_match.specs.FieldValue.{FieldValue}
use Rattle.part_search.specs.Covers.{IsAbove}
use Rattle.part_search.specs.Law.{IsSearched, Part}
use Rattle.part_search.specs.Tuples.{OpenNode, best_tuple, is_open, node_tuple, open_count}
use Rattle.part_search.proofs.Readings.{contained, counts, is_it, is_it-found, is_it-itself, no_best, same_best}

-- the tuple of each open node of a list is among those of the list
open_counts : (opens : List OpenNode) (k : ℕ) (d : OpenNode) → k < length opens → 1 ≤ sum_by (is_it (node_tuple (get_or opens k d))) (map node_tuple opens)
open_counts [] k d below = absurd (omega arith)
open_counts (o ∷ os) zero d below =
    let parts = sum_by-cons (is_it (node_tuple o)) (node_tuple o) (map node_tuple os) in
    let itself = is_it-itself (node_tuple o) in
    omega arith
open_counts (o ∷ os) (suc k) d below =
    let w = node_tuple (get_or os k d) in
    let parts = sum_by-cons (is_it w) (node_tuple o) (map node_tuple os) in
    let rest = open_counts os k d (omega arith) in
    omega arith

-- no completion of the root costs less than the least of the best cost and of the values
pub bound : (S : Part) (content : Content) (g : ℤ) → (h : IsSearched S content) → g ≤ℤ h.best.cost → ((o : OpenNode) → Contains content (node_tuple o) → g ≤ℤ o.value) → IsClosed S.instance S.root g
bound S content g h below values =
    h.covers.below g below
    (λ k d in'.
    let o = get_or h.opens k d in
    let counted = open_counts h.opens k d in' in
    let all = h.tuples (is_it (node_tuple o)) in
    let first = sum_by-cons (is_it (node_tuple o)) (best_tuple h.best) (map node_tuple h.opens) in
    (h.values k d in').bounded g (values o (contained content (node_tuple o) (omega arith))) below)

-- the best permutation is the only one there
pub best_there : (S : Part) (content : Content) → (h : IsSearched S content) → Contains content (best_tuple h.best)
best_there S content h =
    let w = best_tuple h.best in
    let all = h.tuples (is_it w) in
    let first = sum_by-cons (is_it w) w (map node_tuple h.opens) in
    let itself = is_it-itself w in
    contained content w (omega arith)

-- a tuple of a best permutation in the content is that of the one that the law names
pub best_only : (S : Part) (content : Content) (b : Best) → (h : IsSearched S content) → Contains content (best_tuple b) → b ≡ h.best
best_only S content b h at =
    let w = best_tuple b in
    let here = counts content w at.0 at.1 at.2 in
    let all = h.tuples (is_it w) in
    let first = sum_by-cons (is_it w) (best_tuple h.best) (map node_tuple h.opens) in
    let none = no_best b h.opens in
    sym (same_best h.best b (is_it-found w (best_tuple h.best) (omega arith)))

-- the open nodes are counted
open_length : (opens : List OpenNode) → open_count (map node_tuple opens) ≡ length opens
open_length [] = refl
open_length (o ∷ os) =
    let parts = sum_by-cons (λ (t : List FieldValue). cond (is_open t) 1 0) (node_tuple o) (map node_tuple os) in
    let rest = open_length os in
    omega arith

-- the content has as many tuples of open nodes as the law names
pub open_counted : (S : Part) (content : Content) → (h : IsSearched S content) → open_count content ≡ length h.opens
open_counted S content h =
    let all = h.tuples (λ (t : List FieldValue). cond (is_open t) 1 0) in
    let first = sum_by-cons (λ (t : List FieldValue). cond (is_open t) 1 0) (best_tuple h.best) (map node_tuple h.opens) in
    let counted = open_length h.opens in
    omega arith

-- where no node is open, no completion of the root costs less than the best permutation
no_opens : (opens : List OpenNode) (P : OpenNode → Type 0) → length opens ≡ 0 → All P opens
no_opens [] P none = All-nil P
no_opens (o ∷ os) P none = absurd (omega arith)

-- where no node is open, no completion of the root costs less than the best permutation
pub optimal : (S : Part) (content : Content) → (h : IsSearched S content) → open_count content ≡ 0 → IsClosed S.instance S.root h.best.cost
optimal S content h none =
    let counted = open_counted S content h in
    h.covers.below h.best.cost (omega (arith, ints)) (no_opens h.opens (IsAbove S.instance h.best.cost) (omega arith))
