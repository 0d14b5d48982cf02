-- What is found among the tuples of a search.
use Rattle.std.proofs.Common.{◌≡◌, ℕ, zero, suc, ◌≤◌, ◌<◌, ◌⊎◌, inl, inr, true, List, [], ◌∷◌, length, get_or, ℤ, sym, ap, ◌∙◌, arith}
use Rattle.std.specs.Prelude.{Contains}
use Rattle.std.specs.List.{sum_by}
use Rattle.std.proofs.lemmas.Bool.{false≢true}
use Rattle.std.proofs.lemmas.List.Sums.{sum_by-cons}
use Rattle.qap_cost.specs.Placement.{Placement, IsPlacement, free_locations, placing}
use Rattle.qap_cert.specs.Valid.{ClosesPart}
use Rattle.tuple_match.specs.FieldValue.{FieldValue}
use Rattle.qap_search.specs.Law.CutTree.{IsCutTree}
use Rattle.qap_search.specs.Tuples.Found.{IsBestFound, IsOpenNode, is_best}
use Rattle.qap_search.specs.Tuples.Piece.{best_tuple, closed_tuple, is_open, node_tuple, pieces, pieces_of_all, split_tuple}
use Rattle.qap_search.specs.Law.Search.{Search}
use Rattle.qap_search.specs.Law.SearchTree.{SearchTree, open_node, split_node, closed_node, SearchTrees, no_trees, tree, IsTree, AreTrees}
use Rattle.qap_search.proofs.CertificateLemmas.Certificates.{children_placed}
use Rattle.qap_search.proofs.TupleLemmas.TupleReadings.{found_in, is_it, is_it-found, is_it-itself}

-- a tuple that stands at some place of a list is found there
pub found_from_Contains : (xs : List (List FieldValue)) (t : List FieldValue) (k : ℕ) → k < length xs → get_or xs k t ≡ t → 1 ≤ sum_by (is_it t) xs
found_from_Contains [] t k below is = absurd (omega arith)
found_from_Contains (x ∷ xs) t zero below is =
    let parts = sum_by-cons (is_it t) x xs in
    let itself = is_it-itself t in
    let here = ap (is_it t) is in
    omega arith
found_from_Contains (x ∷ xs) t (suc k) below is =
    let parts = sum_by-cons (is_it t) x xs in
    let rest = found_from_Contains xs t k (omega arith) is in
    omega arith

-- what is counted among tuples is one of them
pub contained : (xs : List (List FieldValue)) (w : List FieldValue) → 1 ≤ sum_by (is_it w) xs → Contains xs w
contained [] w found = absurd (omega arith)
contained (x ∷ xs) w found =
    elim (found_in (is_it w) (x ∷ []) xs found) as
    (λ (_ : (1 ≤ sum_by (is_it w) (x ∷ [])) ⊎ (1 ≤ sum_by (is_it w) xs)). Contains (x ∷ xs) w) [
      | inl here ↦ (zero, omega arith, is_it-found w x (omega arith))
      | inr there ↦ let rest = contained xs w there in let below = rest.1 in (suc rest.0, omega arith, rest.2)
    ]

-- the tuple is that of a split or a closed node
abbrev pub IsDecidedTuple : List FieldValue → Type 0
IsDecidedTuple w = ((x : Placement) × (f : ℕ) × (w ≡ split_tuple x f)) ⊎ ((x : Placement) × (u : List ℤ) × (v : List ℤ) × (w ≡ closed_tuple x u v))

mutual
  -- a tuple of a tree is that of an open node, or another
  pub piece_found : (P : Placement → List ℤ → List ℤ → Type 0) (n : ℕ) (w : List FieldValue) (t : SearchTree) (y : Placement) → IsPlacement y → y.size ≡ n → IsTree P y t → 1 ≤ sum_by (is_it w) (pieces y t) → IsOpenNode n w ⊎ IsDecidedTuple w
  piece_found P n w open_node y placed size h found =
      inl (record { node = y; placement = placed; size = size; is = sym (is_it-found w (node_tuple y) (omega arith)) })
  piece_found P n w (closed_node u v) y placed size h found = inr (inr (y, u, v, sym (is_it-found w (closed_tuple y u v) (omega arith))))
  piece_found P n w (split_node f children) y placed size h found =
      elim (found_in (is_it w) (split_tuple y f ∷ []) (pieces_of_all y f (free_locations y) children) found) as
      (λ (_ : (1 ≤ sum_by (is_it w) (split_tuple y f ∷ [])) ⊎ (1 ≤ sum_by (is_it w) (pieces_of_all y f (free_locations y) children))). IsOpenNode n w ⊎ IsDecidedTuple w) [
        | inl here ↦ inr (inl (y, f, sym (is_it-found w (split_tuple y f) (omega arith))))
        | inr there ↦ piece_found_among P n w children y f (free_locations y) (children_placed y f placed h.1) size h.2 there
      ]

  piece_found_among : (P : Placement → List ℤ → List ℤ → Type 0) (n : ℕ) (w : List FieldValue) (ts : SearchTrees) (y : Placement) (f : ℕ) (ks : List ℕ) → ((j : ℕ) → j < length ks → IsPlacement (placing y f (get_or ks j 0))) → y.size ≡ n → AreTrees P y f ks ts → 1 ≤ sum_by (is_it w) (pieces_of_all y f ks ts) → IsOpenNode n w ⊎ IsDecidedTuple w
  piece_found_among P n w no_trees y f [] placed size h found = absurd (omega arith)
  piece_found_among P n w no_trees y f (k ∷ ks) placed size h found = absurd h
  piece_found_among P n w (tree t rest) y f [] placed size h found = absurd h
  piece_found_among P n w (tree t rest) y f (k ∷ ks) placed size h found =
      elim (found_in (is_it w) (pieces (placing y f k) t) (pieces_of_all y f ks rest) found) as
      (λ (_ : (1 ≤ sum_by (is_it w) (pieces (placing y f k) t)) ⊎ (1 ≤ sum_by (is_it w) (pieces_of_all y f ks rest))). IsOpenNode n w ⊎ IsDecidedTuple w) [
        | inl here ↦ piece_found P n w t (placing y f k) (placed 0 (omega arith)) size h.0 here
        | inr there ↦ piece_found_among P n w rest y f ks (λ j less. placed (suc j) (omega arith)) size h.1 there
      ]

pub not_open : (w : List FieldValue) → IsDecidedTuple w → is_open w ≡ true → ⊥
not_open w (inl split) h = false≢true (sym (ap is_open split.2) ∙ h)
not_open w (inr closed) h = false≢true (sym (ap is_open closed.3) ∙ h)

not_best : (n : ℕ) (w : List FieldValue) → IsOpenNode n w ⊎ IsDecidedTuple w → is_best w ≡ true → ⊥
not_best n w (inl node) h = false≢true (sym (ap is_best node.is) ∙ h)
not_best n w (inr (inl split)) h = false≢true (sym (ap is_best split.2) ∙ h)
not_best n w (inr (inr closed)) h = false≢true (sym (ap is_best closed.3) ∙ h)

-- where the tuple is found: it is that of the best permutation, or of a node
in_cut_tree : (S : Search) (content : List (List FieldValue)) (commits : ℕ) (w : List FieldValue) → IsCutTree S content commits → Contains content w → IsBestFound S.instance w ⊎ (IsOpenNode S.instance.size w ⊎ IsDecidedTuple w)
in_cut_tree S content commits w h at =
    let I = S.instance in
    let root = S.root in
    let best = best_tuple h.cost h.permutation in
    let here = found_from_Contains content w at.0 at.1 at.2 in
    let apart = h.taken_apart (is_it w) in
    elim (found_in (is_it w) (best ∷ []) (pieces root h.tree) (omega arith)) as
    (λ (_ : (1 ≤ sum_by (is_it w) (best ∷ [])) ⊎ (1 ≤ sum_by (is_it w) (pieces root h.tree))). IsBestFound I w ⊎ (IsOpenNode I.size w ⊎ IsDecidedTuple w)) [
      | inl first ↦ inl (record { best = record { cost = h.cost; permutation = h.permutation }; permutes = h.permutes; costs = h.costs; is = sym (is_it-found w best (omega arith)) })
      | inr later ↦ inr (piece_found (ClosesPart I h.cost) I.size w h.tree root h.root h.same_size h.valid later)
    ]

-- a tuple of a cut tree that the template of open nodes matches is that of an open node
pub node_found : (S : Search) (content : List (List FieldValue)) (commits : ℕ) (w : List FieldValue) → IsCutTree S content commits → Contains content w → is_open w ≡ true → IsOpenNode S.instance.size w
node_found S content commits w h at asked =
    let I = S.instance in
    elim (in_cut_tree S content commits w h at) as (λ (_ : IsBestFound I w ⊎ (IsOpenNode I.size w ⊎ IsDecidedTuple w)). IsOpenNode I.size w) [
      | inl best ↦ absurd (false≢true (sym (ap is_open best.is) ∙ asked))
      | inr piece ↦ elim piece as (λ (_ : IsOpenNode I.size w ⊎ IsDecidedTuple w). IsOpenNode I.size w) [ inl node ↦ node | inr decided ↦ absurd (not_open w decided asked) ]
    ]

-- one that the template of the best permutation matches is that of a permutation and its cost
pub best_found_there : (S : Search) (content : List (List FieldValue)) (commits : ℕ) (w : List FieldValue) → IsCutTree S content commits → Contains content w → is_best w ≡ true → IsBestFound S.instance w
best_found_there S content commits w h at is =
    let I = S.instance in
    elim (in_cut_tree S content commits w h at) as (λ (_ : IsBestFound I w ⊎ (IsOpenNode I.size w ⊎ IsDecidedTuple w)). IsBestFound I w) [
      | inl best ↦ best
      | inr piece ↦ absurd (not_best I.size w piece is)
    ]
