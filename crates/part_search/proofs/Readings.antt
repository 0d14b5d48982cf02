-- Tuples say which open node or best permutation they are of.
use Rattle.std.proofs.Common.{◌≡◌, ◌≢◌, ℕ, zero, suc, ◌≤◌, ◌<◌, ◌⊎◌, inl, inr, Bool, true, false, cond, List, [], ◌∷◌, length, get_or, map, ℤ, pos, refl, ap, ap₂, ◌∙◌, arith}
use Rattle.std.specs.Prelude.{Contains}
use Rattle.std.specs.List.{sum_by}
use Rattle.std.proofs.lemmas.Bool.{cond_both}
use Rattle.std.proofs.lemmas.List.Sums.{sum_by-cons}
use Rattle.qap_cost.specs.Placement.{Placement}
use Rattle.subtree_search.specs.Best.{Best}
use Rattle.tuple_match.specs.Equality.{tuple_eq, Decides-tuple_eq}
use Rattle.tuple_match.specs.FieldValue.{FieldValue, number, word, numbers}
use Rattle.part_search.specs.Tuples.{OpenNode, best_tuple, node_tuple}
use Rattle.part_search.proofs.Lists.{found_in, map_pos-same}

-- the first byte of the word that a tuple begins with
abbrev pub tag : List FieldValue → ℕ
tag (word bytes ∷ fields) = get_or bytes 0 0
tag _ = 0

abbrev listed : FieldValue → List ℤ
listed (numbers ns) = ns
listed _ = []

abbrev counted : FieldValue → ℤ
counted (number n) = n
counted _ = pos 0

-- the list and the number in a place of a tuple
abbrev pub list_at : ℕ → List FieldValue → List ℤ
list_at k t = listed (get_or t k (number (pos 0)))

-- the number in a field of a tuple
abbrev pub number_at : ℕ → List FieldValue → ℤ
number_at k t = counted (get_or t k (number (pos 0)))

-- two open nodes of one size have one tuple only where they are one
pub same_open : (a b : OpenNode) → a.node.size ≡ b.node.size → node_tuple a ≡ node_tuple b → a ≡ b
same_open a b size e =
    let facilities = map_pos-same a.node.facilities b.node.facilities (ap (list_at 1) e) in
    let places = map_pos-same a.node.places b.node.places (ap (list_at 2) e) in
    let value : a.value ≡ b.value = ap (number_at 3) e in
    let node : a.node ≡ b.node =
    ap (λ (n : ℕ). record { size = n; facilities = a.node.facilities; places = a.node.places }) size
    ∙ ap₂ (λ (fs ks : List ℕ). record { size = b.node.size; facilities = fs; places = ks }) facilities places in
    ap₂ (λ (x : Placement) (v : ℤ). record { node = x; value = v }) node value

-- so do two best permutations
pub same_best : (a b : Best) → best_tuple a ≡ best_tuple b → a ≡ b
same_best a b e =
    ap₂ (λ (p : List ℕ) (c : ℤ). record { permutation = p; cost = c }) (map_pos-same a.permutation b.permutation (ap (list_at 2) e)) (ap (number_at 1) e)

-- 1 at one tuple, 0 at the others
abbrev pub is_it : List FieldValue → List FieldValue → ℕ
is_it wanted t = cond (tuple_eq t wanted) 1 0

one_from : (b : Bool) → 1 ≤ cond b 1 0 → b ≡ true
one_from true h = refl
one_from false h = absurd (omega arith)

-- a tuple that counts as the wanted one is that
pub is_it-found : (wanted t : List FieldValue) → 1 ≤ is_it wanted t → t ≡ wanted
is_it-found wanted t h = (Decides-tuple_eq t wanted).0 (one_from (tuple_eq t wanted) h)

-- a tuple counts as itself
pub is_it-itself : (t : List FieldValue) → is_it t t ≡ 1
is_it-itself t = ap (λ b. cond b 1 0) ((Decides-tuple_eq t t).1 refl)

-- a tuple of another kind does not
pub is_it-other : (wanted t : List FieldValue) → tag t ≢ tag wanted → is_it wanted t ≡ 0
is_it-other wanted t different =
    cond_both (tuple_eq t wanted) 1 0 (λ (n : ℕ). n ≡ 0) (λ e. absurd (different (ap tag ((Decides-tuple_eq t wanted).0 e)))) (λ e. refl)

-- a tuple that is among others is counted there
pub counts : (xs : List (List FieldValue)) (t : List FieldValue) (k : ℕ) → k < length xs → get_or xs k t ≡ t → 1 ≤ sum_by (is_it t) xs
counts [] t k below is = absurd (omega arith)
counts (x ∷ xs) t zero below is =
    let parts = sum_by-cons (is_it t) x xs in
    let itself = is_it-itself t in
    let here = ap (is_it t) is in
    omega arith
counts (x ∷ xs) t (suc k) below is =
    let parts = sum_by-cons (is_it t) x xs in
    let rest = counts xs t k (omega arith) is in
    omega arith

-- and one that is counted there is among them
pub contained : (xs : List (List FieldValue)) (w : List FieldValue) → 1 ≤ sum_by (is_it w) xs → Contains xs w
contained [] w found = absurd (omega arith)
contained (x ∷ xs) w found =
    elim (found_in (is_it w) (x ∷ []) xs found) as
    (λ (_ : (1 ≤ sum_by (is_it w) (x ∷ [])) ⊎ (1 ≤ sum_by (is_it w) xs)). Contains (x ∷ xs) w) [
      | inl here ↦ (zero, omega arith, is_it-found w x (omega arith))
      | inr there ↦ let rest = contained xs w there in let below = rest.1 in (suc rest.0, omega arith, rest.2)
    ]

-- among the tuples of open nodes is none of a best permutation
pub no_best : (b : Best) (opens : List OpenNode) → sum_by (is_it (best_tuple b)) (map node_tuple opens) ≡ 0
no_best b [] = refl
no_best b (o ∷ os) =
    let parts = sum_by-cons (is_it (best_tuple b)) (node_tuple o) (map node_tuple os) in
    let none = no_best b os in
    let other = is_it-other (best_tuple b) (node_tuple o) (λ (e : 110 ≡ 98). omega arith) in
    omega arith
