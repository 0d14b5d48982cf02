-- Tuples tell what they are of: which node, which facility, which duals, which permutation.
use Rattle.std.proofs.Common.{◌≡◌, ◌≢◌, ℕ, ◌≤◌, ◌⊎◌, Bool, true, false, cond, List, [], ◌∷◌, ◌++◌, length, get_or, map, ℤ, pos, negsuc, refl, sym, ap, ap₂, ◌∙◌, arith, length-append}
use Rattle.std.specs.List.{sum_by}
use Rattle.std.proofs.lemmas.Bool.{cond_both}
use Rattle.std.proofs.lemmas.List.Sums.{sum_by-append}
use Rattle.qap_cost.specs.Placement.{Placement, placing}
use Rattle.tuple_match.specs.Equality.{tuple_eq, Decides-tuple_eq}
use Rattle.tuple_match.specs.FieldValue.{FieldValue, number, word, numbers}
use Rattle.number_list.specs.Turns.{by_turns}
use Rattle.qap_search.specs.Tuples.Piece.{node_list}

-- the first byte of the word that a tuple begins with
abbrev pub tag : List FieldValue → ℕ
tag (word bytes ∷ fields) = get_or bytes 0 0
tag _ = 0

-- the list in the second place of a tuple, in the third and in the fourth; and the numbers there
abbrev listed : FieldValue → List ℤ
listed (numbers ns) = ns
listed _ = []

abbrev counted : FieldValue → ℤ
counted (number n) = n
counted _ = pos 0

-- the list in place k of a tuple, or an empty one
abbrev pub list_at : ℕ → List FieldValue → List ℤ
list_at k t = listed (get_or t k (number (pos 0)))

-- the number in place k of a tuple, or 0
abbrev pub number_at : ℕ → List FieldValue → ℤ
number_at k t = counted (get_or t k (number (pos 0)))

-- a number as a natural one, where it isn't negative
abbrev pub natural : ℤ → ℕ
natural (pos n) = n
natural (negsuc n) = 0

abbrev behind_two : List ℤ → List ℤ
behind_two (x ∷ y ∷ zs) = zs
behind_two _ = []

abbrev behind_one : List ℤ → List ℤ
behind_one (x ∷ xs) = xs
behind_one _ = []

-- a node's list gives the node back
pub by_turns-same : (fs ks gs ls : List ℕ) → length ks ≡ length fs → length ls ≡ length gs → by_turns fs ks ≡ by_turns gs ls → (fs ≡ gs) × (ks ≡ ls)
by_turns-same [] [] [] [] h j e = (refl, refl)
by_turns-same [] (k ∷ ks) gs ls h j e = absurd (omega arith)
by_turns-same (f ∷ fs) [] gs ls h j e = absurd (omega arith)
by_turns-same fs ks [] (l ∷ ls) h j e = absurd (omega arith)
by_turns-same fs ks (g ∷ gs) [] h j e = absurd (omega arith)
by_turns-same [] [] (g ∷ gs) (l ∷ ls) h j e =
    let long : 0 ≡ length (by_turns (g ∷ gs) (l ∷ ls)) = ap length e in
    absurd (omega arith)
by_turns-same (f ∷ fs) (k ∷ ks) [] [] h j e =
    let long : length (by_turns (f ∷ fs) (k ∷ ks)) ≡ 0 = ap length e in
    absurd (omega arith)
by_turns-same (f ∷ fs) (k ∷ ks) (g ∷ gs) (l ∷ ls) h j e =
    let first : f ≡ g = ap (λ xs. natural (get_or xs 0 (pos 0))) e in
    let second : k ≡ l = ap (λ xs. natural (get_or (behind_one xs) 0 (pos 0))) e in
    let rest = by_turns-same fs ks gs ls (omega arith) (omega arith) (ap behind_two e) in
    (ap₂ (λ (x : ℕ) (xs : List ℕ). x ∷ xs) first rest.0, ap₂ (λ (x : ℕ) (xs : List ℕ). x ∷ xs) second rest.1)

-- a node has a location for each facility that is placed
pub record IsNode (n : ℕ) (x : Placement) : Type 0 where
  pub size : x.size ≡ n
  pub paired : length x.places ≡ length x.facilities

-- a node with one pair more is a node of the same size
pub IsNode-placing : (n : ℕ) (x : Placement) (f k : ℕ) → IsNode n x → IsNode n (placing x f k)
IsNode-placing n x f k h =
    let size = h.size in
    let paired = h.paired in
    let facilities = length-append x.facilities (f ∷ []) in
    let places = length-append x.places (k ∷ []) in
    record { size = h.size; paired = omega arith }

-- two nodes with the same list are one
pub same_node : (n : ℕ) (x y : Placement) → IsNode n x → IsNode n y → node_list x ≡ node_list y → x ≡ y
same_node n x y hx hy e =
    let parts = by_turns-same x.facilities x.places y.facilities y.places hx.paired hy.paired e in
    let size = hx.size ∙ sym hy.size in
    let make : ℕ → List ℕ → List ℕ → Placement = λ m fs ks. record { size = m; facilities = fs; places = ks } in
    ap (λ m. make m x.facilities x.places) size ∙ ap₂ (make y.size) parts.0 parts.1

-- a permutation's list gives the permutation back
pub map_pos-same : (p q : List ℕ) → map pos p ≡ map pos q → p ≡ q
map_pos-same [] [] e = refl
map_pos-same [] (l ∷ q) e = let long : 0 ≡ length (map pos (l ∷ q)) = ap length e in absurd (omega arith)
map_pos-same (k ∷ p) [] e = let long : length (map pos (k ∷ p)) ≡ 0 = ap length e in absurd (omega arith)
map_pos-same (k ∷ p) (l ∷ q) e =
    let first : k ≡ l = ap (λ xs. natural (get_or xs 0 (pos 0))) e in
    ap₂ (λ (x : ℕ) (xs : List ℕ). x ∷ xs) first (map_pos-same p q (ap behind_one e))

-- 1 at one tuple, 0 at the others
abbrev pub is_it : List FieldValue → List FieldValue → ℕ
is_it wanted t = cond (tuple_eq t wanted) 1 0

one_from : (b : Bool) → 1 ≤ cond b 1 0 → b ≡ true
one_from true h = refl
one_from false h = absurd (omega arith)

-- a tuple that is counted as the wanted one is that one
pub is_it-found : (wanted t : List FieldValue) → 1 ≤ is_it wanted t → t ≡ wanted
is_it-found wanted t h = (Decides-tuple_eq t wanted).0 (one_from (tuple_eq t wanted) h)

-- a tuple is counted as itself
pub is_it-itself : (t : List FieldValue) → is_it t t ≡ 1
is_it-itself t = ap (λ b. cond b 1 0) ((Decides-tuple_eq t t).1 refl)

-- a tuple whose word begins with another byte isn't counted
pub is_it-other : (wanted t : List FieldValue) → tag t ≢ tag wanted → is_it wanted t ≡ 0
is_it-other wanted t different =
    cond_both (tuple_eq t wanted) 1 0 (λ (n : ℕ). n ≡ 0) (λ e. absurd (different (ap tag ((Decides-tuple_eq t wanted).0 e)))) (λ e. refl)

-- what weighs something in two lists weighs something in one of them
pub found_in : {X : Type 0} (f : X → ℕ) (xs ys : List X) → 1 ≤ sum_by f (xs ++ ys) → (1 ≤ sum_by f xs) ⊎ (1 ≤ sum_by f ys)
found_in f xs ys h =
    let both = sum_by-append f xs ys in
    grind (arith, both)
