-- Items in another order, with what each is paired with.
use Rattle.std.proofs.Common.{◌≡◌, ℕ, ◌+◌, ◌≤◌, ◌⊎◌, inl, inr, List, [], ◌∷◌, ap, subst, refl, arith}
use Rattle.std.specs.List.{AllZip, sum_by}
use Rattle.std.proofs.lemmas.List.Sums.{sum_by-cons}
use Rattle.space_txn.specs.Content.{SameItems}
use Rattle.tuple_match.specs.FieldValue.{FieldValue}
use Rattle.qap_search.proofs.TupleLemmas.TupleReadings.{found_in, is_it, is_it-found, is_it-itself}

-- one pair, whose second is z, and the other pairs
record IsPicked (R : List FieldValue → List FieldValue → Type 0) (xs ys : List (List FieldValue)) (z : List FieldValue) : Type 0 where
  first : List FieldValue
  related : R first z
  firsts : List (List FieldValue)
  seconds : List (List FieldValue)
  others : AllZip R firsts seconds
  left : (f : List FieldValue → ℕ) → sum_by f xs ≡ f first + sum_by f firsts
  right : (f : List FieldValue → ℕ) → sum_by f ys ≡ f z + sum_by f seconds

picked : (R : List FieldValue → List FieldValue → Type 0) (z : List FieldValue) (xs ys : List (List FieldValue)) → AllZip R xs ys → 1 ≤ sum_by (is_it z) ys → IsPicked R xs ys z
picked R z [] [] h found = absurd (omega arith)
picked R z [] (y ∷ ys) h found = absurd h
picked R z (x ∷ xs) [] h found = absurd h
picked R z (x ∷ xs) (y ∷ ys) h found =
    elim (found_in (is_it z) (y ∷ []) ys found) as
    (λ (_ : (1 ≤ sum_by (is_it z) (y ∷ [])) ⊎ (1 ≤ sum_by (is_it z) ys)). IsPicked R (x ∷ xs) (y ∷ ys) z) [
      | inl here ↦
          let is = is_it-found z y (omega arith) in
          record {
            first = x;
            related = subst (R x) is h.0;
            firsts = xs;
            seconds = ys;
            others = h.1;
            left = λ f. sum_by-cons f x xs;
            right = λ f. let parts = sum_by-cons f y ys in let same = ap f is in omega arith;
          }
      | inr there ↦
          let p = picked R z xs ys h.1 there in
          record {
            first = p.first;
            related = p.related;
            firsts = x ∷ p.firsts;
            seconds = y ∷ p.seconds;
            others = (h.0, p.others);
            left = λ f. let rest = p.left f in let old = sum_by-cons f x xs in let new = sum_by-cons f x p.firsts in omega arith;
            right = λ f. let rest = p.right f in let old = sum_by-cons f y ys in let new = sum_by-cons f y p.seconds in omega arith;
          }
    ]

-- where the seconds stand in another order, so can the firsts
pub reordered : (R : List FieldValue → List FieldValue → Type 0) (zs xs ys : List (List FieldValue)) → AllZip R xs ys → SameItems ys zs → (ws : List (List FieldValue)) × SameItems xs ws × AllZip R ws zs
reordered R [] [] [] h same = ([], λ f. refl, tt)
reordered R [] [] (y ∷ ys) h same = absurd h
reordered R [] (x ∷ xs) [] h same = absurd h
reordered R [] (x ∷ xs) (y ∷ ys) h same =
    let one = same (λ _. 1) in
    let parts = sum_by-cons (λ (_ : List FieldValue). 1) y ys in
    absurd (omega arith)
reordered R (z ∷ zs) xs ys h same =
    let here = same (is_it z) in
    let itself = is_it-itself z in
    let parts = sum_by-cons (is_it z) z zs in
    let p = picked R z xs ys h (omega arith) in
    let r = reordered R zs p.firsts p.seconds p.others (λ f. let right = p.right f in let both = same f in let all = sum_by-cons f z zs in omega arith) in
    (p.first ∷ r.0, λ f. let left = p.left f in let rest = r.1 f in let all = sum_by-cons f p.first r.0 in omega arith, (p.related, r.2))

-- pairs the other way round
pub flipped : (R : List FieldValue → List FieldValue → Type 0) (xs ys : List (List FieldValue)) → AllZip R xs ys → AllZip (λ a b. R b a) ys xs
flipped R [] [] h = tt
flipped R [] (y ∷ ys) h = absurd h
flipped R (x ∷ xs) [] h = absurd h
flipped R (x ∷ xs) (y ∷ ys) h = (h.0, flipped R xs ys h.1)
