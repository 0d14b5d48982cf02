-- Words and what they spell, place by place.
use Rattle.std.proofs.Common.{◌≡◌, ℕ, ◌+◌, ◌<◌, List, [], ◌∷◌, ◌++◌, length, map, take, Option, Some, None, MatchOption, sym, subst, ap, ◌∙◌, slice_get, get_or}
use Rattle.std.specs.Option.{IsSomeAnd}
use Rattle.std.specs.List.{AllZip}
use Rattle.std.proofs.lemmas.List.{take_more, get_or-map, length-map}
use Rattle.std.proofs.lemmas.Option.{slice_get-get_or}
use Rattle.std.proofs.lemmas.Slice.Zip.{AllZip-left}

-- one more pair at the end
AllZip-more : {A B : Type 0} (R : A → B → Type 0) (xs : List A) (ys : List B) (x : A) (y : B) → AllZip R xs ys → R x y
    → AllZip R (xs ++ x ∷ []) (ys ++ y ∷ [])
AllZip-more R [] [] x y pairs last = (last, tt)
AllZip-more R [] (b ∷ ys) x y pairs last = absurd pairs
AllZip-more R (a ∷ xs) [] x y pairs last = absurd pairs
AllZip-more R (a ∷ xs) (b ∷ ys) x y pairs last = (pairs.0, AllZip-more R xs ys x y pairs.1 last)

-- the words before place i spell the values, and the word there spells one more
pub spelled_more : {W X V : Type 0} (f : W → X) (R : X → V → Type 0) (words : List W) (values : List V) (i : ℕ) (d : W) (v : V)
    → AllZip R (take i (map f words)) values → i < length words → R (f (get_or words i d)) v → AllZip R (take (i + 1) (map f words)) (values ++ v ∷ [])
spelled_more f R words values i d v pairs there spelled =
    let same : take (i + 1) (map f words) ≡ take i (map f words) ++ f (get_or words i d) ∷ [] =
    take_more (map f words) i (f d) (subst (λ n. i < n) (sym (length-map words f)) there)
    ∙ ap (λ x. take i (map f words) ++ x ∷ []) (get_or-map f words i d (f d) there) in
    subst (λ l. AllZip R l (values ++ v ∷ [])) (sym same) (AllZip-more R (take i (map f words)) values (f (get_or words i d)) v pairs spelled)

no_pair : {V : Type 0} (o : Option V) (P : V → Type 0) → ((v : V) → P v → ⊥) → IsSomeAnd o P → ⊥
no_pair (Some v) P none held = none v held
no_pair None P none held = held

-- where a word spells nothing, the words spell no values
pub unspelled : {W X V : Type 0} (f : W → X) (R : X → V → Type 0) (words : List W) (i : ℕ) (d : W) → i < length words
    → ((v : V) → R (f (get_or words i d)) v → ⊥) → (values : List V) → AllZip R (map f words) values → ⊥
unspelled {V = V} f R words i d there none values pairs =
    let within = subst (λ n. i < n) (sym (length-map words f)) there in
    let at = slice_get-get_or (map f words) i (f d) within ∙ ap Some (get_or-map f words i d (f d) there) in
    let paired = AllZip-left R (map f words) values pairs i in
    no_pair (slice_get values i) (R (f (get_or words i d))) none
    (subst (λ o. MatchOption o (Unit {0}) (λ x. IsSomeAnd (slice_get values i) (R x))) at paired)
