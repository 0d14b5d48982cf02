use Rattle.std.proofs.Common.{◌≡◌, ℕ, ◌<◌, Bool, true, false, IsTrue, List, [], ◌∷◌, length, arith, rules}
use Rattle.std.specs.Prelude.{map, All}
use Rattle.std.specs.Bool.{MatchBool}
use Rattle.std.specs.List.{AllWithin, AllZip, HoldsAt, zip}
use Rattle.std.proofs.lemmas.Iterator.Search.{true_from_All}
use Rattle.std.proofs.lemmas.List.Elements.{All-head, All-tail, All-nil, All-cons, All-from_all_within}

-- a relation of the views of each pair, at two lists of one length, is that relation of the lists of views
pub AllZip-from_pairs : {X Y A B : Type 0} (R : A → B → Type 0) (f : X → A) (g : Y → B) (xs : List X) (ys : List Y) → length xs ≡ length ys → All (λ (p : X × Y). R (f p.0) (g p.1)) (zip xs ys) → AllZip R (map f xs) (map g ys)
AllZip-from_pairs R f g [] [] e h = tt
AllZip-from_pairs R f g [] (y ∷ ys) e h = absurd (omega arith)
AllZip-from_pairs R f g (x ∷ xs) [] e h = absurd (omega arith)
AllZip-from_pairs {X} {Y} R f g (x ∷ xs) (y ∷ ys) e h =
    let P : X × Y → Type 0 = λ p. R (f p.0) (g p.1) in
    (All-head P (x, y) (zip xs ys) h, AllZip-from_pairs R f g xs ys (omega arith) (All-tail P (x, y) (zip xs ys) h))

-- and back
pub pairs_from_AllZip : {X Y A B : Type 0} (R : A → B → Type 0) (f : X → A) (g : Y → B) (xs : List X) (ys : List Y) → AllZip R (map f xs) (map g ys) → All (λ (p : X × Y). R (f p.0) (g p.1)) (zip xs ys)
pairs_from_AllZip {X} {Y} R f g [] [] h = All-nil (λ (p : X × Y). R (f p.0) (g p.1))
pairs_from_AllZip R f g [] (y ∷ ys) h = absurd h
pairs_from_AllZip R f g (x ∷ xs) [] h = absurd h
pairs_from_AllZip {X} {Y} R f g (x ∷ xs) (y ∷ ys) h =
    let P : X × Y → Type 0 = λ p. R (f p.0) (g p.1) in
    All-cons P (x, y) (zip xs ys) h.0 (pairs_from_AllZip R f g xs ys h.1)

-- what `all` answered, where it looked at each element: whether each has the property
pub all_decides : {X : Type 0} (P : X → Type 0) (xs : List X) (r : Bool) → MatchBool r (AllWithin P xs 0 (length xs)) ((k : ℕ) × (k < length xs) × HoldsAt (λ x. P x → ⊥) xs k) → (IsTrue r → All P xs) × (All P xs → IsTrue r)
all_decides P xs true h = (λ t. All-from_all_within P xs h, λ all. search rules)
all_decides P xs false h = (λ t. absurd (search rules), λ all. true_from_All P (λ x. P x → ⊥) false xs (λ x p n. n p) h all)
