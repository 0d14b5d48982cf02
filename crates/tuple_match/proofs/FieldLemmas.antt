use Rattle.std.proofs.Common.{◌≡◌, refl, Bool, List, [], ◌∷◌}
use Rattle.std.specs.Prelude.{map, All, Result, Ok, Err, IfOk, MatchResult}
use Rattle.std.specs.List.{AllZip}
use Rattle.std.specs.Cmp.Lexicographic.{pointwise}
use Rattle.std.proofs.lemmas.List.Elements.{All-head, All-tail, All-nil, All-cons}

-- what holds of each element of `map f xs` holds of `f x` for each x
pub All-from_map : {X Y : Type 0} (P : Y → Type 0) (f : X → Y) (xs : List X) → All P (map f xs) → All (λ x. P (f x)) xs
All-from_map P f [] h = All-nil (λ x. P (f x))
All-from_map P f (x ∷ xs) h =
    All-cons (λ y. P (f y)) x xs (All-head P (f x) (map f xs) h) (All-from_map P f xs (All-tail P (f x) (map f xs) h))

-- lists whose elements have the same views have the same view
pub map-AllZip : {X Y : Type 0} (f : X → Y) (xs ys : List X) → AllZip (λ x y. f y ≡ f x) xs ys → map f ys ≡ map f xs
map-AllZip f [] [] h = refl
map-AllZip f [] (y ∷ ys) h = absurd h
map-AllZip f (x ∷ xs) [] h = absurd h
map-AllZip f (x ∷ xs) (y ∷ ys) h =
    let head : f y ≡ f x = h.0 in
    let tail : map f ys ≡ map f xs = map-AllZip f xs ys h.1 in
    cc

-- a test by views, element by element, is that test of the lists of views
pub pointwise-map : {X Y : Type 0} (E : Y → Y → Bool) (f : X → Y) (xs ys : List X) → pointwise (λ x y. E (f x) (f y)) xs ys ≡ pointwise E (map f xs) (map f ys)
pointwise-map E f [] [] = refl
pointwise-map E f [] (y ∷ ys) = refl
pointwise-map E f (x ∷ xs) [] = refl
pointwise-map E f (x ∷ xs) (y ∷ ys) =
    let tail : pointwise (λ x y. E (f x) (f y)) xs ys ≡ pointwise E (map f xs) (map f ys) = pointwise-map E f xs ys in
    cc

-- what follows from an answer's fact holds of the answer too
pub IfOk-from_cases : {A E : Type 0} (P Q : A → Type 0) (R : E → Type 0) (r : Result A E) → MatchResult r P R → ((x : A) → P x → Q x) → IfOk r Q
IfOk-from_cases P Q R (Ok x) h all = all x h
IfOk-from_cases P Q R (Err e) h all = tt
