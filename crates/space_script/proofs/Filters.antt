-- Filters of what a function makes of a list.
use Rattle.std.proofs.Common.{◌≡◌, Bool, true, false, List, [], ◌∷◌, map, filter, cond, refl, ap}

map-cond : {A B : Type 0} (f : A → B) (b : Bool) (x : A) (xs : List A) (ys : List B) → map f xs ≡ ys
    → map f (cond b (x ∷ xs) xs) ≡ cond b (f x ∷ ys) ys
map-cond f true x xs ys same = ap (λ l. f x ∷ l) same
map-cond f false x xs ys same = same

-- what a test of the values keeps
pub map-filter : {A B : Type 0} (f : A → B) (test : B → Bool) (xs : List A) → map f (filter (λ x. test (f x)) xs) ≡ filter test (map f xs)
map-filter f test [] = refl
map-filter f test (x ∷ xs) = map-cond f (test (f x)) x (filter (λ y. test (f y)) xs) (filter test (map f xs)) (map-filter f test xs)
