-- Facts that hold of each element of a list, taken apart and put together; and numbers that a list keeps.
use Rattle.std.proofs.Common.{◌≡◌, ℕ, zero, suc, ◌+◌, ◌<◌, ◌≤◌, ◌⊎◌, Result, Ok, Err, IfOk, List, [], ◌∷◌, ◌++◌, length, get_or, map, ℤ, pos, negsuc, refl, ap, ap₂, arith}
use Rattle.std.specs.Prelude.{All}
use Rattle.std.specs.List.{sum_by}
use Rattle.std.proofs.lemmas.List.Elements.{All-cons, All-head, All-nil, All-tail}
use Rattle.std.proofs.lemmas.List.Sums.{sum_by-append, sum_by-cons}

-- those in front, and those behind
pub All-front : {X : Type 0} (P : X → Type 0) (xs ys : List X) → All P (xs ++ ys) → All P xs
All-front P [] ys h = All-nil P
All-front P (x ∷ xs) ys h = All-cons P x xs (All-head P x (xs ++ ys) h) (All-front P xs ys (All-tail P x (xs ++ ys) h))

-- what holds of all elements of two lists in succession holds of those of the second
pub All-back : {X : Type 0} (P : X → Type 0) (xs ys : List X) → All P (xs ++ ys) → All P ys
All-back P [] ys h = h
All-back P (x ∷ xs) ys h = All-back P xs ys (All-tail P x (xs ++ ys) h)

-- what weighs something in two lists weighs something in one of them
pub found_in : {X : Type 0} (f : X → ℕ) (xs ys : List X) → 1 ≤ sum_by f (xs ++ ys) → (1 ≤ sum_by f xs) ⊎ (1 ≤ sum_by f ys)
found_in f xs ys h =
    let both = sum_by-append f xs ys in
    grind (arith, both)

-- the images of two lists weigh what those of each do
pub sum_by-images : {X Y : Type 0} (f : Y → ℕ) (g : X → Y) (xs ys : List X) → sum_by f (map g (xs ++ ys)) ≡ sum_by f (map g xs) + sum_by f (map g ys)
sum_by-images f g [] ys = omega arith
sum_by-images f g (x ∷ xs) ys =
    let all = sum_by-cons f (g x) (map g (xs ++ ys)) in
    let first = sum_by-cons f (g x) (map g xs) in
    let rest = sum_by-images f g xs ys in
    omega arith

-- a whole number as a natural one, 0 where it is negative
abbrev pub natural : ℤ → ℕ
natural (pos n) = n
natural (negsuc n) = 0

abbrev behind_one : List ℤ → List ℤ
behind_one (x ∷ xs) = xs
behind_one _ = []

-- a list of naturals as integers gives the list back
pub map_pos-same : (p q : List ℕ) → map pos p ≡ map pos q → p ≡ q
map_pos-same [] [] e = refl
map_pos-same [] (l ∷ q) e = let long : 0 ≡ length (map pos (l ∷ q)) = ap length e in absurd (omega arith)
map_pos-same (k ∷ p) [] e = let long : length (map pos (k ∷ p)) ≡ 0 = ap length e in absurd (omega arith)
map_pos-same (k ∷ p) (l ∷ q) e =
    let first : k ≡ l = ap (λ xs. natural (get_or xs 0 (pos 0))) e in
    ap₂ (λ (x : ℕ) (xs : List ℕ). x ∷ xs) first (map_pos-same p q (ap behind_one e))

-- the element at a place that is there
pub any_default : {X : Type 0} (xs : List X) (i : ℕ) (d e : X) → i < length xs → get_or xs i d ≡ get_or xs i e
any_default [] i d e below = absurd (omega arith)
any_default (x ∷ xs) zero d e below = refl
any_default (x ∷ xs) (suc i) d e below = any_default xs i d e (omega arith)

-- what two facts on an answer give together
pub ok_both : {A E : Type 0} (r : Result A E) (P Q R : A → Type 0) → ((x : A) → P x → Q x → R x) → IfOk r P → IfOk r Q → IfOk r R
ok_both (Ok x) P Q R both p q = both x p q
ok_both (Err e) P Q R both p q = tt
