-- The place at which a pair is put.
use Rattle.std.proofs.Common.{◌≡◌, refl, sym, ◌∙◌, ap, arith, ℕ, suc, ◌+◌, ◌≤◌, Bool, true, false, cond, List, [], ◌∷◌, length, take, drop, unwrap_or}
use Rattle.std.specs.Prelude.{ℤ, insert, int_lt, nat_lt, not, pos, Some, None}
use Rattle.std.specs.List.{position, position_or_len}
use Rattle.std.proofs.lemmas.List.Sums.{prefix_len-le-length}
use Rattle.std.proofs.lemmas.List.{length-take-le, take-append-le, take-take, take_all}
use Rattle.plan_answer.specs.Putting.{kept_with, with_pair}
use Rattle.plan_answer.specs.declared.pairs.Pair.{Pair}

-- whether a pair costs less than this
abbrev pub costs_less : ℤ → Pair → Bool
costs_less cost other = int_lt other.cost cost

-- the place of the first pair that costs less than this, or the end where none does
abbrev pub place : ℤ → List Pair → ℕ
place cost xs = position_or_len (costs_less cost) xs

-- a pair's place is in the list, or at its end
pub place_le : (cost : ℤ) (xs : List Pair) → place cost xs ≤ length xs
place_le cost xs = prefix_len-le-length (λ x. not (costs_less cost x)) xs

-- the first place at which a pair costs less, or the end where none does, is the pair's place
pub place_or_all : (cost : ℤ) (xs : List Pair) → unwrap_or (position (costs_less cost) xs) (length xs) ≡ place cost xs
place_or_all cost xs =
    let within = place_le cost xs in
    let by : (b : Bool) → nat_lt (place cost xs) (length xs) ≡ b → unwrap_or (cond b (Some (place cost xs)) None) (length xs) ≡ place cost xs =
    λ b e. elim b as (λ v. nat_lt (place cost xs) (length xs) ≡ v → unwrap_or (cond v (Some (place cost xs)) None) (length xs) ≡ place cost xs)
    [ true ↦ λ f. refl | false ↦ λ f. grind arith ] e in
    by (nat_lt (place cost xs) (length xs)) refl

insert_more : (x y : Pair) (ys : List Pair) (n : ℕ) → insert (y ∷ ys) (1 + n) x ≡ y ∷ insert ys n x
insert_more x y ys n = let e : 1 + n ≡ suc n = omega arith in rw e refl

-- a pair that is inserted at its place stands in front of the first that costs less
pub insert_is : (x : Pair) (xs : List Pair) → insert xs (place x.cost xs) x ≡ with_pair x xs
insert_is x [] = refl
insert_is x (y ∷ ys) =
    let deeper = insert_more x y ys (place x.cost ys) ∙ ap (λ (zs : List Pair). y ∷ zs) (insert_is x ys) in
    elim (int_lt y.cost x.cost) as (λ v. insert (y ∷ ys) (cond (not v) (1 + place x.cost ys) 0) x ≡ cond v (x ∷ y ∷ ys) (y ∷ with_pair x ys))
    [ true ↦ refl | false ↦ deeper ]

-- a list into which a pair that costs something was inserted, cut to the most pairs, is what is kept with it
pub kept_inserted : (most : ℕ) (x : Pair) (xs : List Pair) → int_lt (pos 0) x.cost ≡ true → take most (insert xs (place x.cost xs) x) ≡ kept_with most x xs
kept_inserted most x xs dear = rw dear (ap (take most) (insert_is x xs))

-- a pair behind this many isn't kept
pub kept_behind : (most : ℕ) (x : Pair) (xs : List Pair) → int_lt (pos 0) x.cost ≡ true → length xs ≤ most → most ≤ place x.cost xs → xs ≡ kept_with most x xs
kept_behind most x xs dear few past =
    let at = place x.cost xs in
    let within = place_le x.cost xs in
    let short : most ≤ length (take at xs) = omega (arith, length-take-le at xs within) in
    let all = take_all most xs few in
    sym (sym (kept_inserted most x xs dear) ∙ take-append-le most (take at xs) (x ∷ drop at xs) short ∙ take-take most at xs past ∙ all)
