-- When lists of numbers are equal.
use Rattle.std.proofs.Common.{◌≡◌, refl, ap, ℕ, nat_eq, List, [], ◌∷◌}
use Rattle.std.specs.Prelude.{ℤ, map, pos}
use Rattle.std.specs.Bool.{Decides}
use Rattle.std.specs.Cmp.Lexicographic.{pointwise}
use Rattle.std.specs.Ordering.{int_eq}
use Rattle.std.proofs.lemmas.Bool.Decides.{Decides-eqb, Decides-int_eq, same_from_decides}
use Rattle.std.proofs.lemmas.Slice.Eq.{slice_eq-Decides}

-- `==` on two lists of numbers decides whether they are equal
pub same_lists : (xs ys : List ℤ) → Decides (pointwise int_eq xs ys) (xs ≡ ys)
same_lists xs ys = slice_eq-Decides Decides-int_eq xs ys (pointwise int_eq xs ys) refl

-- of a number from 0 on that number
abbrev size : ℤ → ℕ
size (pos n) = n
size _ = 0

-- `==` on two numbers from 0 on is that on whole numbers
nat_eq-int_eq : (x y : ℕ) → nat_eq x y ≡ int_eq (pos x) (pos y)
nat_eq-int_eq x y = same_from_decides (nat_eq x y) (int_eq (pos x) (pos y)) (Decides-eqb x y)
    (λ h. ap size ((Decides-int_eq (pos x) (pos y)).0 h), λ e. (Decides-int_eq (pos x) (pos y)).1 (ap pos e))

-- `==` on two lists of numbers from 0 on is that on lists of whole numbers
pub same_naturals : (xs ys : List ℕ) → pointwise nat_eq xs ys ≡ pointwise int_eq (map pos xs) (map pos ys)
same_naturals [] [] = refl
same_naturals [] (y ∷ ys) = refl
same_naturals (x ∷ xs) [] = refl
same_naturals (x ∷ xs) (y ∷ ys) =
    let head : nat_eq x y ≡ int_eq (pos x) (pos y) = nat_eq-int_eq x y in
    let tail : pointwise nat_eq xs ys ≡ pointwise int_eq (map pos xs) (map pos ys) = same_naturals xs ys in
    cc
