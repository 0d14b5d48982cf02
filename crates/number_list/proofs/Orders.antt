-- Lists of numbers in order: the first numbers that differ decide.
use Rattle.std.proofs.Common.{◌≡◌, ◌≢◌, ℕ, zero, suc, ◌<◌, ◌≤◌, ◌⊎◌, List, [], ◌∷◌, length, take, drop, get_or, map, true, refl, sym, ap, ap₂, ◌∙◌, arith}
use Rattle.std.proofs.Math.Seq.{drop-cons}
use Rattle.std.proofs.lemmas.Bool.{false≢true}
use Rattle.std.proofs.lemmas.Bool.Decides.{Decides-int_eq, nat_tests}
use Rattle.std.proofs.lemmas.Int.{ints}
use Rattle.std.specs.Prelude.{ℤ, pos}
use Rattle.std.specs.Cmp.Lexicographic.{slice_cmp}
use Rattle.std.specs.Ordering.{int_cmp, is_eq, nat_cmp, ordering_then}
use Rattle.std.specs.declared.cmp.Ordering.{Ordering}
use Rattle.std.specs.declared.cmp.Ordering.TheVariants.{Less, Equal, Greater}

-- numbers from 0 on stand as whole numbers
nat_cmp-int_cmp : (x y : ℕ) → nat_cmp x y ≡ int_cmp (pos x) (pos y)
nat_cmp-int_cmp x y = grind (arith, ints, nat_tests)

-- lists of numbers from 0 on compare as they do as lists of whole numbers
pub naturals_in_order : (xs ys : List ℕ) → slice_cmp nat_cmp xs ys ≡ slice_cmp int_cmp (map pos xs) (map pos ys)
naturals_in_order [] [] = refl
naturals_in_order [] (y ∷ ys) = refl
naturals_in_order (x ∷ xs) [] = refl
naturals_in_order (x ∷ xs) (y ∷ ys) = ap₂ ordering_then (nat_cmp-int_cmp x y) (naturals_in_order xs ys)

is_equal : (o : Ordering) → is_eq o ≡ true → o ≡ Equal
is_equal Less h = absurd (false≢true h)
is_equal Equal h = refl
is_equal Greater h = absurd (false≢true h)

itself : (x : ℤ) → int_cmp x x ≡ Equal
itself x = is_equal (int_cmp x x) ((Decides-int_eq x x).1 refl)

abbrev first_of : List ℤ → ℤ
first_of [] = pos 0
first_of (x ∷ xs) = x

abbrev rest_of : List ℤ → List ℤ
rest_of [] = []
rest_of (x ∷ xs) = xs

-- where they begin alike, what follows decides
same_front : (k : ℕ) (xs ys : List ℤ) → take k xs ≡ take k ys → k ≤ length xs → k ≤ length ys → slice_cmp int_cmp xs ys ≡ slice_cmp int_cmp (drop k xs) (drop k ys)
same_front zero xs ys same in_first in_second = refl
same_front (suc k) [] ys same in_first in_second = absurd (omega arith)
same_front (suc k) (x ∷ xs) [] same in_first in_second = absurd (omega arith)
same_front (suc k) (x ∷ xs) (y ∷ ys) same in_first in_second =
    ap (λ (o : Ordering). ordering_then o (slice_cmp int_cmp xs ys)) (ap (int_cmp x) (sym (ap first_of same)) ∙ itself x)
    ∙ same_front k xs ys (ap rest_of same) (omega arith) (omega arith)

decided : (o p : Ordering) → o ≢ Equal → o ≡ ordering_then o p
decided Less p other = refl
decided Equal p other = absurd (other refl)
decided Greater p other = refl

-- the first numbers that differ decide
pub differ_at : (k : ℕ) (xs ys : List ℤ) (o : Ordering) → take k xs ≡ take k ys → k < length xs → k < length ys → o ≡ int_cmp (get_or xs k (pos 0)) (get_or ys k (pos 0)) → o ≢ Equal → o ≡ slice_cmp int_cmp xs ys
differ_at k xs ys o same in_first in_second is other =
    decided o (slice_cmp int_cmp (drop (suc k) xs) (drop (suc k) ys)) other
    ∙ ap (λ (p : Ordering). ordering_then p (slice_cmp int_cmp (drop (suc k) xs) (drop (suc k) ys))) is
    ∙ sym (ap₂ (slice_cmp int_cmp) (drop-cons xs k (pos 0) in_first) (drop-cons ys k (pos 0) in_second))
    ∙ sym (same_front k xs ys same (omega arith) (omega arith))

-- where none do, their lengths
pub none_differ : (k : ℕ) (xs ys : List ℤ) → take k xs ≡ take k ys → k ≤ length xs → k ≤ length ys → (length xs ≤ k) ⊎ (length ys ≤ k) → nat_cmp (length xs) (length ys) ≡ slice_cmp int_cmp xs ys
none_differ k [] [] same in_first in_second all = refl
none_differ k [] (y ∷ ys) same in_first in_second all = grind (arith, nat_tests)
none_differ k (x ∷ xs) [] same in_first in_second all = grind (arith, nat_tests)
none_differ zero (x ∷ xs) (y ∷ ys) same in_first in_second all = absurd (grind arith)
none_differ (suc k) (x ∷ xs) (y ∷ ys) same in_first in_second all =
    let lengths : nat_cmp (length (x ∷ xs)) (length (y ∷ ys)) ≡ nat_cmp (length xs) (length ys) = grind (arith, nat_tests) in
    lengths
    ∙ none_differ k xs ys (ap rest_of same) (omega arith) (omega arith) (grind arith)
    ∙ sym (ap (λ (o : Ordering). ordering_then o (slice_cmp int_cmp xs ys)) (ap (int_cmp x) (sym (ap first_of same)) ∙ itself x))
