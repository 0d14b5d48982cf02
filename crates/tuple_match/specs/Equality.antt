use Rattle.std.specs.Prelude.{◌≡◌, Bool, true, false, List, refl}
use Rattle.std.specs.Bool.{Decides}
use Rattle.std.specs.Cmp.{IsEquivalence, IsPartialEquivalence, partial_equiv_from_equiv}
use Rattle.std.specs.Cmp.Lexicographic.{pointwise}
use Rattle.std.specs.Ordering.{int_eq}
use Rattle.std.specs.Str.{bytes_eq}
use Rattle.std.proofs.Common.{ap, subst, sym}
use Rattle.std.proofs.lemmas.Bool.{false≢true}
use Rattle.std.proofs.lemmas.Bool.Decides.{Decides-int_eq, same_from_decides}
use Rattle.std.proofs.lemmas.Slice.Eq.{bytes_eq-Decides, slice_eq-Decides}
use Rattle.tuple_match.specs.FieldValue.{FieldValue, number, word, numbers}

-- the answer of `==` for two fields: whether they are equal, by `Decides-field_eq`
abbrev pub field_eq : FieldValue → FieldValue → Bool
field_eq (number m) (number n) = int_eq m n
field_eq (word s) (word t) = bytes_eq s t
field_eq (numbers ms) (numbers ns) = pointwise int_eq ms ns
field_eq _ _ = false

-- the answer of `==` for two words, and false otherwise
abbrev pub same_word : FieldValue → FieldValue → Bool
same_word (word s) (word t) = bytes_eq s t
same_word _ _ = false

-- the answer of `==` for two lists, and false otherwise
abbrev pub same_list : FieldValue → FieldValue → Bool
same_list (numbers ms) (numbers ns) = pointwise int_eq ms ns
same_list _ _ = false

-- the answer of `==` for two tuples: whether they are equal, by `Decides-tuple_eq`
abbrev pub tuple_eq : List FieldValue → List FieldValue → Bool
tuple_eq = pointwise field_eq

same_from_field_eq : (x y : FieldValue) → field_eq x y ≡ true → x ≡ y
same_from_field_eq (number m) (number n) h = ap number ((Decides-int_eq m n).0 h)
same_from_field_eq (word s) (word t) h = ap word ((bytes_eq-Decides s t).0 h)
same_from_field_eq (numbers ms) (numbers ns) h =
    ap numbers ((slice_eq-Decides Decides-int_eq ms ns (pointwise int_eq ms ns) refl).0 h)
same_from_field_eq _ _ h = absurd (false≢true h)

field_eq-refl : (x : FieldValue) → field_eq x x ≡ true
field_eq-refl (number m) = (Decides-int_eq m m).1 refl
field_eq-refl (word s) = (bytes_eq-Decides s s).1 refl
field_eq-refl (numbers ms) = (slice_eq-Decides Decides-int_eq ms ms (pointwise int_eq ms ms) refl).1 refl

-- `==` on two fields is true if and only if they are equal
pub Decides-field_eq : (x y : FieldValue) → Decides (field_eq x y) (x ≡ y)
Decides-field_eq x y = (same_from_field_eq x y, λ e. subst (λ (z : FieldValue). field_eq x z ≡ true) e (field_eq-refl x))

-- `==` on two tuples is true if and only if they are equal
pub Decides-tuple_eq : (xs ys : List FieldValue) → Decides (tuple_eq xs ys) (xs ≡ ys)
Decides-tuple_eq xs ys = slice_eq-Decides Decides-field_eq xs ys (tuple_eq xs ys) refl

-- a test that decides `≡` is an equivalence
equivalence_from_Decides : {X : Type 0} (E : X → X → Bool) → ((x y : X) → Decides (E x y) (x ≡ y)) → IsEquivalence E
equivalence_from_Decides E d = record {
  refl = λ x. (d x x).1 refl;
  symm = λ x y. same_from_decides (E x y) (E y x) (d x y) (λ h. sym ((d y x).0 h), λ e. (d y x).1 (sym e));
  congr = λ x y z h. ap (λ w. E w z) ((d x y).0 h);
}

-- `==` on fields is an equivalence
pub field_eq_equiv : IsEquivalence field_eq
field_eq_equiv = equivalence_from_Decides field_eq Decides-field_eq

-- it is a partial equivalence, as `PartialEq` requires
pub field_eq_per : IsPartialEquivalence field_eq
field_eq_per = partial_equiv_from_equiv field_eq_equiv

-- `==` on tuples is an equivalence
pub tuple_eq_equiv : IsEquivalence tuple_eq
tuple_eq_equiv = equivalence_from_Decides tuple_eq Decides-tuple_eq

-- it is a partial equivalence, as `PartialEq` requires
pub tuple_eq_per : IsPartialEquivalence tuple_eq
tuple_eq_per = partial_equiv_from_equiv tuple_eq_equiv
