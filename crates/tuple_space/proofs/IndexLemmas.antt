-- The buckets in which the numbers of entries stand.
use Rattle.std.proofs.Common.{◌≡◌, ℕ, zero, suc, ◌+◌, ◌-◌, ◌%◌, ◌^◌, ◌<◌, ◌≤◌, Bool, true, false, List, [], ◌∷◌, ◌++◌, length, get_or, refl, sym, ap, subst, ◌∙◌, cond, eqb, ⊎_elim, arith}
use Rattle.std.specs.Prelude.{◌≢◌, ◌&&◌, ◌||◌, not, All, AllPairs, IfNone, MatchOption, Option, take, unsigned_abs, Some, None, OnErr, OnOk, Result, Ok, Err, filter, find, map, nat_eq}
use Rattle.std.specs.Result.{is_err}
use Rattle.std.specs.List.{AllWithin, AllZip, HoldsAt}
use Rattle.std.specs.Map.{lookup}
use Rattle.std.specs.Option.{unwrap_or}
use Rattle.std.specs.Str.{bytes_eq}
use Rattle.std.proofs.Math.ListN.{set}
use Rattle.std.proofs.Math.Seq.{take-append_seam}
use Rattle.std.proofs.lemmas.Bool.{cases_Bool, cases_lt, cond-false, cond-true, cond_both, eq-eqb, eqb-false, eqb-true, ne_eqb, false≢true, or_cases, or_left, or_right}
use Rattle.std.proofs.lemmas.List.{append-nil, get_or-map, get_or_default, length-append, length-map}
use Rattle.std.proofs.lemmas.List.Elements.{All-head, All-nil, All-push, All-tail}
use Rattle.std.proofs.lemmas.List.Folds.{list_any-append}
use Rattle.std.proofs.lemmas.List.Kept.{AllPairs-filter}
use Rattle.std.proofs.lemmas.List.Quantifiers.{all_pairs_push}
use Rattle.std.proofs.lemmas.List.Sums.{sum_by-cons}
use Rattle.std.proofs.lemmas.Map.Views.{any-filter_same}
use Rattle.std.proofs.lemmas.Option.{same_Some}
use Rattle.std.proofs.lemmas.Slice.Eq.{bytes_eq-Decides}
use Rattle.indexmap.specs.IndexMap.{IsEmpty}
use Rattle.tuple_match.specs.FieldValue.{FieldValue, number, word, numbers}
use Rattle.tuple_match.specs.Matching.{does_match}
use Rattle.tuple_match.specs.PatternValue.{FieldMatches, Matches, PatternValue, actual, any_number, any_word, any_numbers}
use Rattle.tuple_match.proofs.Deciding.{Decides-does_match}
use Rattle.tuple_space.specs.Entry.{is_open, is_there}
use Rattle.tuple_space.specs.Wanted.{is_wanted}
use Rattle.tuple_space.specs.Held.{AreRising, is_among}
use Rattle.tuple_space.specs.Index.{AreIndexed, AreOnce, AreOrdered, AreSame, AreUpTo, Class, HasNoneWanted, HasSame, IsAdded, IsDropped, IsPutIn, IsTakenFrom, IsUnwanted, first_word, has_class, is_next, is_numbered, is_of, is_put, is_to_be, is_word, key, last_after, list_at, list_under, numbers_at, numbers_of, sought_word}
use Rattle.tuple_space.proofs.RowLemmas.{HasNone, any_place, found_at, only_at}
use Rattle.tuple_space.specs.Lease.{granted}
use Rattle.tuple_space.specs.Rows.{IsRising, without}
use Rattle.tuple_space.specs.Slots.{is_in, is_value, second_length, second_value, slot_of, sought_slot, word_value}
use Rattle.tuple_space.specs.Space.{SpaceValue, put}
use Rattle.tuple_space.specs.Writes.{put_count, put_each}
use Rattle.tuple_space.specs.declared.search.Wanted.{Wanted}
use Rattle.tuple_space.specs.declared.search.Wanted.TheVariants.{Allowed, There}
use Rattle.tuple_space.specs.declared.entry.Entry.{Entry}
use Rattle.tuple_space.specs.declared.index.Bucket.{Bucket}
use Rattle.tuple_space.specs.declared.index.Slot.{Slot}
use Rattle.tuple_space.specs.declared.index.Slot.TheVariants.{Length, Value}
use Rattle.tuple_space.specs.declared.lease.Lease.{Lease}
use Rattle.tuple_space.specs.declared.write.Write.{Write}

none_some : {X : Type 0} {x : X} → Some x ≡ None → ⊥
none_some e = cc

same_lengths : {X Y : Type 0} (R : X → Y → Type 0) (xs : List X) (ys : List Y) → AllZip R xs ys → length xs ≡ length ys
same_lengths R [] [] h = refl
same_lengths R [] (y ∷ ys) h = absurd h
same_lengths R (x ∷ xs) [] h = absurd h
same_lengths R (x ∷ xs) (y ∷ ys) h = ap suc (same_lengths R xs ys h.1)

eqb_swap : (a b : ℕ) → eqb a b ≡ eqb b a
eqb_swap a b = ⊎_elim
    (λ same. same ∙ sym (eq-eqb b a (sym (eqb-true a b same))))
    (λ other. other ∙ sym (ne_eqb b a (λ is. eqb-false a b other (sym is))))
    (cases_Bool (eqb a b))

both : (a b : Bool) → a ≡ true → b ≡ true → (a && b) ≡ true
both a b p q = rw (p, q) refl

both_left : (a b : Bool) → (a && b) ≡ true → a ≡ true
both_left true b e = refl
both_left false b e = e

both_right : (a b : Bool) → (a && b) ≡ true → b ≡ true
both_right true b e = e
both_right false b e = absurd (false≢true e)

and_false : (a : Bool) → (a && false) ≡ false
and_false true = refl
and_false false = refl

and_true : (a : Bool) → (a && true) ≡ a
and_true true = refl
and_true false = refl

or_false : (a : Bool) → (a || false) ≡ a
or_false true = refl
or_false false = refl

-- numbers among others
among_filter : (test : ℕ → Bool) (n : ℕ) (ns : List ℕ) → is_among n (filter test ns) ≡ (test n && is_among n ns)
among_filter test n ns = any-filter_same (λ m. eqb n m) test (test n) (λ m same. ap test (sym (eqb-true n m same))) ns

among_push : (n m : ℕ) (ns : List ℕ) → is_among n (ns ++ m ∷ []) ≡ (is_among n ns || eqb n m)
among_push n m ns = list_any-append (λ k. eqb n k) ns (m ∷ []) ∙ ap (λ b. is_among n ns || b) (or_false (eqb n m))

among_at : (ns : List ℕ) (i d : ℕ) → i < length ns → is_among (get_or ns i d) ns ≡ true
among_at [] i d lt = absurd (omega arith)
among_at (n ∷ ns) zero d lt = or_left (eqb n n) (is_among n ns) (eq-eqb n n refl)
among_at (n ∷ ns) (suc i) d lt = or_right (eqb (get_or ns i d) n) (is_among (get_or ns i d) ns) (among_at ns i d (omega arith))

-- a filter that passes everything changes nothing
pub filter_all : (ns : List ℕ) → filter (λ n. true) ns ≡ ns
filter_all [] = refl
filter_all (n ∷ ns) = ap (λ l. n ∷ l) (filter_all ns)

-- lists of which each stands at its length
pub list_at_push : (ls : List (List ℕ)) (l : ℕ) (v : List ℕ) → v ≡ [] → list_at l (ls ++ v ∷ []) ≡ list_at l ls
list_at_push [] zero v none = none
list_at_push [] (suc l) v none = refl
list_at_push (x ∷ xs) zero v none = refl
list_at_push (x ∷ xs) (suc l) v none = list_at_push xs l v none

-- the list written at a place stands under its length
pub list_at_set : (ls : List (List ℕ)) (i : ℕ) (v : List ℕ) → i < length ls → list_at i (set ls i v) ≡ v
list_at_set [] i v lt = absurd (omega arith)
list_at_set (x ∷ xs) zero v lt = refl
list_at_set (x ∷ xs) (suc i) v lt = list_at_set xs i v (omega arith)

-- and the lists under other lengths stay
pub list_at_other : (ls : List (List ℕ)) (i l : ℕ) (v : List ℕ) → l ≢ i → list_at l (set ls i v) ≡ list_at l ls
list_at_other [] i l v ne = refl
list_at_other (x ∷ xs) zero zero v ne = absurd (ne refl)
list_at_other (x ∷ xs) zero (suc l) v ne = refl
list_at_other (x ∷ xs) (suc i) zero v ne = refl
list_at_other (x ∷ xs) (suc i) (suc l) v ne = list_at_other xs i l v (λ e. ne (ap suc e))

-- under a length stands the list at that place
pub list_at_is : (ls : List (List ℕ)) (i : ℕ) (x : List ℕ) → i < length ls → x ≡ get_or ls i x → list_at i ls ≡ x
list_at_is [] i x lt is = absurd (omega arith)
list_at_is (y ∷ ys) zero x lt is = sym is
list_at_is (y ∷ ys) (suc i) x lt is = list_at_is ys i x (omega arith) is

-- beyond the last list there are no numbers
pub list_at_past : (ls : List (List ℕ)) (l : ℕ) → length ls ≤ l → list_at l ls ≡ []
list_at_past [] l le = refl
list_at_past (x ∷ xs) zero le = absurd (omega arith)
list_at_past (x ∷ xs) (suc l) le = list_at_past xs l (omega arith)

-- what a bucket is of
of_parts : (bytes : List ℕ) (count : ℕ) (b : Bucket) → is_of bytes count b ≡ true → (b.count ≡ count) × (b.word.items ≡ bytes)
of_parts bytes count b is = (
  eqb-true b.count count (both_left (eqb b.count count) (bytes_eq (b.word.items) bytes) is),
  (bytes_eq-Decides (b.word.items) bytes).0 (both_right (eqb b.count count) (bytes_eq (b.word.items) bytes) is),
)

of_from : (bytes : List ℕ) (count : ℕ) (b : Bucket) → b.count ≡ count → b.word.items ≡ bytes → is_of bytes count b ≡ true
of_from bytes count b counted spelled =
    both (eqb b.count count) (bytes_eq (b.word.items) bytes) (eq-eqb b.count count counted) ((bytes_eq-Decides (b.word.items) bytes).1 spelled)

-- a slot of an empty bucket holds nothing
none_at : (s : Slot) (b : Bucket) → b.by_length.items ≡ [] → IsEmpty b.by_value → numbers_at s b ≡ []
none_at (Length l) b none without = ap (list_at l) none
none_at (Value v) b none without = ap (λ es. unwrap_or (lookup (nat_eq v) es) []) without

-- an empty bucket behind the others
pub numbers_push : (bs : List Bucket) (b : Bucket) → b.by_length.items ≡ [] → IsEmpty b.by_value → AreSame bs (bs ++ b ∷ [])
numbers_push [] b none without = λ k. cond_both (is_of k.word k.count b) (numbers_at k.slot b) [] (λ (l : List ℕ). l ≡ []) (λ t. none_at k.slot b none without) (λ f. refl)
numbers_push (x ∷ xs) b none without = λ k. ap (λ (l : List ℕ). cond (is_of k.word k.count x) (numbers_at k.slot x) l) (numbers_push xs b none without k)

keys_push : (bs : List Bucket) (b : Bucket) → map key (bs ++ b ∷ []) ≡ map key bs ++ key b ∷ []
keys_push [] b = refl
keys_push (x ∷ xs) b = ap (λ l. key x ∷ l) (keys_push xs b)

-- a bucket of a new word and count behind the others leaves no two of the same
pub once_push : (bs : List Bucket) (b : Bucket) (bytes : List ℕ) (count : ℕ) → b.word.items ≡ bytes → b.count ≡ count → All (λ (x : Bucket). is_of bytes count x ≡ false) bs
    → AreOnce bs → AreOnce (bs ++ b ∷ [])
once_push bs b bytes count spelled counted none once =
    let R : List ℕ × ℕ → List ℕ × ℕ → Type 0 = λ k j. k ≢ j in
    subst (λ (l : List (List ℕ × ℕ)). AllPairs R l) (sym (keys_push bs b)) (all_pairs_push R (map key bs) (key b) once (λ k d lt same.
    let long : length (map key bs) ≡ length bs = length-map bs key in
    let x = get_or bs k b in
    let is : key x ≡ key b = sym (get_or-map key bs k b d (omega arith)) ∙ same in
    false≢true (sym (none k b (omega arith)) ∙ of_from bytes count x (ap (λ (p : List ℕ × ℕ). p.1) is ∙ counted) (ap (λ (p : List ℕ × ℕ). p.0) is ∙ spelled))))

keys_set : (bs : List Bucket) (i : ℕ) (b new : Bucket) → b ≡ get_or bs i b → key new ≡ key b → map key (set bs i new) ≡ map key bs
keys_set [] i b new is same = refl
keys_set (x ∷ xs) zero b new is same = ap (λ p. p ∷ map key xs) (same ∙ ap key is)
keys_set (x ∷ xs) (suc i) b new is same = ap (λ l. key x ∷ l) (keys_set xs i b new is same)

-- a bucket given other numbers leaves no two of the same word and count
pub once_set : (bs : List Bucket) (i : ℕ) (b new : Bucket) → b ≡ get_or bs i b → key new ≡ key b → AreOnce bs → AreOnce (set bs i new)
once_set bs i b new is same once = subst (λ (l : List (List ℕ × ℕ)). AllPairs (λ k j. k ≢ j) l) (sym (keys_set bs i b new is same)) once

-- buckets of the same word and count are of the same
of_same : (k : Class) (b new : Bucket) → key new ≡ key b → is_of k.word k.count new ≡ is_of k.word k.count b
of_same k b new same = ap (λ (p : List ℕ × ℕ). eqb p.1 k.count && bytes_eq p.0 k.word) same

-- the first bucket of a word and a count
pub record IsFirstOf (bytes : List ℕ) (count : ℕ) (bs : List Bucket) (i : ℕ) (b : Bucket) : Type 0 where
  pub within : i < length bs
  pub is : b ≡ get_or bs i b
  pub of : is_of bytes count b ≡ true
  pub before : AllWithin (λ x. is_of bytes count x ≡ false) bs 0 i

first_behind : (bytes : List ℕ) (count : ℕ) (x : Bucket) (xs : List Bucket) (i : ℕ) (b : Bucket) → IsFirstOf bytes count (x ∷ xs) (suc i) b → IsFirstOf bytes count xs i b
first_behind bytes count x xs i b h = record {
  within = let w = h.within in omega arith;
  is = h.is;
  of = h.of;
  before = λ k d from to. h.before (suc k) d (omega arith) (omega arith);
}

-- a bucket before it is of another class
other_before : (k : Class) (bytes : List ℕ) (count : ℕ) (x : Bucket) (xs : List Bucket) (i : ℕ) (b : Bucket) → IsFirstOf bytes count (x ∷ xs) (suc i) b
    → is_of k.word k.count b ≡ true → is_of k.word k.count x ≡ false
other_before k bytes count x xs i b h mine = ⊎_elim
    (λ both_are.
    let a = of_parts k.word k.count x both_are in
    let c = of_parts k.word k.count b mine in
    let f = of_parts bytes count b h.of in
    absurd (false≢true (sym (h.before zero x (omega arith) (omega arith)) ∙ of_from bytes count x (a.0 ∙ sym c.0 ∙ f.0) (a.1 ∙ sym c.1 ∙ f.1))))
    (λ other. other)
    (cases_Bool (is_of k.word k.count x))

-- the numbers of a class are those that the first bucket of its word and count has in its slot
pub numbers_there : (k : Class) (bytes : List ℕ) (count : ℕ) (bs : List Bucket) (i : ℕ) (b : Bucket) → IsFirstOf bytes count bs i b → is_of k.word k.count b ≡ true
    → numbers_of k bs ≡ numbers_at k.slot b
numbers_there k bytes count [] i b h mine = let w = h.within in absurd (omega arith)
numbers_there k bytes count (x ∷ xs) zero b h mine =
    cond-true (is_of k.word k.count x) (numbers_at k.slot x) (numbers_of k xs) (ap (is_of k.word k.count) (sym h.is) ∙ mine)
    ∙ ap (numbers_at k.slot) (sym h.is)
numbers_there k bytes count (x ∷ xs) (suc i) b h mine =
    cond-false (is_of k.word k.count x) (numbers_at k.slot x) (numbers_of k xs) (other_before k bytes count x xs i b h mine)
    ∙ numbers_there k bytes count xs i b (first_behind bytes count x xs i b h) mine

-- its numbers written over
numbers_mine : (k : Class) (bytes : List ℕ) (count : ℕ) (bs : List Bucket) (i : ℕ) (b new : Bucket) → IsFirstOf bytes count bs i b → key new ≡ key b → is_of k.word k.count b ≡ true
    → numbers_of k (set bs i new) ≡ numbers_at k.slot new
numbers_mine k bytes count [] i b new h same mine = let w = h.within in absurd (omega arith)
numbers_mine k bytes count (x ∷ xs) zero b new h same mine = cond-true (is_of k.word k.count new) (numbers_at k.slot new) (numbers_of k xs) (of_same k b new same ∙ mine)
numbers_mine k bytes count (x ∷ xs) (suc i) b new h same mine =
    cond-false (is_of k.word k.count x) (numbers_at k.slot x) (numbers_of k (set xs i new)) (other_before k bytes count x xs i b h mine)
    ∙ numbers_mine k bytes count xs i b new (first_behind bytes count x xs i b h) same mine

-- those under other classes stay
numbers_other : (k : Class) (bs : List Bucket) (i : ℕ) (b new : Bucket) → b ≡ get_or bs i b → key new ≡ key b → is_of k.word k.count b ≡ false
    → numbers_of k (set bs i new) ≡ numbers_of k bs
numbers_other k [] i b new is same other = refl
numbers_other k (x ∷ xs) zero b new is same other =
    cond-false (is_of k.word k.count new) (numbers_at k.slot new) (numbers_of k xs) (of_same k b new same ∙ other)
    ∙ sym (cond-false (is_of k.word k.count x) (numbers_at k.slot x) (numbers_of k xs) (ap (is_of k.word k.count) (sym is) ∙ other))
numbers_other k (x ∷ xs) (suc i) b new is same other =
    ap (λ (l : List ℕ). cond (is_of k.word k.count x) (numbers_at k.slot x) l) (numbers_other k xs i b new is same other)

-- under a class of no bucket stands nothing
pub numbers_none : (k : Class) (bs : List Bucket) → All (λ (b : Bucket). is_of k.word k.count b ≡ false) bs → numbers_of k bs ≡ []
numbers_none k [] none = refl
numbers_none k (x ∷ xs) none =
    let P : Bucket → Type 0 = λ b. is_of k.word k.count b ≡ false in
    cond-false (is_of k.word k.count x) (numbers_at k.slot x) (numbers_of k xs) (All-head P x xs none) ∙ numbers_none k xs (All-tail P x xs none)

-- a tuple's class, by its bucket
class_of : (k : Class) (tuple : List FieldValue) (bytes : List ℕ) (b : Bucket) → Some bytes ≡ first_word tuple → is_of bytes (length tuple) b ≡ true
    → has_class k tuple ≡ (is_of k.word k.count b && is_in k.slot tuple)
class_of k tuple bytes b first of =
    let parts = of_parts bytes (length tuple) b of in
    ap (λ o. (eqb (length tuple) k.count && is_word o k.word) && is_in k.slot tuple) (sym first)
    ∙ ap (λ n. (eqb n k.count && bytes_eq bytes k.word) && is_in k.slot tuple) (sym parts.0)
    ∙ ap (λ w. (eqb b.count k.count && bytes_eq w k.word) && is_in k.slot tuple) (sym parts.1)

classless : (k : Class) (tuple : List FieldValue) → None ≡ first_word tuple → has_class k tuple ≡ false
classless k tuple none =
    ap (λ o. (eqb (length tuple) k.count && is_word o k.word) && is_in k.slot tuple) (sym none)
    ∙ ap (λ b. b && is_in k.slot tuple) (and_false (eqb (length tuple) k.count))

-- a tuple that begins with no word has no number to put there
pub added_classless : (bs : List Bucket) (tuple : List FieldValue) (n : ℕ) → None ≡ first_word tuple → IsAdded tuple n bs bs
added_classless bs tuple n none = λ k.
    subst (λ c. numbers_of k bs ≡ numbers_of k bs ++ cond c (n ∷ []) []) (sym (classless k tuple none)) (sym (append-nil (numbers_of k bs)))

dropped_other : (k : Class) (tuple : List FieldValue) (n : ℕ) (ns : List ℕ) → has_class k tuple ≡ false → ns ≡ filter (λ m. not (has_class k tuple && eqb m n)) ns
dropped_other k tuple n ns other = sym (ap (λ c. filter (λ m. not (c && eqb m n)) ns) other ∙ filter_all ns)

-- a tuple that begins with no word has no number to take out
pub dropped_classless : (bs : List Bucket) (tuple : List FieldValue) (n : ℕ) → None ≡ first_word tuple → IsDropped tuple n bs bs
dropped_classless bs tuple n none = λ k. dropped_other k tuple n (numbers_of k bs) (classless k tuple none)

-- no bucket is that of a tuple
pub dropped_nowhere : (bs : List Bucket) (tuple : List FieldValue) (n : ℕ) (bytes : List ℕ) → Some bytes ≡ first_word tuple → All (λ (b : Bucket). is_of bytes (length tuple) b ≡ false) bs
    → IsDropped tuple n bs bs
dropped_nowhere bs tuple n bytes first none = λ k. ⊎_elim
    (λ mine.
    let parts = both_left (eqb (length tuple) k.count && is_word (first_word tuple) k.word) (is_in k.slot tuple) mine in
    let counted = eqb-true (length tuple) k.count (both_left (eqb (length tuple) k.count) (is_word (first_word tuple) k.word) parts) in
    let spelled = (bytes_eq-Decides bytes k.word).0 (ap (λ o. is_word o k.word) first ∙ both_right (eqb (length tuple) k.count) (is_word (first_word tuple) k.word) parts) in
    let empty = numbers_none k bs (λ i d lt. subst (λ w. is_of w k.count (get_or bs i d) ≡ false) spelled (subst (λ c. is_of bytes c (get_or bs i d) ≡ false) counted (none i d lt))) in
    empty ∙ sym (ap (filter (λ m. not (has_class k tuple && eqb m n))) empty))
    (λ other. dropped_other k tuple n (numbers_of k bs) other)
    (cases_Bool (has_class k tuple))

-- a number put into its bucket, or taken out of it
module _ (bs : List Bucket) (i : ℕ) (b new : Bucket) (tuple : List FieldValue) (bytes : List ℕ) (first : Some bytes ≡ first_word tuple)
    (h : IsFirstOf bytes (length tuple) bs i b) (same : key new ≡ key b) where
  by_slot : (k : Class) (P : Bool → List ℕ → Type 0) → (numbers_of k (set bs i new) ≡ numbers_of k bs → P false (numbers_of k (set bs i new)))
      → (numbers_of k bs ≡ numbers_at k.slot b → numbers_of k (set bs i new) ≡ numbers_at k.slot new → P (is_in k.slot tuple) (numbers_of k (set bs i new)))
      → P (has_class k tuple) (numbers_of k (set bs i new))
  by_slot k P outside inside =
      let ns = numbers_of k (set bs i new) in
      let class = class_of k tuple bytes b first h.of in
      ⊎_elim
      (λ mine. subst (λ c. P c ns) (sym (class ∙ ap (λ c. c && is_in k.slot tuple) mine))
      (inside (numbers_there k bytes (length tuple) bs i b h mine) (numbers_mine k bytes (length tuple) bs i b new h same mine)))
      (λ other. subst (λ c. P c ns) (sym (class ∙ ap (λ c. c && is_in k.slot tuple) other)) (outside (numbers_other k bs i b new h.is same other)))
      (cases_Bool (is_of k.word k.count b))

  pub added_there : (n : ℕ) → IsPutIn (second_length tuple) (second_value tuple) n b new → IsAdded tuple n bs (set bs i new)
  added_there n put = λ k. by_slot k (λ c ns. ns ≡ numbers_of k bs ++ cond c (n ∷ []) [])
      (λ stays. stays ∙ sym (append-nil (numbers_of k bs)))
      (λ before after. after ∙ put k.slot ∙ ap (λ l. l ++ cond (is_in k.slot tuple) (n ∷ []) []) (sym before))

  pub dropped_there : (n : ℕ) → IsTakenFrom tuple n b new → IsDropped tuple n bs (set bs i new)
  dropped_there n gone = λ k. by_slot k (λ c ns. ns ≡ filter (λ m. not (c && eqb m n)) (numbers_of k bs))
      (λ stays. stays ∙ sym (filter_all (numbers_of k bs)))
      (λ before after. after ∙ gone k.slot ∙ ap (filter (λ m. not (is_in k.slot tuple && eqb m n))) (sym before))

  pub same_there : HasSame b new → AreSame bs (set bs i new)
  same_there stays_in = λ k. by_slot k (λ c ns. ns ≡ numbers_of k bs)
      (λ stays. stays)
      (λ before after. after ∙ stays_in k.slot ∙ sym before)

-- the numbers in each slot of the bucket of a word and a count rise
pub rising_there : (bs : List Bucket) (i : ℕ) (b : Bucket) (bytes : List ℕ) (count : ℕ) → IsFirstOf bytes count bs i b → AreOrdered bs → (s : Slot) → AreRising (numbers_at s b)
rising_there bs i b bytes count h rising = λ s.
    let k : Class = record { word = bytes; count = count; slot = s } in
    subst AreRising (numbers_there k bytes count bs i b h h.of) (rising k)

-- a number put into the list of a length or of a value, as the lists of a bucket show it
pub put_at : (old new : ℕ → List ℕ) (place n : ℕ) → new place ≡ old place ++ n ∷ [] → ((l : ℕ) → l ≢ place → new l ≡ old l)
    → (l : ℕ) → new l ≡ old l ++ cond (eqb place l) (n ∷ []) []
put_at old new place n put others l = ⊎_elim
    (λ same. subst (λ c. new l ≡ old l ++ cond c (n ∷ []) []) (sym same)
    (subst (λ m. new m ≡ old m ++ n ∷ []) (eqb-true place l same) put))
    (λ other. subst (λ c. new l ≡ old l ++ cond c (n ∷ []) []) (sym other)
    (others l (λ is. eqb-false place l other (sym is)) ∙ sym (append-nil (old l))))
    (cases_Bool (eqb place l))

-- a list that is as it was stays under each length and each value
pub same_at : (old new : ℕ → List ℕ) (place : ℕ) → new place ≡ old place → ((l : ℕ) → l ≢ place → new l ≡ old l) → (l : ℕ) → new l ≡ old l
same_at old new place same others l = ⊎_elim
    (λ is. subst (λ m. new m ≡ old m) (eqb-true place l is) same)
    (λ other. others l (λ is. eqb-false place l other (sym is)))
    (cases_Bool (eqb place l))

-- a number taken out of the list of a length or of a value
pub taken_at : (old new : ℕ → List ℕ) (place n : ℕ) → new place ≡ filter (λ m. not (eqb m n)) (old place) → ((l : ℕ) → l ≢ place → new l ≡ old l)
    → (l : ℕ) → new l ≡ filter (λ m. not (eqb place l && eqb m n)) (old l)
taken_at old new place n gone others l = ⊎_elim
    (λ same. subst (λ c. new l ≡ filter (λ m. not (c && eqb m n)) (old l)) (sym same)
    (subst (λ j. new j ≡ filter (λ m. not (eqb m n)) (old j)) (eqb-true place l same) gone))
    (λ other. subst (λ c. new l ≡ filter (λ m. not (c && eqb m n)) (old l)) (sym other)
    (others l (λ is. eqb-false place l other (sym is)) ∙ sym (filter_all (old l))))
    (cases_Bool (eqb place l))

-- the last number taken back leaves those before it
pub back_at : (ns : List ℕ) (n : ℕ) → take (length (ns ++ n ∷ []) - 1) (ns ++ n ∷ []) ≡ ns
back_at ns n =
    let long : length (ns ++ n ∷ []) - 1 ≡ length ns = omega (arith, length-append ns (n ∷ [])) in
    ap (λ k. take k (ns ++ n ∷ [])) long ∙ take-append_seam ns (n ∷ [])

-- a number put under a length and under a value of a bucket
pub put_slots : (old new : Bucket) (long value n : ℕ) → ((l : ℕ) → list_at l new.by_length.items ≡ list_at l old.by_length.items ++ cond (eqb long l) (n ∷ []) [])
    → ((v : ℕ) → list_under v new.by_value ≡ list_under v old.by_value ++ cond (eqb value v) (n ∷ []) []) → IsPutIn long (Some value) n old new
put_slots old new long value n lengths values (Length l) = lengths l
put_slots old new long value n lengths values (Value v) = values v

-- or under a length alone
pub put_length : (old new : Bucket) (long n : ℕ) → ((l : ℕ) → list_at l new.by_length.items ≡ list_at l old.by_length.items ++ cond (eqb long l) (n ∷ []) [])
    → new.by_value ≡ old.by_value → IsPutIn long None n old new
put_length old new long n lengths same (Length l) = lengths l
put_length old new long n lengths same (Value v) = ap (list_under v) same ∙ sym (append-nil (list_under v old.by_value))

-- the lists of a bucket stay
pub same_slots : (old new : Bucket) → ((l : ℕ) → list_at l new.by_length.items ≡ list_at l old.by_length.items) → ((v : ℕ) → list_under v new.by_value ≡ list_under v old.by_value) → HasSame old new
same_slots old new lengths values (Length l) = lengths l
same_slots old new lengths values (Value v) = values v

-- a number taken out under a length, and under a value, if there is one
pub taken_slots : (tuple : List FieldValue) (n : ℕ) (old new : Bucket) → ((l : ℕ) → list_at l new.by_length.items ≡ filter (λ m. not (eqb (second_length tuple) l && eqb m n)) (list_at l old.by_length.items))
    → ((v : ℕ) → list_under v new.by_value ≡ filter (λ m. not (is_value (second_value tuple) v && eqb m n)) (list_under v old.by_value)) → IsTakenFrom tuple n old new
taken_slots tuple n old new lengths values (Length l) = lengths l
taken_slots tuple n old new lengths values (Value v) = values v

-- what follows from an answer that isn't a refusal, and from a refusal
pub ok_then : {A E : Type 0} (P Q : Type 0) (r : Result A E) → (P → Q) → OnOk r P → OnOk r Q
ok_then P Q (Ok x) f h = f h
ok_then P Q (Err x) f h = tt

-- what follows from a clause on errors holds at errors
pub err_then : {A E : Type 0} (P Q : Type 0) (r : Result A E) → (P → Q) → OnErr r P → OnErr r Q
err_then P Q (Ok x) f h = tt
err_then P Q (Err x) f h = f h

-- numbers still rise where one was taken out
pub dropped_order : (tuple : List FieldValue) (n : ℕ) (old new : List Bucket) → IsDropped tuple n old new → AreOrdered old → AreOrdered new
dropped_order tuple n old new gone rising = λ k.
    subst AreRising (sym (gone k)) (AllPairs-filter (λ (x y : ℕ). x < y) (λ m. not (has_class k tuple && eqb m n)) (numbers_of k old) (rising k))

-- after a tuple's number is taken out, a class has the numbers that it had, but for that one under the tuple's class
pub dropped_put : (tuple : List FieldValue) (m : ℕ) (old new : List Bucket) → IsDropped tuple m old new → (k : Class) (n : ℕ)
    → is_put k n new ≡ (is_put k n old && not (has_class k tuple && eqb n m))
dropped_put tuple m old new gone = λ k n.
    ap (is_among n) (gone k) ∙ among_filter (λ j. not (has_class k tuple && eqb j m)) n (numbers_of k old) ∙ and_swap (not (has_class k tuple && eqb n m)) (is_put k n old)
  where
    and_swap : (a b : Bool) → (a && b) ≡ (b && a)
    and_swap true b = sym (and_true b)
    and_swap false b = sym (and_false b)

-- after a tuple's number is added, a class has the numbers that it had, and that one under the tuple's class
pub added_put : (tuple : List FieldValue) (m : ℕ) (old new : List Bucket) → IsAdded tuple m old new → (k : Class) (n : ℕ)
    → is_put k n new ≡ (is_put k n old || (has_class k tuple && eqb n m))
added_put tuple m old new put = λ k n. ap (is_among n) (put k) ∙ by (has_class k tuple) n (numbers_of k old)
  where
    by : (c : Bool) (n : ℕ) (ns : List ℕ) → is_among n (ns ++ cond c (m ∷ []) []) ≡ (is_among n ns || (c && eqb n m))
    by true n ns = among_push n m ns
    by false n ns = ap (is_among n) (append-nil ns) ∙ sym (or_false (is_among n ns))

-- numbers up to one, and a greater one added, rise up to that
pub added_up : (tuple : List FieldValue) (last m : ℕ) (old new : List Bucket) → last < m → IsAdded tuple m old new → AreUpTo last old → AreUpTo m new
added_up tuple last m old new less put h = record {
  rising = λ k. subst AreRising (sym (put k)) (rises (has_class k tuple) (numbers_of k old) (h.rising k) (h.most k));
  most = λ k. subst (All (λ n. n ≤ m)) (sym (put k)) (ends (has_class k tuple) (numbers_of k old) (h.most k));
}
  where
    rises : (c : Bool) (ns : List ℕ) → AreRising ns → All (λ n. n ≤ last) ns → AreRising (ns ++ cond c (m ∷ []) [])
    rises true ns rising most = all_pairs_push (λ (x y : ℕ). x < y) ns m rising (λ k d lt. let up = most k d lt in omega arith)
    rises false ns rising most = subst AreRising (sym (append-nil ns)) rising

    ends : (c : Bool) (ns : List ℕ) → All (λ n. n ≤ last) ns → All (λ n. n ≤ m) (ns ++ cond c (m ∷ []) [])
    ends true ns most = All-push (λ n. n ≤ m) ns m (λ k d lt. let up = most k d lt in omega arith) (omega arith)
    ends false ns most = subst (All (λ n. n ≤ m)) (sym (append-nil ns)) (λ k d lt. let up = most k d lt in omega arith)

-- no entry's number is above the one last given, and so none that stands under a class
most_of : (last n : ℕ) (k : Class) (es : List Entry) → All (λ (e : Entry). (0 < e.number) × (e.number ≤ last)) es → is_numbered k n es ≡ true → n ≤ last
most_of last n k [] h is = absurd (false≢true is)
most_of last n k (e ∷ es) h is =
    let P : Entry → Type 0 = λ x. (0 < x.number) × (x.number ≤ last) in
    ⊎_elim
    (λ here. let same = eqb-true e.number n (both_left (eqb e.number n) (has_class k e.tuple) here) in let own = (All-head P e es h).1 in omega arith)
    (λ rest. most_of last n k es (All-tail P e es h) rest)
    (or_cases (eqb e.number n && has_class k e.tuple) (is_numbered k n es) is)

-- the numbers under the classes of entries rise up to the one last given
pub indexed_up : (last : ℕ) (bs : List Bucket) (es : List Entry) → All (λ (e : Entry). (0 < e.number) × (e.number ≤ last)) es → AreIndexed bs es → AreUpTo last bs
indexed_up last bs es numbered h = record {
  rising = h.rising;
  most = λ k i d lt. most_of last (get_or (numbers_of k bs) i d) k es numbered (sym (h.exact k _) ∙ among_at (numbers_of k bs) i d lt);
}

-- the entry at a place is taken out
pub indexed_without : (es : List Entry) (i : ℕ) (x : Entry) (old new : List Bucket) → IsRising es → i < length es → x ≡ get_or es i x → IsDropped x.tuple x.number old new → AreOnce new
    → AreIndexed old es → AreIndexed new (without x.number es)
indexed_without es i x old new rising lt is gone once h = record {
  once = once;
  rising = dropped_order x.tuple x.number old new gone h.rising;
  exact = λ k n.
      let only = only_at x.number es i rising lt (λ d. ap (λ (e : Entry). e.number) (sym (is ∙ get_or_default es i x d lt))) in
      let kept = any-filter_same (λ (e : Entry). eqb e.number n && has_class k e.tuple) (λ (e : Entry). not (eqb e.number x.number)) (not (eqb n x.number))
      (λ e mine. ap (λ (m : ℕ). not (eqb m x.number)) (eqb-true e.number n (both_left (eqb e.number n) (has_class k e.tuple) mine))) es in
      dropped_put x.tuple x.number old new gone k n ∙ ap (λ b. b && not (has_class k x.tuple && eqb n x.number)) (h.exact k n)
      ∙ by (eqb n x.number) (is_numbered k n es) (has_class k x.tuple)
      (λ same. ap (λ (m : ℕ). is_numbered k m es) (eqb-true n x.number same) ∙ any_place x.number (λ (e : Entry). has_class k e.tuple) es i x only is)
      ∙ sym kept;
}
  where
    by : (same there class : Bool) → (same ≡ true → there ≡ class) → (there && not (class && same)) ≡ (not same && there)
    by true there true h = and_false there
    by true there false h = and_true there ∙ h refl
    by false there true h = and_true there
    by false there false h = and_true there

-- entries change in other things than their numbers and tuples
pub indexed_map : (change : Entry → Entry) → ((e : Entry) → (change e).number ≡ e.number) → ((e : Entry) → (change e).tuple ≡ e.tuple) → (buckets : List Bucket) (es : List Entry)
    → AreIndexed buckets es → AreIndexed buckets (map change es)
indexed_map change same_number same_tuple buckets es h = record {
  once = h.once;
  rising = h.rising;
  exact = λ k n. h.exact k n ∙ by k n es;
}
  where
    by : (k : Class) (n : ℕ) (xs : List Entry) → is_numbered k n xs ≡ is_numbered k n (map change xs)
    by k n [] = refl
    by k n (x ∷ xs) = rw (same_number x, same_tuple x) (ap (λ b. (eqb x.number n && has_class k x.tuple) || b) (by k n xs))

-- an entry of a number is changed in other things
pub changed_tuple : (n : ℕ) (change : Entry → Entry) → ((e : Entry) → (change e).tuple ≡ e.tuple) → (e : Entry) → (cond (eqb e.number n) (change e) e).tuple ≡ e.tuple
changed_tuple n change keeps e = cond_both (eqb e.number n) (change e) e (λ (x : Entry). x.tuple ≡ e.tuple) (λ t. keeps e) (λ t. refl)

-- a tuple is put out
pub numbered_put : (k : Class) (n : ℕ) (w : SpaceValue) (tuple : List FieldValue) (lease : Lease)
    → is_numbered k n (put w tuple lease).entries ≡ (is_numbered k n w.entries || (has_class k tuple && eqb n (w.last + 1)))
numbered_put k n w tuple lease =
    let new : Entry = record { number = w.last + 1; tuple = tuple; end = granted w.moment lease; holds = [] } in
    list_any-append (λ (e : Entry). eqb e.number n && has_class k e.tuple) w.entries (new ∷ [])
    ∙ ap (λ b. is_numbered k n w.entries || b) (or_false (eqb (w.last + 1) n && has_class k tuple) ∙ turned (eqb (w.last + 1) n) (has_class k tuple)
    ∙ ap (λ b. has_class k tuple && b) (eqb_swap (w.last + 1) n))
  where
    turned : (a b : Bool) → (a && b) ≡ (b && a)
    turned true b = sym (and_true b)
    turned false b = sym (and_false b)

-- buckets index the entries after a tuple was put out and its number added
pub indexed_put : (old new : List Bucket) (w : SpaceValue) (tuple : List FieldValue) (lease : Lease) → All (λ (e : Entry). (0 < e.number) × (e.number ≤ w.last)) w.entries
    → IsAdded tuple (w.last + 1) old new → AreOnce new → AreIndexed old w.entries → AreIndexed new (put w tuple lease).entries
indexed_put old new w tuple lease numbered put_there once h = record {
  once = once;
  rising = (added_up tuple w.last (w.last + 1) old new (omega arith) put_there (indexed_up w.last old w.entries numbered h)).rising;
  exact = λ k n. added_put tuple (w.last + 1) old new put_there k n ∙ ap (λ b. b || (has_class k tuple && eqb n (w.last + 1))) (h.exact k n) ∙ sym (numbered_put k n w tuple lease);
}

-- several are
numbered_put_each : (k : Class) (n : ℕ) (w : SpaceValue) (writes : List Write) → is_numbered k n (put_each w writes).entries ≡ (is_numbered k n w.entries || is_to_be k n w.last writes)
numbered_put_each k n w [] = sym (or_false (is_numbered k n w.entries))
numbered_put_each k n w (x ∷ xs) =
    cond_both x.taken w (put w x.tuple x.lease) (λ (v : SpaceValue). is_numbered k n (put_each v xs).entries ≡ (is_numbered k n w.entries || is_to_be k n w.last (x ∷ xs)))
    (λ t. numbered_put_each k n w xs ∙ ap (λ b. is_numbered k n w.entries || b)
    (sym (ap (λ b. (not b && (has_class k x.tuple && eqb n (w.last + 1))) || is_to_be k n (cond b w.last (w.last + 1)) xs) t)))
    (λ f. numbered_put_each k n (put w x.tuple x.lease) xs ∙ ap (λ b. b || is_to_be k n (w.last + 1) xs) (numbered_put k n w x.tuple x.lease)
    ∙ joined (is_numbered k n w.entries) (has_class k x.tuple && eqb n (w.last + 1)) (is_to_be k n (w.last + 1) xs)
    ∙ ap (λ b. is_numbered k n w.entries || b)
    (sym (ap (λ b. (not b && (has_class k x.tuple && eqb n (w.last + 1))) || is_to_be k n (cond b w.last (w.last + 1)) xs) f)))
  where
    joined : (a b c : Bool) → ((a || b) || c) ≡ (a || (b || c))
    joined true b c = refl
    joined false b c = refl

-- the same for several writes
pub indexed_put_each : (old new : List Bucket) (w : SpaceValue) (writes : List Write) → AreOrdered new → AreOnce new
    → ((k : Class) (n : ℕ) → is_put k n new ≡ (is_put k n old || is_to_be k n w.last writes)) → AreIndexed old w.entries → AreIndexed new (put_each w writes).entries
indexed_put_each old new w writes rising once there h = record {
  once = once;
  rising = rising;
  exact = λ k n. there k n ∙ ap (λ b. b || is_to_be k n w.last writes) (h.exact k n) ∙ sym (numbered_put_each k n w writes);
}

-- the numbers that writes are to have are above the one last given
next_above : (k : Class) (n last : ℕ) (x : Write) → is_next k n last x ≡ true → last < n
next_above k n last x is =
    let same = eqb-true n (last + 1) (both_right (has_class k x.tuple) (eqb n (last + 1)) (both_right (not x.taken) (has_class k x.tuple && eqb n (last + 1)) is)) in
    omega arith

to_be_above : (k : Class) (n last : ℕ) (writes : List Write) → is_to_be k n last writes ≡ true → last < n
to_be_above k n last [] is = absurd (false≢true is)
to_be_above k n last (x ∷ xs) is = ⊎_elim
    (λ here. next_above k n last x here)
    (λ rest. let more = to_be_above k n (last_after last x) xs rest in let least = after_least x.taken last in omega arith)
    (or_cases (is_next k n last x) (is_to_be k n (last_after last x) xs) is)
  where
    after_least : (taken : Bool) (m : ℕ) → m ≤ cond taken m (m + 1)
    after_least true m = omega arith
    after_least false m = omega arith

-- the first of several writes
pub to_be_more : (k : Class) (n last next : ℕ) (x : Write) (rest l : List Write) → l ≡ x ∷ rest → next ≡ last_after last x
    → is_to_be k n last l ≡ (is_next k n last x || is_to_be k n next rest)
to_be_more k n last next x rest l is after =
    ap (is_to_be k n last) is ∙ ap (λ m. is_next k n last x || is_to_be k n m rest) (sym after)

-- what stands there and what is still to be put are the same whole once one more was put
pub put_more : (new mid here rest l : Bool) (whole : Bool) → l ≡ (here || rest) → new ≡ (mid || here) → (mid || l) ≡ whole → (new || rest) ≡ whole
put_more new mid here rest l whole is put before = ap (λ b. b || rest) put ∙ joined mid here rest ∙ ap (λ b. mid || b) (sym is) ∙ before
  where
    joined : (a b c : Bool) → ((a || b) || c) ≡ (a || (b || c))
    joined true b c = refl
    joined false b c = refl

-- what follows from all that is to be put follows from what is behind the first
pub later_more : (here rest l whole : Bool) → l ≡ (here || rest) → (l ≡ true → whole ≡ true) → rest ≡ true → whole ≡ true
later_more here rest l whole is before later = before (is ∙ or_right here rest later)

-- what stands there but for what is still to go is the same once one more is gone
pub gone_more : (new mid here rest l : Bool) (whole : Bool) → l ≡ (here || rest) → new ≡ (mid && not here) → (mid && not l) ≡ whole → (new && not rest) ≡ whole
gone_more new mid here rest l whole is gone before = ap (λ b. b && not rest) gone ∙ joined mid here rest ∙ ap (λ b. mid && not b) (sym is) ∙ before
  where
    joined : (a b c : Bool) → ((a && not b) && not c) ≡ (a && not (b || c))
    joined false b c = refl
    joined true true c = refl
    joined true false c = refl

-- what stands there where not all numbers were put
pub put_partly : (new mid rest whole old : Bool) → new ≡ mid → (rest ≡ true → whole ≡ true) → (mid || rest) ≡ (old || whole) → (new || whole) ≡ (old || whole)
put_partly new mid rest true old is later before = always new ∙ sym (always old)
  where
    always : (a : Bool) → (a || true) ≡ true
    always true = refl
    always false = refl
put_partly new mid rest false old is later before = ap (λ b. b || false) is ∙ by rest later before
  where
    by : (r : Bool) → (r ≡ true → false ≡ true) → (mid || r) ≡ (old || false) → (mid || false) ≡ (old || false)
    by true never e = absurd (false≢true (never refl))
    by false never e = e

-- writes that were put there and taken out again leave what stood there
pub indexed_undone : (old mid new : List Bucket) (last : ℕ) (es : List Entry) (writes : List Write) → All (λ (e : Entry). (0 < e.number) × (e.number ≤ last)) es → AreOrdered new → AreOnce new
    → ((k : Class) (n : ℕ) → (is_put k n mid || is_to_be k n last writes) ≡ (is_put k n old || is_to_be k n last writes))
    → ((k : Class) (n : ℕ) → is_put k n new ≡ (is_put k n mid && not (is_to_be k n last writes))) → AreIndexed old es → AreIndexed new es
indexed_undone old mid new last es writes numbered rising once put_there gone h = record {
  once = once;
  rising = rising;
  exact = λ k n.
      gone k n ∙ by (is_to_be k n last writes) (is_put k n old) (is_put k n mid) (put_there k n)
      (λ was to_be. (let up = most_of last n k es numbered (sym (h.exact k n) ∙ was) in let above = to_be_above k n last writes to_be in omega arith))
      ∙ h.exact k n;
}
  where
    by : (t o m : Bool) → (m || t) ≡ (o || t) → (o ≡ true → t ≡ true → ⊥) → (m && not t) ≡ o
    by true true m e never = absurd (never refl refl)
    by true false m e never = and_false m
    by false o m e never = and_true m ∙ sym (or_false m) ∙ e ∙ or_false o

-- what holds of all numbers of a bucket holds of one that is in it
of_among : (P : ℕ → Type 0) (ns : List ℕ) (n : ℕ) → All P ns → is_among n ns ≡ true → P n
of_among P [] n h among = absurd (false≢true among)
of_among P (x ∷ xs) n h among = ⊎_elim
    (λ same. subst P (sym (eqb-true n x same)) (All-head P x xs h))
    (λ rest. of_among P xs n (All-tail P x xs h) rest)
    (or_cases (eqb n x) (is_among n xs) among)

-- what holds of the numbers of all lists holds of those of one
all_at : (P : ℕ → Type 0) (lists : List (List ℕ)) (l : ℕ) → All (All P) lists → All P (list_at l lists)
all_at P [] l h = All-nil P
all_at P (v ∷ vs) zero h = All-head (All P) v vs h
all_at P (v ∷ vs) (suc l) h = all_at P vs l (All-tail (All P) v vs h)

of_put : (P : ℕ → Type 0) (k : Class) (buckets : List Bucket) (n : ℕ)
    → All (λ (b : Bucket). is_of k.word k.count b ≡ true → All P (numbers_at k.slot b)) buckets → is_put k n buckets ≡ true → P n
of_put P k [] n h there = absurd (false≢true there)
of_put P k (b ∷ bs) n h there =
    let Q : Bucket → Type 0 = λ b. is_of k.word k.count b ≡ true → All P (numbers_at k.slot b) in
    cond_both (is_of k.word k.count b) (numbers_at k.slot b) (numbers_of k bs) (λ (l : List ℕ). is_among n l ≡ true → P n)
    (λ t among. of_among P (numbers_at k.slot b) n (All-head Q b bs h t) among)
    (λ f among. of_put P k bs n (All-tail Q b bs h) among)
    there

-- a tuple stands in the slot of its second field
in_own : (first second : FieldValue) (fields : List FieldValue) → is_in (slot_of second) (first ∷ second ∷ fields) ≡ true
in_own first (number n) fields = eq-eqb (unsigned_abs n % 2 ^ 64) (unsigned_abs n % 2 ^ 64) refl
in_own first (word bytes) fields = eq-eqb (word_value bytes) (word_value bytes) refl
in_own first (numbers ns) fields = eq-eqb (length ns) (length ns) refl

-- so one that a template matches stands in the slot of the field that this asks for second
in_sought : (template : List PatternValue) (tuple : List FieldValue) (s : Slot) → sought_slot template ≡ Some s → Matches template tuple → is_in s tuple ≡ true
in_sought [] tuple s sought m = absurd (none_some (sym sought))
in_sought (p ∷ []) tuple s sought m = absurd (none_some (sym sought))
in_sought (p ∷ actual second ∷ patterns) [] s sought m = absurd m
in_sought (p ∷ actual second ∷ patterns) (first ∷ []) s sought m = absurd m.1
in_sought (p ∷ actual second ∷ patterns) (first ∷ other ∷ fields) s sought m =
    let own = subst (λ (f : FieldValue). is_in (slot_of second) (first ∷ f ∷ fields) ≡ true) m.1.0 (in_own first second fields) in
    subst (λ (t : Slot). is_in t (first ∷ other ∷ fields) ≡ true) (same_Some (slot_of second) s sought) own
in_sought (p ∷ any_number ∷ patterns) tuple s sought m = absurd (none_some (sym sought))
in_sought (p ∷ any_word ∷ patterns) tuple s sought m = absurd (none_some (sym sought))
in_sought (p ∷ any_numbers ∷ patterns) tuple s sought m = absurd (none_some (sym sought))

-- the number of an entry of a class is that of an entry of it
numbered_at : (k : Class) (es : List Entry) (i : ℕ) (d : Entry) → i < length es → has_class k (get_or es i d).tuple ≡ true → is_numbered k (get_or es i d).number es ≡ true
numbered_at k [] i d lt is = absurd (omega arith)
numbered_at k (e ∷ es) zero d lt is = or_left (eqb e.number e.number && has_class k e.tuple) (is_numbered k e.number es) (both (eqb e.number e.number) (has_class k e.tuple) (eq-eqb e.number e.number refl) is)
numbered_at k (e ∷ es) (suc i) d lt is =
    let n = (get_or es i d).number in
    or_right (eqb e.number n && has_class k e.tuple) (is_numbered k n es) (numbered_at k es i d (omega arith) is)

-- a template that asks for a word first matches tuples that begin with it and are as long as it is
first_of : (template : List PatternValue) (tuple : List FieldValue) (bytes : List ℕ) → Some bytes ≡ sought_word template → Matches template tuple
    → (first_word tuple ≡ Some bytes) × (length tuple ≡ length template)
first_of [] tuple bytes sought m = absurd (none_some sought)
first_of (actual (word s) ∷ patterns) [] bytes sought m = absurd m
first_of (actual (word s) ∷ patterns) (field ∷ fields) bytes sought m =
    (ap (λ (f : FieldValue). first_word (f ∷ fields)) (sym m.0) ∙ sym sought, ap suc (sym (same_lengths FieldMatches patterns fields m.1)))
first_of (actual (number n) ∷ patterns) tuple bytes sought m = absurd (none_some sought)
first_of (actual (numbers ns) ∷ patterns) tuple bytes sought m = absurd (none_some sought)
first_of (any_number ∷ patterns) tuple bytes sought m = absurd (none_some sought)
first_of (any_word ∷ patterns) tuple bytes sought m = absurd (none_some sought)
first_of (any_numbers ∷ patterns) tuple bytes sought m = absurd (none_some sought)

not_both : (free matches : Bool) → (matches ≡ true → (free && matches) ≡ false) → (free && matches) ≡ false
not_both true true h = h refl
not_both true false h = refl
not_both false matches h = refl

-- an entry isn't wanted where it isn't among those that the template matches
not_wanted : (wanted : Wanted) (moment : ℕ) (template : List PatternValue) (e : Entry) → (does_match template e.tuple ≡ true → is_wanted wanted moment template e ≡ false) → is_wanted wanted moment template e ≡ false
not_wanted (Allowed claim) moment template e h = not_both (is_open claim moment e) (does_match template e.tuple) h
not_wanted There moment template e h = not_both (is_there moment e) (does_match template e.tuple) h

-- an entry of a class isn't wanted where none is in the buckets of it
unwanted_of : (k : Class) (wanted : Wanted) (moment : ℕ) (template : List PatternValue) (es : List Entry) (buckets : List Bucket) (i : ℕ) (d : Entry) → i < length es
    → first_word (get_or es i d).tuple ≡ Some k.word → length (get_or es i d).tuple ≡ k.count → is_in k.slot (get_or es i d).tuple ≡ true → AreIndexed buckets es
    → All (λ (b : Bucket). is_of k.word k.count b ≡ true → All (IsUnwanted wanted moment template es) (numbers_at k.slot b)) buckets
    → is_wanted wanted moment template (get_or es i d) ≡ false
unwanted_of k wanted moment template es buckets i d lt begins long stands indexed none =
    let e = get_or es i d in
    let spelled = ap (λ o. is_word o k.word) begins ∙ (bytes_eq-Decides k.word k.word).1 refl in
    let class = both (eqb (length e.tuple) k.count && is_word (first_word e.tuple) k.word) (is_in k.slot e.tuple)
    (both (eqb (length e.tuple) k.count) (is_word (first_word e.tuple) k.word) (eq-eqb (length e.tuple) k.count long) spelled) stands in
    of_put (IsUnwanted wanted moment template es) k buckets e.number none (indexed.exact k e.number ∙ numbered_at k es i d lt class) i d lt refl

-- where nothing in the bucket of a word is wanted, nothing is
pub none_wanted : (bytes : List ℕ) (wanted : Wanted) (moment : ℕ) (template : List PatternValue) (es : List Entry) (buckets : List Bucket) → Some bytes ≡ sought_word template
    → AreIndexed buckets es → All (HasNoneWanted bytes wanted moment template es) buckets → All (λ (e : Entry). is_wanted wanted moment template e ≡ false) es
none_wanted bytes wanted moment template es buckets sought indexed none = by (sought_slot template) refl none
  where
    by : (o : Option Slot) → sought_slot template ≡ o
        → All (λ (b : Bucket). is_of bytes (length template) b ≡ true → MatchOption o (All (All (IsUnwanted wanted moment template es)) b.by_length.items)
        (λ s. All (IsUnwanted wanted moment template es) (numbers_at s b))) buckets
        → All (λ (e : Entry). is_wanted wanted moment template e ≡ false) es
    by None is nothing = λ i d lt.
        let e = get_or es i d in
        not_wanted wanted moment template e (λ matched.
        let first = first_of template e.tuple bytes sought ((Decides-does_match template e.tuple).0 matched) in
        let k : Class = record { word = bytes; count = length template; slot = Length (second_length e.tuple) } in
        unwanted_of k wanted moment template es buckets i d lt first.0 first.1 (eq-eqb (second_length e.tuple) (second_length e.tuple) refl) indexed
        (λ j x within of. all_at (IsUnwanted wanted moment template es) (get_or buckets j x).by_length.items (second_length e.tuple) (nothing j x within of)))
    by (Some s) is nothing = λ i d lt.
        let e = get_or es i d in
        not_wanted wanted moment template e (λ matched.
        let m = (Decides-does_match template e.tuple).0 matched in
        let first = first_of template e.tuple bytes sought m in
        let k : Class = record { word = bytes; count = length template; slot = s } in
        unwanted_of k wanted moment template es buckets i d lt first.0 first.1 (in_sought template e.tuple s is m) indexed nothing)

-- the entry of a number isn't wanted where the one at its place isn't
pub unwanted_at : (wanted : Wanted) (moment : ℕ) (template : List PatternValue) (es : List Entry) (n i : ℕ) (x : Entry) → IsRising es → i < length es → HoldsAt (λ (e : Entry). e.number ≡ n) es i
    → x ≡ get_or es i x → is_wanted wanted moment template x ≡ false → IsUnwanted wanted moment template es n
unwanted_at wanted moment template es n i x rising within here is none = λ k d lt same.
    let only = only_at n es i rising within here in
    let differs : k ≢ i → is_wanted wanted moment template (get_or es k d) ≡ false = λ ne. absurd (only.others k d lt ne same) in
    ⊎_elim
    (λ before. differs (λ at. omega arith))
    (λ after. ⊎_elim
    (λ behind. differs (λ at. omega arith))
    (λ both_ways.
    let at : k ≡ i = omega arith in
    ap (λ j. is_wanted wanted moment template (get_or es j d)) at ∙ ap (is_wanted wanted moment template) (sym (is ∙ get_or_default es i x d within)) ∙ none)
    (cases_lt i k))
    (cases_lt k i)

-- nor where no entry has it
pub unwanted_none : (wanted : Wanted) (moment : ℕ) (template : List PatternValue) (es : List Entry) (n : ℕ) → HasNone n es → IsUnwanted wanted moment template es n
unwanted_none wanted moment template es n none = λ k d lt same. absurd (none k d lt same)

-- the entry that is found by a number is taken out
pub indexed_found : (es : List Entry) (n : ℕ) (x : Entry) (old new : List Bucket) → IsRising es → Some x ≡ find (λ (e : Entry). eqb e.number n) es → IsDropped x.tuple x.number old new → AreOnce new
    → AreIndexed old es → AreIndexed new (without n es)
indexed_found es n x old new rising h gone once indexed =
    let found = found_at n es x rising h in
    subst (λ m. AreIndexed new (without m es)) found.own (indexed_without es found.place x old new rising found.only.within found.is gone once indexed)

few_by : (taken : Bool) (last rest limit : ℕ) → last + (cond {A = ℕ} (not taken) 1 0 + rest) ≤ limit → cond taken last (last + 1) + rest ≤ limit
few_by true last rest limit h = omega arith
few_by false last rest limit h = omega arith

-- numbers are left for the writes behind one
pub few_more : (last limit : ℕ) (x : Write) (xs : List Write) → last + put_count (x ∷ xs) ≤ limit → last_after last x + put_count xs ≤ limit
few_more last limit x xs h =
    let counted = sum_by-cons (λ (y : Write). cond {A = ℕ} (not y.taken) 1 0) x xs in
    few_by x.taken last (put_count xs) limit (subst (λ n. last + n ≤ limit) counted h)

-- what an answer that isn't a refusal says
pub of_ok : {A E : Type 0} (P : Type 0) (r : Result A E) → OnOk r P → is_err r ≡ false → P
of_ok P (Ok x) h e = h
of_ok P (Err x) h e = absurd (false≢true (sym e))

-- what a refusal says
pub of_err : {A E : Type 0} (P : Type 0) (r : Result A E) → OnErr r P → is_err r ≡ true → P
of_err P (Ok x) h e = absurd (false≢true e)
of_err P (Err x) h e = h

-- what follows where there is none
pub none_then : {A : Type 0} (P Q : Type 0) (o : Option A) → (P → Q) → IfNone o P → IfNone o Q
none_then P Q None f h = f h
none_then P Q (Some x) f h = tt
