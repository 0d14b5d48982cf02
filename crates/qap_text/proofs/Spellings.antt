-- Spelled numbers, one after another.
use Rattle.std.proofs.Common.{◌≡◌, ℕ, zero, suc, ◌+◌, ◌-◌, ◌*◌, ◌<◌, ◌≤◌, List, [], ◌∷◌, ◌++◌, length, get_or, drop, take, ℤ, pos, refl, sym, ◌∙◌, ap, subst, inl, inr, arith, length-append}
use Rattle.std.proofs.lemmas.Bool.{cases_lt}
use Rattle.std.proofs.lemmas.List.{get_or_append_left, get_or-append_right}
use Rattle.std.proofs.lemmas.List.{length-drop}
use Rattle.std.proofs.Math.Seq.{take-length}
use Rattle.qap_cost.specs.Instance.{InRange, Problem, IsInstance}
use Rattle.qap_cost.specs.Row.{AllInRange}
use Rattle.qap_text.specs.Spelling.{IsNumberAt, Spells}
use Rattle.qap_text.specs.InstanceText.{IsInstanceText, HasEntryFault}
use Rattle.qap_text.specs.declared.error.TextError.{TextError}

-- numbers spelled up to a place, and others from there on, are spelled one list behind the other
pub Spells-append : (text : List ℕ) (from : ℕ) (xs : List ℤ) (middle : ℕ) (ys : List ℤ) (stop : ℕ) → Spells text from xs middle → Spells text middle ys stop → Spells text from (xs ++ ys) stop
Spells-append text from [] middle ys stop h k = subst (λ (i : ℕ). Spells text i ys stop) (sym h) k
Spells-append text from (x ∷ xs) middle ys stop h k = (h.0, h.1, h.2, Spells-append text h.1 xs middle ys stop h.3 k)

-- what reading entries has found so far
pub record HasRead (text : List ℕ) (from : ℕ) (entries : List ℤ) (stop count : ℕ) : Type 0 where
  pub spelled : Spells text from entries stop
  pub in_range : AllInRange entries
  pub counted : length entries ≡ count
  pub in_text : stop ≤ length text

-- two lists of entries in range are so one behind the other
pub AllInRange-append : (xs ys : List ℤ) → AllInRange xs → AllInRange ys → AllInRange (xs ++ ys)
AllInRange-append xs ys h k = record {
  each = λ j below. elim (cases_lt j (length xs)) [
    | inl front ↦ subst InRange (sym (get_or_append_left xs ys (pos 0) j front)) (h.each j front)
    | inr back ↦ subst InRange (sym (get_or-append_right xs ys (length xs) j (pos 0) refl back)) (k.each (j - length xs) (omega (arith, length-append xs ys)))
  ];
}

one : (z : ℤ) → InRange z → (j : ℕ) → j < length (z ∷ []) → InRange (get_or (z ∷ []) j (pos 0))
one z h zero below = h
one z h (suc j) below = absurd (omega arith)

-- one entry in range more has been read
pub HasRead-more : (text : List ℕ) (from : ℕ) (xs new : List ℤ) (stop start next n : ℕ) (z : ℤ) → HasRead text from xs stop n → InRange z → IsNumberAt text stop start next z → new ≡ xs ++ z ∷ [] → HasRead text from new next (n + 1)
HasRead-more text from xs new stop start next n z h in_range number is = record {
  spelled = subst (λ ys. Spells text from ys next) (sym is) (Spells-append text from xs stop (z ∷ []) next h.spelled (start, next, number, refl));
  in_range = subst AllInRange (sym is) (AllInRange-append xs (z ∷ []) h.in_range (record { each = one z in_range }));
  counted = ap length is ∙ length-append xs (z ∷ []) ∙ ap (λ k. k + 1) h.counted;
  in_text = number.word.in_text;
}

-- a fault behind entries that are right is a fault of all of them together
pub HasEntryFault-behind : (text : List ℕ) (from middle n : ℕ) (a : List ℤ) (e : TextError) → Spells text from a middle → AllInRange a → length a ≡ n → HasEntryFault text middle n e → HasEntryFault text from (2 * n) e
HasEntryFault-behind text from middle n a e spelled in_range count h = record {
  entries = a ++ h.entries;
  stop = h.stop;
  spelled = Spells-append text from a middle h.entries h.stop spelled h.spelled;
  in_range = AllInRange-append a h.entries in_range h.in_range;
  too_few = omega (arith, length-append a h.entries, h.too_few);
  fault = h.fault;
}

-- a fault among the first n entries is one among the first m, for m no less than n
pub HasEntryFault-of_more : (text : List ℕ) (from n m : ℕ) (e : TextError) → n ≤ m → HasEntryFault text from n e → HasEntryFault text from m e
HasEntryFault-of_more text from n m e more h = record {
  entries = h.entries;
  stop = h.stop;
  spelled = h.spelled;
  in_range = h.in_range;
  too_few = omega (arith, h.too_few);
  fault = h.fault;
}

-- the size and the two matrices, one after another
pub IsInstanceText-from : (text : List ℕ) (I : Problem) (n start first second third : ℕ) (a b : List ℤ) → IsNumberAt text 0 start first (pos n) → Spells text first a second → Spells text second b third → I ≡ record { size = n; a = a; b = b } → IsInstance I → third ≤ length text → IsInstanceText text I (take (length text - third) (drop third text))
IsInstanceText-from text I n start first second third a b size of_a of_b is instance in_text = record {
  instance = instance;
  stop = third;
  spelled = subst (λ (J : Problem). Spells text 0 (pos J.size ∷ J.a ++ J.b) third) (sym is)
      (start, first, size, Spells-append text first a second b third of_a of_b);
  follows = ap (λ k. take k (drop third text)) (sym (length-drop third text)) ∙ take-length (drop third text);
}
