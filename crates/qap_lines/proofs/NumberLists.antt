-- Numbers one after another: there is one list of them, and one text for those in range.
use Rattle.std.proofs.Common.{◌≡◌, ◌≢◌, Bool, true, ℕ, zero, suc, ◌+◌, ◌^◌, ◌<◌, ◌≤◌, List, [], ◌∷◌, ◌++◌, length, map, take, drop, get_or, ℤ, pos, negsuc, min, unsigned_abs, refl, sym, ap, ap₂, subst, ◌∙◌, inl, inr, arith, append_assoc, length-append}
use Rattle.std.specs.Prelude.{neg_ℤ, Option, None, Some, MatchOption, IsTrue, ◌↔◌}
use Rattle.std.specs.Fmt.{signed_decimal}
use Rattle.std.proofs.lemmas.List.{get_or_at, get_or_append_left, append_cancel_left, drop_at, append-nil, map-append, length-take-le, length-drop, nil_from_length, take_all, take-append-le}
use Rattle.std.proofs.lemmas.Bool.{cases_lt}
use Rattle.qap_cost.specs.Range.{AllLimited, IsLimited}
use Rattle.qap_lines.specs.Line.{HasNoLine, IsLine}
use Rattle.qap_lines.specs.Number.{IsNumber, Spells, IsNamed, held}
use Rattle.qap_io.specs.Digits.{IsNoDigit}
use Rattle.qap_lines.specs.Numeral.{IsFrontNumber, HasNoFrontNumber}
use Rattle.qap_lines.specs.LineText.{numbers_text, line_text}
use Rattle.qap_lines.proofs.Lines.{HasNoLine-cons, HasNoLine-append}
use Rattle.qap_lines.proofs.Words.{number_fronts, IsNumber-unique, IsNumber-signed_decimal, number_word, HasNoLine-number}

-- of numbers in range the first one is in range
pub AllLimited-head : (z : ℤ) (zs : List ℤ) → AllLimited (z ∷ zs) → unsigned_abs z ≤ 10 ^ 24
AllLimited-head z zs h = h.each 0 (omega arith)

-- and so are those behind it
pub AllLimited-tail : (z : ℤ) (zs : List ℤ) → AllLimited (z ∷ zs) → AllLimited zs
AllLimited-tail z zs h = record { each = λ j below. h.each (suc j) (omega arith) }

-- a number from -10^24 to 10^24 alone is a list in range
pub AllLimited-one : (z : ℤ) → unsigned_abs z ≤ 10 ^ 24 → AllLimited (z ∷ [])
AllLimited-one z small = record { each = each }
  where
    each : (j : ℕ) → j < 1 → unsigned_abs (get_or (z ∷ []) j (pos 0)) ≤ 10 ^ 24
    each zero below = small
    each (suc j) below = absurd (omega arith)

-- numbers begin with no digit
pub Spells-ends : (text : List ℕ) (zs : List ℤ) → Spells text zs → IsNoDigit (get_or text 0 0)
Spells-ends text [] a = inl (omega (arith, ap (λ l. get_or l 0 0) a))
Spells-ends text (z ∷ zs) a = inl (omega (arith, ap (λ l. get_or l 0 0) a.2))

nothing_begins : (text more : List ℕ) (byte : ℕ) → text ≡ [] → text ≡ byte ∷ more → ⊥
nothing_begins text more byte none some = absurd (omega (arith, ap length none, ap length some))

-- a text spells the numbers of one list
pub Spells-unique : (text : List ℕ) (xs ys : List ℤ) → Spells text xs → Spells text ys → xs ≡ ys
Spells-unique text [] [] a b = refl
Spells-unique text [] (y ∷ ys) a b = absurd (nothing_begins text (b.0 ++ b.1) 32 a b.2)
Spells-unique text (x ∷ xs) [] a b = absurd (nothing_begins text (a.0 ++ a.1) 32 b a.2)
Spells-unique text (x ∷ xs) (y ∷ ys) a b =
    let same = number_fronts a.0 a.1 b.0 b.1 x y (ap (drop 1) (sym a.2 ∙ b.2)) a.3 b.3 (Spells-ends a.1 xs a.4) (Spells-ends b.1 ys b.4) in
    let first : x ≡ y = IsNumber-unique a.0 x y a.3 (subst (λ (w : List ℕ). IsNumber w y) (sym same.0) b.3) in
    let others : xs ≡ ys = Spells-unique a.1 xs ys a.4 (subst (λ (t : List ℕ). Spells t ys) (sym same.1) b.4) in
    ap₂ (λ z zs. z ∷ zs) first others

-- a line of a name has one list of numbers
pub IsNamed-unique : (name line : List ℕ) (xs ys : List ℤ) → IsNamed name line xs → IsNamed name line ys → xs ≡ ys
IsNamed-unique name line xs ys a b =
    let same : a.numbers ≡ b.numbers = append_cancel_left name a.numbers b.numbers (sym a.is ∙ b.is) in
    Spells-unique a.numbers xs ys a.spelled (subst (λ (t : List ℕ). Spells t ys) (sym same) b.spelled)

-- numbers in range spell their text
pub Spells-numbers_text : (zs : List ℤ) → AllLimited zs → Spells (numbers_text zs) zs
Spells-numbers_text [] h = refl
Spells-numbers_text (z ∷ zs) h =
    (signed_decimal z, numbers_text zs, refl, IsNumber-signed_decimal z (AllLimited-head z zs h), Spells-numbers_text zs (AllLimited-tail z zs h))

-- and have no other text
pub numbers_text-is : (text : List ℕ) (zs : List ℤ) → Spells text zs → AllLimited zs → text ≡ numbers_text zs
numbers_text-is text [] a h = a
numbers_text-is text (z ∷ zs) a h =
    a.2 ∙ ap₂ (λ w r. 32 ∷ w ++ r) (number_word a.0 z a.3 (AllLimited-head z zs h)) (numbers_text-is a.1 zs a.4 (AllLimited-tail z zs h))

-- numbers have no line feed
pub HasNoLine-numbers : (text : List ℕ) (zs : List ℤ) → Spells text zs → HasNoLine text
HasNoLine-numbers text [] a = record { each = λ i below. absurd (omega (arith, ap length a)) }
HasNoLine-numbers text (z ∷ zs) a =
    subst HasNoLine (sym a.2) (HasNoLine-cons 32 (a.0 ++ a.1) (λ e. absurd (omega arith)) (HasNoLine-append a.0 a.1 (HasNoLine-number a.0 z a.3) (HasNoLine-numbers a.1 zs a.4)))

-- a line of a name and numbers has no line feed
pub HasNoLine-named : (name line : List ℕ) (zs : List ℤ) → HasNoLine name → IsNamed name line zs → HasNoLine line
HasNoLine-named name line zs none a =
    subst HasNoLine (sym a.is) (HasNoLine-append name a.numbers none (HasNoLine-numbers a.numbers zs a.spelled))

-- a line of a name and numbers in range is their text
pub line_text-is : (text line rest name : List ℕ) (zs : List ℤ) → IsLine text line rest → IsNamed name line zs → AllLimited zs → text ≡ line_text name zs ++ rest
line_text-is text line rest name zs first named h =
    first.is
    ∙ ap (λ l. l ++ 10 ∷ rest) (named.is ∙ ap (λ l. name ++ l) (numbers_text-is named.numbers zs named.spelled h))
    ∙ sym (append_assoc (name ++ numbers_text zs) (10 ∷ []) rest)

-- a name and the text of numbers in range are a line of this name and these numbers
pub IsNamed-numbers_text : (name : List ℕ) (zs : List ℤ) → AllLimited zs → IsNamed name (name ++ numbers_text zs) zs
IsNamed-numbers_text name zs h = record { numbers = numbers_text zs; is = refl; spelled = Spells-numbers_text zs h }

-- the text of a name and numbers in range is a line of them
pub IsLine-line_text : (rest name : List ℕ) (zs : List ℤ) → HasNoLine name → AllLimited zs → IsLine (line_text name zs ++ rest) (name ++ numbers_text zs) rest
IsLine-line_text rest name zs none h = record {
  is = append_assoc (name ++ numbers_text zs) (10 ∷ []) rest;
  first = HasNoLine-named name (name ++ numbers_text zs) zs none (IsNamed-numbers_text name zs h);
}

-- a number in range is held as it is
pub held-within : (z : ℤ) → unsigned_abs z ≤ 10 ^ 24 → held z ≡ z
held-within (pos n) small = ap pos (omega arith)
held-within (negsuc n) small =
    let same : min (suc n) (10 ^ 25) ≡ suc n = omega arith in ap (λ m. neg_ℤ (pos m)) same

-- a number that is held in range is that number
pub held_within-is : (z : ℤ) → unsigned_abs (held z) ≤ 10 ^ 24 → unsigned_abs z ≤ 10 ^ 24
held_within-is (pos n) small = omega arith
held_within-is (negsuc n) small =
    elim (cases_lt n (10 ^ 24)) [
      | inl less ↦ omega arith
      | inr more ↦
          let high : 10 ^ 24 < min (suc n) (10 ^ 25) = omega arith in absurd (omega (arith, unsigned_abs_neg (min (suc n) (10 ^ 25))))
    ]
  where
    unsigned_abs_neg : (m : ℕ) → unsigned_abs (neg_ℤ (pos m)) ≡ m
    unsigned_abs_neg zero = refl
    unsigned_abs_neg (suc m) = refl

-- the text of a name and one number in range
pub line_text-one : (text line rest name : List ℕ) (z : ℤ) → IsLine text line rest → IsNamed name line (z ∷ []) → unsigned_abs z ≤ 10 ^ 24 → text ≡ line_text name (z ∷ []) ++ rest
line_text-one text line rest name z first named small =
    line_text-is text line rest name (z ∷ []) first named (AllLimited-one z small)

-- what has been read of a text: whatever the rest spells follows these numbers in it
pub record HasRead (text rest : List ℕ) (zs : List ℤ) : Type 0 where
  pub onward : (ys : List ℤ) → Spells rest ys → Spells text (zs ++ ys)
  pub back : (xs : List ℤ) → Spells text xs → (ys : List ℤ) × (xs ≡ zs ++ ys) × Spells rest ys

-- at first nothing has been read, and the rest is the whole text
pub HasRead-none : (text : List ℕ) → HasRead text text []
HasRead-none text = record { onward = λ ys a. a; back = λ xs a. (xs, refl, a) }

-- one number more has been read, behind a blank
pub HasRead-more : (text rest after : List ℕ) (zs : List ℤ) (count : ℕ) (value : ℤ) (read : HasRead text rest zs) → rest ≡ 32 ∷ after → (found : IsFrontNumber after count value) → HasRead text (drop count after) (zs ++ found.number ∷ [])
HasRead-more text rest after zs count value read is found = record { onward = onward; back = back }
  where
    z : ℤ
    z = found.number

    word : List ℕ
    word = take count after

    behind : drop count after ≡ found.front.rest
    behind = ap (drop count) found.front.is ∙ drop_at word found.front.rest count (length-take-le count after found.in_text)

    onward : (ys : List ℤ) → Spells (drop count after) ys → Spells text ((zs ++ z ∷ []) ++ ys)
    onward ys a =
        let one : Spells rest (z ∷ ys) = (word, found.front.rest, is ∙ ap (λ l. 32 ∷ l) found.front.is, found.spelled, subst (λ (t : List ℕ). Spells t ys) behind a) in
        subst (Spells text) (sym (append_assoc zs (z ∷ []) ys)) (read.onward (z ∷ ys) one)

    split : (ys : List ℤ) → Spells rest ys → (others : List ℤ) × (ys ≡ z ∷ others) × Spells (drop count after) others
    split [] a = absurd (nothing_begins rest after 32 a is)
    split (y ∷ ys) a =
        let same = number_fronts a.0 a.1 word found.front.rest y z (ap (drop 1) (sym a.2 ∙ is) ∙ found.front.is) a.3 found.spelled (Spells-ends a.1 ys a.4) found.front.ends in
        let first : y ≡ z = IsNumber-unique a.0 y z a.3 (subst (λ (w : List ℕ). IsNumber w z) (sym same.0) found.spelled) in
        (ys, ap (λ x. x ∷ ys) first, subst (λ (t : List ℕ). Spells t ys) (same.1 ∙ sym behind) a.4)

    back : (xs : List ℤ) → Spells text xs → (ys : List ℤ) × (xs ≡ (zs ++ z ∷ []) ++ ys) × Spells (drop count after) ys
    back xs a =
        let b = read.back xs a in
        let c = split b.0 b.2 in
        (c.0, b.1 ∙ ap (λ l. zs ++ l) c.1 ∙ sym (append_assoc zs (z ∷ []) c.0), c.2)

-- where a space stands and no number behind it, there are no numbers
pub HasRead-no_number : (text rest after : List ℕ) (zs : List ℤ) (read : HasRead text rest zs) → rest ≡ 32 ∷ after → HasNoFrontNumber after → (xs : List ℤ) → Spells text xs → ⊥
HasRead-no_number text rest after zs read is none xs a = let b = read.back xs a in no_number b.0 b.2
  where
    no_number : (ys : List ℤ) → Spells rest ys → ⊥
    no_number [] b = nothing_begins rest after 32 b is
    no_number (y ∷ ys) b =
        none.none b.0 y (record { rest = b.1; is = ap (drop 1) (sym is ∙ b.2); ends = Spells-ends b.1 ys b.4 }) b.3

-- where something but a space stands, there are no numbers
pub HasRead-no_space : (text rest : List ℕ) (zs : List ℤ) (read : HasRead text rest zs) → 0 < length rest → get_or rest 0 0 ≢ 32 → (xs : List ℤ) → Spells text xs → ⊥
HasRead-no_space text rest zs read some other xs a = let b = read.back xs a in no_space b.0 b.2
  where
    no_space : (ys : List ℤ) → Spells rest ys → ⊥
    no_space [] b = absurd (omega (arith, ap length b))
    no_space (y ∷ ys) b = other (ap (λ l. get_or l 0 0) b.2)

-- where nothing is left, these are the numbers
pub HasRead-all : (text rest : List ℕ) (zs : List ℤ) (read : HasRead text rest zs) → length rest ≡ 0 → Spells text zs
HasRead-all text rest zs read none =
    subst (Spells text) (append-nil zs) (read.onward [] (nil_from_length rest none))

-- one number with nothing behind it is as long as the text
pub one_number-length : (text after : List ℕ) (count : ℕ) (value z : ℤ) → text ≡ 32 ∷ after → IsFrontNumber after count value → Spells text (z ∷ []) → count ≡ length after
one_number-length text after count value z is found a =
    let same = number_fronts a.0 a.1 (take count after) found.front.rest z found.number (ap (drop 1) (sym a.2 ∙ is) ∙ found.front.is) a.3 found.spelled (Spells-ends a.1 [] a.4) found.front.ends in
    let rest : length found.front.rest ≡ 0 = ap length (sym same.1 ∙ a.4) in
    let long : length after ≡ length (take count after) + length found.front.rest = ap length found.front.is ∙ length-append (take count after) found.front.rest in
    let front : length (take count after) ≡ count = length-take-le count after found.in_text in
    omega arith

-- where the text behind a name doesn't spell these numbers, the line isn't one of the name and them
pub HasNoNumbers-named : (name line text : List ℕ) → line ≡ name ++ text → (zs : List ℤ) → (Spells text zs → ⊥) → IsNamed name line zs → ⊥
HasNoNumbers-named name line text is zs none a =
    none (subst (λ (t : List ℕ). Spells t zs) (append_cancel_left name a.numbers text (sym a.is ∙ is)) a.spelled)

-- what is known of the numbers behind a name is known of the line
pub one_named : (name line text : List ℕ) (r : Option ℤ) → line ≡ name ++ text
    → MatchOption r ((z : ℤ) → Spells text (z ∷ []) → ⊥) (λ v. (z : ℤ) × Spells text (z ∷ []) × (v ≡ held z))
    → MatchOption r ((z : ℤ) → IsNamed name line (z ∷ []) → ⊥) (λ v. (z : ℤ) × IsNamed name line (z ∷ []) × (v ≡ held z))
one_named name line text None is h = λ z a. HasNoNumbers-named name line text is (z ∷ []) (h z) a
one_named name line text (Some v) is h = (h.0, record { numbers = text; is = is; spelled = h.1 }, h.2)

-- what was found of the numbers that a text behind a name spells was found of those of the line
pub numbers_named : {N : Type 0} (P : N → List ℤ → Type 0) (name line text : List ℕ) (r : Option N) → line ≡ name ++ text
    → MatchOption r ((zs : List ℤ) → Spells text zs → ⊥) (λ v. (zs : List ℤ) × Spells text zs × P v zs)
    → MatchOption r ((zs : List ℤ) → IsNamed name line zs → ⊥) (λ v. (zs : List ℤ) × IsNamed name line zs × P v zs)
numbers_named P name line text None is h = λ zs a. HasNoNumbers-named name line text is zs (h zs) a
numbers_named P name line text (Some v) is h = (h.0, record { numbers = text; is = is; spelled = h.1 }, h.2)

-- numbers in range, and one more
AllLimited-more : (xs : List ℤ) (z : ℤ) → AllLimited xs → IsLimited z → AllLimited (xs ++ z ∷ [])
AllLimited-more xs z h small = record {
  each = λ j below. elim (cases_lt j (length xs)) [
    | inl front ↦ subst IsLimited (sym (get_or_append_left xs (z ∷ []) (pos 0) j front)) (h.each j front)
    | inr past ↦ subst IsLimited (sym (get_or_at xs z [] (pos 0) j (omega (arith, length-append xs (z ∷ []))))) small
  ];
}

AllLimited-before : (xs : List ℤ) (z : ℤ) → AllLimited (xs ++ z ∷ []) → AllLimited xs
AllLimited-before xs z h = record {
  each = λ j below. subst IsLimited (get_or_append_left xs (z ∷ []) (pos 0) j below) (h.each j (omega (arith, length-append xs (z ∷ []))));
}

AllLimited-last : (xs : List ℤ) (z : ℤ) → AllLimited (xs ++ z ∷ []) → IsLimited z
AllLimited-last xs z h = subst IsLimited (get_or_at xs z [] (pos 0) (length xs) refl) (h.each (length xs) (omega (arith, length-append xs (z ∷ []))))

-- what has been read of a text, and how much of it is kept
pub record HasKept (text rest : List ℕ) (wanted count : ℕ) (limited : Bool) (first : List ℤ) : Type 0 where
  pub numbers : List ℤ
  pub read : HasRead text rest numbers
  pub counted : count ≡ length numbers
  pub judged : IsTrue limited ↔ AllLimited numbers
  pub kept : first ≡ map held (take wanted numbers)
  pub room : count + length rest ≤ length text

-- at first nothing has been read, and nothing is kept
pub HasKept-none : (text : List ℕ) (wanted : ℕ) → HasKept text text wanted 0 true []
HasKept-none text wanted = record {
  numbers = [];
  read = HasRead-none text;
  counted = refl;
  judged = (λ _. record { each = λ j below. absurd (omega arith) }, λ _. refl);
  kept = sym (ap (map held) (take_nil wanted));
  room = omega arith;
}
  where
    take_nil : (n : ℕ) → take {A = ℤ} n [] ≡ []
    take_nil zero = refl
    take_nil (suc n) = refl

-- one number more: it is kept where there is room
pub HasKept-more : (text rest after : List ℕ) (wanted count more : ℕ) (value : ℤ) (first new : List ℤ) (limited still : Bool) → HasKept text rest wanted count limited first → rest ≡ 32 ∷ after → IsFrontNumber after more value
    → (IsTrue still ↔ (IsTrue limited × IsLimited value)) → (count < wanted → new ≡ first ++ value ∷ []) → (wanted ≤ count → new ≡ first) → HasKept text (drop more after) wanted (count + 1) still new
HasKept-more text rest after wanted count more value first new limited still h is found judged stored full = record {
  numbers = h.numbers ++ found.number ∷ [];
  read = HasRead-more text rest after h.numbers more value h.read is found;
  counted = omega (arith, h.counted, length-append h.numbers (found.number ∷ []));
  judged = (
    λ t.
        let both = judged.0 t in
        AllLimited-more h.numbers found.number (h.judged.0 both.0) (held_within-is found.number (subst IsLimited found.is both.1)),
    λ all.
        judged.1 (
          h.judged.1 (AllLimited-before h.numbers found.number all),
          subst IsLimited (sym (found.is ∙ held-within found.number (AllLimited-last h.numbers found.number all))) (AllLimited-last h.numbers found.number all),
        ),
  );
  kept = elim (cases_lt count wanted) [
    | inl less ↦ stored less ∙ ap₂ (λ l x. l ++ x ∷ []) (h.kept ∙ ap (map held) (take_all wanted h.numbers (omega (arith, h.counted)))) found.is
        ∙ sym (map-append held h.numbers (found.number ∷ []))
        ∙ sym (ap (map held) (take_all wanted (h.numbers ++ found.number ∷ []) (omega (arith, h.counted, length-append h.numbers (found.number ∷ [])))))
    | inr many ↦ full many ∙ h.kept ∙ sym (ap (map held) (take-append-le wanted h.numbers (found.number ∷ []) (omega (arith, h.counted))))
  ];
  room = omega (arith, h.room, ap length is, length-drop more after);
}
