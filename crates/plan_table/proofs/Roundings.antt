-- Numbers whose last digits are dropped, and the nearest number to them.
use Rattle.std.proofs.Common.{◌≡◌, ℕ, ◌+◌, ◌-◌, ◌*◌, ◌/◌, ◌^◌, ◌<◌, ◌≤◌, true, false, cond, List, [], ◌∷◌, ◌++◌, length, map, sym, ap, subst, ◌∙◌, inl, inr, arith, append_assoc, length-append}
use Rattle.std.specs.Prelude.{nat_le, min}
use Rattle.std.specs.Int.Digits.{number_from_digits, number_from_digits_after, AllBelowBase}
use Rattle.std.specs.List.{list_all}
use Rattle.std.proofs.Math.Nat.{mul-le-mul_right, pow-le-pow_right, pow-suc}
use Rattle.std.proofs.lemmas.Bool.{cases_lt, leb-true}
use Rattle.std.proofs.lemmas.Bool.Decides.{nat_tests}
use Rattle.std.proofs.lemmas.Int.Digits.{number_after_append, number_lt}
use Rattle.std.proofs.lemmas.List.{map-append, length-map}
use Rattle.std.proofs.lemmas.Nat.{div-mul-add}
use Rattle.plan_table.specs.Decimal.{held_unsigned, is_digit, magnitude_of, max_number, unsigned}
use Rattle.plan_table.specs.Numerals.{is_power}
use Rattle.plan_table.specs.Rounding.{carry, nearest, rounded}
use Rattle.plan_table.specs.declared.decimal.Unsigned.{Unsigned}
use Rattle.plan_table.proofs.LeastPlaces.{and_parts}
use Rattle.plan_table.proofs.Spelt.{digit-range}

after_is : (n : ℕ) (ds : List ℕ) → number_from_digits_after 10 n ds ≡ n * 10 ^ length ds + number_from_digits_after 10 0 ds
after_is n [] = omega arith
after_is n (d ∷ ds) =
    let here = after_is (n * 10 + d) ds in
    let first = after_is (0 * 10 + d) ds in
    let power : 10 ^ length (d ∷ ds) ≡ 10 ^ length ds * 10 = pow-suc 10 (length ds) in
    omega (arith, here, first, ap (λ k. n * k) power)

-- what digits behind others stand for
magnitude_of-append : (front back : List ℕ) → magnitude_of (front ++ back) ≡ magnitude_of front * 10 ^ length back + magnitude_of back
magnitude_of-append front back =
    let values : List ℕ → List ℕ = map (λ b. b - 48) in
    ap (number_from_digits 10) (map-append (λ b. b - 48) front back)
    ∙ number_after_append 10 0 (values front) (values back)
    ∙ after_is (magnitude_of front) (values back)
    ∙ ap (λ k. magnitude_of front * 10 ^ k + magnitude_of back) (length-map back (λ b. b - 48))

values_below : (ds : List ℕ) → list_all is_digit ds ≡ true → AllBelowBase 10 (map (λ b. b - 48) ds)
values_below [] all = tt
values_below (d ∷ ds) all =
    let parts = and_parts (is_digit d) (list_all is_digit ds) all in
    let range = digit-range d parts.0 in
    (omega (arith, range), values_below ds parts.1)

-- so many digits stand for less than that power of ten
pub magnitude_of-lt : (ds : List ℕ) → list_all is_digit ds ≡ true → magnitude_of ds < 10 ^ length ds
magnitude_of-lt ds all = subst (λ k. magnitude_of ds < 10 ^ k) (length-map ds (λ b. b - 48)) (number_lt 10 (map (λ b. b - 48) ds) (values_below ds all))

-- one to three digits stand for less than 1000
pub power-small : (digits : List ℕ) → is_power digits ≡ true → magnitude_of digits < 1000
power-small digits is =
    let parts = (and_parts (nat_le (length digits) 3) (list_all is_digit digits) (and_parts _ _ is).1) in
    let few = leb-true (length digits) 3 parts.0 in
    let most : 10 ^ length digits ≤ 10 ^ 3 = pow-le-pow_right {n = 10} (omega arith) {i = length digits} {j = 3} few in
    omega (arith, magnitude_of-lt digits parts.1, most)

nearest_above : (m p r : ℕ) → p ≤ 2 * r → r < p → nearest (m * p + r) p ≡ m + 1
nearest_above m p r half below =
    let whole : 2 * (m * p + r) + p ≡ (m + 1) * (2 * p) + (2 * r - p) = omega (arith, half) in
    ap (λ k. k / (2 * p)) whole ∙ div-mul-add (m + 1) (2 * p) (2 * r - p) (omega (arith, half, below))

nearest_below : (m p r : ℕ) → 2 * r < p → nearest (m * p + r) p ≡ m
nearest_below m p r half =
    let whole : 2 * (m * p + r) + p ≡ m * (2 * p) + (2 * r + p) = omega arith in
    ap (λ k. k / (2 * p)) whole ∙ div-mul-add m (2 * p) (2 * r + p) (omega (arith, half))

-- the nearest number to digits of which some are dropped
nearest_cut : (m d : ℕ) (ds : List ℕ) → list_all is_digit (d ∷ ds) ≡ true → nearest (m * 10 ^ length (d ∷ ds) + magnitude_of (d ∷ ds)) (10 ^ length (d ∷ ds)) ≡ m + carry (d ∷ ds)
nearest_cut m d ds all =
    let parts = and_parts (is_digit d) (list_all is_digit ds) all in
    let range = digit-range d parts.0 in
    let k = 10 ^ length ds in
    let low = magnitude_of-lt ds parts.1 in
    let power : 10 ^ length (d ∷ ds) ≡ k * 10 = pow-suc 10 (length ds) in
    let value : magnitude_of (d ∷ ds) ≡ (d - 48) * k + magnitude_of ds = magnitude_of-append (d ∷ []) ds ∙ omega arith in
    elim (cases_lt d 53) [
      | inl small ↦
          let few : (d - 48 + 1) * k ≤ 5 * k = mul-le-mul_right k (omega (arith, small)) in
          let none : carry (d ∷ ds) ≡ 0 = ap (λ b. cond b 1 0) (leb-above d small) in
          nearest_below m (10 ^ length (d ∷ ds)) (magnitude_of (d ∷ ds)) (omega (arith, power, value, few, low)) ∙ omega (arith, none)
      | inr large ↦
          let many : 5 * k ≤ (d - 48) * k = mul-le-mul_right k (omega (arith, large)) in
          let within : (d - 48 + 1) * k ≤ 10 * k = mul-le-mul_right k (omega (arith, range)) in
          let one : carry (d ∷ ds) ≡ 1 = ap (λ b. cond b 1 0) (leb-below d large) in
          nearest_above m (10 ^ length (d ∷ ds)) (magnitude_of (d ∷ ds)) (omega (arith, power, value, many)) (omega (arith, power, value, within, low)) ∙ omega (arith, one)
    ]
  where
    leb-above : (d : ℕ) → d < 53 → nat_le 53 d ≡ false
    leb-above d small = grind (arith, nat_tests)

    leb-below : (d : ℕ) → 53 ≤ d → nat_le 53 d ≡ true
    leb-below d large = grind (arith, nat_tests)

fraction_cut : (places count : ℕ) → places < count → nat_le count places ≡ false
fraction_cut places count more = grind (arith, nat_tests)

fraction_kept : (places count : ℕ) → count ≤ places → nat_le count places ≡ true
fraction_kept places count few = grind (arith, nat_tests)

-- a number that has no more places stays as it is
pub rounded-same : (places : ℕ) (u : Unsigned) → u.places ≤ places → rounded places u ≡ u
rounded-same places u few =
    ap (λ b. cond b u (record { magnitude = nearest u.magnitude (10 ^ (u.places - places)); places = places })) (fraction_kept places u.places few)

-- one that has more is cut, and one is added where the digits that are dropped are a half or more
rounded-cut : (places : ℕ) (whole kept dropped : List ℕ) → length kept ≡ places → 0 < length dropped → list_all is_digit dropped ≡ true
    → rounded places (unsigned whole (kept ++ dropped)) ≡ record { magnitude = magnitude_of (whole ++ kept) + carry dropped; places = places }
rounded-cut places whole kept [] many some all = absurd (omega arith)
rounded-cut places whole kept (d ∷ ds) many some all =
    let u = unsigned whole (kept ++ d ∷ ds) in
    let dropped : u.places ≡ places + length (d ∷ ds) = length-append kept (d ∷ ds) ∙ ap (λ k. k + length (d ∷ ds)) many in
    let left : u.places - places ≡ length (d ∷ ds) = omega (arith, dropped) in
    let value : u.magnitude ≡ magnitude_of (whole ++ kept) * 10 ^ length (d ∷ ds) + magnitude_of (d ∷ ds) =
    ap magnitude_of (sym (append_assoc whole kept (d ∷ ds))) ∙ magnitude_of-append (whole ++ kept) (d ∷ ds) in
    let make : ℕ → Unsigned = λ m. record { magnitude = m; places = places } in
    ap (λ b. cond b u (record { magnitude = nearest u.magnitude (10 ^ (u.places - places)); places = places })) (fraction_cut places u.places (omega (arith, dropped, some)))
    ∙ ap make (ap (λ k. nearest u.magnitude (10 ^ k)) left ∙ ap (λ m. nearest m (10 ^ length (d ∷ ds))) value ∙ nearest_cut (magnitude_of (whole ++ kept)) d ds all)

-- the same, held to one above the largest number
pub held-cut : (places : ℕ) (whole fraction kept dropped : List ℕ) (below : Unsigned) (c m : ℕ) → fraction ≡ kept ++ dropped → length kept ≡ places → 0 < length dropped → list_all is_digit dropped ≡ true
    → below ≡ held_unsigned (unsigned whole kept) → c ≡ carry dropped → m ≡ min (max_number + 1) (below.magnitude + c) → record { magnitude = m; places = places } ≡ held_unsigned (rounded places (unsigned whole fraction))
held-cut places whole fraction kept dropped below c m parts many some all is carried magnitude =
    let make : ℕ → Unsigned = λ k. record { magnitude = k; places = places } in
    let held : below.magnitude ≡ min (magnitude_of (whole ++ kept)) (max_number + 1) = ap (λ (u : Unsigned). u.magnitude) is in
    let value : m ≡ min (magnitude_of (whole ++ kept) + carry dropped) (max_number + 1) = omega (arith, held, carried, magnitude) in
    ap make value
    ∙ ap held_unsigned (sym (rounded-cut places whole kept dropped many some all))
    ∙ ap (λ f. held_unsigned (rounded places (unsigned whole f))) (sym parts)
