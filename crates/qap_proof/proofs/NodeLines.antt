-- The numbers of a node's line: what those that were held say of those of the line.
use Rattle.std.proofs.Common.{◌≡◌, ◌≢◌, ℕ, zero, suc, ◌+◌, ◌*◌, ◌^◌, ◌<◌, ◌≤◌, ◌++◌, List, [], ◌∷◌, length, map, take, drop, get_or, ℤ, pos, refl, sym, ◌∙◌, ap, ap₂, subst, arith, unsigned_abs, length-take, length-drop, take-append-drop, take_all}
use Rattle.std.proofs.lemmas.List.{length-map}
use Rattle.std.specs.Prelude.{◌↔◌, IsTrue, Bool}
use Rattle.qap_cost.specs.Range.{AllLimited}
use Rattle.qap_io.specs.Number.{from_one}
use Rattle.qap_lines.specs.LineText.{numbers_text}
use Rattle.qap_lines.specs.Number.{IsNamed, held}
use Rattle.qap_lines.proofs.Held.{held-all_within, held_all_within-is}
use Rattle.qap_lines.proofs.Locations.{AllLimited-permutation}
use Rattle.qap_cost.specs.Bijection.{IsPerm}
use Rattle.std.specs.Prelude.{codes}
use Rattle.qap_lines.proofs.Limits.{AllLimited-front, AllLimited-back}
use Rattle.qap_lines.proofs.NumberLists.{AllLimited-tail, held-within, held_within-is, numbers_text-is}
use Rattle.gilmore_lawler.specs.Closing.{AreDuals}
use Rattle.qap_proof.specs.Shape.{IsPermOf}
use Rattle.qap_proof.specs.TextFault.{Saying, Says, closes, splits, cuts, mirrors}
use Rattle.qap_proof.specs.declared.side.Side.TheVariants.{Facility, Location}

-- all numbers were held, and they are in range
pub all_held : (w : ℕ) (zs first : List ℤ) → length zs ≡ w → AllLimited zs → first ≡ map held (take w zs) → first ≡ zs
all_held w zs first long within is = is ∙ ap (map held) (take_all w zs (omega arith)) ∙ held-all_within zs within

take_more : (w : ℕ) (z : ℤ) (zs : List ℤ) → take (1 + w) (z ∷ zs) ≡ z ∷ take w zs
take_more w z zs = let more : 1 + w ≡ suc w = omega arith in ap (λ k. take k (z ∷ zs)) more

is_first : (z : ℤ) (i : ℕ) → held z ≡ pos (i + 1) → i < 2 ^ 16 → z ≡ pos (i + 1)
is_first z i is small =
    let within : unsigned_abs z ≤ 10 ^ 24 = held_within-is z (omega (arith, ap unsigned_abs is)) in
    sym (held-within z within) ∙ is

take_none : (n : ℕ) → take {A = ℤ} n [] ≡ []
take_none zero = refl
take_none (suc n) = refl

-- the first number of the line, from the first that was held
pub first_number : (w i : ℕ) (zs first : List ℤ) → first ≡ map held (take (1 + w) zs) → 0 < length first → get_or first 0 (pos 0) ≡ pos (i + 1) → i < 2 ^ 16 → (others : List ℤ) × (zs ≡ pos (i + 1) ∷ others)
first_number w i [] first is some at small = absurd (omega (arith, ap length (is ∙ ap (map held) (take_none (1 + w)))))
first_number w i (z ∷ zs) first is some at small =
    let head : get_or first 0 (pos 0) ≡ held z = ap (λ l. get_or l 0 (pos 0)) (is ∙ ap (map held) (take_more w z zs)) in
    (zs, ap (λ y. y ∷ zs) (is_first z i (sym head ∙ at) small))

-- the first number that was held, from that of the line
pub held_first : (w i : ℕ) (zs first others : List ℤ) → first ≡ map held (take (1 + w) zs) → zs ≡ pos (i + 1) ∷ others → i < 2 ^ 16 → (0 < length first) × (get_or first 0 (pos 0) ≡ pos (i + 1))
held_first w i zs first others is front small =
    let whole : first ≡ held (pos (i + 1)) ∷ map held (take w others) = is ∙ ap (λ l. map held (take (1 + w) l)) front ∙ ap (map held) (take_more w (pos (i + 1)) others) in
    (omega (arith, ap length whole), ap (λ l. get_or l 0 (pos 0)) whole ∙ held-within (pos (i + 1)) (omega arith))

-- what isn't the first of the numbers that were lent isn't the first of them
pub not_there : (lent first : List ℤ) (n : ℕ) → lent ≡ first → ((k : ℕ) → k < n → 0 < length lent → get_or lent 0 (pos 0) ≢ pos (k + 1)) → (k : ℕ) → k < n → 0 < length first → get_or first 0 (pos 0) ≢ pos (k + 1)
not_there lent first n is none k below some = λ same. none k below (omega (arith, ap length is, some)) (ap (λ l. get_or l 0 (pos 0)) is ∙ same)

-- the halves of 2 m numbers in range are duals of m rows and m columns, and together these numbers
pub halves : (m : ℕ) (zs u v : List ℤ) → length zs ≡ 2 * m → AllLimited zs → u ≡ take m zs → v ≡ drop m zs → AreDuals m u v × (u ++ v ≡ zs)
halves m zs u v counted within u_is v_is =
    let whole : u ++ v ≡ zs = ap₂ (λ a b. a ++ b) u_is v_is ∙ take-append-drop m zs in
    let apart : AllLimited (u ++ v) = subst AllLimited (sym whole) within in (
      record {
        rows = omega (arith, ap length u_is, length-take m zs, counted);
        columns = omega (arith, ap length v_is, length-drop m zs, counted);
        u_range = AllLimited-front u v apart;
        v_range = AllLimited-back u v apart;
      },
      whole,
    )

-- a line of a name and numbers in range
pub spelled : (name line : List ℕ) (zs ys : List ℤ) → IsNamed name line zs → AllLimited zs → ys ≡ zs → line ≡ name ++ numbers_text ys
spelled name line zs ys named within is = named.is ∙ ap (λ l. name ++ l) (numbers_text-is named.numbers zs named.spelled within ∙ ap numbers_text (sym is))

-- a number in range in front of numbers in range
pub AllLimited-cons : (z : ℤ) (zs : List ℤ) → unsigned_abs z ≤ 10 ^ 24 → AllLimited zs → AllLimited (z ∷ zs)
AllLimited-cons z zs small h = record { each = each }
  where
    each : (j : ℕ) → j < length (z ∷ zs) → unsigned_abs (get_or (z ∷ zs) j (pos 0)) ≤ 10 ^ 24
    each zero below = small
    each (suc j) below = h.each j (omega arith)

-- of a line of a name and 2 m numbers in range, the halves of the numbers held are duals, and the line spells them
pub closed_duals : (m w : ℕ) (name line : List ℕ) (zs first u v : List ℤ) → w ≡ 2 * m → IsNamed name line zs → length zs ≡ w → AllLimited zs → first ≡ map held (take w zs) → u ≡ take m first → v ≡ drop m first
    → AreDuals m u v × (line ≡ name ++ numbers_text (u ++ v))
closed_duals m w name line zs first u v wide named counted within is u_is v_is =
    let all : first ≡ zs = all_held w zs first counted within is in
    let parts = halves m zs u v (counted ∙ wide) within (u_is ∙ ap (take m) all) (v_is ∙ ap (drop m) all) in
    (parts.0, spelled name line zs (u ++ v) named within parts.1)

-- no duals behind the number of a split, where it is the only number
pub only_number : (z : ℤ) (zs others : List ℤ) → zs ≡ z ∷ others → length zs ≡ 1 → others ≡ []
only_number z zs [] is one = refl
only_number z zs (y ∷ others) is one = absurd (omega (arith, ap length is))

-- the same behind a first number, that of what a split is on
pub split_duals : (m w i : ℕ) (name line : List ℕ) (zs first others u v : List ℤ) → w ≡ 2 * m → i < 2 ^ 16 → IsNamed name line zs → length zs ≡ 1 + w → AllLimited zs → first ≡ map held (take (1 + w) zs) → zs ≡ pos (i + 1) ∷ others
    → u ≡ take m (drop 1 first) → v ≡ drop m (drop 1 first) → AreDuals m u v × (line ≡ name ++ numbers_text (pos (i + 1) ∷ (u ++ v)))
split_duals m w i name line zs first others u v wide small named counted within is front u_is v_is =
    let all : first ≡ zs = all_held (1 + w) zs first counted within is in
    let rest : drop 1 first ≡ others = ap (drop 1) (all ∙ front) in
    let parts = halves m others u v (omega (arith, counted, ap length front, wide)) (AllLimited-tail (pos (i + 1)) others (subst AllLimited front within)) (u_is ∙ ap (take m) rest) (v_is ∙ ap (drop m) rest) in
    (parts.0, spelled name line zs (pos (i + 1) ∷ (u ++ v)) named within (ap (λ l. pos (i + 1) ∷ l) parts.1 ∙ sym front))

-- what is wrong with the count of a split's numbers, or with their range, is so of the duals
pub split_duals_fault : (m w i count : ℕ) (limited : Bool) (number : ℕ) (zs others : List ℤ) → w ≡ 2 * m → i < 2 ^ 16 → count ≡ length zs → (IsTrue limited ↔ AllLimited zs) → zs ≡ pos (i + 1) ∷ others → count ≢ 1
    → (others ≢ []) × ((count ≢ 1 + w → length others ≢ 2 * m) × (count ≡ 1 + w → (IsTrue limited → ⊥) → (length others ≡ 2 * m) × (AllLimited others → ⊥)))
split_duals_fault m w i count limited number zs others wide small counted judged front many = (
  λ none. many (counted ∙ ap length front ∙ ap (λ (l : List ℤ). length (pos (i + 1) ∷ l)) none),
  (
    λ other long. other (omega (arith, counted, ap length front, wide, long)),
    λ all bad. (
      omega (arith, all, counted, ap length front, wide),
      λ within. bad (judged.1 (subst AllLimited (sym front) (AllLimited-cons (pos (i + 1)) others (omega arith) within))),
    ),
  ),
)

-- the first number of a line of more than none, and the others
pub first_and_others : (n : ℕ) (zs : List ℤ) → length zs ≡ 1 + n → (z : ℤ) × (others : List ℤ) × (zs ≡ z ∷ others) × (length others ≡ n)
first_and_others n [] long = absurd (omega (arith, long))
first_and_others n (z ∷ zs) long = (z, zs, refl, omega (arith, long))

held_others : (n : ℕ) (zs first others : List ℤ) (z : ℤ) → first ≡ map held (take (1 + n) zs) → zs ≡ z ∷ others → length zs ≡ 1 + n → drop 1 first ≡ map held others
held_others n zs first others z is front long =
    ap (drop 1) (is ∙ ap (map held) (take_all (1 + n) zs (omega (arith, long)) ∙ front))

-- what a mirrored child's line says
pub mirrored_said : (n i : ℕ) (line : List ℕ) (zs first others : List ℤ) (p : List ℕ) → i < 2 ^ 16 → IsNamed (codes "m") line zs → length zs ≡ 1 + n → first ≡ map held (take (1 + n) zs) → zs ≡ pos (i + 1) ∷ others → IsPerm p
    → drop 1 first ≡ from_one p → IsPermOf n p × (line ≡ codes "m" ++ numbers_text (pos (i + 1) ∷ from_one p))
mirrored_said n i line zs first others p small named long is front perm same =
    let limited = AllLimited-permutation p perm in
    let as_held : map held others ≡ from_one p = sym (held_others n zs first others (pos (i + 1)) is front long) ∙ same in
    let exact : others ≡ from_one p = sym (held_all_within-is others (subst AllLimited (sym as_held) limited)) ∙ as_held in
    let all : zs ≡ pos (i + 1) ∷ from_one p = front ∙ ap (λ l. pos (i + 1) ∷ l) exact in (
      record { permutation = perm; count = omega (arith, long, ap length all, length-map p (λ k. pos (k + 1))) },
      spelled (codes "m") line zs (pos (i + 1) ∷ from_one p) named (subst AllLimited (sym all) (AllLimited-cons (pos (i + 1)) (from_one p) (omega arith) limited)) (sym all),
    )

-- where the held numbers are no permutation, those of the line are none
pub no_image : (n : ℕ) (zs first others : List ℤ) (z : ℤ) → first ≡ map held (take (1 + n) zs) → zs ≡ z ∷ others → length zs ≡ 1 + n → ((p : List ℕ) → IsPerm p → drop 1 first ≢ from_one p) → (p : List ℕ) → IsPerm p → others ≢ from_one p
no_image n zs first others z is front long none p perm same =
    none p perm (held_others n zs first others z is front long ∙ ap (map held) same ∙ held-all_within (from_one p) (AllLimited-permutation p perm))

-- a line that is none of the four says nothing
pub no_saying : (n : ℕ) (line : List ℕ) → ((zs : List ℤ) → IsNamed (codes "b") line zs → ⊥)
    → ((i : ℕ) (zs : List ℤ) → i < n → IsNamed (codes "s") line (pos (i + 1) ∷ zs) → ⊥) → ((i : ℕ) (zs : List ℤ) → i < n → IsNamed (codes "t") line (pos (i + 1) ∷ zs) → ⊥)
    → line ≢ codes "c" → ((z : ℤ) (zs : List ℤ) → length zs ≡ n → IsNamed (codes "m") line (z ∷ zs) → ⊥) → (w : Saying) → Says n line w → ⊥
no_saying n line b s t c m (closes zs) h = b zs h
no_saying n line b s t c m (splits Facility i zs) h = s i zs h.0 h.1
no_saying n line b s t c m (splits Location i zs) h = t i zs h.0 h.1
no_saying n line b s t c m cuts h = c (h.is ∙ ap (λ l. codes "c" ++ l) h.spelled)
no_saying n line b s t c m (mirrors z zs) h = m z zs h.0 h.1
