-- Lines that were read, by what they say.
use Rattle.std.proofs.Common.{◌≡◌, ℕ, ◌+◌, ◌-◌, ◌^◌, ◌<◌, ◌≤◌, ◌++◌, List, [], ◌∷◌, length, map, take, drop, get_or, ℤ, pos, unsigned_abs, to_z, of_z, sym, ◌∙◌, ap, subst, arith}
use Rattle.std.proofs.lemmas.Int.{ints}
use Rattle.std.specs.Prelude.{Option, None, Some, MatchOption, ◌≢◌, negsuc}
use Rattle.std.specs.Int.{w128}
use Rattle.qap_lines.proofs.Numerals.{reads_wide}
use Rattle.qap_cost.specs.Range.{AllLimited}
use Rattle.qap_lines.specs.LineText.{line_text, numbers_text}
use Rattle.qap_lines.specs.Number.{IsNamed, held}
use Rattle.qap_lines.proofs.NumberLists.{AllLimited-one, held-within, held_within-is, numbers_text-is}
use Rattle.qap_lines.proofs.Held.{held-all_within}
use Rattle.std.proofs.lemmas.List.{take_all, take-append-drop, drop_more, length-drop}
use Rattle.proof_tree.specs.Shape.{AreLimited}
use Rattle.proof_check.specs.Flow.{Flow, Passes}
use Rattle.proof_check.proofs.Refusals.{no_number}

-- a line of a name and limited numbers
pub named-is : (name line : List ℕ) (zs : List ℤ) → IsNamed name line zs → AllLimited zs → line ≡ name ++ numbers_text zs
named-is name line zs named limited = named.is ∙ ap (λ l. name ++ l) (numbers_text-is named.numbers zs named.spelled limited)

-- such a line and its line feed are the text of that line
pub line_text-named : (name line : List ℕ) (zs : List ℤ) → line ≡ name ++ numbers_text zs → line ++ 10 ∷ [] ≡ line_text name zs
line_text-named name line zs is = ap (λ l. l ++ 10 ∷ []) is

-- one number
pub one_limited : (name line : List ℕ) (v : ℤ) → ((z : ℤ) × IsNamed name line (z ∷ []) × (v ≡ held z)) → unsigned_abs v ≤ 10 ^ 24 → line ≡ name ++ numbers_text (v ∷ [])
one_limited name line v h small =
    let limited : unsigned_abs h.0 ≤ 10 ^ 24 = held_within-is h.0 (subst (λ (z : ℤ). unsigned_abs z ≤ 10 ^ 24) h.2 small) in
    let same : h.0 ≡ v = sym (held-within h.0 limited) ∙ sym h.2 in
    named-is name line (h.0 ∷ []) h.1 (AllLimited-one h.0 limited) ∙ ap (λ (z : ℤ). name ++ numbers_text (z ∷ [])) same

-- a line of one limited number that was read
pub one_line : (a b : Flow) (name line : List ℕ) (v : ℤ) → Passes a b (line ++ 10 ∷ []) → ((z : ℤ) × IsNamed name line (z ∷ []) × (v ≡ held z)) → unsigned_abs v ≤ 10 ^ 24 → Passes a b (line_text name (v ∷ []))
one_line a b name line v read h small = subst (Passes a b) (line_text-named name line (v ∷ []) (one_limited name line v h small)) read

-- a line that was read, by what it was found to say
pub named_line : (a b : Flow) (name line lent : List ℕ) (zs : List ℤ) → lent ≡ line → IsNamed name lent zs → AllLimited zs → Passes a b (line ++ 10 ∷ []) → Passes a b (line_text name zs)
named_line a b name line lent zs same named limited read =
    subst (Passes a b) (ap (λ l. l ++ 10 ∷ []) (sym same) ∙ line_text-named name lent zs (named-is name lent zs named limited)) read

held-near : (z : ℤ) → unsigned_abs (held z) ≤ 10 ^ 25
held-near (pos n) = omega arith
held-near (negsuc n) = omega (arith, ints)

-- as many limited numbers as were wanted
pub limited_numbers : (m : ℕ) (name line : List ℕ) (zs first : List ℤ) → IsNamed name line zs → length zs ≡ m → AllLimited zs → first ≡ map held (take m zs) → AreLimited m first × (line ≡ name ++ numbers_text first)
limited_numbers m name line zs first named long limited is =
    let same : first ≡ zs = is ∙ ap (map held) (take_all m zs (omega (arith, long))) ∙ held-all_within zs limited in
    subst (λ (xs : List ℤ). AreLimited m xs × (line ≡ name ++ numbers_text xs)) (sym same) (record { count = long; limited = limited }, named-is name line zs named limited)

-- one number that is counted from 1
pub number_line : (name text : List ℕ) (size : ℕ) (v : ℤ) (r : Option ℕ) → ((z : ℤ) × IsNamed name text (z ∷ []) × (v ≡ held z)) → size ≤ 256
    → MatchOption r ((k : ℕ) → k < size → to_z w128 (of_z w128 v) ≢ pos (k + 1)) (λ k. (k < size) × (to_z w128 (of_z w128 v) ≡ pos (k + 1)))
    → MatchOption r ((i : ℕ) → i < size → text ≡ name ++ numbers_text (pos (i + 1) ∷ []) → ⊥) (λ i. (i < size) × (text ≡ name ++ numbers_text (pos (i + 1) ∷ [])))
number_line name text size v None said small found = no_number name text size v said.0 small said.1 said.2 found
number_line name text size v (Some i) said small found =
    let near : unsigned_abs v ≤ 10 ^ 25 = subst (λ (z : ℤ). unsigned_abs z ≤ 10 ^ 25) (sym said.2) (held-near said.0) in
    let is : v ≡ pos (i + 1) = sym (reads_wide v near) ∙ found.1 in
    let less = found.0 in
    (less, one_limited name text (pos (i + 1)) (said.0, said.1, sym is ∙ said.2) (omega (arith, less, small)))

-- what stands before and behind a byte
pub split_at : (xs : List ℕ) (i b : ℕ) → i < length xs → get_or xs i 0 ≡ b → xs ≡ take i xs ++ b ∷ take (length xs - (i + 1)) (drop (i + 1) xs)
split_at xs i b inside is =
    let rest = drop (i + 1) xs in
    let whole : take (length xs - (i + 1)) rest ≡ rest = take_all (length xs - (i + 1)) rest (omega (arith, length-drop (i + 1) xs)) in
    sym (take-append-drop i xs) ∙ ap (λ l. take i xs ++ l) (drop_more xs i 0 inside ∙ ap (λ x. x ∷ rest) is ∙ ap (λ l. b ∷ l) (sym whole))
