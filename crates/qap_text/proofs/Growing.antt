-- Texts to whose end words are put.
use Rattle.std.proofs.Common.{◌≡◌, ◌∙◌, ℕ, zero, suc, ◌+◌, ◌-◌, ◌<◌, ◌≤◌, inl, inr, refl, sym, ap, arith, Bool, true, false, List, [], ◌∷◌, ◌++◌, length, get_or, take, drop, ℤ, pos, length-append, append_assoc}
use Rattle.std.specs.Prelude.{if◌then◌else◌, slice_range}
use Rattle.std.specs.Fmt.{signed_decimal}
use Rattle.std.proofs.lemmas.Bool.{cases_lt}
use Rattle.std.proofs.lemmas.List.{get_or_append_left, get_or-append_right, drop-append-le, take-append-le, drop_at, take_all, take_more, length-drop}
use Rattle.qap_text.specs.Word.{IsWordAt, is_separator}
use Rattle.qap_text.specs.Number.{number_of}
use Rattle.qap_text.specs.Spelling.{IsNumberAt, Spells}
use Rattle.qap_text.proofs.Spellings.{Spells-append}
use Rattle.qap_text.proofs.Numbers.{IsWordOf}

-- what is put behind a separator changes no word
word_grows : (text more : List ℕ) (from start stop : ℕ) → is_separator (get_or more 0 0) ≡ true → IsWordAt text from start stop → IsWordAt (text ++ more) from start stop
word_grows text more from start stop sep w =
    let not_empty = w.not_empty in
    let in_text = w.in_text in
    record {
      from_here = w.from_here;
      not_empty = not_empty;
      in_text = omega (arith, length-append text more);
      gap = λ k low high. let below : k < length text = omega arith in ap is_separator (get_or_append_left text more 0 k below) ∙ w.gap k low high;
      letters = λ k low high. let below : k < length text = omega arith in ap is_separator (get_or_append_left text more 0 k below) ∙ w.letters k low high;
      longest = λ past. elim (cases_lt stop (length text)) [
        | inl front ↦ ap is_separator (get_or_append_left text more 0 stop front) ∙ w.longest front
        | inr back ↦ let none : stop - length text ≡ 0 = omega arith in
            ap is_separator (get_or-append_right text more (length text) stop 0 refl back ∙ ap (λ (i : ℕ). get_or more i 0) none) ∙ sep
      ];
    }

range_grows : (text more : List ℕ) (start stop : ℕ) → start ≤ stop → stop ≤ length text → slice_range (text ++ more) start stop ≡ slice_range text start stop
range_grows text more start stop low high =
    let inside : start ≤ length text = omega arith in
    let enough : stop - start ≤ length (drop start text) = omega (arith, length-drop start text) in
    ap (take (stop - start)) (drop-append-le start text more inside) ∙ take-append-le (stop - start) (drop start text) more enough

number_grows : (text more : List ℕ) (from start stop : ℕ) (z : ℤ) → is_separator (get_or more 0 0) ≡ true → IsNumberAt text from start stop z → IsNumberAt (text ++ more) from start stop z
number_grows text more from start stop z sep n =
    let not_empty = n.word.not_empty in
    record {
      word = word_grows text more from start stop sep n.word;
      number = ap number_of (range_grows text more start stop (omega arith) n.word.in_text) ∙ n.number;
    }

-- what a text spells it still spells with more behind it, if that begins with a separator
pub spells_grow : (text more : List ℕ) (from : ℕ) (zs : List ℤ) (stop : ℕ) → is_separator (get_or more 0 0) ≡ true → Spells text from zs stop → Spells (text ++ more) from zs stop
spells_grow text more from [] stop sep h = h
spells_grow text more from (z ∷ zs) stop sep h = (h.0, h.1, number_grows text more from h.0 h.1 z sep h.2, spells_grow text more h.1 zs stop sep h.3)

-- a word at the end, behind a gap
word_at_end : (text gap word : List ℕ) (z : ℤ) → ((k : ℕ) → k < length gap → is_separator (get_or gap k 0) ≡ true) → IsWordOf word z
    → IsNumberAt (text ++ (gap ++ word)) (length text) (length text + length gap) (length (text ++ (gap ++ word))) z
word_at_end text gap word z separators w =
    let whole = text ++ (gap ++ word) in
    let n = length-append text (gap ++ word) in
    let m = length-append gap word in
    let nonempty = w.nonempty in
    let start = length text + length gap in
    let inner = λ (k : ℕ) (low : length text ≤ k). get_or-append_right text (gap ++ word) (length text) k 0 refl low in
    let rest : drop start whole ≡ word =
    ap (drop start) (sym (append_assoc text gap word)) ∙ drop_at (text ++ gap) word start (length-append text gap) in
    record {
      word = record {
        from_here = omega arith;
        not_empty = omega arith;
        in_text = omega arith;
        gap = λ k low high. let below : k - length text < length gap = omega arith in
            ap is_separator (inner k low ∙ get_or_append_left gap word 0 (k - length text) below) ∙ separators (k - length text) below;
        letters = λ k low high. let past : length text ≤ k = omega arith in let over : length gap ≤ k - length text = omega arith in let below : k - length text - length gap < length word = omega arith in
            ap is_separator (inner k past ∙ get_or-append_right gap word (length gap) (k - length text) 0 refl over) ∙ w.letters (k - length text - length gap) below;
        longest = λ more. absurd (omega arith);
      };
      number = ap (λ (ws : List ℕ). number_of (take (length whole - start) ws)) rest ∙ ap number_of (take_all (length whole - start) word (omega arith)) ∙ w.spells;
    }

-- with a separator and the word of a number behind it, a text spells this number too
pub spells_more : (text : List ℕ) (zs : List ℤ) (separator : ℕ) (word : List ℕ) (z : ℤ) → is_separator separator ≡ true → IsWordOf word z → Spells text 0 zs (length text)
    → Spells (text ++ separator ∷ word) 0 (zs ++ z ∷ []) (length (text ++ separator ∷ word))
spells_more text zs separator word z sep w h =
    let whole = text ++ separator ∷ word in
    let one : (k : ℕ) → k < 1 → is_separator (get_or (separator ∷ []) k 0) ≡ true = only separator sep in
    let last : IsNumberAt whole (length text) (length text + 1) (length whole) z = word_at_end text (separator ∷ []) word z one w in
    Spells-append whole 0 zs (length text) (z ∷ []) (length whole) (spells_grow text (separator ∷ word) 0 zs (length text) sep h) (length text + 1, length whole, last, refl)
  where
    only : (separator : ℕ) → is_separator separator ≡ true → (k : ℕ) → k < 1 → is_separator (get_or (separator ∷ []) k 0) ≡ true
    only separator sep zero below = sep
    only separator sep (suc k) below = absurd (omega arith)

-- the word of a number spells it
pub spells_first : (word : List ℕ) (z : ℤ) → IsWordOf word z → Spells word 0 (z ∷ []) (length word)
spells_first word z w = (0, length word, word_at_end [] [] word z (λ k below. absurd (omega arith)) w, refl)

separates : (begins_row : Bool) → is_separator (if begins_row then 10 else 32) ≡ true
separates true = refl
separates false = refl

-- one entry more
pub entry_more : (text new : List ℕ) (head xs : List ℤ) (k : ℕ) (begins_row : Bool) (z : ℤ) → k < length xs → z ≡ get_or xs k (pos 0) → IsWordOf (signed_decimal z) z
    → new ≡ text ++ (if begins_row then 10 else 32) ∷ signed_decimal z → Spells text 0 (head ++ take k xs) (length text) → Spells new 0 (head ++ take (k + 1) xs) (length new)
entry_more text new head xs k begins_row z inside is w made h =
    let one : head ++ take (k + 1) xs ≡ (head ++ take k xs) ++ z ∷ [] =
    ap (λ (l : List ℤ). head ++ l) (take_more xs k (pos 0) inside ∙ ap (λ (y : ℤ). take k xs ++ y ∷ []) (sym is)) ∙ sym (append_assoc head (take k xs) (z ∷ [])) in
    let more = spells_more text (head ++ take k xs) (if begins_row then 10 else 32) (signed_decimal z) z (separates begins_row) w h in
    rw (made, one) more
