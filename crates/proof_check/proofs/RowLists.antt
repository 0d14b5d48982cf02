-- Rows of pair duals, one after the other.
use Rattle.std.proofs.Common.{◌≡◌, ℕ, suc, ◌+◌, ◌-◌, ◌*◌, ◌<◌, ◌++◌, List, [], ◌∷◌, length, take, drop, get_or, ℤ, inl, refl, sym, ◌∙◌, ap, subst, arith, append_assoc, length-append, length-drop}
use Rattle.std.specs.Prelude.{Option, Some}
use Rattle.std.specs.Io.KnownBytes.{Consumes}
use Rattle.std.proofs.lemmas.List.Elements.{All-nil, All-push}
use Rattle.std.proofs.lemmas.List.{drop_more, nil_from_length, take_all, take_more}
use Rattle.qap_cost.specs.Range.{AllLimited}
use Rattle.qap_lines.proofs.Fronts.{no_line-nil}
use Rattle.qap_lines.specs.Line.{HasNoLine}
use Rattle.qap_lines.specs.LineText.{numbers_text}
use Rattle.qap_proof.specs.declared.error.ProofError.{ProofError}
use Rattle.qap_proof.specs.declared.error.ProofError.TheVariants.{OutOfMemory}
use Rattle.proof_tree.specs.Shape.{AreLimited}
use Rattle.proof_tree.specs.Text.{rows_text}
use Rattle.proof_check.specs.Acceptance.{IsInterruption}
use Rattle.proof_check.specs.Completeness.{BeginsWithLine, BeginsWithRows}
use Rattle.proof_check.specs.Flow.{Flow, Passes}
use Rattle.proof_check.specs.Rows.{HasRows}
use Rattle.proof_check.proofs.Flows.{Passes-nil, Passes-trans}
use Rattle.proof_check.proofs.Passing.{line_known}
use Rattle.proof_check.proofs.TreeLines.{no_line-named, one_numbers}

rows_text-push : (rows : List (List ℤ)) (row : List ℤ) → rows_text (rows ++ row ∷ []) ≡ rows_text rows ++ (drop 1 (numbers_text row) ++ 10 ∷ [])
rows_text-push [] row = refl
rows_text-push (r ∷ rows) row =
    ap (λ l. drop 1 (numbers_text r) ++ 10 ∷ l) (rows_text-push rows row) ∙ sym (append_assoc (drop 1 (numbers_text r)) (10 ∷ rows_text rows) (drop 1 (numbers_text row) ++ 10 ∷ []))

-- no row yet
pub HasRows-none : (width : ℕ) (a : Flow) → HasRows width 0 [] a a
HasRows-none width a = record { counted = refl; each = All-nil (AreLimited width); consumed = Passes-nil a }

-- one row more, whose line was read
pub HasRows-more : (width count : ℕ) (rows : List (List ℤ)) (row : List ℤ) (line : List ℕ) (a b c : Flow) → HasRows width count rows a b → Passes b c (line ++ 10 ∷ []) → AreLimited width row → line ≡ drop 1 (numbers_text row)
    → HasRows width (count + 1) (rows ++ row ∷ []) a c
HasRows-more width count rows row line a b c h read limited is = record {
  counted = omega (arith, length-append rows (row ∷ []), h.counted);
  each = All-push (AreLimited width) rows row h.each limited;
  consumed = subst (Passes a c) (ap (λ l. rows_text rows ++ (l ++ 10 ∷ [])) is ∙ sym (rows_text-push rows row)) (Passes-trans a b c (rows_text rows) (line ++ 10 ∷ []) h.consumed read);
}

-- ---- rows that are known to follow

-- where the known bytes begin with rows, the first ones of these were read, and the others are left
pub record HasPassed (m count : ℕ) (rows : List (List ℤ)) (old new : Option (List ℕ)) : Type 0 where
  pub each : (wanted : List (List ℤ)) (rest : List ℕ) → BeginsWithRows m wanted old rest → (rows ≡ take count wanted) × (new ≡ Some (rows_text (drop count wanted) ++ rest))

pub HasPassed-none : (m : ℕ) (a : Option (List ℕ)) → HasPassed m 0 [] a a
HasPassed-none m a = record { each = λ wanted rest h. (refl, h.known) }

-- the next row
abbrev row_at : List (List ℤ) → ℕ → List ℤ
row_at wanted count = get_or wanted count []

no_line-row : (row : List ℤ) → AllLimited row → HasNoLine (drop 1 (numbers_text row))
no_line-row [] limited = no_line-nil
no_line-row (z ∷ zs) limited = let all = no_line-named [] (z ∷ zs) no_line-nil limited in record { each = λ i below. all.each (suc i) (omega (arith, below)) }

-- begins with its line
pub next_row : (m count : ℕ) (rows wanted : List (List ℤ)) (rest : List ℕ) (old new : Option (List ℕ)) → count < m * m → HasPassed m count rows old new → BeginsWithRows m wanted old rest
    → BeginsWithLine new (drop 1 (numbers_text (row_at wanted count))) (rows_text (drop (count + 1) wanted) ++ rest)
next_row m count rows wanted rest old new few passed h =
    let inside : count < length wanted = omega (arith, few, h.count) in
    let row = row_at wanted count in
    let line = drop 1 (numbers_text row) in
    let others = rows_text (drop (count + 1) wanted) in
    record {
      text = line ++ 10 ∷ (others ++ rest);
      known = (passed.each wanted rest h).1 ∙ ap (λ l. Some (rows_text l ++ rest)) (drop_more wanted count [] inside) ∙ ap Some (append_assoc line (10 ∷ others) rest);
      first = record { is = refl; first = no_line-row row (h.each count [] inside).limited };
    }

one_row : (width : ℕ) (row got : List ℤ) → AreLimited width row → AreLimited width got → drop 1 (numbers_text row) ≡ drop 1 (numbers_text got) → row ≡ got
one_row width [] [] h k e = refl
one_row width [] (z ∷ zs) h k e = absurd (omega (arith, h.count, k.count))
one_row width (z ∷ zs) [] h k e = absurd (omega (arith, h.count, k.count))
one_row width (y ∷ ys) (z ∷ zs) h k e = one_numbers [] (y ∷ ys) (z ∷ zs) h.limited k.limited (ap (λ l. 32 ∷ l) e)

-- one row more was read
pub HasPassed-more : (m count : ℕ) (rows : List (List ℤ)) (row : List ℤ) (line : List ℕ) (a b c : Option (List ℕ)) → count < m * m → HasPassed m count rows a b → Consumes b c (line ++ 10 ∷ []) → HasNoLine line → AreLimited (2 * (m - 1)) row → line ≡ drop 1 (numbers_text row)
    → HasPassed m (count + 1) (rows ++ row ∷ []) a c
HasPassed-more m count rows row line a b c few passed read whole limited is = record {
  each = λ wanted rest h.
      let inside : count < length wanted = omega (arith, few, h.count) in
      let now = line_known b c line (drop 1 (numbers_text (row_at wanted count))) (rows_text (drop (count + 1) wanted) ++ rest) read whole (next_row m count rows wanted rest a b few passed h) in
      let same = one_row (2 * (m - 1)) row (row_at wanted count) limited (h.each count [] inside) (sym is ∙ now.0) in
      (ap (λ l. l ++ row ∷ []) (passed.each wanted rest h).0 ∙ ap (λ r. take count wanted ++ r ∷ []) same ∙ sym (take_more wanted count [] inside), now.1);
}

-- all rows were read
pub HasPassed-all : (m count : ℕ) (rows wanted : List (List ℤ)) (rest : List ℕ) (old new : Option (List ℕ)) → count ≡ m * m → HasPassed m count rows old new → BeginsWithRows m wanted old rest → (rows ≡ wanted) × (new ≡ Some rest)
HasPassed-all m count rows wanted rest old new all passed h =
    let p = passed.each wanted rest h in
    let none : drop count wanted ≡ [] = nil_from_length (drop count wanted) (omega (arith, length-drop count wanted, all, h.count)) in
    (p.0 ∙ take_all count wanted (omega (arith, all, h.count)), p.1 ∙ ap (λ l. Some (rows_text l ++ rest)) none)

-- a row is refused only by an interruption
pub row_refused : (m count : ℕ) (rows wanted : List (List ℤ)) (line lent rest : List ℕ) (e : ProofError) (a b c : Option (List ℕ)) → count < m * m → HasPassed m count rows a b → Consumes b c (line ++ 10 ∷ []) → HasNoLine line → lent ≡ line
    → ((row : List ℤ) → AreLimited (2 * (m - 1)) row → lent ≡ drop 1 (numbers_text row) → e ≡ OutOfMemory) → BeginsWithRows m wanted a rest → IsInterruption e
row_refused m count rows wanted line lent rest e a b c few passed read whole same refuses h =
    let inside : count < length wanted = omega (arith, few, h.count) in
    let now = line_known b c line (drop 1 (numbers_text (row_at wanted count))) (rows_text (drop (count + 1) wanted) ++ rest) read whole (next_row m count rows wanted rest a b few passed h) in
    inl (refuses (row_at wanted count) (h.each count [] inside) (same ∙ now.0))
