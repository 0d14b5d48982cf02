-- A scan of a text finds no fault exactly where the text is CSV.
use Rattle.std.proofs.Common.{◌≡◌, ◌∙◌, ℕ, List, [], ◌∷◌, ◌++◌, Bool, true, false, cond, Result, Ok, Err, refl, sym, ap, subst, inl, inr, append_assoc}
use Rattle.std.specs.Prelude.{◌⊎◌, is_ok, ◌==◌, MatchResult}
use Rattle.std.proofs.lemmas.Bool.{ne_eqb, cases_eq}
use Rattle.std.proofs.lemmas.List.{append-nil}
use Rattle.plan_table.specs.Marks.{byte_of, mark_of}
use Rattle.plan_table.specs.CsvText.{Field, bare, quoted, AreOthers, IsField, doubled, field_text, Ending, divider, feed, return_feed, ending_text, Piece, ArePieces, csv_text, IsCsv}
use Rattle.plan_table.specs.Scan.{next_stand, end_stand, at_place, and_then, moved, scan, begun, first_fault}
use Rattle.plan_table.specs.declared.csv_text.Mark.{Mark}
use Rattle.plan_table.specs.declared.csv_text.Mark.TheVariants.{Quote, Divider, Feed, Return, Other}
use Rattle.plan_table.specs.declared.separator.Separator.{Separator}
use Rattle.plan_table.specs.declared.separator.Separator.TheVariants.{Comma, Semicolon, Tab}
use Rattle.plan_table.specs.declared.csv_text.Stand.{Stand}
use Rattle.plan_table.specs.declared.csv_text.Stand.TheVariants.{Start, Bare, Quoted, Closed, Returned}
use Rattle.plan_table.specs.declared.csv_text.Reached.{Reached}
use Rattle.plan_table.specs.declared.error.Place.{Place}
use Rattle.plan_table.specs.declared.error.CsvFault.{CsvFault}
use Rattle.plan_table.specs.declared.error.Misspelling.{Misspelling}

-- the scan without its places
abbrev pub spelled : Separator → Stand → List ℕ → Result (Unit {0}) Misspelling
spelled d s [] = end_stand s
spelled d s (b ∷ bs) = and_then (next_stand s (mark_of d b)) (λ t. spelled d t bs)

same_end : (place : Place) (r : Result (Unit {0}) Misspelling) → is_ok (at_place place (λ u. u) r) ≡ is_ok r
same_end place (Ok u) = refl
same_end place (Err e) = refl

same_step : (d : Separator) (r : Reached) (b : ℕ) (bs : List ℕ) (next : Result Stand Misspelling) → ((m : Reached) → is_ok (scan d m bs) ≡ is_ok (spelled d m.stand bs))
    → is_ok (and_then (at_place r.place (moved d r b) next) (λ m. scan d m bs)) ≡ is_ok (and_then next (λ t. spelled d t bs))
same_step d r b bs (Ok t) same = same (moved d r b t)
same_step d r b bs (Err e) same = refl

same_verdict : (d : Separator) (text : List ℕ) (r : Reached) → is_ok (scan d r text) ≡ is_ok (spelled d r.stand text)
same_verdict d [] r = same_end r.place (end_stand r.stand)
same_verdict d (b ∷ bs) r = same_step d r b bs (next_stand r.stand (mark_of d b)) (same_verdict d bs)

-- what the bytes of a text are under each separator
divider_mark : (d : Separator) → mark_of d (byte_of d) ≡ Divider
divider_mark Comma = refl
divider_mark Semicolon = refl
divider_mark Tab = refl

feed_mark : (d : Separator) → mark_of d 10 ≡ Feed
feed_mark Comma = refl
feed_mark Semicolon = refl
feed_mark Tab = refl

return_mark : (d : Separator) → mark_of d 13 ≡ Return
return_mark Comma = refl
return_mark Semicolon = refl
return_mark Tab = refl

no_quote_mark : (d : Separator) → (byte_of d == 34) ≡ false
no_quote_mark Comma = refl
no_quote_mark Semicolon = refl
no_quote_mark Tab = refl

-- a step behind a byte of a known mark
step : (d : Separator) (s : Stand) (b : ℕ) (m : Mark) (bs : List ℕ) → mark_of d b ≡ m → spelled d s (b ∷ bs) ≡ and_then (next_stand s m) (λ t. spelled d t bs)
step d s b m bs is = ap (λ x. and_then (next_stand s x) (λ t. spelled d t bs)) is

-- where a text may end
abbrev IsDone : Stand → Type 0
IsDone Start = Unit {0}
IsDone Bare = Unit {0}
IsDone Quoted = ⊥
IsDone Closed = Unit {0}
IsDone Returned = ⊥

done_end : (s : Stand) → IsDone s → end_stand s ≡ Ok tt
done_end Start done = refl
done_end Bare done = refl
done_end Quoted done = absurd done
done_end Closed done = refl
done_end Returned done = absurd done

done_ending : (d : Separator) (s : Stand) (e : Ending) (more : List ℕ) → IsDone s → spelled d s (ending_text d e ++ more) ≡ spelled d Start more
done_ending d Start divider more done = step d Start (byte_of d) Divider more (divider_mark d)
done_ending d Start feed more done = step d Start 10 Feed more (feed_mark d)
done_ending d Start return_feed more done =
    step d Start 13 Return (10 ∷ more) (return_mark d) ∙ step d Returned 10 Feed more (feed_mark d)
done_ending d Bare divider more done = step d Bare (byte_of d) Divider more (divider_mark d)
done_ending d Bare feed more done = step d Bare 10 Feed more (feed_mark d)
done_ending d Bare return_feed more done =
    step d Bare 13 Return (10 ∷ more) (return_mark d) ∙ step d Returned 10 Feed more (feed_mark d)
done_ending d Quoted e more done = absurd done
done_ending d Closed divider more done = step d Closed (byte_of d) Divider more (divider_mark d)
done_ending d Closed feed more done = step d Closed 10 Feed more (feed_mark d)
done_ending d Closed return_feed more done =
    step d Closed 13 Return (10 ∷ more) (return_mark d) ∙ step d Returned 10 Feed more (feed_mark d)
done_ending d Returned e more done = absurd done

others_on : (d : Separator) (bs rest : List ℕ) → AreOthers d bs → spelled d Bare (bs ++ rest) ≡ spelled d Bare rest
others_on d [] rest others = refl
others_on d (b ∷ bs) rest (is, others) =
    ap (λ m. and_then (next_stand Bare m) (λ t. spelled d t (bs ++ rest))) is ∙ others_on d bs rest others

goes_on : (w x y z : Bool) → w ≡ false → next_stand Quoted (cond w Quote (cond x Divider (cond y Feed (cond z Return Other)))) ≡ Ok Quoted
goes_on true x y z differs = absurd (cc)
goes_on false true y z differs = refl
goes_on false false true z differs = refl
goes_on false false false true differs = refl
goes_on false false false false differs = refl

quoted_byte : (d : Separator) (same : Bool) (b : ℕ) (bs rest : List ℕ) → (b == 34) ≡ same → spelled d Quoted (doubled bs ++ 34 ∷ rest) ≡ spelled d Closed rest
    → spelled d Quoted (cond same (34 ∷ 34 ∷ doubled bs) (b ∷ doubled bs) ++ 34 ∷ rest) ≡ spelled d Closed rest
quoted_byte d true b bs rest is so_far = so_far
quoted_byte d false b bs rest is so_far =
    ap (λ r. and_then r (λ t. spelled d t (doubled bs ++ 34 ∷ rest))) (goes_on (b == 34) (b == byte_of d) (b == 10) (b == 13) is) ∙ so_far

quoted_on : (d : Separator) (bs rest : List ℕ) → spelled d Quoted (doubled bs ++ 34 ∷ rest) ≡ spelled d Closed rest
quoted_on d [] rest = refl
quoted_on d (b ∷ bs) rest = quoted_byte d (b == 34) b bs rest refl (quoted_on d bs rest)

after_field : (d : Separator) (f : Field) (rest : List ℕ) → IsField d f → (s : Stand) × IsDone s × (spelled d Start (field_text f ++ rest) ≡ spelled d s rest)
after_field d (bare []) rest is = (Start, tt, refl)
after_field d (bare (b ∷ bs)) rest (is, others) =
    (Bare, tt, ap (λ m. and_then (next_stand Start m) (λ t. spelled d t (bs ++ rest))) is ∙ others_on d bs rest others)
after_field d (quoted bs) rest is =
    (Closed, tt, ap (spelled d Quoted) (append_assoc (doubled bs) (34 ∷ []) rest) ∙ quoted_on d bs rest)

csv_ok : (d : Separator) (ps : List Piece) (last : Field) → ArePieces d ps → IsField d last → is_ok (spelled d Start (csv_text d ps last)) ≡ true
csv_ok d [] last fields ends =
    let (s, done, is) = after_field d last [] ends in
    ap (λ l. is_ok (spelled d Start l)) (sym (append-nil (field_text last))) ∙ ap is_ok is ∙ ap is_ok (done_end s done)
csv_ok d (p ∷ ps) last (field, fields) ends =
    let rest = csv_text d ps last in
    let (s, done, is) = after_field d p.field (ending_text d p.ending ++ rest) field in
    ap is_ok is ∙ ap is_ok (done_ending d s p.ending rest done) ∙ csv_ok d ps last fields ends

-- what may stand behind a field
abbrev IsBehind : Separator → List ℕ → Type 0
IsBehind d tail = (tail ≡ []) ⊎ ((e : Ending) × (more : List ℕ) × (tail ≡ ending_text d e ++ more) × IsCsv d more)

-- the rest of a field in quotes, and what stands behind it
abbrev IsInQuotes : Separator → List ℕ → Type 0
IsInQuotes d text = (bs tail : List ℕ) × (text ≡ doubled bs ++ 34 ∷ tail) × IsBehind d tail

-- what the rest of a text is
abbrev IsRest : Separator → Stand → List ℕ → Type 0
IsRest d Start text = IsCsv d text
IsRest d Bare text = (bs tail : List ℕ) × AreOthers d bs × (text ≡ bs ++ tail) × IsBehind d tail
IsRest d Quoted text = IsInQuotes d text
IsRest d Closed text = IsBehind d text ⊎ ((more : List ℕ) × (text ≡ 34 ∷ more) × IsInQuotes d more)
IsRest d Returned text = (more : List ℕ) × (text ≡ 10 ∷ more) × IsCsv d more

csv_of : (d : Separator) (f : Field) (text tail : List ℕ) → IsField d f → text ≡ field_text f ++ tail → IsBehind d tail → IsCsv d text
csv_of d f text tail field is (inl none) = record {
  pieces = [];
  last = f;
  fields = tt;
  ends = field;
  is = is ∙ ap (λ l. field_text f ++ l) none ∙ append-nil (field_text f);
}
csv_of d f text tail field is (inr (e, more, next, csv)) = record {
  pieces = record { field = f; ending = e } ∷ csv.pieces;
  last = csv.last;
  fields = (field, csv.fields);
  ends = csv.ends;
  is = is ∙ ap (λ l. field_text f ++ l) (next ∙ ap (λ l. ending_text d e ++ l) csv.is);
}

-- a byte more before the rest
abbrev GoesOn : Separator → List ℕ → Type 0
GoesOn d bs = (t : Stand) → is_ok (spelled d t bs) ≡ true → IsRest d t bs

-- the scan goes on behind a byte of this mark
abbrev IsOkBehind : Separator → Stand → Mark → List ℕ → Type 0
IsOkBehind d s m bs = is_ok (and_then (next_stand s m) (λ t. spelled d t bs)) ≡ true

before_quote : (d : Separator) (s : Stand) (bs : List ℕ) → GoesOn d bs → IsOkBehind d s Quote bs → IsRest d s (34 ∷ bs)
before_quote d Start bs on ok =
    let (qs, tail, is, behind) = on Quoted ok in
    csv_of d (quoted qs) (34 ∷ bs) tail tt (ap (λ l. 34 ∷ l) (is ∙ sym (append_assoc (doubled qs) (34 ∷ []) tail))) behind
before_quote d Bare bs on ok = absurd (cc)
before_quote d Quoted bs on ok =
    elim (on Closed ok) [
      | inl behind ↦ ([], bs, refl, behind)
      | inr (more, next, (qs, tail, is, behind)) ↦ (34 ∷ qs, tail, ap (λ l. 34 ∷ l) (next ∙ ap (λ l. 34 ∷ l) is), behind)
    ]
before_quote d Closed bs on ok = inr (bs, refl, on Quoted ok)
before_quote d Returned bs on ok = absurd (cc)

-- a byte that isn't a quote, in quotes
in_quotes : (d : Separator) (b : ℕ) (bs : List ℕ) → (b == 34) ≡ false → IsInQuotes d bs → IsInQuotes d (b ∷ bs)
in_quotes d b bs differs (qs, tail, is, behind) =
    (b ∷ qs, tail, ap (λ l. b ∷ l) is ∙ ap (λ (same : Bool). cond same (34 ∷ 34 ∷ doubled qs) (b ∷ doubled qs) ++ 34 ∷ tail) (sym differs), behind)

before_divider : (d : Separator) (s : Stand) (bs : List ℕ) → GoesOn d bs → IsOkBehind d s Divider bs → IsRest d s (byte_of d ∷ bs)
before_divider d Start bs on ok =
    csv_of d (bare []) (byte_of d ∷ bs) (byte_of d ∷ bs) tt refl (inr (divider, bs, refl, on Start ok))
before_divider d Bare bs on ok = ([], byte_of d ∷ bs, tt, refl, inr (divider, bs, refl, on Start ok))
before_divider d Quoted bs on ok = in_quotes d (byte_of d) bs (no_quote_mark d) (on Quoted ok)
before_divider d Closed bs on ok = inl (inr (divider, bs, refl, on Start ok))
before_divider d Returned bs on ok = absurd (cc)

before_feed : (d : Separator) (s : Stand) (bs : List ℕ) → GoesOn d bs → IsOkBehind d s Feed bs → IsRest d s (10 ∷ bs)
before_feed d Start bs on ok = csv_of d (bare []) (10 ∷ bs) (10 ∷ bs) tt refl (inr (feed, bs, refl, on Start ok))
before_feed d Bare bs on ok = ([], 10 ∷ bs, tt, refl, inr (feed, bs, refl, on Start ok))
before_feed d Quoted bs on ok = in_quotes d 10 bs refl (on Quoted ok)
before_feed d Closed bs on ok = inl (inr (feed, bs, refl, on Start ok))
before_feed d Returned bs on ok = (bs, refl, on Start ok)

returns_to : (d : Separator) (bs : List ℕ) → IsRest d Returned bs → IsBehind d (13 ∷ bs)
returns_to d bs (more, next, csv) = inr (return_feed, more, ap (λ l. 13 ∷ l) next, csv)

before_return : (d : Separator) (s : Stand) (bs : List ℕ) → GoesOn d bs → IsOkBehind d s Return bs → IsRest d s (13 ∷ bs)
before_return d Start bs on ok = csv_of d (bare []) (13 ∷ bs) (13 ∷ bs) tt refl (returns_to d bs (on Returned ok))
before_return d Bare bs on ok = ([], 13 ∷ bs, tt, refl, returns_to d bs (on Returned ok))
before_return d Quoted bs on ok = in_quotes d 13 bs refl (on Quoted ok)
before_return d Closed bs on ok = inl (returns_to d bs (on Returned ok))
before_return d Returned bs on ok = absurd (cc)

before_other : (d : Separator) (s : Stand) (b : ℕ) (bs : List ℕ) → mark_of d b ≡ Other → (b == 34) ≡ false → GoesOn d bs → IsOkBehind d s Other bs → IsRest d s (b ∷ bs)
before_other d Start b bs other differs on ok =
    let (os, tail, others, is, behind) = on Bare ok in
    csv_of d (bare (b ∷ os)) (b ∷ bs) tail (other, others) (ap (λ l. b ∷ l) is) behind
before_other d Bare b bs other differs on ok =
    let (os, tail, others, is, behind) = on Bare ok in (b ∷ os, tail, (other, others), ap (λ l. b ∷ l) is, behind)
before_other d Quoted b bs other differs on ok = in_quotes d b bs differs (on Quoted ok)
before_other d Closed b bs other differs on ok = absurd (cc)
before_other d Returned b bs other differs on ok = absurd (cc)

-- which byte it is
abbrev IsByte : Separator → ℕ → Type 0
IsByte d b = (b ≡ 34) ⊎ ((b ≡ byte_of d) ⊎ ((b ≡ 10) ⊎ ((b ≡ 13) ⊎ ((mark_of d b ≡ Other) × ((b == 34) ≡ false)))))

is_other : (w x y z : Bool) → w ≡ false → x ≡ false → y ≡ false → z ≡ false → cond w Quote (cond x Divider (cond y Feed (cond z Return Other))) ≡ Other
is_other w x y z no_w no_x no_y no_z = rw (no_w, no_x, no_y, no_z) refl

which_byte : (d : Separator) (b : ℕ) → IsByte d b
which_byte d b =
    elim (cases_eq b 34) [
      | inl quote ↦ inl quote
      | inr no_quote ↦
          elim (cases_eq b (byte_of d)) [
            | inl is ↦ inr (inl is)
            | inr no_divider ↦
                elim (cases_eq b 10) [
                  | inl is ↦ inr (inr (inl is))
                  | inr no_feed ↦
                      elim (cases_eq b 13) [
                        | inl is ↦ inr (inr (inr (inl is)))
                        | inr no_return ↦
                            inr (inr (inr (inr (is_other (b == 34) (b == byte_of d) (b == 10) (b == 13) (ne_eqb b 34 no_quote) (ne_eqb b (byte_of d) no_divider) (ne_eqb b 10 no_feed) (ne_eqb b 13 no_return), ne_eqb b 34 no_quote))))
                      ]
                ]
          ]
    ]

-- what is known behind a byte, by its mark
behind : (d : Separator) (s : Stand) (b : ℕ) (m : Mark) (bs : List ℕ) → mark_of d b ≡ m → is_ok (spelled d s (b ∷ bs)) ≡ true → IsOkBehind d s m bs
behind d s b m bs is ok = ap is_ok (sym (step d s b m bs is)) ∙ ok

before_byte : (d : Separator) (s : Stand) (b : ℕ) (bs : List ℕ) → IsByte d b → GoesOn d bs → is_ok (spelled d s (b ∷ bs)) ≡ true → IsRest d s (b ∷ bs)
before_byte d s b bs (inl is) on =
    subst (λ c. is_ok (spelled d s (c ∷ bs)) ≡ true → IsRest d s (c ∷ bs)) (sym is) (λ ok. before_quote d s bs on ok)
before_byte d s b bs (inr (inl is)) on =
    subst (λ c. is_ok (spelled d s (c ∷ bs)) ≡ true → IsRest d s (c ∷ bs)) (sym is) (λ ok. before_divider d s bs on (behind d s (byte_of d) Divider bs (divider_mark d) ok))
before_byte d s b bs (inr (inr (inl is))) on =
    subst (λ c. is_ok (spelled d s (c ∷ bs)) ≡ true → IsRest d s (c ∷ bs)) (sym is) (λ ok. before_feed d s bs on (behind d s 10 Feed bs (feed_mark d) ok))
before_byte d s b bs (inr (inr (inr (inl is)))) on =
    subst (λ c. is_ok (spelled d s (c ∷ bs)) ≡ true → IsRest d s (c ∷ bs)) (sym is) (λ ok. before_return d s bs on (behind d s 13 Return bs (return_mark d) ok))
before_byte d s b bs (inr (inr (inr (inr (other, differs))))) on =
    λ ok. before_other d s b bs other differs on (behind d s b Other bs other ok)

rest_of : (d : Separator) (text : List ℕ) (s : Stand) → is_ok (spelled d s text) ≡ true → IsRest d s text
rest_of d [] Start ok = csv_of d (bare []) [] [] tt refl (inl refl)
rest_of d [] Bare ok = ([], [], tt, refl, inl refl)
rest_of d [] Quoted ok = absurd (cc)
rest_of d [] Closed ok = inl (inl refl)
rest_of d [] Returned ok = absurd (cc)
rest_of d (b ∷ bs) s ok = before_byte d s b bs (which_byte d b) (rest_of d bs) ok

ok_of_csv : (d : Separator) (text : List ℕ) → IsCsv d text → is_ok (first_fault d text) ≡ true
ok_of_csv d text csv =
    same_verdict d text begun ∙ ap (λ l. is_ok (spelled d Start l)) csv.is ∙ csv_ok d csv.pieces csv.last csv.fields csv.ends

csv_of_ok : (d : Separator) (text : List ℕ) → is_ok (first_fault d text) ≡ true → IsCsv d text
csv_of_ok d text ok = rest_of d text Start (sym (same_verdict d text begun) ∙ ok)

-- there is no fault exactly where the text is CSV
pub judged : (d : Separator) (text : List ℕ) (r : Result (Unit {0}) CsvFault) → r ≡ first_fault d text → MatchResult r (λ _. IsCsv d text) (λ _. IsCsv d text → ⊥)
judged d text (Ok u) is = csv_of_ok d text (ap is_ok (sym is))
judged d text (Err e) is = λ csv. let wrong = ap is_ok is ∙ ok_of_csv d text csv in cc
