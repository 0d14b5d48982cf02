-- What is counted of a list.
use Rattle.std.proofs.Common.{◌≡◌, ℕ, zero, suc, ◌<◌, Bool, true, false, List, [], ◌∷◌, length, refl, ap, ◌∙◌, cond, eqb, arith}
use Rattle.std.specs.Prelude.{All, Contains, count_by}
use Rattle.std.specs.List.{HoldsAt}
use Rattle.std.proofs.lemmas.Bool.{cond-false, cond-true, eq-eqb, eqb-false, eqb-true, ne_eqb}
use Rattle.std.proofs.lemmas.List.{get_or_default}
use Rattle.std.proofs.lemmas.List.Elements.{All-head, All-tail}
use Rattle.std.proofs.lemmas.List.Sums.{sum_by-cons}
use Rattle.tuple_space.specs.declared.entry.Entry.{Entry}

-- none is counted where none passes, and not none where one does
pub count_none : (test : Entry → Bool) (es : List Entry) → All (λ (e : Entry). test e ≡ false) es → eqb (count_by test es) 0 ≡ true
count_none test [] h = refl
count_none test (x ∷ xs) h =
    let P : Entry → Type 0 = λ e. test e ≡ false in
    let counted = sum_by-cons (λ (y : Entry). cond {A = ℕ} (test y) 1 0) x xs in
    let head = cond-false {A = ℕ} (test x) 1 0 (All-head P x xs h) in
    let rest = eqb-true (count_by test xs) 0 (count_none test xs (All-tail P x xs h)) in
    eq-eqb (count_by test (x ∷ xs)) 0 (omega (arith, counted, head, rest))

-- and not 0 where the one at a place passes
pub count_some : (test : Entry → Bool) (es : List Entry) (i : ℕ) → i < length es → HoldsAt (λ (e : Entry). test e ≡ true) es i → eqb (count_by test es) 0 ≡ false
count_some test [] i lt here = absurd (omega arith)
count_some test (x ∷ xs) zero lt here =
    let counted = sum_by-cons (λ (y : Entry). cond {A = ℕ} (test y) 1 0) x xs in
    let one = cond-true {A = ℕ} (test x) 1 0 (here x) in
    ne_eqb (count_by test (x ∷ xs)) 0 (λ e. omega (arith, counted, one))
count_some test (x ∷ xs) (suc i) lt here =
    let counted = sum_by-cons (λ (y : Entry). cond {A = ℕ} (test y) 1 0) x xs in
    let rest = eqb-false (count_by test xs) 0 (count_some test xs i (omega arith) (λ d. here d)) in
    ne_eqb (count_by test (x ∷ xs)) 0 (λ e. rest (omega (arith, counted)))

-- nor where one that stands among them does
pub count_stands : (test : Entry → Bool) (es : List Entry) (x : Entry) → Contains es x → test x ≡ true → eqb (count_by test es) 0 ≡ false
count_stands test es x stands passes = count_some test es stands.0 stands.1 (λ d. ap test (get_or_default es stands.0 d x stands.1 ∙ stands.2) ∙ passes)
