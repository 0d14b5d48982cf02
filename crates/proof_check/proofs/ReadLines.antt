-- What reading to a line feed finds in a known text that begins with a line.
use Rattle.std.proofs.Common.{◌≡◌, ◌≢◌, ℕ, ◌<◌, ◌++◌, List, [], ◌∷◌, length, eqb, get_or, refl, sym, ◌∙◌, ap, subst, arith, length-append}
use Rattle.std.specs.Prelude.{All, Bool, true, false, ◌&&◌, Option, IfSome}
use Rattle.std.specs.List.{starts_with}
use Rattle.std.proofs.lemmas.Bool.{eq-eqb, eqb-true, false≢true}
use Rattle.std.specs.Io.BufRead.{take_through}
use Rattle.std.proofs.BufReadLemmas.{take_through-append}
use Rattle.std.proofs.lemmas.List.{get_or_at, get_or_default}
use Rattle.qap_lines.specs.Line.{IsLine}
use Rattle.proof_check.specs.Completeness.{BeginsWithLine}

-- a line and its line feed are taken
pub line_taken : (text line rest : List ℕ) → IsLine text line rest → take_through 10 text ≡ line ++ 10 ∷ []
line_taken text line rest h =
    let none : All (λ x. x ≢ 10) line = λ k d below e. h.first.each k below (get_or_default line k 0 d below ∙ e) in
    ap (take_through 10) h.is ∙ take_through-append 10 line (10 ∷ rest) none

-- so the last byte that was read is a line feed
pub line_ends : (a : Option (List ℕ)) (read line rest : List ℕ) → BeginsWithLine a line rest → IfSome a (λ xs. read ≡ take_through 10 xs) → read ≡ line ++ 10 ∷ []
line_ends a read line rest h bytes = subst (λ (o : Option (List ℕ)). IfSome o (λ xs. read ≡ take_through 10 xs)) h.known bytes ∙ line_taken h.text line rest h.first

last_is : (front other : List ℕ) (x y : ℕ) → front ++ x ∷ [] ≡ other ++ y ∷ [] → x ≡ y
last_is front other x y is =
    let long : length front ≡ length other = omega (arith, ap length is, length-append front (x ∷ []), length-append other (y ∷ [])) in
    sym (get_or_at front x [] 0 (length front) refl) ∙ ap (λ l. get_or l (length front) 0) is ∙ get_or_at other y [] 0 (length front) (sym long)

-- what ends with another byte was no line
pub ends_otherwise : (a : Option (List ℕ)) (old read front line rest : List ℕ) (x : ℕ) → BeginsWithLine a line rest → old ≡ [] → IfSome a (λ xs. read ≡ old ++ take_through 10 xs) → read ≡ front ++ x ∷ [] → x ≡ 10
ends_otherwise a old read front line rest x h none bytes is =
    let all = subst (λ (l : List ℕ). IfSome a (λ xs. read ≡ l ++ take_through 10 xs)) none bytes in
    last_is front line x 10 (sym is ∙ line_ends a read line rest h all)

-- a line that begins with a byte
pub starts_first : (lent line : List ℕ) (x : ℕ) (b : Bool) → lent ≡ line → b ≡ true → b ≡ starts_with eqb lent (x ∷ []) → get_or line 0 0 ≡ x
starts_first lent line x b same found is = subst (λ (l : List ℕ). get_or l 0 0 ≡ x) same (first lent (sym is ∙ found))
  where
    and_first : (a : Bool) → (a && true) ≡ true → a ≡ true
    and_first true e = refl
    and_first false e = e

    first : (xs : List ℕ) → starts_with eqb xs (x ∷ []) ≡ true → get_or xs 0 0 ≡ x
    first [] e = absurd (false≢true e)
    first (y ∷ ys) e = sym (eqb-true x y (and_first (eqb x y) e))

-- a line that does not
pub starts_otherwise : (lent line : List ℕ) (x : ℕ) (b : Bool) → 0 < x → lent ≡ line → b ≡ false → b ≡ starts_with eqb lent (x ∷ []) → get_or line 0 0 ≢ x
starts_otherwise lent line x b some same found is at = false≢true (sym (sym is ∙ found) ∙ first lent (ap (λ l. get_or l 0 0) same ∙ at))
  where
    first : (xs : List ℕ) → get_or xs 0 0 ≡ x → starts_with eqb xs (x ∷ []) ≡ true
    first [] e = absurd (omega (arith, e, some))
    first (y ∷ ys) e = ap (λ c. c && true) (eq-eqb x y (sym e))
