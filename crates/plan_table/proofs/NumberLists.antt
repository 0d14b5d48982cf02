-- Maps from names to their numbers.
use Rattle.std.proofs.Common.{◌≡◌, ◌≢◌, ◌∙◌, ℕ, ◌+◌, ◌<◌, List, [], ◌∷◌, ◌++◌, length, map, take, get_or, ap, Option, Some, None, Bool, true, false, cond, refl, sym, subst, inl, inr, arith, length-append}
use Rattle.std.specs.Prelude.{MatchOption, String, IsTrue, is_some, ◌↔◌}
use Rattle.std.specs.HashMap.{HashMap, get_by_text}
use Rattle.std.specs.Map.{update}
use Rattle.std.specs.Str.{bytes_eq}
use Rattle.std.specs.declared.hash.FoldHasher.{FoldHasher}
use Rattle.std.specs.declared.hash.BuildHasherDefault.{BuildHasherDefault}
use Rattle.std.proofs.lemmas.Bool.{cases_lt}
use Rattle.std.proofs.lemmas.Slice.Eq.{bytes_eq-Decides}
use Rattle.std.proofs.lemmas.List.{get_or_at, get_or_append_left, map-append, take_more}
use Rattle.plan_table.specs.Names.{HasName}
use Rattle.plan_table.specs.Numbers.{AreNumbers}
use Rattle.plan_table.specs.Trips.{name_at}

-- what a map finds at a word is the number of that name, or there is none
abbrev IsNumber : Option ℕ → List (List ℕ) → List ℕ → Type 0
IsNumber found names word = MatchOption found (HasName names word → ⊥) (λ i. (i < length names) × (name_at names i ≡ word))

-- the number of the name that was put behind the others
number_here : (names : List (List ℕ)) (name word : List ℕ) (number : ℕ) → length names ≡ number → name ≡ word → IsNumber (Some number) (names ++ name ∷ []) word
number_here names name word number many is = (omega (arith, length-append names (name ∷ [])), get_or_at names name [] [] number many ∙ is)

-- another word has the number that it had
number_before : (found : Option ℕ) (names : List (List ℕ)) (name word : List ℕ) → name ≢ word → IsNumber found names word → IsNumber found (names ++ name ∷ []) word
number_before None names name word other none =
    λ (k, below, is).
    elim (cases_lt k (length names)) [
      | inl before ↦ none (k, before, sym (get_or_append_left names (name ∷ []) [] k before) ∙ is)
      | inr past ↦
          let here : length names ≡ k = omega (arith, length-append names (name ∷ [])) in
          other (sym (get_or_at names name [] [] k here) ∙ is)
    ]
number_before (Some i) names name word other (below, is) =
    (omega (arith, length-append names (name ∷ [])), get_or_append_left names (name ∷ []) [] i below ∙ is)

number_after : (same : Bool) (found : Option ℕ) (names : List (List ℕ)) (name word : List ℕ) (number : ℕ) → (same ≡ true → name ≡ word) → (name ≡ word → same ≡ true) → length names ≡ number
    → IsNumber found names word → IsNumber (cond same (Some number) found) (names ++ name ∷ []) word
number_after true found names name word number is back many before = number_here names name word number many (is refl)
number_after false found names name word number is back many before =
    number_before found names name word (λ e. let wrong = back e in cc) before

-- one name more, whose number is the count of those before it
pub AreNumbers-more : {A : Type 0} (old new : HashMap (String A) ℕ (BuildHasherDefault FoldHasher)) (names : List (List ℕ)) (name : List ℕ) (number : ℕ)
    → ((word : List ℕ) → get_by_text new word ≡ update bytes_eq (get_by_text old) name (Some number) word) → length names ≡ number → AreNumbers old names → AreNumbers new (names ++ name ∷ [])
AreNumbers-more old new names name number updated many before =
    λ word.
    let P : Option ℕ → Type 0 = λ found. IsNumber found (names ++ name ∷ []) word in
    let decides = bytes_eq-Decides name word in
    subst P (sym (updated word)) (number_after (bytes_eq name word) (get_by_text old word) names name word number decides.0 decides.1 many (before word))

-- a name that has a number is one of the names, and another one isn't
pub is_numbered : (found : Option ℕ) (names : List (List ℕ)) (word : List ℕ) → IsNumber found names word → IsTrue (is_some found) ↔ HasName names word
is_numbered None names word none = ((λ e. cc), (λ has. absurd (none has)))
is_numbered (Some i) names word (below, is) = ((λ _. (i, below, is)), (λ _. refl))

-- the texts of one more
pub texts_more : {A : Type 0} (f : A → List ℕ) (xs : List A) (i : ℕ) (x : A) → i < length xs → x ≡ get_or xs i x → map f (take (i + 1) xs) ≡ map f (take i xs) ++ f x ∷ []
texts_more f xs i x inside is =
    ap (map f) (take_more xs i x inside)
    ∙ map-append f (take i xs) (get_or xs i x ∷ [])
    ∙ ap (λ y. map f (take i xs) ++ f y ∷ []) (sym is)
