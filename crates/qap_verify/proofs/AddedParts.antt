-- One more part, behind others, or refused.
use Rattle.std.proofs.Common.{ℕ, suc, ◌<◌, ◌+◌, ◌++◌, ◌∷◌, ◌∙◌, [], List, Option, ap, drop, length, take, get_or, refl, subst, sym}
use Rattle.std.proofs.Math.Seq.{drop-cons}
use Rattle.std.proofs.lemmas.List.{take-append-drop, take_more}
use Rattle.qap_proof.specs.Cover.{CoverValue}
use Rattle.qap_verify.specs.Naming.{AddsEach, AddsFile, AddsFirst, RefusesFile}
use Rattle.qap_verify.specs.declared.refusal.VerifyError.{VerifyError}

module _ {F : Type 0} (Holds : List ℕ → List ℕ → Type 0) (bytes : F → Option (List ℕ)) where
  adds_behind : (names : List (List ℕ)) (name : List ℕ) (old mid new : CoverValue) → AddsEach Holds bytes names old mid → AddsFile Holds bytes name mid new → AddsEach Holds bytes (names ++ name ∷ []) old new
  adds_behind [] name old mid new is one = (new, subst (λ (c : CoverValue). AddsFile Holds bytes name c new) is one, refl)
  adds_behind (first ∷ names) name old mid new each one = (each.0, each.1, adds_behind names name each.0 mid new each.2 one)

  -- the next of a list
  pub adds_next : (names : List (List ℕ)) (i : ℕ) (old mid new : CoverValue) → i < length names → AddsEach Holds bytes (take i names) old mid → AddsFile Holds bytes (get_or names i []) mid new
      → AddsEach Holds bytes (take (i + 1) names) old new
  adds_next names i old mid new inside each one =
      subst (λ (ns : List (List ℕ)). AddsEach Holds bytes ns old new) (sym (take_more names i [] inside)) (adds_behind (take i names) (get_or names i []) old mid new each one)

  -- the first of a list, and the next one refused
  pub adds_first : (names : List (List ℕ)) (i : ℕ) (old new : CoverValue) (e : VerifyError) → i < length names → AddsEach Holds bytes (take i names) old new
      → RefusesFile Holds bytes (get_or names i []) new.instance e → AddsFirst Holds bytes names old new e
  adds_first names i old new e inside each refused = record {
    first = take i names;
    next = get_or names i [];
    rest = drop (suc i) names;
    are = sym (take-append-drop i names) ∙ ap (λ (ns : List (List ℕ)). take i names ++ ns) (drop-cons names i [] inside);
    added = each;
    refused = refused;
  }
