-- Names in small letters and without blanks, by their numbers.
use Rattle.std.proofs.Common.{◌≡◌, ◌≢◌, ◌∙◌, ℕ, zero, suc, ◌<◌, List, [], ◌∷◌, length, map, get_or, ap, refl, sym, arith}
use Rattle.std.proofs.lemmas.List.{length-map}
use Rattle.plan_table.specs.Alike.{AreUnlike, folded}

folded_at : {A : Type 0} (f : A → List ℕ) (xs : List A) (j : ℕ) → j < length xs → folded (get_or (map f xs) j []) ≡ get_or (map (λ x. folded (f x)) xs) j []
folded_at f [] j below = absurd (omega arith)
folded_at f (x ∷ xs) zero below = refl
folded_at f (x ∷ xs) (suc j) below = folded_at f xs j (omega arith)

-- no two of the names fold alike where no two of the keys are the same
pub unlike_by_keys : {A : Type 0} (f : A → List ℕ) (names : List A) (keys : List (List ℕ)) (n : ℕ) → keys ≡ map (λ x. folded (f x)) names → n ≡ length names
    → ((i j : ℕ) → i < j → j < n → get_or keys i [] ≢ get_or keys j []) → AreUnlike (map f names)
unlike_by_keys f names keys n is many differ = record {
  once = λ i j before below same.
      let inside : j < length names = omega (arith, length-map names f, below) in
      let first = ap (λ l. get_or l i []) is ∙ sym (folded_at f names i (omega (arith, before, inside))) in
      let second = ap (λ l. get_or l j []) is ∙ sym (folded_at f names j inside) in
      differ i j before (omega (arith, inside, many)) (first ∙ same ∙ sym second);
}
