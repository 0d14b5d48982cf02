-- What holds of a list holds of its front.
use Rattle.std.proofs.Common.{ℕ, List, [], ◌∷◌, ◌++◌, ◌≡◌, arith, subst}
use Rattle.std.specs.Prelude.{All}
use Rattle.std.proofs.lemmas.List.{get_or_append_left, length-append}

-- what holds of all but the last
pub All-front : (P : ℕ → Type 0) (xs ys : List ℕ) (x : ℕ) → ys ≡ xs ++ x ∷ [] → All P ys → All P xs
All-front P xs ys x is h = λ k d below.
    let all = subst (All P) is h in
    let long = length-append xs (x ∷ []) in
    subst P (get_or_append_left xs (x ∷ []) d k below) (all k d (omega arith))
