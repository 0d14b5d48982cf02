-- The numbers of two rows alternately.
use Rattle.std.proofs.Common.{◌≡◌, ℕ, ◌+◌, ◌<◌, List, [], ◌∷◌, ◌++◌, length, get_or, take, ℤ, pos, refl, sym, ap, ap₂, ◌∙◌, arith, append_assoc, length-take-le}
use Rattle.std.proofs.lemmas.List.{take_more}
use Rattle.number_list.specs.Turns.{by_turns}

-- one number more of each row
pub by_turns-push : (fs ks : List ℕ) (f k : ℕ) → length ks ≡ length fs → by_turns (fs ++ f ∷ []) (ks ++ k ∷ []) ≡ by_turns fs ks ++ (pos f ∷ pos k ∷ [])
by_turns-push [] [] f k h = refl
by_turns-push [] (l ∷ ks) f k h = absurd (omega arith)
by_turns-push (g ∷ fs) [] f k h = absurd (omega arith)
by_turns-push (g ∷ fs) (l ∷ ks) f k h = ap (λ (xs : List ℤ). pos g ∷ pos l ∷ xs) (by_turns-push fs ks f k (omega arith))

-- with one turn more, the two numbers of this turn, counted from 1, stand behind the others
pub by_turns-more : (fs ks : List ℕ) (t : ℕ) → t < length fs → length ks ≡ length fs → by_turns (take (t + 1) fs) (take (t + 1) ks) ≡ by_turns (take t fs) (take t ks) ++ (pos (get_or fs t 0) ∷ pos (get_or ks t 0) ∷ [])
by_turns-more fs ks t less paired =
    let left : length (take t fs) ≡ t = length-take-le t fs (omega arith) in
    let right : length (take t ks) ≡ t = length-take-le t ks (omega arith) in
    ap₂ by_turns (take_more fs t 0 less) (take_more ks t 0 (omega arith))
    ∙ by_turns-push (take t fs) (take t ks) (get_or fs t 0) (get_or ks t 0) (right ∙ sym left)

-- two numbers behind a list
pub two_pushed : {A : Type 0} (old one two : List A) (a b : A) → one ≡ old ++ a ∷ [] → two ≡ one ++ b ∷ [] → two ≡ old ++ (a ∷ b ∷ [])
two_pushed {A} old one two a b first second = second ∙ ap (λ (xs : List A). xs ++ b ∷ []) first ∙ append_assoc old (a ∷ []) (b ∷ [])
