-- Departments that move, one after another.
use Rattle.std.proofs.Common.{◌≡◌, ℕ, zero, suc, ◌+◌, ◌<◌, cond, List, [], ◌∷◌, length, map, drop, get_or, add-one, arith, refl}
use Rattle.std.specs.Prelude.{◌==◌}
use Rattle.plan_answer.specs.Compared.{moved_count}

moved_next : {A : Type 0} (f : A → List ℕ) (xs : List A) (js ks : List ℕ) (i : ℕ) → i < length xs → i < length js → i < length ks
    → moved_count (map f (drop i xs)) (drop i js) (drop i ks) ≡ cond (get_or js i 0 == get_or ks i 0) 0 1 + moved_count (map f (drop (suc i) xs)) (drop (suc i) js) (drop (suc i) ks)
moved_next f [] js ks i there today best = absurd (omega arith)
moved_next f (x ∷ xs) [] ks i there today best = absurd (omega arith)
moved_next f (x ∷ xs) (j ∷ js) [] i there today best = absurd (omega arith)
moved_next f (x ∷ xs) (j ∷ js) (k ∷ ks) zero there today best = refl
moved_next f (x ∷ xs) (j ∷ js) (k ∷ ks) (suc i) there today best = moved_next f xs js ks i (omega arith) (omega arith) (omega arith)

-- the first of those from a place on
pub moved_more : {A : Type 0} (f : A → List ℕ) (xs : List A) (js ks : List ℕ) (i : ℕ) → i < length xs → i < length js → i < length ks
    → moved_count (map f (drop i xs)) (drop i js) (drop i ks) ≡ cond (get_or js i 0 == get_or ks i 0) 0 1 + moved_count (map f (drop (i + 1) xs)) (drop (i + 1) js) (drop (i + 1) ks)
moved_more f xs js ks i there today best = rw add-one (moved_next f xs js ks i there today best)
