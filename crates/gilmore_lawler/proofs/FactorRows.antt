-- How the entries of a facility with itself and with the placed ones are put together.
use Rattle.std.proofs.Common.{◌≡◌, ◌++◌, ◌∷◌, [], ◌∙◌, ap, List, append_assoc}
use Rattle.std.specs.Prelude.{ℤ}

-- a list with x and then P put behind it ends with x and P
pub joined : (T A D P : List ℤ) (x : ℤ) → A ≡ T ++ x ∷ [] → D ≡ A ++ P → D ≡ T ++ x ∷ P
joined T A D P x a d = d ∙ ap (λ l. l ++ P) a ∙ append_assoc T (x ∷ []) P

-- a list with x and then y put behind it ends with x and y
pub joined_pair : (T A D : List ℤ) (x y : ℤ) → A ≡ T ++ x ∷ [] → D ≡ A ++ y ∷ [] → D ≡ T ++ x ∷ y ∷ []
joined_pair T A D x y a d = joined T A D (y ∷ []) x a d
