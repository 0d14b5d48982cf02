-- What is known of an option, where it is known which it is.
use Rattle.std.proofs.Common.{◌≡◌, Option, Some, None, MatchOption, subst}

-- what holds where the option is `None`
pub none_of : {A : Type 0} (o : Option A) (P : Type 0) (Q : A → Type 0) → MatchOption o P Q → o ≡ None → P
none_of o P Q matched is = subst (λ x. MatchOption x P Q) is matched

-- what holds of its value where it has one
pub some_of : {A : Type 0} (o : Option A) (P : Type 0) (Q : A → Type 0) (x : A) → MatchOption o P Q → o ≡ Some x → Q x
some_of o P Q x matched is = subst (λ y. MatchOption y P Q) is matched
