-- What is known of a result that is `Ok`.
use Rattle.std.proofs.Common.{Result, Ok, Err}
use Rattle.std.specs.Prelude.{IfOk}

-- what follows from all that is known of the value of an `Ok` is known of it
pub IfOk-map : {A E : Type 0} (P Q : A → Type 0) (r : Result A E) → ((x : A) → P x → Q x) → IfOk r P → IfOk r Q
IfOk-map P Q (Ok x) all holds = all x holds
IfOk-map P Q (Err e) all holds = tt
