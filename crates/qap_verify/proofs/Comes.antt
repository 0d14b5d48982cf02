-- Why an instance and the text of a proof yield nothing.
use Rattle.std.proofs.Common.{◌≡◌, ℕ, List, inr}
use Rattle.qap_cost.specs.Instance.{Problem}
use Rattle.qap_verify.specs.Refusal.{HasNoTexts}
use Rattle.qap_verify.specs.Texts.{Inputs, HasTexts}
use Rattle.qap_verify.specs.declared.refusal.VerifyError.{VerifyError}
use Rattle.qap_verify.specs.declared.refusal.VerifyError.TheVariants.{OutOfMemory}

-- memory that runs out where both texts have been read
pub wants_memory : {R S : Type 0} (i : Inputs R S) (I : Problem) (proof : List ℕ) (e : VerifyError) → HasTexts i I proof → e ≡ OutOfMemory → HasNoTexts i e
wants_memory i I proof e texts is = inr (inr (record {
  is = is;
  kept = record { first_kept = texts.instance_read.read.kept; second_kept = texts.proof_read.kept };
  waits = inr (I, texts.rest, texts.instance_read);
}))
