-- The result of a run: the line of what the proof establishes, or why it establishes nothing.
use Rattle.std.specs.Prelude.{◌≡◌, ℕ, ◌⊎◌, List, ◌++◌, Option, Some, None, ℤ, Bool, true, false, int_le, if◌then◌else◌, codes}
use Rattle.std.specs.Fmt.{signed_decimal}
use Rattle.qap_cost.specs.Instance.{Problem}
use Rattle.qap_io.specs.Counting.{CountedDevice}
use Rattle.qap_io.specs.Refusal.{refusal_line}
use Rattle.qap_io.specs.Writing.{BreaksOff, Sends}
use Rattle.qap_proof.specs.declared.acceptance.Verdict.{Verdict}
use Rattle.qap_proof.specs.declared.acceptance.Verdict.TheVariants.{Optimal, Gap, Part}
use Rattle.proof_versions.specs.Versions.{EitherIsSo, EitherShows}
use Rattle.qap_text.specs.Gap.{gap_line}
use Rattle.qap_verify.specs.Refusal.{HasNoTexts, IsNoProof, refusal_of, status_of}
use Rattle.qap_verify.specs.Texts.{Inputs, Yields}
use Rattle.qap_verify.specs.declared.refusal.VerifyError.{VerifyError}
use Rattle.qap_verify.specs.declared.refusal.VerifyError.TheVariants.{Device}

-- the text, in either version, establishes the verdict, which is true
abbrev pub Proves : Problem → List ℕ → Verdict → Type 0
Proves I text v = EitherShows I text v × EitherIsSo I text v

-- the line of a least cost, of a bound and the cost above it, or of the bound of a part
abbrev pub answer_line : Verdict → List ℕ
answer_line (Optimal c) = codes "optimal " ++ signed_decimal c ++ codes "\n"
answer_line (Gap g c) = gap_line g c
answer_line (Part g) = codes "part " ++ signed_decimal g ++ codes "\n"

-- no permutation, or none that completes the root, costs less than this
abbrev pub shown_by : Verdict → ℤ
shown_by (Optimal c) = c
shown_by (Gap g c) = g
shown_by (Part g) = g

-- whether a verdict is what was wanted: at least this bound; without one, a least cost
abbrev pub suffices : Option ℤ → Verdict → Bool
suffices (Some wanted) v = int_le wanted (shown_by v)
suffices None (Optimal c) = true
suffices None _ = false

-- the exit status of a verdict: 0 if it suffices, else 5
abbrev pub verdict_status : Option ℤ → Verdict → ℕ
verdict_status wanted v = if suffices wanted v then 0 else 5

-- the proof establishes the verdict, and the line of it has been written
abbrev pub HasAnswered : {R S W : Type 0} → Inputs R S → (W → Option (List ℕ)) → CountedDevice W → CountedDevice W → Verdict → Type 0
HasAnswered i contents old new v = Yields i Proves v × Sends contents old new (answer_line v)

-- it establishes nothing, and nothing has been written; or the writer failed after a prefix of the line
abbrev pub HasNotAnswered : {R S W : Type 0} → Inputs R S → (W → Option (List ℕ)) → CountedDevice W → CountedDevice W → VerifyError → Type 0
HasNotAnswered i contents old new e =
    ((HasNoTexts i e ⊎ Yields i IsNoProof e) × (new ≡ old))
    ⊎ ((e ≡ Device) × (v : Verdict) × Yields i Proves v × BreaksOff contents old new (answer_line v))

-- the line of a refusal has been written, or the writer failed after a prefix of it
abbrev pub HasTold : {E : Type 0} → (E → Option (List ℕ)) → CountedDevice E → CountedDevice E → VerifyError → Type 0
HasTold contents old new e = Sends contents old new (refusal_line (refusal_of e)) ⊎ BreaksOff contents old new (refusal_line (refusal_of e))

-- the run ended with this exit status: that of its verdict if it answered, with no refusal reported; or that of the reason
-- why it did not, which was reported
abbrev pub HasRun : {R S W E : Type 0} → Inputs R S → Option ℤ → (W → Option (List ℕ)) → CountedDevice W → CountedDevice W
    → (E → Option (List ℕ)) → CountedDevice E → CountedDevice E → ℕ → Type 0
HasRun i wanted contents old new told errors errors_after exit =
    ((v : Verdict) × HasAnswered i contents old new v × (exit ≡ verdict_status wanted v) × (errors_after ≡ errors))
    ⊎ ((e : VerifyError) × HasNotAnswered i contents old new e × (exit ≡ status_of e) × HasTold told errors errors_after e)
