-- The result of a run of the checker, for either request.
use Rattle.std.specs.Prelude.{◌≡◌, ℕ, ◌⊎◌, List, Option}
use Rattle.qap_io.specs.Counting.{CountedDevice}
use Rattle.qap_io.specs.Refusal.{refusal_line}
use Rattle.qap_io.specs.Status.{exit_code}
use Rattle.qap_io.specs.Writing.{BreaksOff, Sends}
use Rattle.qap_io.specs.declared.status.Status.{Status}
use Rattle.qap_io.specs.declared.status.Status.TheVariants.{Done}
use Rattle.qap_cert.specs.declared.acceptance.Verdict.{Verdict}
use Rattle.qap_check.specs.Optimal.{Proves, answer_line}
use Rattle.qap_check.specs.Refusal.{HasNoTexts, IsNoProof, IsNoSolution, refusal_of, status_of}
use Rattle.qap_check.specs.Source.{ComeTo, Source}
use Rattle.qap_check.specs.Valuation.{AnswersSolution, lines_of, match_status}
use Rattle.qap_check.specs.declared.command_line.Question.{Question}
use Rattle.qap_check.specs.declared.command_line.Question.TheVariants.{Optimal, Value}
use Rattle.qap_check.specs.declared.refusal.CheckError.{CheckError}
use Rattle.qap_check.specs.declared.refusal.CheckError.TheVariants.{Device}
use Rattle.qap_check.specs.declared.source.Separators.TheVariants.{Kept, PassedOver}
use Rattle.qap_check.specs.declared.valuation.Valuation.{Valuation}

-- the texts that the request concerns have this text as their answer, which ends with this status
abbrev pub ComesTo : {R S : Type 0} → Source R S → Question → List ℕ → Status → Type 0
ComesTo s Value text status = (v : Valuation) × ComeTo s Kept AnswersSolution v × (text ≡ lines_of v) × (status ≡ match_status v.found)
ComesTo s Optimal text status = (v : Verdict) × ComeTo s PassedOver Proves v × (text ≡ answer_line v) × (status ≡ Done)

-- the request has no answer, for this reason
abbrev pub ComesToNone : {R S : Type 0} → Source R S → Question → CheckError → Type 0
ComesToNone s Value e = HasNoTexts s e ⊎ ComeTo s Kept IsNoSolution e
ComesToNone s Optimal e = HasNoTexts s e ⊎ ComeTo s PassedOver IsNoProof e

-- the answer has been written
pub record HasAnswered {R S W : Type 0} (s : Source R S) (question : Question) (contents : W → Option (List ℕ)) (old new : CountedDevice W) (status : Status) : Type 0 where
  pub text : List ℕ
  pub comes : ComesTo s question text status
  pub sent : Sends contents old new text

-- the writer failed after a beginning of the answer
pub record HasBrokenOff {R S W : Type 0} (s : Source R S) (question : Question) (contents : W → Option (List ℕ)) (old new : CountedDevice W) : Type 0 where
  pub text : List ℕ
  pub status : Status
  pub comes : ComesTo s question text status
  pub broken : BreaksOff contents old new text

-- there is no answer, and nothing has been written; or the writer failed
abbrev pub HasNotAnswered : {R S W : Type 0} → Source R S → Question → (W → Option (List ℕ)) → CountedDevice W → CountedDevice W → CheckError → Type 0
HasNotAnswered s question contents old new e =
    (ComesToNone s question e × (new ≡ old)) ⊎ ((e ≡ Device) × HasBrokenOff s question contents old new)

-- the line of a refusal has been written, or the writer failed after a beginning of it
abbrev pub HasTold : {E : Type 0} → (E → Option (List ℕ)) → CountedDevice E → CountedDevice E → CheckError → Type 0
HasTold contents old new e = Sends contents old new (refusal_line (refusal_of e)) ⊎ BreaksOff contents old new (refusal_line (refusal_of e))

-- The run ended with this exit status: that of its answer, with no refusal reported, or that of the reason why there is
-- none, which was reported.
abbrev pub HasRun : {R S W E : Type 0} → Source R S → Question → (W → Option (List ℕ)) → CountedDevice W → CountedDevice W
    → (E → Option (List ℕ)) → CountedDevice E → CountedDevice E → ℕ → Type 0
HasRun s question contents old new told errors errors_after exit =
    ((status : Status) × HasAnswered s question contents old new status × (exit ≡ exit_code status) × (errors_after ≡ errors))
    ⊎ ((e : CheckError) × HasNotAnswered s question contents old new e × (exit ≡ status_of e) × HasTold told errors errors_after e)
