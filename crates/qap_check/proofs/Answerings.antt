-- How the streams' refusals are those of the question that they answer.
use Rattle.std.specs.Prelude.{◌≡◌, ◌⊎◌, ℕ, List, Option, refl}
use Rattle.std.proofs.Common.{inl, inr, subst, sym}
use Rattle.qap_io.specs.Counting.{CountedDevice}
use Rattle.qap_io.specs.Writing.{BreaksOff}
use Rattle.qap_cert.specs.declared.acceptance.Verdict.{Verdict}
use Rattle.qap_check.specs.Answering.{HasNotAnswered}
use Rattle.qap_check.specs.Optimal.{Proves, answer_line}
use Rattle.qap_check.specs.Refusal.{HasNoTexts, IsNoProof, IsNoSolution}
use Rattle.qap_check.specs.Source.{ComeTo, Source}
use Rattle.qap_check.specs.Valuation.{AnswersSolution, lines_of, match_status}
use Rattle.qap_io.specs.declared.status.Status.TheVariants.{Done}
use Rattle.qap_check.specs.declared.command_line.Question.{Question}
use Rattle.qap_check.specs.declared.command_line.Question.TheVariants.{Optimal, Value}
use Rattle.qap_check.specs.declared.refusal.CheckError.{CheckError}
use Rattle.qap_check.specs.declared.refusal.CheckError.TheVariants.{Device}
use Rattle.qap_check.specs.declared.source.Separators.TheVariants.{Kept, PassedOver}
use Rattle.qap_check.specs.declared.valuation.Valuation.{Valuation}

-- where the stream of a solution's value has no answer, the question of a value has none, for the same reason
pub no_value : {R S W : Type 0} (s : Source R S) (q : Question) (contents : W → Option (List ℕ)) (old new : CountedDevice W) (e : CheckError) →
    q ≡ Value →
    ((HasNoTexts s e ⊎ ComeTo s Kept IsNoSolution e) × (new ≡ old))
    ⊎ ((e ≡ Device) × (v : Valuation) × ComeTo s Kept AnswersSolution v × BreaksOff contents old new (lines_of v)) →
    HasNotAnswered s q contents old new e
no_value s q contents old new e is h =
    let P : Question → Type 0 = λ q. HasNotAnswered s q contents old new e in
    subst P (sym is) (elim h as (λ _. P Value) [
      | inl none ↦ inl none
      | inr broken ↦ inr (broken.0, record { text = lines_of broken.1; status = match_status broken.1.found; comes = (broken.1, broken.2, refl, refl); broken = broken.3 })
    ])

-- the same for the stream of a certificate and the question of an optimum
pub no_optimum : {R S W : Type 0} (s : Source R S) (q : Question) (contents : W → Option (List ℕ)) (old new : CountedDevice W) (e : CheckError) →
    q ≡ Optimal →
    ((HasNoTexts s e ⊎ ComeTo s PassedOver IsNoProof e) × (new ≡ old))
    ⊎ ((e ≡ Device) × (v : Verdict) × ComeTo s PassedOver Proves v × BreaksOff contents old new (answer_line v)) →
    HasNotAnswered s q contents old new e
no_optimum s q contents old new e is h =
    let P : Question → Type 0 = λ q. HasNotAnswered s q contents old new e in
    subst P (sym is) (elim h as (λ _. P Optimal) [
      | inl none ↦ inl none
      | inr broken ↦ inr (broken.0, record { text = answer_line broken.1; status = Done; comes = (broken.1, broken.2, refl, refl); broken = broken.3 })
    ])
