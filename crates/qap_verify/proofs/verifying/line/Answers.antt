use Rattle.std.proofs.Common.{◌∙◌, ap₂, subst, arith}
use Rattle.std.specs.Int.{w128}
use Rattle.std.proofs.lemmas.Int.{to_z-of_z, fits_signed_from_abs}
use Rattle.std.proofs.lemmas.Result.{IfOk-weaker}
use Rattle.qap_proof.specs.Acceptance.{IsLimitedVerdict}
use Rattle.qap_proof.specs.declared.acceptance.Verdict.TheVariants.{Gap}
use Rattle.qap_text.specs.Gap.{gap_line}
use Rattle.qap_verify.proofs.verifying.line.Goals as goal

pub returns-in-Gap : goal.returns-in-Gap
returns-in-Gap c =
    let limited : IsLimitedVerdict (Gap c.in-Gap.bound c.in-Gap.cost) = subst IsLimitedVerdict c.in-Gap.is c.requires in
    let bound = to_z-of_z w128 c.in-Gap.bound (fits_signed_from_abs w128 c.in-Gap.bound (omega (arith, limited.0))) in
    let cost = to_z-of_z w128 c.in-Gap.cost (fits_signed_from_abs w128 c.in-Gap.cost (omega (arith, limited.1))) in
    rw c.in-Gap.is (IfOk-weaker c.gap_line.result _ _ (λ s e. e ∙ ap₂ gap_line bound cost) c.gap_line.ensures)
