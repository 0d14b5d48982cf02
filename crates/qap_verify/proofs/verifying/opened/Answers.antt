use Rattle.std.proofs.Common.{◌∙◌, ℕ, List, inl, inr, refl, rules, subst}
use Rattle.std.specs.Prelude.{Option}
use Rattle.std.proofs.lemmas.Result.{err_from_is_err_and}
use Rattle.qap_proof.specs.declared.error.ProofError.TheVariants.{OutOfMemory as ProofMemory}
use Rattle.proof_versions.specs.Streams.{StreamRefuses}
use Rattle.qap_verify.proofs.verifying.opened.Goals as goal

pub returns-in_default : goal.returns-in_default
returns-in_default g c = (ProofMemory, refl, λ text known. inr (inr (inl refl)))

pub returns-in_err-open_cover_stream : goal.returns-in_err-open_cover_stream
returns-in_err-open_cover_stream g c =
    let p = err_from_is_err_and c.from_residual.result c.from_residual.ensures.1 in
    let fault = c.in_err-open_cover_stream.field-0.0 in
    let refused = subst (λ (k : Option (List ℕ)). StreamRefuses c.args.instance.now k fault)
    (c.chain-text.ensures.bytes ∙ search rules) (c.in_err-open_cover_stream.ensures {u = tt}).refused in
    rw p.1 (fault, p.2, refused)
