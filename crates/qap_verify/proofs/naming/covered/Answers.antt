use Rattle.std.proofs.Common.{inl, inr, refl, sym, subst}
use Rattle.std.proofs.lemmas.Result.{MatchResult-weaker, err_from_is_err_and}
use Rattle.qap_verify.specs.Naming.{IsReaderOf}
use Rattle.qap_verify.proofs.naming.covered.Goals as goal

pub returns-in_err-open : goal.returns-in_err-open
returns-in_err-open g c =
    let p = err_from_is_err_and c.from_residual.result c.from_residual.ensures.1 in
    rw (p.1, p.2) (inl ((c.in_err-open.ensures {u = tt}).refused, refl))

pub returns : goal.returns
returns g c =
    let reader = subst (IsReaderOf (g.D.Sources.holds c.args.sources.now) g.F.Read.remaining c.args.files.now.proof.now) (sym c.new-proof.ensures.inner) c.in_ok-open.ensures.reader in
    MatchResult-weaker c.joined.result c.joined.ensures
    (λ exit h. record { before = c.new-proof.result; after = c.joined.new.proof; reader = reader; run = h })
    (λ e h. inr (record { before = c.new-proof.result; after = c.joined.new.proof; reader = reader; run = h }))
