use Rattle.std.proofs.Common.{◌≡◌, ℕ, ℤ, List, inl, inr, subst, rules, ⊎_elim}
use Rattle.std.specs.Prelude.{Option, None}
use Rattle.std.proofs.lemmas.Result.{err_from_is_err_and}
use Rattle.qap_cost.specs.Instance.{Problem}
use Rattle.qap_cost.specs.Placement.{root_of}
use Rattle.qap_cert.proofs.Verdicts.{ShowsVerdict-judged, IsSo-shown}
use Rattle.qap_cert.specs.TextFault.{IsFaultFromTree}
use Rattle.qap_cert.specs.Valid.{Valid}
use Rattle.qap_cert.specs.Walk.{EndsBehindTree, IsToldOf}
use Rattle.qap_cert.specs.declared.error.CertError.{CertError}
use Rattle.qap_cert.specs.declared.version.Version.{Version}
use Rattle.qap_cert.proofs.acceptance.accept.Goals as goal

pub returns-in_err-skim_to_end-clause-verdict : goal.returns-in_err-skim_to_end-clause-verdict
returns-in_err-skim_to_end-clause-verdict c =
    let head = c.in_ok-head.ensures in
    let p = err_from_is_err_and c.from_residual-in_err-skim_to_end.result c.from_residual-in_err-skim_to_end.ensures.1 in
    rw (p.1, p.2) (⊎_elim inl (λ fault. inr (inl (head.0.fault c.in_err-skim_to_end.field-0.0
    (subst (λ (n : ℕ). IsFaultFromTree c.in_ok-head.head.grammar.version n c.in_ok-head.head.line c.in_ok-head.head.rest.now c.in_err-skim_to_end.field-0.0) head.1 fault))))
    (c.in_err-skim_to_end.ensures {u = tt}))

pub returns-in_err-judge_to_end-clause-verdict : goal.returns-in_err-judge_to_end-clause-verdict
returns-in_err-judge_to_end-clause-verdict c =
    let head = c.in_ok-head.ensures in
    let p = err_from_is_err_and c.from_residual-in_err-judge_to_end.result c.from_residual-in_err-judge_to_end.ensures.1 in
    rw (p.1, p.2) (⊎_elim inl (λ fault. inr (inl (head.0.fault c.in_err-judge_to_end.field-0.0
    (subst (λ (n : ℕ). IsFaultFromTree c.in_ok-head.head.grammar.version n c.in_ok-head.head.line c.in_ok-head.head.rest.now c.in_err-judge_to_end.field-0.0) head.1 fault))))
    (c.in_err-judge_to_end.ensures {u = tt}).judged)

told_none : (I : Problem) (text : List ℕ) (v : Version) (n : ℕ) (g : ℤ) (line : ℕ) (o : Option CertError) → o ≡ None → EndsBehindTree v n text (IsToldOf I g (root_of I.size) line o) → EndsBehindTree v n text (Valid I g (root_of I.size))
told_none I text v n g line o is h = subst (λ (p : Option CertError). EndsBehindTree v n text (IsToldOf I g (root_of I.size) line p)) is h

pub returns-in-None-clause-verdict : goal.returns-in-None-clause-verdict
returns-in-None-clause-verdict c =
    let I = c.args.instance.now in
    let head = c.in_ok-head.head in
    let has = c.in_ok-head.ensures in
    let told = told_none I head.rest.now head.grammar.version head.grammar.size head.bound head.line c.in_ok-judge_to_end.field-0 c.in-None.is c.in_ok-judge_to_end.ensures.judged in
    ShowsVerdict-judged I c.args.text.now head.grammar.version head.cost head.bound head.perm head.line head.rest.now c.verdict_of.result has.0 (search rules) (search rules)
    (subst (λ (n : ℕ). EndsBehindTree head.grammar.version n head.rest.now (Valid I head.bound (root_of I.size))) has.1 told) c.verdict_of.ensures.says

pub returns-in-None-clause-so : goal.returns-in-None-clause-so
returns-in-None-clause-so c =
    IsSo-shown c.args.instance.now c.args.text.now c.verdict_of.result c.in_ok-judge_to_end.ensures.instance (returns-in-None-clause-verdict c)
