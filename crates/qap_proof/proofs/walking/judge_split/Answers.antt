use Rattle.std.proofs.Common.{◌≡◌, rules, List, ℤ, sym, subst, ◌∙◌, ap}
use Rattle.std.proofs.lemmas.Bool.{false≢true}
use Rattle.qap_cost.specs.Instance.{Problem}
use Rattle.qap_cost.specs.Matrix.{DualsFit, IsMatrix}
use Rattle.gilmore_lawler.specs.ReducedMatrix.{IsReduced}
use Rattle.gilmore_lawler.proofs.Closing.{Fits-reduced}
use Rattle.qap_proof.proofs.Telling.{IsToldOfDuals-misfit}
use Rattle.qap_proof.specs.NodeLine.{kept_pair_of, may_pair_of, pair_of, split_of}
use Rattle.qap_proof.specs.Tree.{Pair}
use Rattle.gilmore_lawler.specs.Closing.{Fits}
use Rattle.qap_proof.proofs.walking.judge_split.Goals as goal

pub returns-then-not-fits-clause-told : goal.returns-then-not-fits-clause-told
returns-then-not-fits-clause-told c =
    let I = c.args.judge.now.instance.now in
    let x = c.args.node.now in
    let d = kept_pair_of c.in-Some.duals in
    let wide = c.in_ok-duals-in-Some.duals in
    let same : pair_of wide ≡ d = c.in_ok-duals-in-Some.ensures in
    let M = c.in_ok-matrix-in-Some.matrix in
    let square : IsMatrix M = subst IsMatrix c.matrix.view_is c.matrix.invariant in
    IsToldOfDuals-misfit I x (split_of c.args.split.now) c.args.line c.args.told d (search rules) (ap may_pair_of c.in-Some.is)
    (λ (h : Fits I x d.u d.v).
    let reduced = subst (λ (J : Problem). IsReduced J x M) c.requires.rows c.in_ok-matrix-in-Some.ensures.reduced in
    let fit = Fits-reduced I x M d.u d.v square reduced h in
    let fit_wide = subst (λ (p : Pair). DualsFit M p.u p.v) (sym same) fit in
    let lent = subst (λ (u : List ℤ). DualsFit M u c.deref-in-Some.result.now) (sym c.deref.ensures.value) (subst (λ (v : List ℤ). DualsFit M wide.u.items v) (sym c.deref-in-Some.ensures.value) fit_wide) in
    false≢true (sym c.if-not-fits.true ∙ c.fits.ensures.1 lent))
