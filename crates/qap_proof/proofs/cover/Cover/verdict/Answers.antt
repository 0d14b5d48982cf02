use Rattle.std.proofs.Common.{◌≡◌, ℤ, ◌∙◌, ap, subst, sym, to_z, of_z, arith}
use Rattle.std.specs.Int.{w128}
use Rattle.qap_cost.specs.Placement.{Placement}
use Rattle.qap_lines.proofs.Numerals.{reads_wide}
use Rattle.qap_proof.proofs.CoverLaws.{IsBoundFor-least, IsSoOf-verdict}
use Rattle.qap_proof.specs.Acceptance.{IsVerdictOf}
use Rattle.qap_lines.specs.Bound.{IsBoundFor}
use Rattle.qap_proof.specs.Claim.{claim_of}
use Rattle.qap_proof.specs.Cover.{CoverValue, IsCovering}
use Rattle.qap_proof.proofs.cover.Cover.verdict.Goals as goal

pub verdict_of-requires-clause-bound : goal.verdict_of-requires-clause-bound
verdict_of-requires-clause-bound c =
    let V = c.args.self.now in
    let h : IsCovering V = subst IsCovering c.self.view_is c.self.invariant in
    let g = c.bound.result in
    let b = IsBoundFor-least V g h c.bound.ensures in
    let cost_is : to_z w128 (of_z w128 c.self.inside.cost) ≡ c.self.inside.cost = reads_wide c.self.inside.cost (omega (arith, c.self.invariant.limited)) in
    let bound_is : to_z w128 (of_z w128 g) ≡ g = reads_wide g (omega (arith, b.limited)) in
    subst (λ (z : ℤ). IsBoundFor z (to_z w128 (of_z w128 g))) (sym (cost_is ∙ ap (λ (v : CoverValue). v.cost) c.self.view_is))
    (subst (λ (z : ℤ). IsBoundFor V.cost z) (sym bound_is) b)

pub returns-clause-verdict : goal.returns-clause-verdict
returns-clause-verdict c =
    let V = c.args.self.now in
    let h : IsCovering V = subst IsCovering c.self.view_is c.self.invariant in
    let g = c.bound.result in
    let b = IsBoundFor-least V g h c.bound.ensures in
    let v = c.verdict_of.result in
    let cost_is : to_z w128 (of_z w128 c.self.inside.cost) ≡ c.self.inside.cost = reads_wide c.self.inside.cost (omega (arith, c.self.invariant.limited)) in
    let bound_is : to_z w128 (of_z w128 g) ≡ g = reads_wide g (omega (arith, b.limited)) in
    let root_is = ap (λ (w : CoverValue). w.root) c.self.view_is in
    record {
      bound = g;
      least = c.bound.ensures;
      says = λ p t.
          subst (λ (x : Placement). IsVerdictOf (claim_of x V.cost g p t) v) root_is
          (subst (λ (z : ℤ). IsVerdictOf (claim_of c.self.inside.root z g p t) v) (cost_is ∙ ap (λ (w : CoverValue). w.cost) c.self.view_is)
          (subst (λ (z : ℤ). IsVerdictOf (claim_of c.self.inside.root (to_z w128 (of_z w128 c.self.inside.cost)) z p t) v) bound_is (c.verdict_of.ensures.says p t)));
    }

pub returns-clause-so : goal.returns-clause-so
returns-clause-so c =
    let V = c.args.self.now in
    IsSoOf-verdict V c.verdict_of.result (subst IsCovering c.self.view_is c.self.invariant) (returns-clause-verdict c)
