use Rattle.std.proofs.Common.{◌≡◌, ◌∙◌, ◌≤◌, ◌^◌, ℤ, List, sym, subst, arith, to_z, of_z}
use Rattle.std.specs.Prelude.{ℕ, length, unsigned_abs}
use Rattle.std.specs.Int.{w128}
use Rattle.qap_cost.specs.Objective.{cost_of}
use Rattle.qap_lines.proofs.Numerals.{reads_wide}
use Rattle.qap_cert.proofs.Walks.{map_result}
use Rattle.qap_cert.specs.Fault.{IsPermMisfit}
use Rattle.qap_cert.proofs.checking.judge_stated.Goals as goal

pub returns : goal.returns
returns c =
    let I = c.args.instance.now in
    let C = c.args.certificate.now in
    let cost = c.cost.result in
    let limited : unsigned_abs cost ≤ 10 ^ 24 = subst (λ (z : ℤ). unsigned_abs z ≤ 10 ^ 24) (sym c.cost.ensures.value) c.cost.ensures.certificate.cost in
    let same : to_z w128 (of_z w128 cost) ≡ C.cost = reads_wide cost (omega (arith, limited)) ∙ c.cost.ensures.value in
    map_result _ _ _ _ c.judge_perm.result
    (λ _ h. (
      subst (λ (p : List ℕ). length p ≡ I.size) c.perm.ensures.value h.0,
      subst (λ (p : List ℕ). cost_of I p ≡ C.cost) c.perm.ensures.value (h.1 ∙ same),
    ))
    (λ e h. subst (λ (p : List ℕ). IsPermMisfit I p C.cost e) c.perm.ensures.value (subst (λ (z : ℤ). IsPermMisfit I c.perm.result.now z e) same h))
    c.judge_perm.ensures
