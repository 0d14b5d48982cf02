use Rattle.std.proofs.Common.{◌≡◌, ◌∙◌, ap, of_z, rules, to_z}
use Rattle.std.specs.Int.{w128}
use Rattle.qap_proof.specs.Claim.{Claim}
use Rattle.qap_proof.proofs.refining.grafted.Goals as goal

pub returns-in-Ok : goal.returns-in-Ok
returns-in-Ok c =
    let is = c.in-Ok.ensures.0 in
    let cost : to_z w128 (of_z w128 c.part.inside.cost) ≡ c.part.inside.cost = search rules in
    let bound : to_z w128 (of_z w128 c.args.bound) ≡ c.args.bound = search rules in
    record {
      shape = c.in-Ok.ensures.1;
      root = ap (λ (C : Claim). C.root) is ∙ ap (λ (C : Claim). C.root) c.proof.view_is;
      permutation = ap (λ (C : Claim). C.permutation) is ∙ ap (λ (C : Claim). C.permutation) c.part.view_is;
      cost = ap (λ (C : Claim). C.cost) is ∙ cost ∙ ap (λ (C : Claim). C.cost) c.part.view_is;
      bound = ap (λ (C : Claim). C.bound) is ∙ bound;
    }
