use Rattle.std.proofs.Common.{◌∙◌, refl, subst, sym}
use Rattle.qap_cost.specs.Placement.{Completes, Placement}
use Rattle.plan_search.proofs.proving.prove_by_rows.Goals as goal

pub returns-clause-searched : goal.returns-clause-searched
returns-clause-searched g c =
    let I = c.args.instance.now in
    let C = c.in_ok-found.found.proof in
    let found = c.in_ok-found.ensures.found in
    let told = c.in_ok-planned.ensures in
    rw (told.permutation, told.cost, told.bound) (record {
      permutes = record { bijection = found.shape.permutation.bijection; same_size = found.proves.same_size };
      costs = found.proves.cost;
      no_dearer = found.no_dearer;
      none_less = λ q completes.
          c.proof_law.ensures.bound I C c.instance_law.ensures found.shape found.proves q
          (record { bijection = completes.bijection; same_size = completes.same_size ∙ c.requires.root.size })
          (subst (λ (x : Placement). Completes x q) (sym found.root) completes);
      at_most = found.shape.bound.at_most;
    })

pub returns-clause-proof : goal.returns-clause-proof
returns-clause-proof g c =
    let found = c.in_ok-found.ensures.found in
    let told = c.in_ok-planned.ensures in
    rw (told.proof, told.permutation, told.cost, told.bound)
    (record { shape = found.shape; proves = found.proves; over = found.root; permutation = refl; cost = refl; bound = refl })
