use Rattle.std.proofs.Common.{refl}
use Rattle.std.proofs.lemmas.Option.{IfSome_then}
use Rattle.qap_plan.specs.Proofs.{Is}
use Rattle.qap_plan.proofs.Proofs.{claims_over, makes_of, searched_below}
use Rattle.qap_plan.proofs.commands.part.solved.Goals as goal

pub returns : goal.returns
returns g c =
    let p = c.args.posed.now in
    let I = p.searched.instance in
    let found = c.in_ok-found.found in
    let told = c.with_proof-answer.ensures in
    let answer = c.with_proof-answer.result in
    record {
      searched = searched_below I p.node p.start found answer.planned told.permutation told.cost told.bound c.in_ok-found.ensures.searched;
      proof = IfSome_then answer.proof told.proof (λ a left.
          makes_of I (Is p.node) p.node found answer.planned a refl told.permutation told.cost
          (claims_over I p.node found.permutation found.cost found.bound found.proof c.in_ok-found.ensures.proof) left);
    }
