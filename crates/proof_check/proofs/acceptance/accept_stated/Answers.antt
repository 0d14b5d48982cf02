use Rattle.std.proofs.Common.{List, ℕ, subst}
use Rattle.std.specs.Prelude.{IfErr, Option}
use Rattle.proof_check.specs.Fault.{RefusesPairs}
use Rattle.proof_check.proofs.Accepting.{read_copied, refused_pairs}
use Rattle.proof_check.proofs.acceptance.accept_stated.Goals as goal

pub returns-clause-stated : goal.returns-clause-stated
returns-clause-stated g c = read_copied c.args.instance.now _ _ (g.R.Read.remaining c.args.reader.now) (λ s. s.bound) c.check.result c.new-reader.ensures.left c.check.ensures.leaves

pub returns-clause-refused : goal.returns-clause-refused
returns-clause-refused g c =
    let I = c.args.instance.now in
    let known = g.R.Read.remaining c.args.reader.now in
    refused_pairs I known c.check.result (subst (λ (o : Option (List ℕ)). IfErr c.check.result (RefusesPairs I o)) c.new-reader.ensures.left c.check.ensures.fault)

pub returns-clause-fault : goal.returns-clause-fault
returns-clause-fault g c = subst (λ (o : Option (List ℕ)). IfErr c.check.result (RefusesPairs c.args.instance.now o)) c.new-reader.ensures.left c.check.ensures.fault
