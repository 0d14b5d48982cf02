use Rattle.number_list.specs.Numbers.{numbers_in}
use Rattle.qap_search.proofs.WorkerLemmas.BestSteps.{perm_of}
use Rattle.qap_search.proofs.worker.best_steps.perm_at.Goals as goal

pub returns : goal.returns
returns c =
    perm_of c.permutation_of.result c.args.id c.args.txn.now c.in-Some.tuple.now c.in-Some-best_fields.field-0-0 (numbers_in c.in-Some-best_fields.locations)
    c.in-Some.ensures c.in-Some-best_fields.ensures c.permutation_of.ensures
