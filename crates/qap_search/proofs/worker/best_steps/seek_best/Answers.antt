use Rattle.std.proofs.Common.{◌≡◌, Some, false, sym, true}
use Rattle.space_txn.specs.Machine.{find_answer}
use Rattle.qap_search.specs.Worker.Hand.{is_hopeful, thought_of}
use Rattle.qap_search.proofs.WorkerLemmas.BestSteps.{found_best}
use Rattle.qap_search.proofs.worker.best_steps.seek_best.Goals as goal

pub returns-then-is_hopeful-clause-turn : goal.returns-then-is_hopeful-clause-turn
returns-then-is_hopeful-clause-turn g c = λ I lease instance law thought prepared node.
    let hopeful : is_hopeful c.args.tally.best (Some (thought_of c.args.last.now)) ≡ true = sym c.if-is_hopeful.ensures in
    let there = found_best I g.L.Law.lawful g.L.Law.allowed true c.args.last.now.node c.args.txn c.inp_in-found.new.txn (find_answer c.inp_in-found.result) c.does_match_law.ensures instance law node (rw c.requires.template at c.inp_in-found.ensures.marks) in
    rw hopeful (find_answer c.inp_in-found.result, c.inp_in-found.new.txn, rw c.requires.template at c.inp_in-found.ensures.did, c.told_best.ensures.turn I lease c.args.txn thought prepared there)

pub returns-then-is_hopeful-clause-stage : goal.returns-then-is_hopeful-clause-stage
returns-then-is_hopeful-clause-stage g c = λ I instance law thought prepared node.
    c.told_best.ensures.stage I thought prepared (found_best I g.L.Law.lawful g.L.Law.allowed true c.args.last.now.node c.args.txn c.inp_in-found.new.txn (find_answer c.inp_in-found.result) c.does_match_law.ensures instance law node (rw c.requires.template at c.inp_in-found.ensures.marks))

pub returns-else-is_hopeful-clause-turn : goal.returns-else-is_hopeful-clause-turn
returns-else-is_hopeful-clause-turn g c = λ I lease instance law thought prepared node.
    let hopeful : is_hopeful c.args.tally.best (Some (thought_of c.args.last.now)) ≡ false = sym c.if-is_hopeful.ensures in
    let there = found_best I g.L.Law.lawful g.L.Law.allowed false c.args.last.now.node c.args.txn c.rdp_in-found.new.txn (find_answer c.rdp_in-found.result) c.does_match_law.ensures instance law node (rw c.requires.template at c.rdp_in-found.ensures.marks) in
    rw hopeful (find_answer c.rdp_in-found.result, c.rdp_in-found.new.txn, rw c.requires.template at c.rdp_in-found.ensures.did, c.told_best-else-is_hopeful.ensures.turn I lease c.args.txn thought prepared there)

pub returns-else-is_hopeful-clause-stage : goal.returns-else-is_hopeful-clause-stage
returns-else-is_hopeful-clause-stage g c = λ I instance law thought prepared node.
    c.told_best-else-is_hopeful.ensures.stage I thought prepared (found_best I g.L.Law.lawful g.L.Law.allowed false c.args.last.now.node c.args.txn c.rdp_in-found.new.txn (find_answer c.rdp_in-found.result) c.does_match_law.ensures instance law node (rw c.requires.template at c.rdp_in-found.ensures.marks))
