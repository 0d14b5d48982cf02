use Rattle.std.proofs.Common.{rules, Ok}
use Rattle.space_txn.specs.World.{World, world_of}
use Rattle.space_txn.specs.Machine.{found, find_answer, inp_in}
use Rattle.space_txn.specs.Txn.{TxnValue, txn_of}
use Rattle.space_txn.specs.declared.txn.Found.TheVariants.{Entry as Stored}
use Rattle.space_txn.proofs.FindingLemmas.{taking_finds, taking_content, finds_shows, finds_shown}
use Rattle.space_txn.proofs.WorldLemmas.{step_world}
use Rattle.space_txn.proofs.world.TxnSpace.inp_in.Goals as goal

pub invariant_of-self-2 : goal.invariant_of-self-2
invariant_of-self-2 c =
    let old : World = world_of c.self.inside.space c.self.inside.live c.self.inside.begun c.self.inside.commits in
    let after : TxnValue = txn_of c.txn.inside.number c.put_mark_on.new.marks.items c.txn.inside.lists.value.writes in
    step_world old c.args.txn.now (inp_in c.args.template.now) (found (Stored c.id-id.result)) _ after (search rules) c.self.invariant

pub returns-in_default-clause-found : goal.returns-in_default-clause-found
returns-in_default-clause-found c =
    let old = c.args.self.now in
    finds_shown _ _ _ _ _ c.take_own.result (taking_finds old old c.args.txn.now _ c.args.template.now (find_answer (Ok c.take_own.result)) c.accept.ensures.valid (search rules))

pub returns-clause-found : goal.returns-clause-found
returns-clause-found c =
    let new : World = world_of c.put_mark_on.new.space c.self.inside.live c.self.inside.begun c.self.inside.commits in
    finds_shows _ _ _ _ _ _ (taking_finds c.args.self.now new c.args.txn.now _ c.args.template.now (found (Stored c.id-id.result)) c.accept.ensures.valid (search rules))

pub returns-clause-marks : goal.returns-clause-marks
returns-clause-marks c =
    let new : World = world_of c.put_mark_on.new.space c.self.inside.live c.self.inside.begun c.self.inside.commits in
    taking_finds c.args.self.now new c.args.txn.now _ c.args.template.now (found (Stored c.id-id.result)) c.accept.ensures.valid (search rules)

pub returns-clause-content : goal.returns-clause-content
returns-clause-content c =
    let new : World = world_of c.put_mark_on.new.space c.self.inside.live c.self.inside.begun c.self.inside.commits in
    let after : TxnValue = txn_of c.txn.inside.number c.put_mark_on.new.marks.items c.txn.inside.lists.value.writes in
    taking_content c.args.self.now new c.args.txn.now after c.args.template.now (found (Stored c.id-id.result)) (search rules)

pub invariant_of-self : goal.invariant_of-self
invariant_of-self c =
    let old : World = world_of c.self.inside.space c.self.inside.live c.self.inside.begun c.self.inside.commits in
    let after : TxnValue = txn_of c.txn.inside.number c.take_marked.new.marks.items c.txn.inside.lists.value.writes in
    step_world old c.args.txn.now (inp_in c.args.template.now) (found (Stored c.id-id.result)) _ after (search rules) c.self.invariant

pub returns-then-has_mark_on-clause-found : goal.returns-then-has_mark_on-clause-found
returns-then-has_mark_on-clause-found c =
    let new : World = world_of c.take_marked.new.space c.self.inside.live c.self.inside.begun c.self.inside.commits in
    finds_shows _ _ _ _ _ _ (taking_finds c.args.self.now new c.args.txn.now _ c.args.template.now (found (Stored c.id-id.result)) c.accept.ensures.valid (search rules))

pub returns-then-has_mark_on-clause-marks : goal.returns-then-has_mark_on-clause-marks
returns-then-has_mark_on-clause-marks c =
    let new : World = world_of c.take_marked.new.space c.self.inside.live c.self.inside.begun c.self.inside.commits in
    taking_finds c.args.self.now new c.args.txn.now _ c.args.template.now (found (Stored c.id-id.result)) c.accept.ensures.valid (search rules)

pub returns-then-has_mark_on-clause-content : goal.returns-then-has_mark_on-clause-content
returns-then-has_mark_on-clause-content c =
    let new : World = world_of c.take_marked.new.space c.self.inside.live c.self.inside.begun c.self.inside.commits in
    let after : TxnValue = txn_of c.txn.inside.number c.take_marked.new.marks.items c.txn.inside.lists.value.writes in
    taking_content c.args.self.now new c.args.txn.now after c.args.template.now (found (Stored c.id-id.result)) (search rules)
