use Rattle.std.proofs.Common.{◌≡◌, to_z, of_z, rules, subst, sym}
use Rattle.std.specs.Int.{w128}
use Rattle.qap_search.specs.Worker.Hand.{hand_of, last_of}
use Rattle.qap_search.specs.Worker.Standing.{IsAtWork}
use Rattle.qap_search.specs.Worker.Turn.{Turn}
use Rattle.qap_search.specs.declared.worker.stage.Stage.{Stage}
use Rattle.qap_search.proofs.worker.turn.turn.Goals as goal

pub returns-in-Idle-clause-stage : goal.returns-in-Idle-clause-stage
returns-in-Idle-clause-stage g c = λ I h. c.begin.ensures.stage I (last_of c.args.last.now)

pub returns-in-Begun-clause-stage : goal.returns-in-Begun-clause-stage
returns-in-Begun-clause-stage g c = λ I h. c.take_node.ensures.stage I (last_of c.args.last.now) h.hand.instance h.law

pub returns-in-Considered-clause-turn : goal.returns-in-Considered-clause-turn
returns-in-Considered-clause-turn g c = λ I h.
    let P : Stage → Type 0 = λ s. Turn g.M.Room.did (hand_of I c.args.tools.now.lease_ms (last_of c.args.last.now) s c.args.standing.tally) c.args.room.now c.find_best.result.told (hand_of I c.args.tools.now.lease_ms (last_of c.args.last.now) c.find_best.result.stage c.find_best.result.tally) c.find_best.new.room in
    subst P (sym c.in-Considered.is) (c.find_best.ensures.turn I (subst (IsAtWork I g.L.Law.lawful g.L.Law.allowed c.args.tools.now c.args.last.now c.args.prepared.now) c.in-Considered.is h))

pub returns-in-Ready-clause-turn : goal.returns-in-Ready-clause-turn
returns-in-Ready-clause-turn g c = λ I h.
    let same : to_z w128 (of_z w128 c.in-Ready.cost) ≡ c.in-Ready.cost = search rules in
    rw c.in-Ready.is (rw same at (c.commit.ensures.turn I c.args.tools.now.lease_ms (last_of c.args.last.now)))

pub returns-in-Ready-clause-stage : goal.returns-in-Ready-clause-stage
returns-in-Ready-clause-stage g c = λ I h.
    let hand = rw c.in-Ready.is at h.hand in
    c.commit.ensures.stage I (last_of c.args.last.now) hand.stage_is

pub returns-in-GivingUp-clause-stage : goal.returns-in-GivingUp-clause-stage
returns-in-GivingUp-clause-stage g c = λ I h. c.abort.ensures.stage I (last_of c.args.last.now)
