use Rattle.std.proofs.Common.{◌∙◌, arith}
use Rattle.std.specs.Prelude.{true, false}
use Rattle.std.proofs.lemmas.List.{get_or_default}
use Rattle.qap_improve.proofs.Movings.{WalkKeeps-exchanged}
use Rattle.qap_improve.proofs.tabu.kick_once.Goals as goal

pub returns-then-may_move-s-clause-kept : goal.returns-then-may_move-s-clause-kept
returns-then-may_move-s-clause-kept g c =
    let r = c.in-Some.r in
    let s = c.in-Some.s in
    let moves = c.args.may_move.now in
    let order = c.in-Some.ensures.order in
    let second = c.in-Some.ensures.second in
    let count = c.requires.movable in
    let size = c.requires.size in
    λ start kept.
    c.keep_if_best.ensures.kept moves start
    (WalkKeeps-exchanged moves start c.args.walk.now c.make_exchange.new.walk r s c.make_exchange.ensures.here c.make_exchange.ensures.best
    (get_or_default moves r true false (omega (arith, order, second, count, size)) ∙ c.if-may_move-r.true)
    (get_or_default moves s true false (omega (arith, order, second, count, size)) ∙ c.if-may_move-s.true) kept)
