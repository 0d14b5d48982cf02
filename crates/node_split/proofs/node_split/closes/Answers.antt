use Rattle.std.proofs.Common.{arith}
use Rattle.std.proofs.lemmas.Int.{ints}
use Rattle.node_split.proofs.Bounds.{IsClosed-few, IsClosed-value}
use Rattle.node_split.proofs.node_split.closes.Goals.{then-size-le1-via-then-size-le1, then-size-le1-via-else-size-le1+then-here-cost}
use Rattle.node_split.proofs.node_split.closes.Goals as goal

pub returns-then-size-le1-clause-closed : goal.returns-then-size-le1-clause-closed
returns-then-size-le1-clause-closed c = λ _.
    let I = c.args.parent.now.instance.now in
    let x = c.args.parent.now.node.now in
    let e = c.args.here.now in
    let parent = c.requires.parent in
    let evaluated = c.requires.evaluated in
    elim c.then-size-le1.branch [
      | then-size-le1-via-then-size-le1 w ↦
          let few = w.if-size-le1.true in
          IsClosed-few I x c.in_ok-candidate.candidate c.offer.new.self.cost parent.placement (omega (arith, few, c.size.ensures.value, evaluated.reduced.size)) c.in_ok-candidate.ensures.completes c.offer.ensures.offered
      | then-size-le1-via-else-size-le1+then-here-cost w ↦
          let most = w.if-here-cost.true in
          let cost = w.cost.ensures.value in
          IsClosed-value I x e c.offer.new.self.cost parent.placement parent.size evaluated (omega (arith, ints, most, cost))
    ]
