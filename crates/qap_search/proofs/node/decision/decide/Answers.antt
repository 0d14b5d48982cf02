use Rattle.std.proofs.Common.{◌≡◌, ◌≤ℤ◌, ◌<ℤ◌, ◌∷◌, [], ap, ap₂, ◌∙◌, arith}
use Rattle.std.proofs.lemmas.Int.{ints}
use Rattle.qap_search.specs.Tuples.Piece.{closed_tuple}
use Rattle.qap_search.proofs.NodeLemmas.Deciding.{decides_closed, decides_split}
use Rattle.qap_search.proofs.node.decision.decide.Goals as goal

pub returns-then-thought-best : goal.returns-then-thought-best
returns-then-thought-best c = λ I h.
    let x = c.args.node.now in
    let t = c.args.thought.now in
    let u : c.deref.result.now ≡ t.u.items = c.deref.ensures.value in
    let v : c.deref-then-thought-best.result.now ≡ t.v.items = c.deref-then-thought-best.ensures.value in
    let enough : c.args.best ≤ℤ t.value = omega (arith, ints, c.ranges.best, c.if-thought-best.true) in
    decides_closed I c.args.best x t _ h enough
    (c.in_ok-vec.ensures.items ∙ ap (λ tuple. tuple ∷ []) (c.in_ok-tuple.ensures ∙ ap₂ (closed_tuple x) u v))

pub returns : goal.returns
returns c = λ I h.
    let t = c.args.thought.now in
    let below : t.value <ℤ c.args.best = omega (arith, ints, c.ranges.best, c.if-thought-best.false) in
    decides_split I c.args.best c.args.node.now t c.in-Some.facility _ c.in_ok-split_tuples.ensures.placement (rw c.in-Some.is at h.branch) below c.in-Some.is
    c.in_ok-split_tuples.ensures.value
