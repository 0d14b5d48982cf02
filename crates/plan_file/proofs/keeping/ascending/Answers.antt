use Rattle.std.proofs.Common.{◌≡◌, arith}
use Rattle.plan_file.proofs.Sortings.{same_completions}
use Rattle.plan_file.proofs.keeping.ascending.Goals as goal

pub returns-clause-same : goal.returns-clause-same
returns-clause-same c =
    let whole : c.loop-f.f ≡ c.args.node.now.size = omega (arith, c.size-f-end.ensures.value, c.loop-f-test.false) in
    λ p. same_completions c.args.node.now c.loop-f.sorted c.loop-f.f p c.size.ensures.placement whole c.loop-f.invariant
