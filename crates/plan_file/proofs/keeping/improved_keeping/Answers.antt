use Rattle.std.proofs.Common.{subst, sym}
use Rattle.plan_file.specs.Freeing.{IsFixedBelow}
use Rattle.plan_file.proofs.Freeings.{completes_still}
use Rattle.plan_file.proofs.keeping.improved_keeping.Goals as goal

pub returns-clause-completes : goal.returns-clause-completes
returns-clause-completes g c =
    let x = c.args.node.now in
    let free = c.deref.result.now in
    let found = c.in_ok-found.ensures in
    let fixed = subst (IsFixedBelow x x.size) (sym c.deref.ensures.value) c.in_ok-free.ensures.fixed in
    completes_still c.args.instance.now x free c.args.start.now c.in_ok-found.found.permutation c.in_ok-free.ensures.placement c.requires.size fixed c.requires.start found.permutation found.kept
