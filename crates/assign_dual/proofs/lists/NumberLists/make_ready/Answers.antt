use Rattle.std.proofs.Common.{◌*◌, ◌∙◌, ap, map, replicate}
use Rattle.assign_dual.proofs.Values.{map-replicate}
use Rattle.assign_dual.proofs.lists.NumberLists.make_ready.Goals as goal

pub returns-clause-zeros : goal.returns-clause-zeros
returns-clause-zeros g c =
    let value = g.N.Number.value in
    let n = 4 * c.args.columns in
    ap (map value) c.in_ok-refill.ensures.items ∙ map-replicate value n c.narrow-zero.result ∙ ap (replicate n) c.narrow-zero.ensures
