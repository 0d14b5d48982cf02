use Rattle.std.proofs.Common.{sym, ◌∙◌, subst, arith}
use Rattle.std.specs.Int.{FitsUnsigned, w16, w128}
use Rattle.std.proofs.lemmas.Int.{ints, to_z-of_z}
use Rattle.qap_search.proofs.node.node_list.free_facility.Goals as goal

pub returns-in_default : goal.returns-in_default
returns-in_default c = λ f free e.
    let within = free.within in
    let small = c.size-size.ensures.placement.small in
    c.in_default.ensures {u = tt} (subst (FitsUnsigned w16) (sym (to_z-of_z w128 c.args.number c.ranges.number ∙ e)) (omega (arith, ints), omega (arith, ints)))
