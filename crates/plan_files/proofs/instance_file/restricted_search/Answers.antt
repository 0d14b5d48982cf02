use Rattle.std.proofs.Common.{subst, sym}
use Rattle.qap_cost.specs.Placement.{Completes}
use Rattle.plan_files.proofs.Restricted.{first-is, permutes-larger}
use Rattle.plan_files.proofs.instance_file.restricted_search.Goals as goal

pub returns-clause-start : goal.returns-clause-start
returns-clause-start c =
    let I = c.args.instance.now in
    let x = c.args.restriction.now.fixed.now in
    let charges = c.args.restriction.now.charges.now in
    let f = c.args.restriction.now.forbidden.now in
    let start = c.in_ok-start.start in
    let J = c.in_ok-larger.larger.instance in
    let y = c.in_ok-larger.larger.node in
    let first = c.in_ok-longer.longer in
    let r = c.in_ok-larger.ensures in
    let is = first-is I J x y charges f start first c.size-2.result c.size.result r c.size-2.ensures.value c.size.ensures.value c.in_ok-longer.ensures in
    permutes-larger I J x y charges f first r (subst (Completes y) (sym is) (c.restricted_law.ensures.longer I J x y charges f start r c.in_ok-start.ensures.allowed))
