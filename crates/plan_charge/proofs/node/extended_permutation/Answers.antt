use Rattle.std.proofs.Common.{◌≡◌, ◌∙◌, ◌+◌, ◌++◌, ◌∷◌, [], ap, arith, length, rules, subst, sym}
use Rattle.std.specs.List.{range_with_len}
use Rattle.qap_cost.specs.Bijection.{IsPerm}
use Rattle.plan_charge.proofs.Extensions.{extended-IsPerm}
use Rattle.plan_charge.proofs.Nodes.{extra_more}
use Rattle.plan_charge.proofs.node.extended_permutation.Goals as goal

pub loop-i-preserved : goal.loop-i-preserved
loop-i-preserved c =
    let p = c.args.permutation.now in
    let k = c.len-n.result + c.loop-i.i in
    let pushed : c.push.new.self.items ≡ c.loop-i.locations.items ++ k ∷ [] = search rules in
    extra_more (length p) c.loop-i.i p c.loop-i.locations.items c.push.new.self.items k c.loop-i.invariant (ap (λ n. n + c.loop-i.i) c.len-n.ensures.value) pushed

pub unwrap-requires : goal.unwrap-requires
unwrap-requires c =
    let p = c.args.permutation.now in
    let whole : c.loop-i.i ≡ c.args.count = omega (arith, c.loop-i-test.false) in
    let is = c.loop-i.invariant ∙ ap (λ i. p ++ range_with_len (length p) i) whole in
    let perm : IsPerm c.loop-i.locations.items = subst IsPerm (sym is) (extended-IsPerm c.args.count p c.len-n.ensures.permutation c.requires) in
    search rules
