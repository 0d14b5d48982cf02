use Rattle.std.proofs.Common.{◌≡◌, ◌∙◌, ◌+◌, arith, of_z, rules, subst, sym, to_z}
use Rattle.std.specs.Int.{w64}
use Rattle.plan_answer.specs.Pairs.{IsPairOf}
use Rattle.plan_answer.specs.declared.pairs.Pair.{Pair}
use Rattle.plan_answer.proofs.Kept.{AreDearestUpTo, all_seen, next_pair, next_row, none_seen}
use Rattle.plan_answer.proofs.pairs.dearest_pairs.Goals as goal

pub loop-from-init : goal.loop-from-init
loop-from-init c =
    let I = c.args.instance.now in
    let p = c.args.permutation.now in
    subst (AreDearestUpTo I p c.args.most 0 0) (sym c.new-pairs.ensures.items) (none_seen I p c.args.most)

pub loop-to-preserved : goal.loop-to-preserved
loop-to-preserved c =
    let cost : to_z w64 (of_z w64 c.pair_cost.result) ≡ c.pair_cost.result = search rules in
    let I = c.args.instance.now in
    let p = c.args.permutation.now in
    let x : Pair = record { from = c.loop-from.from; to = c.loop-to.to; cost = to_z w64 (of_z w64 c.pair_cost.result) } in
    let is_pair : IsPairOf I p x = record {
      from_inside = omega (arith, c.size-from-end.ensures.value);
      to_inside = omega (arith, c.size-to-end.ensures.value);
      costs = cost ∙ c.pair_cost.ensures;
    } in
    subst (AreDearestUpTo I p c.args.most c.loop-from.from (c.loop-to.to + 1)) (sym c.in_ok-put_pair.ensures) (next_pair I p c.args.most x _ is_pair c.loop-to.invariant)

pub loop-from-preserved : goal.loop-from-preserved
loop-from-preserved c =
    let I = c.args.instance.now in
    let p = c.args.permutation.now in
    let end : c.loop-to.to ≡ I.size = omega (arith, c.size-to-end.ensures.value) in
    next_row I p c.args.most c.loop-from.from c.loop-to.pairs.items (subst (λ n. AreDearestUpTo I p c.args.most c.loop-from.from n c.loop-to.pairs.items) end c.loop-to.invariant)

pub returns : goal.returns
returns c =
    let I = c.args.instance.now in
    let p = c.args.permutation.now in
    let end : c.loop-from.from ≡ I.size = omega (arith, c.size-from-end.ensures.value) in
    all_seen I p c.args.most c.loop-from.pairs.items (subst (λ n. AreDearestUpTo I p c.args.most n 0 c.loop-from.pairs.items) end c.loop-from.invariant)
