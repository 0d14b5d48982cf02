use Rattle.std.proofs.Common.{◌≡◌, ◌+◌, ◌*◌, ◌<◌, ◌∙◌, ℤ, length, get_or, pos, subst, arith, rules, to_z, of_z}
use Rattle.std.specs.Int.{w128}
use Rattle.number_list.specs.Numbers.{numbers_in}
use Rattle.qap_search.specs.Node.NodeList.{IsNextOf}
use Rattle.qap_search.proofs.NodeLemmas.NodeLists.{HasPlaced-more, none_next, none_odd}
use Rattle.qap_search.proofs.node.node_list.read_into.Goals as goal

pub returns-then-count-ne0 : goal.returns-then-count-ne0
returns-then-count-ne0 c =
    let other = c.if-count-ne0.true in
    let count = c.len-count.ensures in
    none_odd c.args.n (numbers_in c.args.list.now) (λ m e. other (omega arith))

pub returns-then-not-branch : goal.returns-then-not-branch
returns-then-not-branch c =
    let list = numbers_in c.args.list.now in
    let t = c.loop-t.t in
    let less : 2 * t + 1 < length list = (let test = c.loop-t-test.true in let end = c.loop-t.auto.t-end in let count = c.len-count.ensures in omega arith) in
    let none = rw c.if-not-branch.true at c.in_ok-put_next.ensures in
    let f_is = c.at-facility.result in
    let k_is = c.at-location.result in
    let same_f : to_z w128 (of_z w128 f_is) ≡ f_is = search rules in
    let same_k : to_z w128 (of_z w128 k_is) ≡ k_is = search rules in
    none_next c.args.n list c.loop-t.node t c.loop-t.invariant less (λ f k free_f free_k is_f is_k. none f k free_f free_k (same_f ∙ c.at-facility.ensures ∙ is_f) (same_k ∙ c.at-location.ensures ∙ is_k))

pub loop-t-preserved : goal.loop-t-preserved
loop-t-preserved c =
    let list = numbers_in c.args.list.now in
    let t = c.loop-t.t in
    let less : 2 * t + 1 < length list = (let test = c.loop-t-test.true in let end = c.loop-t.auto.t-end in let count = c.len-count.ensures in omega arith) in
    let some = rw c.if-not-branch.false at c.in_ok-put_next.ensures in
    let f_is = c.at-facility.result in
    let k_is = c.at-location.result in
    let same_f : to_z w128 (of_z w128 f_is) ≡ f_is = search rules in
    let same_k : to_z w128 (of_z w128 k_is) ≡ k_is = search rules in
    HasPlaced-more c.args.n list c.loop-t.node c.put_next.new.node t c.loop-t.invariant less
    (subst (λ (z : ℤ). IsNextOf c.loop-t.node (get_or list (2 * t) (pos 0)) z c.put_next.new.node) (same_k ∙ c.at-location.ensures) (subst (λ (z : ℤ). IsNextOf c.loop-t.node z (to_z w128 (of_z w128 k_is)) c.put_next.new.node) (same_f ∙ c.at-facility.ensures) some))
