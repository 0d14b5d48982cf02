use Rattle.std.proofs.Common.{◌≡◌, ◌≢◌, ◌≤◌, ◌⊎◌, length, get_or, pos, ap, ap₂, sym, ◌∙◌, rules, arith, to_z, of_z}
use Rattle.std.specs.Int.{w128}
use Rattle.std.specs.Bool.{◌==◌}
use Rattle.std.specs.Prelude.{not}
use Rattle.std.specs.Ordering.{int_cmp, nat_cmp, ordering_index}
use Rattle.std.specs.declared.cmp.Ordering.{Ordering}
use Rattle.std.specs.declared.cmp.Ordering.TheVariants.{Equal}
use Rattle.std.proofs.lemmas.Bool.{false≢true}
use Rattle.number_list.specs.Numbers.{numbers_in}
use Rattle.number_list.proofs.Orders.{differ_at, none_differ}
use Rattle.number_list.proofs.numbers.compare_each.Goals as goal

pub returns-then-ne : goal.returns-then-ne
returns-then-ne c =
    let xs = numbers_in c.args.numbers.now in
    let ys = numbers_in c.args.other.now in
    let k = c.loop-place.place in
    let first : to_z w128 (of_z w128 c.at.result) ≡ get_or xs k (pos 0) = search rules in
    let second : to_z w128 (of_z w128 c.at-in-loop-place.result) ≡ get_or ys k (pos 0) = search rules in
    let other : c.cmp-order.result ≢ Equal =
    λ e. false≢true (sym (c.ne.ensures ∙ ap (λ (o : Ordering). not (ordering_index o == 1)) e) ∙ c.if-ne.true) in
    differ_at k xs ys c.cmp-order.result c.loop-place.invariant (search rules) (search rules) (c.cmp-order.ensures ∙ ap₂ int_cmp first second) other

pub returns : goal.returns
returns c =
    let xs = numbers_in c.args.numbers.now in
    let ys = numbers_in c.args.other.now in
    let k = c.loop-place.place in
    let left : k ≤ length xs = search rules in
    let right : k ≤ length ys = search rules in
    let all : (length xs ≤ k) ⊎ (length ys ≤ k) = grind (arith, c.loop-place-test.false, c.min-place-end.ensures, c.len.ensures, c.len-2.ensures) in
    c.cmp.ensures ∙ ap₂ nat_cmp c.len-3.ensures c.len-4.ensures ∙ none_differ k xs ys c.loop-place.invariant left right all
