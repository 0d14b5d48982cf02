use Rattle.std.proofs.Common.{[], refl, inl, inr, ⊎_elim, arith}
use Rattle.std.proofs.lemmas.List.{length-reverse}
use Rattle.std.proofs.lemmas.Result.{err_from_is_err_and}
use Rattle.qap_search.proofs.CertificateLemmas.Finishing.{in_front, no_items, none_counted, none_left, some_counted, some_left}
use Rattle.qap_search.proofs.certificate.assembling.tree_of.Goals as goal

pub returns-in_err-tree : goal.returns-in_err-tree
returns-in_err-tree c =
    let old = c.args.nodes.items in
    let new = c.put_in_order.new.nodes.items in
    let p = err_from_is_err_and c.from_residual.result c.from_residual.ensures.1 in
    rw (p.1, p.2) (⊎_elim inl (λ fault. inr (
      fault.0,
      λ s a. fault.1 s [] (in_front c.args.n old new s c.requires.positive c.requires.small c.put_in_order.ensures.moved c.put_in_order.ensures.ordered a),
    ))
    (c.in_err-tree.ensures {u = tt}))

pub returns-then-is_empty : goal.returns-then-is_empty
returns-then-is_empty c =
    none_left c.args.n c.args.nodes.items c.put_in_order.new.nodes.items c.take_tree.new.nodes.items _ c.put_in_order.ensures.moved c.in_ok-tree.ensures
    (no_items c.take_tree.new.nodes.items
    (let none = none_counted _ c.is_empty.result c.is_empty.ensures c.if-is_empty.true in let long = c.take_tree.new.nodes.ok.0 in omega arith))

pub returns : goal.returns
returns c = inr (
  refl,
  some_left c.args.n c.args.nodes.items c.put_in_order.new.nodes.items c.take_tree.new.nodes.items _ c.requires.positive c.requires.small
      c.put_in_order.ensures.moved c.put_in_order.ensures.ordered c.in_ok-tree.ensures
      (let some = some_counted _ c.is_empty.result c.is_empty.ensures c.if-is_empty.false in
      let long = c.take_tree.new.nodes.ok.0 in
      let turned = length-reverse c.take_tree.new.nodes.items in
      omega arith),
)
