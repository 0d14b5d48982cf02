use Rattle.std.proofs.Common.{refl, sym, ◌∙◌, rules, inl, inr, ⊎_elim}
use Rattle.std.proofs.lemmas.Result.{err_from_is_err_and}
use Rattle.number_list.specs.NumberList.{numbers_held}
use Rattle.number_list.specs.Numbers.{numbers_in}
use Rattle.qap_search.specs.Certificate.Pieces.{decided_tuples}
use Rattle.qap_search.proofs.CertificateLemmas.MadeOf.{certificate_made, none_of_shape, none_of_size, none_of_tree, none_permuted}
use Rattle.qap_search.proofs.certificate.assembling.certificate_of.Goals as goal

pub returns-in_default : goal.returns-in_default
returns-in_default c =
    let best = c.args.pieces.best in
    let none = rw c.in_default.is at c.in_ok-perm.ensures in
    inr (refl, none_permuted c.args.n best.cost (numbers_held best.locations) (numbers_in c.numbers.result) (decided_tuples c.args.pieces.decided.items) c.numbers.ensures none)

pub returns-then-len-n : goal.returns-then-len-n
returns-then-len-n c =
    let best = c.args.pieces.best in
    let some = rw c.in-Some.is at c.in_ok-perm.ensures in
    let h = c.if-len-n.true in
    inr (
      refl,
      none_of_size c.args.n best.cost (numbers_held best.locations) (numbers_in c.numbers.result) (decided_tuples c.args.pieces.decided.items) c.in-Some.perm c.numbers.ensures some.1
          (λ e. h (c.len.ensures.value ∙ e)),
    )

pub returns-in_err-tree : goal.returns-in_err-tree
returns-in_err-tree c =
    let best = c.args.pieces.best in
    let p = err_from_is_err_and c.from_residual-in_err-tree.result c.from_residual-in_err-tree.ensures.1 in
    rw (p.1, p.2) (⊎_elim inl (λ fault. inr (
      fault.0,
      none_of_tree c.args.n best.cost (numbers_held best.locations) (decided_tuples c.args.pieces.decided.items) fault.1,
    ))
    (c.in_err-tree.ensures {u = tt}))

pub returns-in-Ok : goal.returns-in-Ok
returns-in-Ok c =
    let best = c.args.pieces.best in
    let some = rw c.in-Some.is at c.in_ok-perm.ensures in
    let h = c.in-Ok.ensures in
    certificate_made c.args.n best.cost _ (numbers_held best.locations) (numbers_in c.numbers.result) (decided_tuples c.args.pieces.decided.items) c.in-Some.perm _ c.in-Ok.certificate
    (search rules) c.numbers.ensures some.1 (sym c.len.ensures.value ∙ c.if-len-n.false) c.in_ok-tree.ensures h.0 h.1

pub returns : goal.returns
returns c =
    let best = c.args.pieces.best in
    let some = rw c.in-Some.is at c.in_ok-perm.ensures in
    let h = c.in-Err.ensures in
    inr (
      refl,
      none_of_shape c.args.n best.cost _ (numbers_held best.locations) (numbers_in c.numbers.result) (decided_tuples c.args.pieces.decided.items) c.in-Some.perm _ _
          c.requires.positive c.requires.small (search rules) c.numbers.ensures some.1 c.in_ok-tree.ensures h.0,
    )
