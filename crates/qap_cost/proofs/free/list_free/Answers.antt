use Rattle.std.proofs.Common.{◌≡◌, [], ◌∷◌, ◌++◌, false, get_or, arith, ap, sym, ◌∙◌}
use Rattle.std.specs.Prelude.{nat_eq}
use Rattle.std.specs.List.{list_any}
use Rattle.std.proofs.lemmas.Bool.{not_from_true, not_from_false}
use Rattle.qap_cost.specs.Placement.{is_untaken}
use Rattle.qap_cost.proofs.Picks.{filter-range_take, filter-range_skip}
use Rattle.qap_cost.proofs.Placements.{ListsFree-free_below, AreDifferent-length}
use Rattle.qap_cost.proofs.free.list_free.Goals as goal
use Rattle.qap_cost.proofs.free.list_free.Goals.{then-not-is_taken-k+in_ok-push, else-not-is_taken-k}

pub loop-k-preserved : goal.loop-k-preserved
loop-k-preserved c =
    let k = c.loop-k.k in
    let tells : get_or c.marked-is_taken.result k false ≡ list_any (nat_eq k) c.args.taken.now =
    c.marked-is_taken.ensures k (omega (arith, c.requires.small)) in
    elim c.if-not-is_taken-k.branch [
      | then-not-is_taken-k+in_ok-push w ↦
          rw w.free-is
          (w.in_ok-push.ensures.items
          ∙ ap (λ xs. xs ++ k ∷ []) c.loop-k.invariant
          ∙ sym (filter-range_take (is_untaken c.args.taken.now) k
          (not_from_false (list_any (nat_eq k) c.args.taken.now) (sym tells ∙ w.if-not-is_taken-k.true))))
      | else-not-is_taken-k w ↦
          rw w.free-is
          (c.loop-k.invariant
          ∙ sym (filter-range_skip (is_untaken c.args.taken.now) k
          (not_from_true (list_any (nat_eq k) c.args.taken.now) (sym tells ∙ w.if-not-is_taken-k.false))))
    ]

pub overflow_sub-n : goal.overflow_sub-n
overflow_sub-n c = AreDifferent-length c.args.n c.args.taken.now c.requires.different

pub returns-clause-free : goal.returns-clause-free
returns-clause-free c =
    let end : c.loop-k.k ≡ c.args.n = omega (arith, c.loop-k.auto.k-end) in
    rw (c.loop-k.invariant, end) (ListsFree-free_below c.args.n c.args.taken.now c.requires.different)
