use Rattle.std.proofs.Common.{◌≡◌, ◌∙◌, ap, ap₂, w64, to_z, of_z, ◌≤◌}
use Rattle.std.specs.Prelude.{ℤ, ◌+ℤ◌, ◌-ℤ◌, unsigned_abs}
use Rattle.qap_cost.specs.Objective.{cost_of}
use Rattle.qap_improve.proofs.Exchanges.{cost_of-exchanging}
use Rattle.qap_improve.proofs.Readings.{Reads, fits_all, fits_second, reads_all, reads_term}
use Rattle.qap_improve.proofs.pair.difference_at.Goals as goal

-- a term made wider is no greater
term_small : (z x : ℤ) → z ≡ to_z w64 (of_z w64 x) → unsigned_abs x ≤ 8000000000000000000 → unsigned_abs z ≤ 8000000000000000000
term_small z x is h = rw (reads_term z x is h) h

wide : (c : goal.After-from-3) → Reads c.changes_with_all-with_all.result c.from.result c.from-2.result c.from-3.result
wide c =
    reads_all c.changes_with_all-with_all.result c.from.result c.from-2.result c.from-3.result
    c.changes_with_all-with_all.ensures.bounded
    (term_small c.from.result c.change-with_first.result c.from.ensures c.change-with_first.ensures.bounded)
    (term_small c.from-2.result c.change-with_second.result c.from-2.ensures c.change-with_second.ensures.bounded)
    (term_small c.from-3.result c.change_among-between.result c.from-3.ensures c.change_among-between.ensures.bounded)

pub overflow_sub-result-2 : goal.overflow_sub-result-2
overflow_sub-result-2 c =
    fits_second c.changes_with_all-with_all.result c.from.result c.from-2.result
    c.changes_with_all-with_all.ensures.bounded
    (term_small c.from.result c.change-with_first.result c.from.ensures c.change-with_first.ensures.bounded)
    (term_small c.from-2.result c.change-with_second.result c.from-2.ensures c.change-with_second.ensures.bounded)

pub overflow_add-result : goal.overflow_add-result
overflow_add-result c =
    fits_all c.changes_with_all-with_all.result c.from.result c.from-2.result c.from-3.result
    c.changes_with_all-with_all.ensures.bounded
    (term_small c.from.result c.change-with_first.result c.from.ensures c.change-with_first.ensures.bounded)
    (term_small c.from-2.result c.change-with_second.result c.from-2.ensures c.change-with_second.ensures.bounded)
    (term_small c.from-3.result c.change_among-between.result c.from-3.ensures c.change_among-between.ensures.bounded)

pub returns-clause-value : goal.returns-clause-value
returns-clause-value c =
    let first = reads_term c.from.result c.change-with_first.result c.from.ensures c.change-with_first.ensures.bounded in
    let second = reads_term c.from-2.result c.change-with_second.result c.from-2.ensures c.change-with_second.ensures.bounded in
    let between = reads_term c.from-3.result c.change_among-between.result c.from-3.ensures c.change_among-between.ensures.bounded in
    ap (λ (x : ℤ). cost_of c.args.instance.now c.args.locations.now +ℤ x)
    ((wide c).all
    ∙ ap₂ ◌+ℤ◌
    (ap₂ ◌-ℤ◌ (ap₂ ◌-ℤ◌ c.changes_with_all-with_all.ensures.value (first ∙ c.change-with_first.ensures.value)) (second ∙ c.change-with_second.ensures.value))
    (between ∙ c.change_among-between.ensures.value))
    ∙ cost_of-exchanging c.args.instance.now c.args.locations.now c.args.r c.args.s c.requires.two c.requires.first c.requires.second c.requires.permutation.same_size

pub returns-clause-bounded : goal.returns-clause-bounded
returns-clause-bounded c = rw ((wide c).all) ((wide c).small)
