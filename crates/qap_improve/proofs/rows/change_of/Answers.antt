use Rattle.std.proofs.Common.{◌≡◌, ◌∙◌, ap₂, w64, to_z, of_z, ◌≤◌}
use Rattle.std.specs.Prelude.{ℤ, ◌+ℤ◌, ◌-ℤ◌, unsigned_abs}
use Rattle.qap_improve.proofs.Readings.{Reads, fits_all, fits_second, reads_all, reads_term}
use Rattle.qap_improve.proofs.rows.change_of.Goals as goal

-- a term made wider is no greater
term_small : (z x : ℤ) → z ≡ to_z w64 (of_z w64 x) → unsigned_abs x ≤ 8000000000000000000 → unsigned_abs z ≤ 8000000000000000000
term_small z x is h = rw (reads_term z x is h) h

wide : (c : goal.After-from-3) → Reads c.sum_of-with_all.result c.from.result c.from-2.result c.from-3.result
wide c =
    reads_all c.sum_of-with_all.result c.from.result c.from-2.result c.from-3.result
    c.sum_of-with_all.ensures.bounded
    (term_small c.from.result c.product_with-with_first.result c.from.ensures c.product_with-with_first.ensures.bounded)
    (term_small c.from-2.result c.product_with-with_second.result c.from-2.ensures c.product_with-with_second.ensures.bounded)
    (term_small c.from-3.result c.product_between-between.result c.from-3.ensures c.product_between-between.ensures.bounded)

pub overflow_sub-result-2 : goal.overflow_sub-result-2
overflow_sub-result-2 c =
    fits_second c.sum_of-with_all.result c.from.result c.from-2.result
    c.sum_of-with_all.ensures.bounded
    (term_small c.from.result c.product_with-with_first.result c.from.ensures c.product_with-with_first.ensures.bounded)
    (term_small c.from-2.result c.product_with-with_second.result c.from-2.ensures c.product_with-with_second.ensures.bounded)

pub overflow_add-result : goal.overflow_add-result
overflow_add-result c =
    fits_all c.sum_of-with_all.result c.from.result c.from-2.result c.from-3.result
    c.sum_of-with_all.ensures.bounded
    (term_small c.from.result c.product_with-with_first.result c.from.ensures c.product_with-with_first.ensures.bounded)
    (term_small c.from-2.result c.product_with-with_second.result c.from-2.ensures c.product_with-with_second.ensures.bounded)
    (term_small c.from-3.result c.product_between-between.result c.from-3.ensures c.product_between-between.ensures.bounded)

pub returns-clause-value : goal.returns-clause-value
returns-clause-value c =
    let first = reads_term c.from.result c.product_with-with_first.result c.from.ensures c.product_with-with_first.ensures.bounded in
    let second = reads_term c.from-2.result c.product_with-with_second.result c.from-2.ensures c.product_with-with_second.ensures.bounded in
    let between = reads_term c.from-3.result c.product_between-between.result c.from-3.ensures c.product_between-between.ensures.bounded in
    (wide c).all
    ∙ ap₂ ◌+ℤ◌
    (ap₂ ◌-ℤ◌ (ap₂ ◌-ℤ◌ c.sum_of-with_all.ensures.value (first ∙ c.product_with-with_first.ensures.value)) (second ∙ c.product_with-with_second.ensures.value))
    (between ∙ c.product_between-between.ensures.value)

pub returns-clause-bounded : goal.returns-clause-bounded
returns-clause-bounded c = rw ((wide c).all) ((wide c).small)
