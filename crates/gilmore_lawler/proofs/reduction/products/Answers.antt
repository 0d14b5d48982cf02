use Rattle.std.proofs.Common.{◌≡◌, ℕ, List, ◌++◌, ◌+◌, ◌-◌, ◌*◌, length, take, drop, ap, ap₂, sym, ◌∙◌, arith, subst, refl}
use Rattle.std.specs.Prelude.{ℤ}
use Rattle.std.proofs.lemmas.List.FromFn.{length-map-range_with_len}
use Rattle.gilmore_lawler.specs.Table.{segment, dot, product_row, IsTable, IsProductRow}
use Rattle.gilmore_lawler.proofs.Tables.{IsTable-more, length-segment}
use Rattle.gilmore_lawler.proofs.reduction.products.Goals as goal

pub loop-r-preserved : goal.loop-r-preserved
loop-r-preserved c =
    let a = c.args.a_rows.now in
    let b = c.args.b_rows.now in
    let w = c.args.width in
    let m = c.args.count in
    let r = c.loop-r.r in
    let e : r * w + w - r * w ≡ w = omega arith in
    let slice : take (r * w + w - r * w) (drop (r * w) a) ≡ segment w a r = ap (λ (k : ℕ). take k (drop (r * w) a)) e in
    let width : length (take (r * w + w - r * w) (drop (r * w) a)) ≡ w = ap length slice ∙ length-segment w m r a c.loop-r-test.true c.requires.a_size in
    let row = product_row w m (segment w a r) b in
    let pushed : c.push_products.new.entries.items ≡ c.loop-r.entries.items ++ row =
    c.in_ok-push_products.ensures
    ∙ ap₂ (λ (k : ℕ) (xs : List ℤ). c.loop-r.entries.items ++ product_row k m xs b) width slice in
    subst (IsTable m (r + 1) (IsProductRow w m a b)) (sym pushed)
    (IsTable-more m r (IsProductRow w m a b) c.loop-r.entries.items row c.loop-r.invariant (length-map-range_with_len (λ k. dot (segment w a r) (segment w b k)) 0 m) refl)
