use Rattle.std.proofs.Common.{◌≡◌, ℕ, List, ◌++◌, ◌∷◌, [], length, map, ap, sym, ◌∙◌, arith, append_assoc}
use Rattle.std.specs.Prelude.{ℤ}
use Rattle.std.specs.Int.{w128}
use Rattle.std.specs.List.{range_with_len}
use Rattle.std.proofs.lemmas.Int.{to_z-of_z, fits_signed_from_abs}
use Rattle.std.proofs.lemmas.List.FromFn.{map-range_with_len_more}
use Rattle.gilmore_lawler.specs.Table.{dot, segment}
use Rattle.gilmore_lawler.proofs.reduction.push_products.Goals as goal

pub loop-c-preserved : goal.loop-c-preserved
loop-c-preserved c =
    let row = c.args.row.now in
    let others = c.args.others.now in
    let w = length row in
    let k = c.loop-c.c in
    let old = c.args.entries.now.items in
    let result = c.product_with-product.result in
    let is : result ≡ dot row (segment w others k) = c.product_with-product.ensures.value in
    let value = to_z-of_z w128 result (fits_signed_from_abs w128 result (omega (arith, c.product_with-product.ensures.bounded, c.requires.width))) in
    let f : ℕ → ℤ = λ m. dot row (segment w others m) in
    let pushed : c.push.new.self.items ≡ c.loop-c.entries.items ++ f k ∷ [] =
    c.in_ok-push.ensures.items ∙ ap (λ (z : ℤ). c.loop-c.entries.items ++ z ∷ []) (value ∙ is) in
    pushed
    ∙ ap (λ (xs : List ℤ). xs ++ f k ∷ []) c.loop-c.invariant
    ∙ append_assoc old (map f (range_with_len 0 k)) (f k ∷ [])
    ∙ ap (λ (xs : List ℤ). old ++ xs) (sym (map-range_with_len_more f 0 k k (omega arith)))
