use Rattle.std.proofs.Common.{◌≡◌, ℕ, ℤ, List, ◌+◌, ◌*◌, ◌<◌, ◌≤◌, ◌^◌, get_or, take, ap, ap₂, subst, sym, ◌∙◌, length, arith, to_z, of_z}
use Rattle.std.specs.Prelude.{◌+ℤ◌, unsigned_abs}
use Rattle.std.specs.Int.{w128}
use Rattle.std.proofs.lemmas.Int.{ints, to_z-of_z, fits_signed_from_abs}
use Rattle.std.proofs.lemmas.List.{length-take-le}
use Rattle.qap_cost.specs.Instance.{Problem}
use Rattle.qap_cost.specs.Placement.{IsFreeLocation, fixed_cost_of, placing}
use Rattle.qap_cost.specs.Range.{AllInRange}
use Rattle.gilmore_lawler.specs.Small.{AllSmall}
use Rattle.gilmore_lawler.specs.Split.{Split}
use Rattle.gilmore_lawler.specs.Table.{dot, segment, linear_row}
use Rattle.gilmore_lawler.specs.declared.side.Side.TheVariants.{Flow, Distance}
use Rattle.gilmore_lawler.proofs.Splits.{stands, places_and_free, distances_width, linear_part, fixed_child}
use Rattle.gilmore_lawler.proofs.Tables.{AllInRange-matrix, AllWithin-linear_row, length-linear_row}
use Rattle.gilmore_lawler.proofs.split_rows.SplitRows.fixed_cost.Goals as goal

pub place_among-number-requires : goal.place_among-number-requires
place_among-number-requires c =
    let i = c.self.inside in
    let s : Split = record { instance = i.ranked.now; node = i.node.now; facility = i.facility } in
    let at : IsFreeLocation s.node c.args.location = subst (λ (t : Split). IsFreeLocation t.node c.args.location) (sym c.self.view_is) c.requires in
    subst (λ (free : List ℕ). (j : ℕ) × (j < length free) × (get_or free j 0 ≡ c.args.location)) (sym c.deref.ensures.value)
    (stands s i.flows.items i.linear.items i.before.places.items i.before.free.items i.before.rows.items _ c.args.location c.self.invariant at)

pub row_at-row-requires-clause-count : goal.row_at-row-requires-clause-count
row_at-row-requires-clause-count c =
    let i = c.self.inside in
    let s : Split = record { instance = i.ranked.now; node = i.node.now; facility = i.facility } in
    let counts = places_and_free s i.flows.items i.linear.items i.before.places.items i.before.free.items i.before.rows.items _ c.self.invariant in
    omega (arith, counts, c.len.ensures, c.deref.ensures.len, ap length c.deref.ensures.value)

pub row_at-row-requires-clause-size : goal.row_at-row-requires-clause-size
row_at-row-requires-clause-size c =
    let i = c.self.inside in
    let s : Split = record { instance = i.ranked.now; node = i.node.now; facility = i.facility } in
    let size : c.size.result ≡ s.instance.size = c.size.ensures.value ∙ ap (λ (I : Problem). I.size) c.instance.ensures.value in
    let count : length i.before.free.items ≡ c.len.result = omega (arith, c.len.ensures, c.deref.ensures.len, ap length c.deref.ensures.value) in
    ap length c.deref-2.ensures.value
    ∙ distances_width s i.flows.items i.linear.items i.before.places.items i.before.free.items i.before.rows.items _ c.size.result c.depth-depth.result c.self.invariant size c.depth-depth.ensures.value
    ∙ ap (λ (m : ℕ). m * (c.size.result + c.depth-depth.result)) count

pub slice_bounds-linear-end : goal.slice_bounds-linear-end
slice_bounds-linear-end c =
    let i = c.self.inside in
    let s : Split = record { instance = i.ranked.now; node = i.node.now; facility = i.facility } in
    let counts = places_and_free s i.flows.items i.linear.items i.before.places.items i.before.free.items i.before.rows.items _ c.self.invariant in
    let size : c.size.result ≡ s.instance.size = c.size.ensures.value ∙ ap (λ (I : Problem). I.size) c.instance.ensures.value in
    sym (length-take-le (1 + 2 * c.depth-depth.result) c.row_at-row.result.now (omega (arith, counts, size, c.depth-depth.ensures.value, c.row_at-row.ensures.width, c.place_among-number.ensures.inside, ap length c.deref.ensures.value)))

pub dot_product-requires-clause-same_length : goal.dot_product-requires-clause-same_length
dot_product-requires-clause-same_length c =
    let i = c.self.inside in
    let s : Split = record { instance = i.ranked.now; node = i.node.now; facility = i.facility } in
    let counts = places_and_free s i.flows.items i.linear.items i.before.places.items i.before.free.items i.before.rows.items _ c.self.invariant in
    let size : c.size.result ≡ s.instance.size = c.size.ensures.value ∙ ap (λ (I : Problem). I.size) c.instance.ensures.value in
    let part : length (take (1 + 2 * c.depth-depth.result) c.row_at-row.result.now) ≡ 1 + 2 * c.depth-depth.result =
    length-take-le (1 + 2 * c.depth-depth.result) c.row_at-row.result.now (omega (arith, counts, size, c.depth-depth.ensures.value, c.row_at-row.ensures.width, c.place_among-number.ensures.inside, ap length c.deref.ensures.value)) in
    omega (arith, part, ap length c.deref-3.ensures.value, ap length c.self.invariant.linear_is, length-linear_row s.instance.size s.instance.a s.node.facilities s.facility, c.depth-depth.ensures.value)

pub dot_product-requires-clause-few : goal.dot_product-requires-clause-few
dot_product-requires-clause-few c =
    let i = c.self.inside in
    let s : Split = record { instance = i.ranked.now; node = i.node.now; facility = i.facility } in
    let counts = places_and_free s i.flows.items i.linear.items i.before.places.items i.before.free.items i.before.rows.items _ c.self.invariant in
    omega (arith, counts, ap length c.deref-3.ensures.value, ap length c.self.invariant.linear_is, length-linear_row s.instance.size s.instance.a s.node.facilities s.facility, c.place_among-number.ensures.inside, ap length c.deref.ensures.value)

pub dot_product-requires-clause-xs_range : goal.dot_product-requires-clause-xs_range
dot_product-requires-clause-xs_range c =
    let i = c.self.inside in
    subst AllInRange (sym (c.deref-3.ensures.value ∙ c.self.invariant.linear_is)) (AllWithin-linear_row _ i.ranked.now.size i.ranked.now.a i.node.now.facilities i.facility (AllInRange-matrix i.ranked.now Flow c.instance.ensures.instance))

pub dot_product-requires-clause-ys_range : goal.dot_product-requires-clause-ys_range
dot_product-requires-clause-ys_range c =
    let i = c.self.inside in
    let s : Split = record { instance = i.ranked.now; node = i.node.now; facility = i.facility } in
    let stands : get_or i.before.free.items c.place_among-number.result 0 ≡ c.args.location = ap (λ (l : List ℕ). get_or l c.place_among-number.result 0) (sym c.deref.ensures.value) ∙ c.place_among-number.ensures.value in
    let below : c.place_among-number.result < length i.before.free.items = omega (arith, c.place_among-number.ensures.inside, ap length c.deref.ensures.value) in
    let size : c.size.result ≡ s.instance.size = c.size.ensures.value ∙ ap (λ (I : Problem). I.size) c.instance.ensures.value in
    let row : c.row_at-row.result.now ≡ segment (c.size.result + c.depth-depth.result) i.before.rows.items c.place_among-number.result =
    c.row_at-row.ensures.row ∙ ap (λ (l : List ℤ). segment (c.size.result + c.depth-depth.result) l c.place_among-number.result) c.deref-2.ensures.value in
    let part : take (1 + 2 * c.depth-depth.result) c.row_at-row.result.now ≡ linear_row s.instance.size s.instance.b s.node.places c.args.location =
    linear_part s i.flows.items i.linear.items i.before.places.items i.before.free.items i.before.rows.items _ c.args.location c.place_among-number.result c.size.result c.depth-depth.result c.row_at-row.result.now c.self.invariant below stands size c.depth-depth.ensures.value row in
    subst AllInRange (sym part) (AllWithin-linear_row _ s.instance.size s.instance.b s.node.places c.args.location (AllInRange-matrix s.instance Distance c.instance.ensures.instance))

pub dot_product-requires-clause-known : goal.dot_product-requires-clause-known
dot_product-requires-clause-known c =
    λ yes_it_is.
    let i = c.self.inside in
    let s : Split = record { instance = i.ranked.now; node = i.node.now; facility = i.facility } in
    let stands : get_or i.before.free.items c.place_among-number.result 0 ≡ c.args.location = ap (λ (l : List ℕ). get_or l c.place_among-number.result 0) (sym c.deref.ensures.value) ∙ c.place_among-number.ensures.value in
    let below : c.place_among-number.result < length i.before.free.items = omega (arith, c.place_among-number.ensures.inside, ap length c.deref.ensures.value) in
    let size : c.size.result ≡ s.instance.size = c.size.ensures.value ∙ ap (λ (I : Problem). I.size) c.instance.ensures.value in
    let row : c.row_at-row.result.now ≡ segment (c.size.result + c.depth-depth.result) i.before.rows.items c.place_among-number.result =
    c.row_at-row.ensures.row ∙ ap (λ (l : List ℤ). segment (c.size.result + c.depth-depth.result) l c.place_among-number.result) c.deref-2.ensures.value in
    let part : take (1 + 2 * c.depth-depth.result) c.row_at-row.result.now ≡ linear_row s.instance.size s.instance.b s.node.places c.args.location =
    linear_part s i.flows.items i.linear.items i.before.places.items i.before.free.items i.before.rows.items _ c.args.location c.place_among-number.result c.size.result c.depth-depth.result c.row_at-row.result.now c.self.invariant below stands size c.depth-depth.ensures.value row in
    let small = c.are_small.ensures yes_it_is in (
      subst AllSmall (sym (c.deref-3.ensures.value ∙ c.self.invariant.linear_is)) (AllWithin-linear_row _ i.ranked.now.size i.ranked.now.a i.node.now.facilities i.facility small.0),
      subst AllSmall (sym part) (AllWithin-linear_row _ s.instance.size s.instance.b s.node.places c.args.location small.1),
    )

pub returns-clause-value : goal.returns-clause-value
returns-clause-value c =
    let i = c.self.inside in
    let s : Split = record { instance = i.ranked.now; node = i.node.now; facility = i.facility } in
    let stands : get_or i.before.free.items c.place_among-number.result 0 ≡ c.args.location = ap (λ (l : List ℕ). get_or l c.place_among-number.result 0) (sym c.deref.ensures.value) ∙ c.place_among-number.ensures.value in
    let below : c.place_among-number.result < length i.before.free.items = omega (arith, c.place_among-number.ensures.inside, ap length c.deref.ensures.value) in
    let size : c.size.result ≡ s.instance.size = c.size.ensures.value ∙ ap (λ (I : Problem). I.size) c.instance.ensures.value in
    let row : c.row_at-row.result.now ≡ segment (c.size.result + c.depth-depth.result) i.before.rows.items c.place_among-number.result =
    c.row_at-row.ensures.row ∙ ap (λ (l : List ℤ). segment (c.size.result + c.depth-depth.result) l c.place_among-number.result) c.deref-2.ensures.value in
    let part : take (1 + 2 * c.depth-depth.result) c.row_at-row.result.now ≡ linear_row s.instance.size s.instance.b s.node.places c.args.location =
    linear_part s i.flows.items i.linear.items i.before.places.items i.before.free.items i.before.rows.items _ c.args.location c.place_among-number.result c.size.result c.depth-depth.result c.row_at-row.result.now c.self.invariant below stands size c.depth-depth.ensures.value row in
    let counts = places_and_free s i.flows.items i.linear.items i.before.places.items i.before.free.items i.before.rows.items _ c.self.invariant in
    let count = length-linear_row s.instance.size s.instance.a s.node.facilities s.facility in
    let F = to_z w128 (of_z w128 i.fixed) in
    let D = to_z w128 (of_z w128 c.dot_product.result) in
    let small : unsigned_abs c.dot_product.result ≤ 512 * 10 ^ 18 =
    omega (arith, c.dot_product.ensures.bounded, counts, below, count, ap length c.deref-3.ensures.value, ap length c.self.invariant.linear_is) in
    let F_is : F ≡ i.fixed = to_z-of_z w128 i.fixed (fits_signed_from_abs w128 i.fixed (omega (arith, c.self.invariant.fixed_bounded))) in
    let D_is : D ≡ c.dot_product.result = to_z-of_z w128 c.dot_product.result (fits_signed_from_abs w128 c.dot_product.result (omega (arith, small))) in
    let product : c.dot_product.result ≡ dot i.linear.items (take (1 + 2 * c.depth-depth.result) c.row_at-row.result.now) =
    c.dot_product.ensures.value ∙ ap (λ (l : List ℤ). dot l (take (1 + 2 * c.depth-depth.result) c.row_at-row.result.now)) c.deref-3.ensures.value in
    to_z-of_z w128 (F +ℤ D) (fits_signed_from_abs w128 (F +ℤ D) (omega (arith, ints, F_is, D_is, small, c.self.invariant.fixed_bounded)))
    ∙ ap₂ ◌+ℤ◌ F_is (D_is ∙ product)
    ∙ fixed_child s i.flows.items i.linear.items i.before.places.items i.before.free.items i.before.rows.items i.fixed c.args.location (take (1 + 2 * c.depth-depth.result) c.row_at-row.result.now) c.self.invariant part
    ∙ ap (λ (t : Split). fixed_cost_of t.instance (placing t.node t.facility c.args.location)) c.self.view_is

pub returns-clause-bounded : goal.returns-clause-bounded
returns-clause-bounded c =
    let i = c.self.inside in
    let s : Split = record { instance = i.ranked.now; node = i.node.now; facility = i.facility } in
    let counts = places_and_free s i.flows.items i.linear.items i.before.places.items i.before.free.items i.before.rows.items _ c.self.invariant in
    let count = length-linear_row s.instance.size s.instance.a s.node.facilities s.facility in
    let F = to_z w128 (of_z w128 i.fixed) in
    let D = to_z w128 (of_z w128 c.dot_product.result) in
    let below : c.place_among-number.result < length i.before.free.items = omega (arith, c.place_among-number.ensures.inside, ap length c.deref.ensures.value) in
    let small : unsigned_abs c.dot_product.result ≤ 512 * 10 ^ 18 =
    omega (arith, c.dot_product.ensures.bounded, counts, below, count, ap length c.deref-3.ensures.value, ap length c.self.invariant.linear_is) in
    let F_is : F ≡ i.fixed = to_z-of_z w128 i.fixed (fits_signed_from_abs w128 i.fixed (omega (arith, c.self.invariant.fixed_bounded))) in
    let D_is : D ≡ c.dot_product.result = to_z-of_z w128 c.dot_product.result (fits_signed_from_abs w128 c.dot_product.result (omega (arith, small))) in
    let whole = to_z-of_z w128 (F +ℤ D) (fits_signed_from_abs w128 (F +ℤ D) (omega (arith, ints, F_is, D_is, small, c.self.invariant.fixed_bounded))) in
    omega (arith, ints, whole, F_is, D_is, small, c.self.invariant.fixed_bounded)
