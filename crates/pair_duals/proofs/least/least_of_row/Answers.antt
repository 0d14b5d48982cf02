use Rattle.std.proofs.Common.{◌≡◌, ◌*◌, ◌+◌, ℕ, get_or, map, arith, ap, sym, subst, ◌∙◌}
use Rattle.std.specs.Prelude.{pos, ◌≤ℤ◌, true}
use Rattle.std.proofs.lemmas.Int.{ints, by_lt_z}
use Rattle.qap_cost.specs.Instance.{entry}
use Rattle.pair_duals.specs.Reduced.{IsLeast}
use Rattle.pair_duals.proofs.Leasts.{IsLeast-more, IsLeast-one, smaller_of, IsSmaller-kept}
use Rattle.pair_duals.proofs.Values.{value_read, place_in_square}
use Rattle.pair_duals.proofs.least.least_of_row.Goals as goal
use Rattle.pair_duals.proofs.least.least_of_row.Goals.{then-is_less, else-is_less}

pub loop-c-init : goal.loop-c-init
loop-c-init g c =
    let value = g.N.Number.value in
    let at : c.args.r * c.args.m + 0 ≡ c.args.r * c.args.m = omega arith in
    let inside = place_in_square c.args.m c.args.r 0 c.requires.row (omega arith) in
    IsLeast-one (entry c.args.m (map value c.args.entries.now) c.args.r) _
    (value_read value c.args.entries.now (c.args.r * c.args.m) c.index-entries-start.result c.index-entries-start.is (omega (arith, inside, c.requires.count)) ∙ ap (λ (k : ℕ). get_or (map value c.args.entries.now) k (pos 0)) (sym at))

pub loop-c-preserved : goal.loop-c-preserved
loop-c-preserved g c =
    let value = g.N.Number.value in
    let k = c.loop-c.c in
    let f = entry c.args.m (map value c.args.entries.now) c.args.r in
    let inside = place_in_square c.args.m c.args.r k c.requires.row c.loop-c-test.true in
    let read = value_read value c.args.entries.now (c.args.r * c.args.m + k) c.index-entries-start-in-loop-c.result c.index-entries-start-in-loop-c.is (omega (arith, inside, c.requires.count)) in
    elim c.if-is_less.branch [
      | then-is_less w ↦
          let less = c.is_less.ensures.0 w.if-is_less.true in
          let is : value c.if-is_less.least ≡ f k = ap value w.least-is ∙ read in
          IsLeast-more f k _ _ c.loop-c.invariant (smaller_of (value c.loop-c.least) (f k) (value c.if-is_less.least) (omega (arith, ints, less, read), is))
      | else-is_less w ↦
          let more : value c.loop-c.least ≤ℤ f k =
          by_lt_z (value c.index-entries-start-in-loop-c.result) (value c.loop-c.least)
          (λ less. let yes_it_is : c.is_less.result ≡ true = c.is_less.ensures.1 less in absurd cc)
          (λ more. omega (arith, ints, more, read)) in
          IsLeast-more f k _ _ c.loop-c.invariant (IsSmaller-kept (value c.loop-c.least) (f k) (value c.if-is_less.least) more (ap value w.least-is))
    ]

pub returns : goal.returns
returns g c =
    let all : c.loop-c.c ≡ c.args.m = omega arith in
    subst (λ (k : ℕ). IsLeast (entry c.args.m (map g.N.Number.value c.args.entries.now) c.args.r) k (g.N.Number.value c.loop-c.least)) all c.loop-c.invariant
