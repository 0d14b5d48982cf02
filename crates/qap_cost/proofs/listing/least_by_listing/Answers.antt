use Rattle.std.proofs.Common.{◌≡◌, length, ap, sym, subst, ◌∙◌, Global, ℕ, to_z, of_z}
use Rattle.std.specs.Int.{w128}
use Rattle.std.proofs.Common.{[]}
use Rattle.std.specs.List.{range_with_len}
use Rattle.itertools.specs.declared.combinations.Permutations.{Permutations}
use Rattle.itertools.specs.Pool.{permutation_can, permutation_left}
use Rattle.qap_cost.proofs.Listings.{Came, Came-at, Came-IsPerm, Covers-none, Covers-more, Covers-all, Covers-some, reads_cost}
use Rattle.qap_cost.proofs.Orders.{rank_ways}
use Rattle.qap_cost.proofs.listing.least_by_listing.Goals as goal

pub loop-locations-init : goal.loop-locations-init
loop-locations-init c =
    let I = c.args.instance.now in
    let same : c.into_iter-locations-iterator.result ≡ c.in_ok-locations-items.locations-items =
    c.into_iter-locations-iterator.ensures.into_iter_gives in
    let size : c.size.result ≡ I.size = c.size.ensures.value in
    let can = c.in_ok-locations-items.ensures.can in (
      subst (λ (s : Permutations ℕ Global). permutation_can s) (sym same) can,
      tt,
      Covers-none I c.into_iter-locations-iterator.result
          (ap (λ (s : Permutations ℕ Global). s.pool.items) same ∙ c.in_ok-locations-items.ensures.pool ∙ ap (range_with_len 0) size)
          (ap (λ (s : Permutations ℕ Global). permutation_left s) same ∙ c.in_ok-locations-items.ensures.places ∙ ap (λ n. rank_ways n n []) size),
    )

pub unreachable-requires : goal.unreachable-requires
unreachable-requires c =
    let I = c.args.instance.now in
    let came : Came I c.loop-locations.locations-iterator c.next.new.self c.in_ok-locations.field-0.items =
    Came-at _ (λ a b e. e) I _ _ c.loop-locations.best _ _ c.loop-locations.invariant.2 c.in_ok-locations.was c.in-Some.ensures.steps in
    c.in_default.ensures.2 (Came-IsPerm I _ _ _ c.size.ensures.instance came)

pub cost-requires : goal.cost-requires
cost-requires c =
    let I = c.args.instance.now in
    let came : Came I c.loop-locations.locations-iterator c.next.new.self c.in_ok-locations.field-0.items =
    Came-at _ (λ a b e. e) I _ _ c.loop-locations.best _ _ c.loop-locations.invariant.2 c.in_ok-locations.was c.in-Some.ensures.steps in
    ap length c.in-Ok.ensures.0 ∙ came.permutes.same_size

pub loop-locations-preserved : goal.loop-locations-preserved
loop-locations-preserved c =
    let I = c.args.instance.now in
    let came : Came I c.loop-locations.locations-iterator c.next.new.self c.in_ok-locations.field-0.items =
    Came-at _ (λ a b e. e) I _ _ c.loop-locations.best _ _ c.loop-locations.invariant.2 c.in_ok-locations.was c.in-Some.ensures.steps in (
      c.in-Some.ensures.goes.keeps,
      tt,
      Covers-more I _ _ _ _ (to_z w128 (of_z w128 c.cost.result), c.in-Ok.permutation) c.cheaper.result c.loop-locations.invariant.2 came
          (reads_cost c.cost.result c.cost.ensures.bounded ∙ c.cost.ensures.value) c.in-Ok.ensures.0 c.cheaper.ensures,
    )

pub unreachable-requires-in-None-best : goal.unreachable-requires-in-None-best
unreachable-requires-in-None-best c =
    Covers-some c.args.instance.now _ _ c.loop-locations.invariant.2 c.in-None.ensures.steps.1 c.in-None-best.is

pub returns-clause-least : goal.returns-clause-least
returns-clause-least c =
    (Covers-all c.args.instance.now _ _ _ c.loop-locations.invariant.2 c.in-None.ensures.steps.1 c.in-Some-best.is).1
