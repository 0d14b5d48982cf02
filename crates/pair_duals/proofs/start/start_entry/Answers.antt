use Rattle.std.proofs.Common.{ℕ, arith, ap, ap₂, sym, subst, ◌∙◌}
use Rattle.std.specs.Prelude.{pos, ◌+ℤ◌, ◌*ℤ◌}
use Rattle.std.proofs.lemmas.Int.{ints}
use Rattle.qap_cost.specs.Placement.{IsFreeFacility}
use Rattle.gilmore_lawler.specs.ReducedMatrix.{linear_cost}
use Rattle.pair_duals.proofs.Starts.{free_of}
use Rattle.pair_duals.proofs.start.start_entry.Goals as goal

pub scaled_linear-linear-requires-clause-free : goal.scaled_linear-linear-requires-clause-free
scaled_linear-linear-requires-clause-free g c = λ is.
    subst (IsFreeFacility c.args.node.now) (sym c.facility-facility.ensures.value) (free_of c.args.node.now c.args.duals.now c.args.r is c.requires.duals c.requires.r_in)

pub returns-clause-value : goal.returns-clause-value
returns-clause-value g c =
    c.plus.ensures
    ∙ ap₂ ◌+ℤ◌ (c.plus-own.ensures ∙ ap₂ ◌+ℤ◌ c.alpha_sum.ensures.value c.beta_sum.ensures.value)
    (c.scaled_linear-linear.ensures.value
    ∙ ap (λ (s : ℕ). pos s *ℤ linear_cost c.args.instance.now c.args.node.now c.facility-facility.result c.location-location.result) c.scale.ensures.value
    ∙ ap₂ (λ (i k : ℕ). pos c.args.duals.now.scale *ℤ linear_cost c.args.instance.now c.args.node.now i k) c.facility-facility.ensures.value c.location-location.ensures.value)

pub returns-clause-range : goal.returns-clause-range
returns-clause-range g c =
    omega (arith, ints, c.plus.ensures, c.plus-own.ensures, c.alpha_sum.ensures.range, c.beta_sum.ensures.range, c.scaled_linear-linear.ensures.range, g.met.N.Number.enough.start)
