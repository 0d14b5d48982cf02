use Rattle.std.proofs.Common.{◌<◌, arith, rules, below_more, refl, inl, inr, subst, sym}
use Rattle.std.specs.Prelude.{pos, ◌≤ℤ◌}
use Rattle.std.proofs.lemmas.Bool.{cases_lt}
use Rattle.pair_duals.proofs.Forms.{residual-both}
use Rattle.pair_duals.proofs.fitting.fits.Goals as goal

pub loop-k-preserved : goal.loop-k-preserved
loop-k-preserved g c = below_more _ c.loop-k.k c.loop-k.invariant (c.fits_location.ensures.0 (search rules))

pub returns : goal.returns
returns g c =
    let I = c.args.instance.now in
    let D = c.args.duals.now in (
      λ t. record {
        below = λ i k j l hi hk hj hl ij kl.
            let at_k : k < c.loop-k.k = omega (arith, c.free-k-end.ensures.value, c.free-k-end.ensures.duals.same_count) in
            let at_l : l < c.loop-k.k = omega (arith, c.free-k-end.ensures.value, c.free-k-end.ensures.duals.same_count) in
            elim (cases_lt i j) [
              | inl less ↦ (c.loop-k.invariant k at_k).below i j l less hj hl kl
              | inr more ↦
                  let less : j < i = omega arith in
                  subst (λ z. pos 0 ≤ℤ z) (residual-both I D j l i k) ((c.loop-k.invariant l at_l).below j i k less hi hk (λ e. kl (sym e)))
            ];
      },
      λ fit. refl,
    )
