use Rattle.std.proofs.Common.{◌≡◌, ◌*◌, ap₂, arith}
use Rattle.std.proofs.lemmas.Bool.{leb-true, le-leb}
use Rattle.pair_duals.proofs.Largests.{in_scale, from_scale}
use Rattle.pair_duals.proofs.scale.is_in_scale.Goals as goal

pub returns : goal.returns
returns g c =
    let I = c.args.instance.now in
    let a = c.largest_a.result in
    let b = c.largest_b.result in
    let same : c.from.result * (c.from-a.result * c.from-b.result) ≡ c.args.scale * (a * b) = ap₂ ◌*◌ c.from.ensures (ap₂ ◌*◌ c.from-a.ensures c.from-b.ensures) in
    let most = c.most_cost.ensures in (
      λ t.
          let h = leb-true _ _ t in
          in_scale g.N.Number.limits I c.args.scale a b c.largest_a.ensures c.largest_b.ensures (omega (arith, h, same, most)),
      λ h.
          let h' = from_scale g.N.Number.limits I c.args.scale a b c.largest_a.ensures c.largest_b.ensures h in
          le-leb _ _ (omega (arith, h', same, most)),
    )
