use Rattle.pair_duals.proofs.Products.{pair_read}
use Rattle.pair_duals.proofs.pairs.scaled_pair.Goals as goal

pub returns-clause-value : goal.returns-clause-value
returns-clause-value g c =
    pair_read c.args.instance.now c.args.scale c.args.i c.args.k c.args.j c.args.l c.a.result c.b.result c.a-2.result c.b-2.result _ _ _
    c.a.ensures.value c.a.ensures.range c.b.ensures.value c.b.ensures.range c.a-2.ensures.value c.a-2.ensures.range c.b-2.ensures.value c.b-2.ensures.range
    c.scaled_product-there.ensures.value c.scaled_product-back.ensures.value c.plus.ensures
