use Rattle.std.proofs.Common.{arith, sym, ◌∙◌}
use Rattle.dual_ascent.proofs.Trivials.{in_scale_along}
use Rattle.dual_ascent.proofs.ascent.do_fit.Goals as goal

pub fits-requires : goal.fits-requires
fits-requires c = record {
  size = c.requires.size ∙ sym c.requires.of_node.size;
  in_scale = in_scale_along _ c.args.instance.now c.args.scale c.args.duals.now.scale c.requires.scale (omega arith) c.requires.range.products;
}
