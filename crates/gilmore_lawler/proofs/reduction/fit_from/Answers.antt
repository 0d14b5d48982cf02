use Rattle.std.proofs.Common.{◌≡◌, ◌+◌, ◌-◌, ◌*◌, ◌↔◌, sym, ◌∙◌, ap, ap₂, subst, ℕ, length}
use Rattle.std.specs.Prelude.{IsTrue}
use Rattle.gilmore_lawler.specs.Duals.{ProductsFit}
use Rattle.gilmore_lawler.specs.declared.side.Side.TheVariants.{Flow, Distance}
use Rattle.gilmore_lawler.proofs.Tables.{AllInRange-matrix}
use Rattle.gilmore_lawler.proofs.ReducedMatrices.{TellsFit-from_products, length-flow_rows, length-distance_rows}
use Rattle.gilmore_lawler.proofs.reduction.fit_from.Goals as goal

pub products_fit-requires-clause-a_size : goal.products_fit-requires-clause-a_size
products_fit-requires-clause-a_size c =
    length-flow_rows c.args.instance.now c.args.node.now c.size-n.result c.depth-depth.result c.args.a_rows.now c.depth-depth.ensures.placement c.requires.size c.size-n.ensures.value c.depth-depth.ensures.value c.requires.a_rows
    ∙ ap (λ (m : ℕ). m * (c.size-n.result + c.depth-depth.result)) (ap₂ ◌-◌ (c.size-n.ensures.value ∙ c.requires.size) c.depth-depth.ensures.value ∙ sym c.requires.u_count)

pub products_fit-requires-clause-b_size : goal.products_fit-requires-clause-b_size
products_fit-requires-clause-b_size c =
    length-distance_rows c.args.instance.now c.args.node.now c.size-n.result c.depth-depth.result c.args.b_rows.now c.depth-depth.ensures.placement c.requires.size c.size-n.ensures.value c.depth-depth.ensures.value c.requires.b_rows
    ∙ ap (λ (m : ℕ). m * (c.size-n.result + c.depth-depth.result)) (ap₂ ◌-◌ (c.size-n.ensures.value ∙ c.requires.size) c.depth-depth.ensures.value ∙ sym c.requires.v_count)

pub products_fit-requires-clause-a_range : goal.products_fit-requires-clause-a_range
products_fit-requires-clause-a_range c = c.requires.a_rows.range _ (AllInRange-matrix c.args.instance.now Flow c.requires.instance)

pub products_fit-requires-clause-b_range : goal.products_fit-requires-clause-b_range
products_fit-requires-clause-b_range c = c.requires.b_rows.range _ (AllInRange-matrix c.args.instance.now Distance c.requires.instance)

pub returns : goal.returns
returns c =
    let x = c.args.node.now in
    let width : c.size-n.result + c.depth-depth.result ≡ x.size + length x.facilities = ap₂ ◌+◌ (c.size-n.ensures.value ∙ c.requires.size) c.depth-depth.ensures.value in
    TellsFit-from_products c.args.instance.now x c.args.a_rows.now c.args.b_rows.now c.args.u.now c.args.v.now c.products_fit.result c.depth-depth.ensures.placement c.requires.size c.requires.instance c.requires.a_rows c.requires.b_rows c.requires.u_count c.requires.v_count
    (subst (λ (w : ℕ). IsTrue c.products_fit.result ↔ ProductsFit w c.args.a_rows.now c.args.b_rows.now c.args.u.now c.args.v.now) width c.products_fit.ensures)
