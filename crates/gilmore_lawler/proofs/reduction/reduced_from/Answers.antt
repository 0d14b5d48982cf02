use Rattle.std.proofs.Common.{length, refl, sym, ◌∙◌, ap, subst, ℕ}
use Rattle.qap_cost.specs.Matrix.{Square}
use Rattle.qap_cost.specs.Placement.{free_below}
use Rattle.qap_cost.specs.Range.{AllWithin}
use Rattle.gilmore_lawler.specs.ReducedMatrix.{IsReduced}
use Rattle.gilmore_lawler.specs.declared.side.Side.TheVariants.{Flow, Distance}
use Rattle.gilmore_lawler.proofs.Tables.{AllInRange-matrix}
use Rattle.gilmore_lawler.proofs.ReducedMatrices.{HasProducts, HasProducts-from_calls, made_is, IsReduced-from_products, AllWithin-from_products, length-flow_rows, length-distance_rows}
use Rattle.gilmore_lawler.proofs.reduction.reduced_from.Goals as goal

pub products-requires-clause-a_size : goal.products-requires-clause-a_size
products-requires-clause-a_size c =
    length-flow_rows c.args.instance.now c.args.node.now c.size-n.result c.depth-depth.result c.args.a_rows.now c.depth-depth.ensures.placement c.requires.size c.size-n.ensures.value c.depth-depth.ensures.value c.requires.a_rows

pub products-requires-clause-b_size : goal.products-requires-clause-b_size
products-requires-clause-b_size c =
    length-distance_rows c.args.instance.now c.args.node.now c.size-n.result c.depth-depth.result c.args.b_rows.now c.depth-depth.ensures.placement c.requires.size c.size-n.ensures.value c.depth-depth.ensures.value c.requires.b_rows

pub products-requires-clause-a_range : goal.products-requires-clause-a_range
products-requires-clause-a_range c = c.requires.a_rows.range _ (AllInRange-matrix c.args.instance.now Flow c.requires.instance)

pub products-requires-clause-b_range : goal.products-requires-clause-b_range
products-requires-clause-b_range c = c.requires.b_rows.range _ (AllInRange-matrix c.args.instance.now Distance c.requires.instance)

pub returns-clause-reduced : goal.returns-clause-reduced
returns-clause-reduced c =
    let I = c.args.instance.now in
    let x = c.args.node.now in
    let a = c.args.a_rows.now in
    let b = c.args.b_rows.now in
    let entries = c.in_ok-entries.entries.items in
    let h : HasProducts I x a b entries =
    HasProducts-from_calls I x c.size-n.result c.depth-depth.result x.facilities (free_below I.size x.facilities) x.places (free_below I.size x.places) a b a b entries
    (c.size-n.ensures.value ∙ c.requires.size) c.depth-depth.ensures.value
    refl (ap (λ (n : ℕ). free_below n x.facilities) c.requires.size)
    refl (ap (λ (n : ℕ). free_below n x.places) c.requires.size)
    c.requires.a_rows.table (c.requires.a_rows.range _ (AllInRange-matrix I Flow c.requires.instance)) c.requires.b_rows.table (c.requires.b_rows.range _ (AllInRange-matrix I Distance c.requires.instance))
    refl refl c.in_ok-entries.ensures in
    let made = made_is c.new.result c.size-n.result c.depth-depth.result x.size (length x.facilities) entries c.unwrap.result c.new.ensures c.unwrap.ensures (c.size-n.ensures.value ∙ c.requires.size) c.depth-depth.ensures.value in
    subst (IsReduced I x) (sym made) (IsReduced-from_products I x _ _ _ c.depth-depth.ensures.placement h)

pub returns-clause-bounded : goal.returns-clause-bounded
returns-clause-bounded c =
    let I = c.args.instance.now in
    let x = c.args.node.now in
    let a = c.args.a_rows.now in
    let b = c.args.b_rows.now in
    let entries = c.in_ok-entries.entries.items in
    let h : HasProducts I x a b entries =
    HasProducts-from_calls I x c.size-n.result c.depth-depth.result x.facilities (free_below I.size x.facilities) x.places (free_below I.size x.places) a b a b entries
    (c.size-n.ensures.value ∙ c.requires.size) c.depth-depth.ensures.value
    refl (ap (λ (n : ℕ). free_below n x.facilities) c.requires.size)
    refl (ap (λ (n : ℕ). free_below n x.places) c.requires.size)
    c.requires.a_rows.table (c.requires.a_rows.range _ (AllInRange-matrix I Flow c.requires.instance)) c.requires.b_rows.table (c.requires.b_rows.range _ (AllInRange-matrix I Distance c.requires.instance))
    refl refl c.in_ok-entries.ensures in
    let made = made_is c.new.result c.size-n.result c.depth-depth.result x.size (length x.facilities) entries c.unwrap.result c.new.ensures c.unwrap.ensures (c.size-n.ensures.value ∙ c.requires.size) c.depth-depth.ensures.value in
    subst (λ (M : Square). AllWithin 512000000000000000000 M.entries) (sym made) (AllWithin-from_products I x _ _ _ c.depth-depth.ensures.placement h)
