use Rattle.std.proofs.Common.{refl, ◌∙◌, arith}
use Rattle.std.proofs.lemmas.Int.{ints}
use Rattle.node_split.proofs.Exact.{reads, reads_greater}
use Rattle.node_split.proofs.Bounds.{HasCell-child, IsClosed-own, IsClosed-reached, IsOpenAt-own, IsOpenAt-reached}
use Rattle.node_split.proofs.children.child_left.Goals as goal

pub reached-reached-requires-clause-row : goal.reached-reached-requires-clause-row
reached-reached-requires-clause-row g c = (HasCell-child c.args.evaluator.now.rows c.args.split.now c.args.k c.row-row.result c.column-column.result c.requires.split c.requires.k_in c.row-row.ensures c.column-column.ensures).row

pub reached-reached-requires-clause-column : goal.reached-reached-requires-clause-column
reached-reached-requires-clause-column g c = (HasCell-child c.args.evaluator.now.rows c.args.split.now c.args.k c.row-row.result c.column-column.result c.requires.split c.requires.k_in c.row-row.ensures c.column-column.ensures).column

pub returns-then-reached-cost-clause-child : goal.returns-then-reached-cost-clause-child
returns-then-reached-cost-clause-child g c =
    let I = c.args.evaluator.now.rows in
    let cell = HasCell-child I c.args.split.now c.args.k c.row-row.result c.column-column.result c.requires.split c.requires.k_in c.row-row.ensures c.column-column.ensures in
    IsClosed-reached I c.args.split.now c.args.k c.row-row.result c.column-column.result c.args.incumbent.now.cost c.reached-reached.result c.requires.split cell c.row-row.ensures c.column-column.ensures c.reached-reached.ensures.value
    (let most = c.if-reached-cost.true in let cost = c.cost-cost.ensures.value in omega (arith, ints, most, cost))

pub offset_bounds-split-row : goal.offset_bounds-split-row
offset_bounds-split-row g c =
    let cell = HasCell-child c.args.evaluator.now.rows c.args.split.now c.args.k c.row-row.result c.column-column.result c.requires.split c.requires.k_in c.row-row.ensures c.column-column.ensures in
    let few = cell.few.0 in
    omega (arith, few)

pub bounds-split-row : goal.bounds-split-row
bounds-split-row g c = (HasCell-child c.args.evaluator.now.rows c.args.split.now c.args.k c.row-row.result c.column-column.result c.requires.split c.requires.k_in c.row-row.ensures c.column-column.ensures).facility_listed

pub offset_bounds-split-column : goal.offset_bounds-split-column
offset_bounds-split-column g c =
    let cell = HasCell-child c.args.evaluator.now.rows c.args.split.now c.args.k c.row-row.result c.column-column.result c.requires.split c.requires.k_in c.row-row.ensures c.column-column.ensures in
    let few = cell.few.1 in
    omega (arith, few)

pub bounds-split-column : goal.bounds-split-column
bounds-split-column g c = (HasCell-child c.args.evaluator.now.rows c.args.split.now c.args.k c.row-row.result c.column-column.result c.requires.split c.requires.k_in c.row-row.ensures c.column-column.ensures).location_listed

pub returns-then-is_requested-clause-child : goal.returns-then-is_requested-clause-child
returns-then-is_requested-clause-child g c =
    let I = c.args.evaluator.now.rows in
    let cell = HasCell-child I c.args.split.now c.args.k c.row-row.result c.column-column.result c.requires.split c.requires.k_in c.row-row.ensures c.column-column.ensures in
    IsOpenAt-reached I c.args.split.now c.args.k c.row-row.result c.column-column.result _ c.requires.split cell c.row-row.ensures c.column-column.ensures refl refl
    (reads c.reached-reached.result c.reached-reached.ensures.bounded ∙ c.reached-reached.ensures.value)

pub place-requires-clause-facility : goal.place-requires-clause-facility
place-requires-clause-facility g c = (HasCell-child c.args.evaluator.now.rows c.args.split.now c.args.k c.row-row.result c.column-column.result c.requires.split c.requires.k_in c.row-row.ensures c.column-column.ensures).facility_free

pub place-requires-clause-location : goal.place-requires-clause-location
place-requires-clause-location g c = (HasCell-child c.args.evaluator.now.rows c.args.split.now c.args.k c.row-row.result c.column-column.result c.requires.split c.requires.k_in c.row-row.ensures c.column-column.ensures).location_free

pub returns-then-below-cost-clause-child : goal.returns-then-below-cost-clause-child
returns-then-below-cost-clause-child g c =
    let I = c.args.evaluator.now.rows in
    let cell = HasCell-child I c.args.split.now c.args.k c.row-row.result c.column-column.result c.requires.split c.requires.k_in c.row-row.ensures c.column-column.ensures in
    IsClosed-own I c.args.split.now c.args.k c.row-row.result c.column-column.result _ _ c.in_ok-node.node c.evaluate.new.made c.args.incumbent.now.cost c.requires.split cell c.row-row.ensures c.column-column.ensures refl refl
    c.in_ok-node.ensures.value c.in_ok-node.ensures.placement c.in_ok-evaluate.ensures.evaluated
    (let most = c.if-below-cost.true in let cost = c.cost-cost.ensures.value in omega (arith, ints, most, cost))

pub returns-clause-child : goal.returns-clause-child
returns-clause-child g c =
    let I = c.args.evaluator.now.rows in
    let cell = HasCell-child I c.args.split.now c.args.k c.row-row.result c.column-column.result c.requires.split c.requires.k_in c.row-row.ensures c.column-column.ensures in
    IsOpenAt-own I c.args.split.now c.args.k c.row-row.result c.column-column.result _ c.in_ok-node.node c.evaluate.new.made c.reached-reached.result c.requires.split cell c.row-row.ensures c.column-column.ensures refl refl
    c.in_ok-node.ensures.value c.in_ok-node.ensures.placement c.in_ok-evaluate.ensures.evaluated c.reached-reached.ensures.value
    (reads_greater c.reached-reached.result c.evaluate.new.made.value c.max.result c.reached-reached.ensures.bounded (let range = c.in_ok-evaluate.ensures.evaluated.range.value in omega (arith, range)) c.max.ensures.value)
