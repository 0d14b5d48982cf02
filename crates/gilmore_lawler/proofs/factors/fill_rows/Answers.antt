use Rattle.std.proofs.Common.{◌∙◌, subst, get_or, refl, arith, take}
use Rattle.gilmore_lawler.specs.Order.{IsArranged}
use Rattle.gilmore_lawler.specs.Ranking.{IsRanking, others_in}
use Rattle.gilmore_lawler.specs.ReducedMatrix.{others}
use Rattle.gilmore_lawler.specs.Table.{matrix_of, IsOrdered}
use Rattle.gilmore_lawler.proofs.Lists.{IsArranged-from_permutation}
use Rattle.gilmore_lawler.proofs.Rankings.{Flags, IsPermutation-others_in, IsOrdered-filter}
use Rattle.gilmore_lawler.proofs.Tables.{HasFactors-none, HasFactors-more, room_for_row}
use Rattle.gilmore_lawler.proofs.factors.fill_rows.Goals as goal

pub loop-r-init : goal.loop-r-init
loop-r-init c = record {
  count = refl;
  within = omega arith;
  rows = HasFactors-none c.args.instance.now c.args.side c.args.placed.now c.args.free.now;
}

pub write_linear-behind-requires-clause-room : goal.write_linear-behind-requires-clause-room
write_linear-behind-requires-clause-room c =
    (room_for_row c.args.instance.now c.args.side c.args.placed.now c.args.free.now c.loop-r.r c.loop-r.end c.loop-r.table c.loop-r.invariant.rows c.loop-r.invariant.within c.loop-r-test.true (c.loop-r.invariant.count ∙ c.requires.room)).0

pub pick_others-end-requires-clause-room : goal.pick_others-end-requires-clause-room
pick_others-end-requires-clause-room c =
    let room = (room_for_row c.args.instance.now c.args.side c.args.placed.now c.args.free.now c.loop-r.r c.loop-r.end c.loop-r.table c.loop-r.invariant.rows c.loop-r.invariant.within c.loop-r-test.true (c.loop-r.invariant.count ∙ c.requires.room)).1 in
    omega (arith, room, c.write_linear-behind.ensures.end, c.write_linear-behind.ensures.count, c.ranking_of-row.ensures.count)

pub loop-r-preserved : goal.loop-r-preserved
loop-r-preserved c =
    let I = c.args.instance.now in
    let placed = c.args.placed.now in
    let free = c.args.free.now in
    let r = c.loop-r.r in
    let own = get_or free r 0 in
    let flags = c.marked-is_free.result in
    let row = c.ranking_of-row.result.now in
    let ranking : IsRanking I c.args.side own row = subst (λ k. IsRanking I c.args.side k row) c.from.ensures c.ranking_of-row.ensures.ranking in
    let told : Flags free flags = record { tells = c.marked-is_free.ensures } in
    let moved : IsArranged (others I.size (matrix_of I c.args.side) free r) (others_in flags own row) =
    IsArranged-from_permutation _ _ (IsPermutation-others_in I c.args.side free r flags row c.requires.instance.small c.loop-r-test.true c.requires.rising c.requires.free told ranking) in
    let ordered : IsOrdered c.args.side (others_in flags own row) = IsOrdered-filter c.args.side _ row ranking.ordered in
    record {
      count = c.pick_others-end.ensures.count ∙ c.write_linear-behind.ensures.count ∙ c.loop-r.invariant.count;
      within = c.pick_others-end.ensures.within;
      rows =
          HasFactors-more I c.args.side placed free r own (take c.loop-r.end c.loop-r.table) (take c.write_linear-behind.result c.write_linear-behind.new.numbers) (others_in flags own row)
          (take c.pick_others-end.result c.pick_others-end.new.numbers)
          c.loop-r.invariant.rows c.loop-r-test.true refl c.write_linear-behind.ensures.written moved ordered c.pick_others-end.ensures.picked;
    }
