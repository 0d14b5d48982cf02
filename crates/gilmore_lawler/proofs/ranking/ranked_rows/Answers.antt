use Rattle.std.proofs.Common.{◌≡◌, ◌+◌, ◌++◌, List, ap, sym, ◌∙◌, subst}
use Rattle.gilmore_lawler.specs.Ranking.{IsRanking}
use Rattle.gilmore_lawler.specs.Table.{IsTable}
use Rattle.gilmore_lawler.specs.declared.ranking.Ranked.{Ranked}
use Rattle.gilmore_lawler.proofs.Rankings.{length-ranking}
use Rattle.gilmore_lawler.proofs.Tables.{IsTable-more}
use Rattle.gilmore_lawler.proofs.ranking.ranked_rows.Goals as goal

pub loop-i-preserved : goal.loop-i-preserved
loop-i-preserved c =
    let I = c.args.instance.now in
    let i = c.loop-i.i in
    let row = c.rank_row.new.row.items in
    let whole : c.extend_from_slice.new.self.items ≡ c.loop-i.rows.items ++ row =
    c.in_ok-extend_from_slice.ensures.items ∙ ap (λ (xs : List Ranked). c.loop-i.rows.items ++ xs) c.deref.ensures.value in
    subst (IsTable I.size (i + 1) (IsRanking I c.args.side)) (sym whole)
    (IsTable-more I.size i (IsRanking I c.args.side) c.loop-i.rows.items row c.loop-i.invariant (length-ranking I c.args.side i row c.in_ok-rank_row.ensures) c.in_ok-rank_row.ensures)
