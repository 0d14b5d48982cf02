use Rattle.gilmore_lawler.specs.Ranking.{IsRanking}
use Rattle.gilmore_lawler.specs.Table.{IsTable}
use Rattle.gilmore_lawler.proofs.ranking.ranked_rows.Given as goal

abbrev pub invariant-loop-i : goal.invariant-loop-i
invariant-loop-i l = IsTable l.instance.size l.i (IsRanking l.instance l.side) l.rows.items
