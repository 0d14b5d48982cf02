use Rattle.std.proofs.Common.{◌≡◌, ℕ, ◌+◌, ◌-◌, ◌*◌, ◌<◌, take, drop, ap, sym, ◌∙◌, subst, arith}
use Rattle.std.specs.List.{All}
use Rattle.gilmore_lawler.specs.declared.ranking.Ranked.{Ranked}
use Rattle.gilmore_lawler.specs.Table.{segment}
use Rattle.gilmore_lawler.proofs.Rankings.{columns_below}
use Rattle.gilmore_lawler.proofs.ranking.ranking_of.Goals as goal

pub returns-clause-columns : goal.returns-clause-columns
returns-clause-columns c =
    let I = c.args.instance.now in
    let n = c.size-n.result in
    let i = c.args.i in
    let rows = c.args.rankings.now in
    let width : i * n + n - i * n ≡ n = omega arith in
    let same : take (i * n + n - i * n) (drop (i * n) rows) ≡ segment I.size rows i =
    ap (λ (k : ℕ). take k (drop (i * n) rows)) width ∙ ap (λ (k : ℕ). segment k rows i) c.size-n.ensures.value in
    subst (All (λ (x : Ranked). x.column < 256)) (sym same)
    (columns_below I c.args.side i (segment I.size rows i) c.size-n.ensures.instance.small (c.requires.rankings.rows i c.requires.row))
