use Rattle.std.proofs.Common.{arith}
use Rattle.std.proofs.lemmas.Int.{ints}
use Rattle.subtree_search.proofs.Needing.{not_above}
use Rattle.subtree_search.proofs.level.Level.closes_trivially.Goals as goal

pub returns-clause-least : goal.returns-clause-least
returns-clause-least c =
    let ensures = c.closes_trivially-closes.ensures in
    record {
      u = _;
      v = _;
      rows = ensures.rows;
      columns = ensures.columns;
      closes = λ closes. let above = ensures.closes.0 closes in omega (arith, ints, above);
      left = λ fails. let most = not_above _ _ _ ensures.closes.1 fails in omega (arith, ints, most);
    }
