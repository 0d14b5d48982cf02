use Rattle.std.proofs.Common.{List, ℕ, get_or, length, subst}
use Rattle.plan_answer.specs.declared.pairs.Pair.{Pair}
use Rattle.plan_picture.specs.Arrows.{no_pair}
use Rattle.plan_picture.specs.Joining.{IsJoinedTo}
use Rattle.plan_report.specs.Pairs.{IsPairRow}
use Rattle.plan_report.proofs.pairs.pair_rows.Goals as goal

pub returns : goal.returns
returns c =
    let text = c.in_ok-rows.rows.items in
    let M = λ (pairs : List Pair) (k : ℕ). IsPairRow c.args.problem.now (get_or pairs k no_pair) in
    record {
      pairs = c.in_ok-pairs.pairs.items;
      dearest = c.in_ok-pairs.ensures;
      each = subst (λ (pairs : List Pair). IsJoinedTo (M pairs) (length pairs) text) c.deref.ensures.value c.in_ok-rows.ensures;
    }
