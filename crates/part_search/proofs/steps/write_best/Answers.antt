use Rattle.std.proofs.Common.{List, [], ◌∷◌, ◌++◌, ap, ◌∙◌}
use Rattle.space_txn.specs.Content.{added_of}
use Rattle.tuple_match.specs.FieldValue.{FieldValue}
use Rattle.part_search.proofs.Commits.{may_commit}
use Rattle.part_search.proofs.steps.write_best.Goals as goal

pub returns-clause-may : goal.returns-clause-may
returns-clause-may c = λ done.
    let I = c.args.instance.now in
    let t = c.args.txn.now in
    let b = rw c.in-Some.is at (c.in_ok-found.ensures {u = tt}) in
    let kept = c.keep_better.ensures in
    let written = c.in_ok-write_one.ensures {u = tt} in
    may_commit I c.args.incumbent.now.cost c.args.id t c.write_one.new.txn c.in-Some.found c.keep_better.new.incumbent c.two_marks_law.ensures.taken c.requires.both b
    (kept.incumbent I c.requires.incumbent b.incumbent) kept.no_worse kept.as_good written.marks
    (written.added ∙ ap (λ (w : List FieldValue). added_of t.writes ++ w ∷ []) (c.in_ok-tuple.ensures {u = tt}))
