use Rattle.std.proofs.Common.{refl, ap, ◌∙◌, rules, arith}
use Rattle.qap_search.specs.Law.CutTree.{IsCutTree}
use Rattle.qap_search.specs.Tuples.Piece.{open_count}
use Rattle.qap_search.specs.Law.Search.{from_root}
use Rattle.qap_search.proofs.runs.run_ending.finished_run.Goals as goal

pub returns-clause-finished : goal.returns-clause-finished
returns-clause-finished g c = λ known ended.
    let I = c.args.instance.now in
    let commits = c.args.run.space.commits in
    let tree : IsCutTree (from_root I known) c.in-Ok.tuples.items commits = rw (c.in-Ok.ensures.ok) ended.tree in
    let closed = c.in_ok-certificate.ensures.certifies known commits tree in
    let count = c.open_nodes-open.ensures ∙ ap open_count (c.deref.ensures.value ∙ c.in-Ok.ensures.ok) in
    let some = c.if-open-eq0.false in (
      omega (arith, count, some),
      record {
        reached = search rules;
        one_each = refl;
        stopped = rw ended.counted closed.0;
        no_dearer = closed.1;
      },
    )
