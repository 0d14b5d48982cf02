use Rattle.std.proofs.Common.{◌≡◌, ◌∙◌, List, subst, sym, rules, to_z, of_z}
use Rattle.std.specs.Prelude.{Contains}
use Rattle.std.specs.Int.{w128}
use Rattle.std.proofs.lemmas.Result.{err_from_is_err_and}
use Rattle.tuple_match.specs.FieldValue.{FieldValue}
use Rattle.qap_search.specs.Law.CutTree.{IsCutTree}
use Rattle.qap_search.specs.Runs.Outcome.{IsFinished}
use Rattle.qap_search.specs.Tuples.Piece.{best_tuple, open_count}
use Rattle.qap_search.specs.Law.Search.{Search, from_root}
use Rattle.qap_search.proofs.RunLemmas.Outcomes.{best_there, finished_tree, least_left}
use Rattle.qap_search.proofs.runs.run_ending.least_of.Goals as goal

pub returns-clause-answer : goal.returns-clause-answer
returns-clause-answer g c = λ known ended.
    let S : Search = from_root c.args.instance.now known in
    let r = c.args.run in
    let f = c.in_ok-tuples.field-0 in
    let tuples = c.deref.result.now in
    let h : IsFinished r f = c.in_ok-tuples.ensures.finished known ended in
    let tree : IsCutTree S tuples r.space.commits = rw c.deref.ensures.value (finished_tree S c.args.limit r f ended h) in
    let none : open_count tuples ≡ 0 = rw c.deref.ensures.value h.none_open in
    let best = c.in_ok-permutation.ensures {u = tt} S r.space.commits tree in
    let same : to_z w128 (of_z w128 c.in_ok-permutation.cost) ≡ c.in_ok-permutation.cost = search rules in
    least_left S c.args.limit r _ tuples ended tree none best.0 (best.1 ∙ sym same) h.reports

pub returns-clause-tells : goal.returns-clause-tells
returns-clause-tells g c =
    let ended = c.requires.ended in
    let S : Search = from_root c.args.instance.now ended.0 in
    let r = c.args.run in
    let f = c.in_ok-tuples.field-0 in
    let tuples = c.deref.result.now in
    let h : IsFinished r f = c.in_ok-tuples.ensures.finished ended.0 ended.1 in
    let tree : IsCutTree S tuples r.space.commits = rw c.deref.ensures.value (finished_tree S c.args.limit r f ended.1 h) in
    let found = c.in_ok-permutation.ensures {u = tt} S r.space.commits tree in
    let same : to_z w128 (of_z w128 c.in_ok-permutation.cost) ≡ c.in_ok-permutation.cost = search rules in
    let p = c.in_ok-permutation.permutation in
    let cost = to_z w128 (of_z w128 c.in_ok-permutation.cost) in
    let there = best_there S tuples r.space.commits tree p cost found.0 (found.1 ∙ sym same) in
    record {
      holds = record {
        none_open = c.in_ok-tuples.ensures.tells.holds;
        best = subst (λ (ts : List (List FieldValue)). Contains ts (best_tuple cost p)) (c.deref.ensures.value ∙ h.tuples) there;
      };
      reports = c.in_ok-tuples.ensures.tells.reports;
    }

pub returns-in_err-tuples-clause-answer : goal.returns-in_err-tuples-clause-answer
returns-in_err-tuples-clause-answer g c = λ known ended.
    let p = err_from_is_err_and c.from_residual.result c.from_residual.ensures.1 in
    rw (p.1, p.2) (c.in_err-tuples.ensures.finished known ended)

pub best_of-requires : goal.best_of-requires
best_of-requires g c =
    let ended = c.requires.ended in
    let S : Search = from_root c.args.instance.now ended.0 in
    let r = c.args.run in
    let f = c.in_ok-tuples.field-0 in
    let tree : IsCutTree S f.tuples.items r.space.commits = finished_tree S c.args.limit r f ended.1 (c.in_ok-tuples.ensures.finished ended.0 ended.1) in
    (S, r.space.commits, rw c.deref.ensures.value tree)
