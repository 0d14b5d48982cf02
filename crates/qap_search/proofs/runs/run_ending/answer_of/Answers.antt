use Rattle.std.proofs.Common.{◌≡◌, ◌∙◌, ℕ, List, length, sym, ap, subst}
use Rattle.shared_space.specs.Limit.{IsWithin}
use Rattle.std.proofs.lemmas.Result.{err_from_is_err_and}
use Rattle.qap_search.specs.Runs.Answer.{CertifiesLeast, accepted_of}
use Rattle.tuple_match.specs.FieldValue.{FieldValue}
use Rattle.qap_search.specs.Certificate.Finished.{IsAssembled}
use Rattle.qap_search.specs.Runs.Outcome.{IsFinished}
use Rattle.qap_search.specs.Law.Search.{from_root}
use Rattle.qap_search.proofs.RunLemmas.Outcomes.{finished_tree}
use Rattle.qap_search.proofs.runs.run_ending.answer_of.Goals as goal

pub returns-clause-answer : goal.returns-clause-answer
returns-clause-answer g c = λ known ended.
    let I = c.args.instance.now in
    let commits = c.args.run.space.commits in
    let f = c.in_ok-tuples.field-0 in
    let h : IsFinished c.args.run f = c.in_ok-tuples.ensures.finished known ended in
    let tree = finished_tree (from_root I known) c.args.limit c.args.run f ended h in
    let same : accepted_of f.reports.items ≡ commits = ap accepted_of h.reports ∙ ended.counted in
    record {
      least = subst (λ (n : ℕ). CertifiesLeast I n c.in_ok-certificate.certificate) (sym same) (c.in_ok-certificate.ensures.certifies known commits tree);
      one_each = ap length h.reports;
      within = subst (IsWithin c.args.limit) (sym same) ended.within;
    }

pub returns-clause-tells : goal.returns-clause-tells
returns-clause-tells g c =
    let ended = c.requires.ended in
    let h : IsFinished c.args.run c.in_ok-tuples.field-0 = c.in_ok-tuples.ensures.finished ended.0 ended.1 in
    record {
      holds = subst (λ (ts : List (List FieldValue)). IsAssembled c.args.instance.now.size ts c.in_ok-certificate.certificate) h.tuples c.in_ok-certificate.ensures.assembled;
      reports = c.in_ok-tuples.ensures.tells.reports;
    }

pub returns-in_err-tuples-clause-answer : goal.returns-in_err-tuples-clause-answer
returns-in_err-tuples-clause-answer g c = λ known ended.
    let p = err_from_is_err_and c.from_residual.result c.from_residual.ensures.1 in
    rw (p.1, p.2) (c.in_err-tuples.ensures.finished known ended)

pub assembled-requires-clause-tree : goal.assembled-requires-clause-tree
assembled-requires-clause-tree g c =
    let I = c.args.instance.now in
    let ended = c.requires.ended in
    let f = c.in_ok-tuples.field-0 in
    (ended.0, c.args.run.space.commits, finished_tree (from_root I ended.0) c.args.limit c.args.run f ended.1 (c.in_ok-tuples.ensures.finished ended.0 ended.1))

pub assembled-requires-clause-none_open : goal.assembled-requires-clause-none_open
assembled-requires-clause-none_open g c =
    let ended = c.requires.ended in
    let h : IsFinished c.args.run c.in_ok-tuples.field-0 = c.in_ok-tuples.ensures.finished ended.0 ended.1 in
    h.none_open
