use Rattle.std.specs.Prelude.{None}
use Rattle.qap_search.specs.Runs.Answer.{IsAnswer}
use Rattle.qap_search.specs.Law.Search.{whole}
use Rattle.qap_search.proofs.RunLemmas.Outcomes.{told_of}
use Rattle.qap_search.proofs.LawLemmas.SearchLaws.{cut_trees_are_law}
use Rattle.qap_search.proofs.runs.alone.solve_alone.Goals as goal

pub search-requires-clause-law : goal.search-requires-clause-law
search-requires-clause-law g c = cut_trees_are_law (whole c.args.instance.now)

pub returns : goal.returns
returns g c =
    let I = c.args.instance.now in
    let ended = c.in_ok-run.ensures.ended in
    told_of (whole I) 1 None c.in_ok-run.run' (λ n a. IsAnswer I n None a) c.answer_of.result ended c.in_ok-run.ensures.one (c.answer_of.ensures.answer (whole I).known ended)
