use Rattle.qap_search.specs.Law.Search.{whole}
use Rattle.qap_search.proofs.LawLemmas.SearchLaws.{cut_trees_are_law}
use Rattle.qap_search.proofs.runs.schedule.play.Goals as goal

pub follow-requires-clause-law : goal.follow-requires-clause-law
follow-requires-clause-law c = cut_trees_are_law (whole c.args.instance.now)
