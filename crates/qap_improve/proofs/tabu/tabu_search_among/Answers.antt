use Rattle.qap_improve.proofs.Arrangements.{entries-within}
use Rattle.qap_improve.proofs.tabu.tabu_search_among.Goals as goal

pub search-requires-else-has_small_entries-clause-limited : goal.search-requires-else-has_small_entries-clause-limited
search-requires-else-has_small_entries-clause-limited g c = entries-within c.args.instance.now c.size.ensures.instance
