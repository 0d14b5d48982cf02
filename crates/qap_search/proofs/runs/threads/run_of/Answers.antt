use Rattle.std.proofs.Common.{◌≡◌, ℕ, refl}
use Rattle.std.proofs.lemmas.Result.{IfOk-weaker}
use Rattle.shared_space.proofs.RunLemmas.{no_acts_yet}
use Rattle.qap_search.specs.Law.Replacement.{MayReplace}
use Rattle.qap_search.specs.Law.Search.{whole}
use Rattle.qap_search.proofs.LawLemmas.SearchLaws.{cut_trees_are_law}
use Rattle.qap_search.proofs.runs.threads.run_of.Goals as goal

pub search-requires-clause-law : goal.search-requires-clause-law
search-requires-clause-law g c =
    let I = c.args.instance.now in
    λ κs alive. cut_trees_are_law (whole I)

pub returns-clause-ran : goal.returns-clause-ran
returns-clause-ran g c =
    let opens = c.in_ok-space.ensures in
    IfOk-weaker c.search.result _ _ (λ run reached. record { opening = c.in_ok-space.space; opens = opens; place = reached.place; is = reached.is; run = reached.holds }) c.search.ensures.reached

pub search-requires-clause-reached : goal.search-requires-clause-reached
search-requires-clause-reached g c =
    let I = c.args.instance.now in
    let S = whole I in
    λ κs alive. no_acts_yet (MayReplace S.instance) (λ (lease : ℕ). lease ≡ c.args.crew.lease_ms) ⊥ c.args.crew.limit _

pub search-requires-clause-lease : goal.search-requires-clause-lease
search-requires-clause-lease g c = λ κs alive. refl
