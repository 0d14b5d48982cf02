use Rattle.std.proofs.Common.{◌≡◌, ℕ, refl}
use Rattle.std.specs.Arc.{arc_value}
use Rattle.shared_space.proofs.RunLemmas.{no_acts_yet}
use Rattle.part_search.specs.Law.{best_with}
use Rattle.part_search.specs.Opening.{part_of}
use Rattle.part_search.specs.Replacement.{MayReplace}
use Rattle.part_search.proofs.Replacing.{searched_law}
use Rattle.part_search.proofs.threads.run_of.Goals as goal

pub search-requires-clause-law : goal.search-requires-clause-law
search-requires-clause-law g c =
    let I = arc_value c.args.task.now.ground.now in
    λ κs alive. searched_law (part_of I c.args.task.now.root.now (best_with I c.args.task.now.start.now))

pub search-requires-clause-lease : goal.search-requires-clause-lease
search-requires-clause-lease g c = λ κs alive. refl

pub search-requires-clause-reached : goal.search-requires-clause-reached
search-requires-clause-reached g c =
    let I = arc_value c.args.task.now.ground.now in
    λ κs alive. no_acts_yet (MayReplace I) (λ (lease : ℕ). lease ≡ c.args.crew.lease_ms) ⊥ c.args.crew.limit _

pub returns-clause-ran : goal.returns-clause-ran
returns-clause-ran g c =
    let left = c.in_ok-left.ensures.reached in
    record { opening = c.in_ok-space.space; opens = left.0; place = left.1.place; is = left.1.is; run = left.1.holds }
