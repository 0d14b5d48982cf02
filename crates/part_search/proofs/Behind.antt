-- The run behind an answer, from the run that led to the space that it was read from.
use Rattle.std.proofs.Common.{◌≡◌, ℕ, count_by, arith, ap, subst, sym}
use Rattle.shared_space.specs.Limit.{is_reached}
use Rattle.shared_space.specs.Place.{place_of}
use Rattle.shared_space.specs.Run.{ChangesBy, is_accepted}
use Rattle.shared_space.proofs.ContentRuns.{run_changes}
use Rattle.shared_space.proofs.RunLemmas.{acts_counted}
use Rattle.space_txn.specs.Content.{content_of}
use Rattle.space_txn.specs.World.{World}
use Rattle.part_search.specs.Law.{Part}
use Rattle.part_search.specs.Ran.{IsReadFrom, Ran, RanTo}
use Rattle.part_search.specs.Replacement.{MayReplace}
use Rattle.part_search.specs.declared.answer.Answer.{Answer}
use Rattle.part_search.specs.declared.threads.Crew.{Crew}

-- a run's accepted commits are those of the world that it leads to
accepted_are : (S : Part) (crew : Crew) (w : World) (ran : RanTo S crew w) → count_by is_accepted ran.run.acts ≡ w.commits
accepted_are S crew w ran =
    let counted = acts_counted crew.limit (place_of ran.opening crew.workers 0 (is_reached crew.limit 0)) ran.place ran.run.acts ran.run.lead in
    let same = ap (λ (v : World). v.commits) ran.is in
    omega (arith, counted, ran.opens.fresh, same)

-- the run behind an answer that counts the commits of the world, and was read from its content
pub ran_by : (S : Part) (crew : Crew) (w : World) (a : Answer) → RanTo S crew w → a.nodes ≡ w.commits → IsReadFrom (content_of w) a → Ran S crew a
ran_by S crew w a ran is read =
    let accepted = accepted_are S crew w ran in
    let counted : count_by is_accepted ran.run.acts ≡ a.nodes = omega (arith, accepted, is) in
    let never : ⊥ → ⊥ = λ none. none in
    let allowed = MayReplace S.instance in
    let first = place_of ran.opening crew.workers 0 (is_reached crew.limit 0) in
    let changes = run_changes allowed (λ lease. lease ≡ crew.lease_ms) ⊥ never crew.limit first ran.place ran.run in
    let changed = subst (λ (n : ℕ). ChangesBy allowed n (content_of ran.opening) (content_of ran.place.world)) counted changes in
    record {
      world = w;
      ran = ran;
      accepted = counted;
      changed = subst (λ (v : World). ChangesBy allowed a.nodes (content_of ran.opening) (content_of v)) ran.is changed;
      read = read;
    }
