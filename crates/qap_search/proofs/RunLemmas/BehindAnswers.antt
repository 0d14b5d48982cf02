-- The run behind what a search yields, from the run that led to what it left.
use Rattle.std.proofs.Common.{◌≡◌, ℕ, List, Option, Result, Ok, Err, MatchResult, count_by, arith, ap, refl, subst}
use Rattle.shared_space.specs.Law.{Content}
use Rattle.shared_space.specs.Limit.{is_reached}
use Rattle.shared_space.specs.Place.{Place, place_of}
use Rattle.shared_space.specs.Run.{ChangesBy, is_accepted}
use Rattle.shared_space.proofs.ContentRuns.{run_changes}
use Rattle.shared_space.proofs.RunLemmas.{acts_counted}
use Rattle.space_txn.specs.Content.{content_of}
use Rattle.space_txn.specs.World.{World}
use Rattle.qap_search.specs.Law.Replacement.{MayReplace}
use Rattle.qap_search.specs.Runs.Answer.{accepted_of}
use Rattle.qap_search.specs.Runs.Outcome.{IsEndFault, IsEnded}
use Rattle.qap_search.specs.Runs.Ran.{FaultTells, HoldsStopped, Ran, RanTo, RanToFault, Tells}
use Rattle.qap_search.specs.Law.Search.{Search}
use Rattle.qap_search.specs.Tuples.Piece.{open_count}
use Rattle.qap_search.specs.declared.runs.answer.SolveError.{SolveError}
use Rattle.qap_search.specs.declared.runs.answer.SolveError.TheVariants.{Unfinished, Stopped, OutOfMemory}
use Rattle.qap_search.specs.declared.runs.crew.Crew.{Crew}
use Rattle.qap_search.specs.declared.runs.run.Run.{Run}
use Rattle.qap_search.specs.declared.worker.report.Report.{Report}

-- a run's accepted commits are those of the world that it leads to
accepted_are : (S : Search) (crew : Crew) (w : World) (ran : RanTo S crew w) → count_by is_accepted ran.run.acts ≡ w.commits
accepted_are S crew w ran =
    let counted = acts_counted crew.limit (place_of ran.opening crew.workers 0 (is_reached crew.limit 0)) ran.place ran.run.acts ran.run.lead in
    let same = ap (λ (v : World). v.commits) ran.is in
    omega (arith, counted, ran.opens.fresh, same)

-- so that the run to this world has this many, by which alone the content has changed
ran_by : (S : Search) (crew : Crew) (w : World) (commits : ℕ) (Holds : Content → Type 0) → RanTo S crew w → w.commits ≡ commits → Holds (content_of w) → Ran S crew commits Holds
ran_by S crew w commits Holds ran is holds =
    let accepted = accepted_are S crew w ran in
    let counted : count_by is_accepted ran.run.acts ≡ commits = omega (arith, accepted, is) in
    let never : ⊥ → ⊥ = λ none. none in
    let allowed = MayReplace S.instance in
    let first = place_of ran.opening crew.workers 0 (is_reached crew.limit 0) in
    let changes = run_changes allowed (λ lease. lease ≡ crew.lease_ms) ⊥ never crew.limit first ran.place ran.run in
    let changed = subst (λ (n : ℕ). ChangesBy allowed n (content_of ran.opening) (content_of ran.place.world)) counted changes in
    record {
      world = w;
      ran = ran;
      accepted = counted;
      changed = subst (λ (v : World). ChangesBy allowed commits (content_of ran.opening) (content_of v)) ran.is changed;
      holds = holds;
    }

-- as many commits as an answer's reports say
ran_so : (S : Search) (crew : Crew) (r : Run) (Holds : Content → Type 0) (reports : List Report) → RanTo S crew r.space → IsEnded S crew.limit r → Tells r Holds reports → Ran S crew (accepted_of reports) Holds
ran_so S crew r Holds reports ran ended told =
    let same = ap accepted_of told.reports in
    ran_by S crew r.space (accepted_of reports) Holds ran (omega (arith, same, ended.counted)) told.holds

ran_to_fault : (S : Search) (crew : Crew) (r : Run) (e : SolveError) → RanTo S crew r.space → IsEnded S crew.limit r → IsEndFault S crew.limit r e → FaultTells S.instance r e → RanToFault S crew e
ran_to_fault S crew r (Unfinished count) ran ended fault told =
    (r.space.commits, ran_by S crew r.space r.space.commits (λ content. open_count content ≡ count) ran refl told, fault.below)
ran_to_fault S crew r (Stopped a) ran ended fault told = ran_so S crew r (HoldsStopped S.instance a) a.reports.items ran ended told
ran_to_fault S crew r OutOfMemory ran ended fault told = tt

-- what a search yields, with the run behind it
pub ran_behind : {X : Type 0} (reports : X → List Report) (Holds : X → Content → Type 0) (S : Search) (crew : Crew) (r : Run) (P : X → Type 0) (result : Result X SolveError) → RanTo S crew r.space → IsEnded S crew.limit r
    → MatchResult result P (IsEndFault S crew.limit r) → MatchResult result (λ a. Tells r (Holds a) (reports a)) (FaultTells S.instance r)
    → MatchResult result (λ a. Ran S crew (accepted_of (reports a)) (Holds a)) (RanToFault S crew)
ran_behind reports Holds S crew r P (Ok a) ran ended answer told = ran_so S crew r (Holds a) (reports a) ran ended told
ran_behind reports Holds S crew r P (Err e) ran ended fault told = ran_to_fault S crew r e ran ended fault told
