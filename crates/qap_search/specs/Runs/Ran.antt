-- The run behind the result of a search: what its workers and its keeper did with the space, act by act.
use Rattle.std.specs.Prelude.{◌≡◌, ℕ, ◌<◌, List, count_by, Contains, Option, IfSome, ℤ}
use Rattle.qap_cost.specs.Instance.{Problem}
use Rattle.shared_space.specs.Law.{Content}
use Rattle.shared_space.specs.Limit.{is_reached}
use Rattle.shared_space.specs.Place.{Place, place_of}
use Rattle.shared_space.specs.Run.{ChangesBy, Run, is_accepted}
use Rattle.space_txn.specs.Content.{content_of}
use Rattle.space_txn.specs.World.{World}
use Rattle.qap_search.specs.Certificate.Finished.{IsAssembled}
use Rattle.qap_search.specs.Certificate.Stopped.{IsStopped}
use Rattle.qap_search.specs.Runs.Answer.{accepted_of}
use Rattle.qap_search.specs.Runs.Opening.{IsOpening}
use Rattle.qap_search.specs.Tuples.Piece.{best_tuple, open_count}
use Rattle.qap_search.specs.Law.Replacement.{MayReplace}
use Rattle.qap_search.specs.Law.Search.{Search}
use Rattle.qap_search.specs.declared.runs.answer.Answer.{Answer}
use Rattle.qap_search.specs.declared.runs.answer.Least.{Least}
use Rattle.qap_search.specs.declared.runs.answer.SolveError.{SolveError}
use Rattle.qap_search.specs.declared.runs.answer.SolveError.TheVariants.{Unfinished, Stopped, OutOfMemory}
use Rattle.qap_search.specs.declared.runs.crew.Crew.{Crew}
use Rattle.qap_search.specs.declared.runs.run.Run as ends
use Rattle.qap_search.specs.declared.worker.report.Report.{Report}

-- from the initial space of the search, which nobody has left, a run leads to this world: each act is a step of the machine, under
-- the limit of commits; each commit replaces an open node with what is allowed, each transaction begins with the crew's lease, and
-- no call outside all transactions changes the space
pub record RanTo (S : Search) (crew : Crew) (w : World) : Type 0 where
  pub opening : World
  pub opens : IsOpening S opening
  pub place : Place
  pub is : place.world ≡ w
  pub run : Run (MayReplace S.instance) (λ lease. lease ≡ crew.lease_ms) ⊥ crew.limit (place_of opening crew.workers 0 (is_reached crew.limit 0)) place

-- such a run has this many accepted commits, which alone have changed the content, one after the other; and this holds of the content
-- that it leaves
pub record Ran (S : Search) (crew : Crew) (commits : ℕ) (Holds : Content → Type 0) : Type 0 where
  pub world : World
  pub ran : RanTo S crew world
  pub accepted : count_by is_accepted ran.run.acts ≡ commits
  pub changed : ChangesBy (MayReplace S.instance) commits (content_of ran.opening) (content_of world)
  pub holds : Holds (content_of world)

-- the content is the certificate's tree taken apart, with its permutation
abbrev pub HoldsAnswer : Problem → Answer → Content → Type 0
HoldsAnswer I a content = IsAssembled I.size content a.certificate

-- no node of the content is open, and its permutation is this one, with its cost
pub record HoldsLeast (a : Least) (content : Content) : Type 0 where
  pub none_open : open_count content ≡ 0
  pub best : Contains content (best_tuple a.cost a.permutation)

-- some node of the content is open, and the certificate is that of its tree with each open node closed
pub record HoldsStopped (I : Problem) (a : Answer) (content : Content) : Type 0 where
  pub some_open : 0 < open_count content
  pub stopped : IsStopped I content a.certificate

-- the run behind each reason for no answer
abbrev pub RanToFault : Search → Crew → SolveError → Type 0
RanToFault S crew (Unfinished count) = (commits : ℕ) × Ran S crew commits (λ content. open_count content ≡ count) × IfSome crew.limit (λ n. commits < n)
RanToFault S crew (Stopped a) = Ran S crew (accepted_of a.reports.items) (HoldsStopped S.instance a)
RanToFault S crew OutOfMemory = Unit {0}

-- this holds of the content that the run has left, and these are its reports
pub record Tells (r : ends.Run) (Holds : Content → Type 0) (told : List Report) : Type 0 where
  pub holds : Holds (content_of r.space)
  pub reports : told ≡ r.reports.items

-- what a reason for no answer implies about the run
abbrev pub FaultTells : Problem → ends.Run → SolveError → Type 0
FaultTells I r (Unfinished count) = open_count (content_of r.space) ≡ count
FaultTells I r (Stopped a) = Tells r (HoldsStopped I a) a.reports.items
FaultTells I r OutOfMemory = Unit {0}
