-- How a search ends, given what it leaves.
use Rattle.std.specs.Prelude.{◌≡◌, ℕ, ◌<◌, length, Option}
use Rattle.shared_space.specs.Limit.{IsWithin}
use Rattle.space_txn.specs.Content.{content_of}
use Rattle.qap_search.specs.Runs.Answer.{IsOpenBelow, IsStoppedAnswer, accepted_of}
use Rattle.qap_search.specs.Law.CutTree.{IsCutTree}
use Rattle.qap_search.specs.Tuples.Piece.{open_count}
use Rattle.qap_search.specs.Law.Search.{Search}
use Rattle.qap_search.specs.declared.runs.answer.SolveError.{SolveError}
use Rattle.qap_search.specs.declared.runs.answer.SolveError.TheVariants.{Unfinished, Stopped, OutOfMemory}
use Rattle.qap_search.specs.declared.runs.run_ending.Finished.{Finished}
use Rattle.qap_search.specs.declared.runs.run.Run.{Run}

-- a cut tree of the search is left, and reports of its commits, at most the limit
pub record IsEnded (S : Search) (limit : Option ℕ) (r : Run) : Type 0 where
  pub tree : IsCutTree S (content_of r.space) r.space.commits
  pub within : IsWithin limit r.space.commits
  pub counted : accepted_of r.reports.items ≡ r.space.commits

-- no node is open in what the run has left
pub record IsFinished (r : Run) (f : Finished) : Type 0 where
  pub tuples : f.tuples.items ≡ content_of r.space
  pub none_open : open_count f.tuples.items ≡ 0
  pub reports : f.reports.items ≡ r.reports.items

-- what the run has left is no answer: this many of its nodes are open, and the limit of commits was not reached; it was
-- reached while some were open; or memory ran out
abbrev pub IsEndFault : Search → Option ℕ → Run → SolveError → Type 0
IsEndFault S limit r (Unfinished count) = IsOpenBelow limit (content_of r.space) r.space.commits count
IsEndFault S limit r (Stopped a) =
    (0 < open_count (content_of r.space)) × IsStoppedAnswer S (length r.reports.items) limit a
IsEndFault S limit r OutOfMemory = Unit {0}
