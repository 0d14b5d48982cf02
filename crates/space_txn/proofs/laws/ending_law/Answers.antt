use Rattle.space_txn.proofs.EndingLemmas.{ended_unmarked, left_live, open_again}
use Rattle.space_txn.proofs.RuleLemmas.{abort_unmarks, commit_unmarks}
use Rattle.space_txn.proofs.laws.ending_law.Goals as goal

pub returns : goal.returns
returns c = record { aborts = abort_unmarks; commits = commit_unmarks; ended = ended_unmarked; live = left_live; freed = open_again }
