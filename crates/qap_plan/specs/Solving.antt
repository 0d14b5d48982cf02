-- A part that is solved.
use Rattle.std.specs.Prelude.{◌≡◌, ◌≤ℤ◌, ◌⊎◌, ℕ, ℤ, List, [], IfSome, Some, codes}
use Rattle.qap_cost.specs.Objective.{cost_of}
use Rattle.qap_io.specs.declared.status.Status.{Status}
use Rattle.qap_proof.specs.NodeText.{node_text}
use Rattle.qap_proof.specs.declared.over_root.Stated.{Stated}
use Rattle.qap_plan.specs.Answer.{part_line}
use Rattle.plan_search.specs.Keeping.{IsSearched}
use Rattle.qap_plan.specs.Outcome.{status_of}
use Rattle.qap_plan.specs.Proofs.{Is, MakesFor, ShowsFor, TellsProof}
use Rattle.plan_files.specs.Searched.{IsSearchedIn}
use Rattle.plan_search.specs.Standing.{IsStanding}
use Rattle.plan_files.specs.Starting.{IsSolutionIn}
use Rattle.qap_plan.specs.declared.commands.part.PartRequest.{PartRequest}
use Rattle.qap_plan.specs.declared.commands.part.Posed.{Posed}
use Rattle.plan_search.specs.declared.planning.Planned.{Planned}
use Rattle.qap_plan.specs.declared.output.proof_file.AnswerProof.{AnswerProof}
use Rattle.qap_plan.specs.declared.output.proof_file.Proved.{Proved}

-- the part is the node that is spelled, of what is read from one file, and the start is that in another
pub record IsPosed (Holds : List ℕ → List ℕ → Type 0) (r : PartRequest) (p : Posed) : Type 0 where
  pub searched : IsSearchedIn Holds r.file.now r.options.passes p.searched
  pub node : r.node.now ≡ node_text p.node
  pub start : IsSolutionIn Holds r.start.now p.searched.instance p.start

-- by the proof in a file the part is complete
pub record Stands (Holds : List ℕ → List ℕ → Type 0) (file : List ℕ) (p : Posed) (s : Stated) : Type 0 where
  pub text : List ℕ
  pub held : Holds file text
  pub standing : IsStanding p.searched.instance p.node (cost_of p.searched.instance p.start) text s

-- what a search of the part has found, with its proof
pub record IsSolved (p : Posed) (a : Proved) : Type 0 where
  pub searched : IsSearched p.searched.instance p.node p.start a.planned.permutation a.planned.cost a.planned.bound
  pub proof : IfSome a.proof (MakesFor p.searched.instance (Is p.node) a.planned.permutation a.planned.cost a.planned.bound)

-- from a sink to a sink by the line on a part; and how the run ends
pub record TellsPart {S : Type 0} (Prints : S → List ℕ → S → Type 0) (cost bound : ℤ) (when : List ℕ) (status : Status) (old new : S) : Type 0 where
  pub prints : Prints old (part_line cost bound when) new
  pub ends : status ≡ status_of cost bound

-- from a sink to a sink by the text of the proof of a part, and the line on it
pub record WritesPart {S : Type 0} (Writes : S → List ℕ → List ℕ → S → Type 0) (Prints : S → List ℕ → S → Type 0) (file : List ℕ) (a : Proved) (status : Status) (old new : S) : Type 0 where
  pub proof : AnswerProof
  pub written : S
  pub is : a.proof ≡ Some proof
  pub puts : (text : List ℕ) × TellsProof proof text × Writes old file text written
  pub tells : TellsPart Prints a.planned.cost a.planned.bound [] status written new

-- from a sink to a sink by the line on a proof that is kept, with the lesser of its cost and the start's
pub record TellsKept {S : Type 0} (Prints : S → List ℕ → S → Type 0) (p : Posed) (stated : Stated) (status : Status) (old new : S) : Type 0 where
  pub cost : ℤ
  pub least : (cost ≡ stated.cost) ⊎ (cost ≡ cost_of p.searched.instance p.start)
  pub at_most : cost ≤ℤ stated.cost
  pub no_dearer : cost ≤ℤ cost_of p.searched.instance p.start
  pub tells : TellsPart Prints cost stated.bound (codes " before") status old new

-- a proof that was there before suffices, and only that is told
pub record KeepsPart {S : Type 0} (Holds : List ℕ → List ℕ → Type 0) (Prints : S → List ℕ → S → Type 0) (file : List ℕ) (p : Posed) (status : Status) (old new : S) : Type 0 where
  pub stated : Stated
  pub stands : Stands Holds file p stated
  pub tells : TellsKept Prints p stated status old new

-- otherwise the part is searched, and a proof of what is found is written, and the line on it
pub record FindsPart {S : Type 0} (Writes : S → List ℕ → List ℕ → S → Type 0) (Prints : S → List ℕ → S → Type 0) (file : List ℕ) (p : Posed) (status : Status) (old new : S) : Type 0 where
  pub found : Planned
  pub text : List ℕ
  pub written : S
  pub searched : IsSearched p.searched.instance p.node p.start found.permutation found.cost found.bound
  pub shows : ShowsFor p.searched.instance (Is p.node) found.permutation found.cost found.bound text
  pub writes : Writes old file text written
  pub tells : TellsPart Prints found.cost found.bound [] status written new

-- from a sink to a sink by the part that is requested
pub record SolvesPart {S : Type 0} (Holds : List ℕ → List ℕ → Type 0) (Writes : S → List ℕ → List ℕ → S → Type 0) (Prints : S → List ℕ → S → Type 0) (r : PartRequest) (status : Status) (old new : S) : Type 0 where
  pub posed : Posed
  pub is_posed : IsPosed Holds r posed
  pub solved : KeepsPart Holds Prints r.proof.now posed status old new ⊎ FindsPart Writes Prints r.proof.now posed status old new
