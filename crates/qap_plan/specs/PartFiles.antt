-- A search that is split into parts, in files of a folder.
use Rattle.std.specs.Prelude.{◌≡◌, ◌++◌, ◌==◌, ⊤, ℕ, ℤ, Bool, List, None, Option, Some, codes, if◌then◌else◌, length, nat_lt, option_copied, string_bytes}
use Rattle.std.specs.Fmt.{decimal, signed_decimal}
use Rattle.qap_cost.specs.Instance.{Problem}
use Rattle.qap_io.specs.declared.status.Status.{Status}
use Rattle.qap_io.specs.declared.status.Status.TheVariants.{Done, Stopped}
use Rattle.qap_proof.specs.Text.{IsProofText}
use Rattle.qap_text.specs.WrittenSolution.{solution_text}
use Rattle.qap_plan.specs.Estimates.{PrintsEstimates}
use Rattle.qap_plan.specs.NodeLines.{node_lines}
use Rattle.qap_plan.specs.Parts.{IsSplitUp}
use Rattle.plan_files.specs.Searched.{IsSearchedIn}
use Rattle.plan_files.specs.Starting.{IsSolutionIn}
use Rattle.qap_plan.specs.declared.commands.split.PartFiles.{PartFiles}
use Rattle.qap_plan.specs.declared.commands.split.PartTexts.{PartTexts}
use Rattle.qap_plan.specs.declared.commands.split.SplitRequest.{SplitRequest}
use Rattle.plan_files.specs.declared.instance_file.Searched.{Searched}
use Rattle.qap_plan.specs.declared.search.splitting.Skeleton.{Skeleton}

-- a name is that of a file in a folder
abbrev pub IsFileIn : List ℕ → List ℕ → List ℕ → Type 0
IsFileIn folder file name = name ≡ folder ++ codes "/" ++ file

-- the files of a folder
pub record ArePartFiles (folder : List ℕ) (f : PartFiles) : Type 0 where
  pub proof : IsFileIn folder (codes "skeleton.proof") (string_bytes f.proof)
  pub best : IsFileIn folder (codes "best.sln") (string_bytes f.best)
  pub parts : IsFileIn folder (codes "parts.txt") (string_bytes f.parts)

-- what is proved about the cost, and how many parts are left
abbrev pub split_line : ℤ → ℤ → ℕ → List ℕ
split_line c g left =
    if left == 0
    then codes "cost " ++ signed_decimal c ++ codes ", optimal, proved: no part is left\n"
    else codes "cost " ++ signed_decimal c ++ codes ", within " ++ signed_decimal g ++ codes " to " ++ signed_decimal c ++ codes ", proved: " ++ decimal left ++ codes " parts are left\n"

-- the proof so far, its permutation, a line for each part, and a line on all of it
pub record AreTextsOf (s : Skeleton) (t : PartTexts) : Type 0 where
  pub proof : IsProofText t.proof.items s.proof
  pub best : t.best.items ≡ solution_text s.proof.cost s.proof.permutation
  pub parts : t.parts.items ≡ node_lines s.parts.items
  pub line : string_bytes t.line ≡ split_line s.proof.cost s.proof.bound (length s.parts.items)

-- from a sink to a sink by the three files
pub record WritesParts {S : Type 0} (Writes : S → List ℕ → List ℕ → S → Type 0) (f : PartFiles) (t : PartTexts) (old new : S) : Type 0 where
  pub proved : S
  pub solved : S
  pub proof : Writes old (string_bytes f.proof) t.proof.items proved
  pub best : Writes proved (string_bytes f.best) t.best.items solved
  pub parts : Writes solved (string_bytes f.parts) t.parts.items new

-- and by the line
pub record TellsSplit {S : Type 0} (Writes : S → List ℕ → List ℕ → S → Type 0) (Prints : S → List ℕ → S → Type 0) (f : PartFiles) (s : Skeleton) (old new : S) : Type 0 where
  pub texts : PartTexts
  pub written : S
  pub of_skeleton : AreTextsOf s texts
  pub writes : WritesParts Writes f texts old written
  pub prints : Prints written (string_bytes texts.line) new

-- and then, if they are requested, by estimates of the parts
pub record TellsParts {S : Type 0} (Writes : S → List ℕ → List ℕ → S → Type 0) (Prints : S → List ℕ → S → Type 0) (estimates : Bool) (f : PartFiles) (s : Skeleton) (old new : S) : Type 0 where
  pub told : S
  pub tells : TellsSplit Writes Prints f s old told
  pub adds : PrintsEstimates Prints estimates (length s.parts.items) told new

-- if a file is named, the start is the solution in it
abbrev pub BeginsIn : (List ℕ → List ℕ → Type 0) → Option (List ℕ) → Problem → Option (List ℕ) → Type 0
BeginsIn Holds None I start = ⊤
BeginsIn Holds (Some file) I None = ⊥
BeginsIn Holds (Some file) I (Some p) = IsSolutionIn Holds file I p

-- how a run ends that leaves some parts: early if they are fewer than requested
abbrev pub split_status : ℕ → ℕ → Status
split_status left wanted = if left == 0 then Done else (if nat_lt left wanted then Stopped else Done)

-- from a sink to a sink by the parts of a search from a start, if there is one; and how the run ends
pub record SplitsSearched {S : Type 0} (Writes : S → List ℕ → List ℕ → S → Type 0) (Prints : S → List ℕ → S → Type 0) (r : SplitRequest) (f : PartFiles) (s : Searched) (start : Option (List ℕ)) (status : Status) (old new : S) : Type 0 where
  pub skeleton : Skeleton
  pub split : IsSplitUp s.instance s.root start skeleton
  pub tells : TellsParts Writes Prints r.estimate f skeleton old new
  pub ends : status ≡ split_status (length skeleton.parts.items) r.parts

-- from a sink to a sink by the parts of what is read from a file, in the files of a folder
pub record SplitsUp {S : Type 0} (Holds : List ℕ → List ℕ → Type 0) (Writes : S → List ℕ → List ℕ → S → Type 0) (Prints : S → List ℕ → S → Type 0) (r : SplitRequest) (status : Status) (old new : S) : Type 0 where
  pub searched : Searched
  pub start : Option (List ℕ)
  pub files : PartFiles
  pub read : IsSearchedIn Holds r.file.now r.options.passes searched
  pub begins : BeginsIn Holds (option_copied r.start) searched.instance start
  pub named : ArePartFiles r.folder.now files
  pub splits : SplitsSearched Writes Prints r files searched start status old new
