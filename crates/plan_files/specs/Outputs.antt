-- The outputs of a run, and its result.
use Rattle.std.specs.Prelude.{◌≡◌, ◌≤◌, ℕ, Bool, true, false, List, Option, Some, None}
use Rattle.qap_io.specs.declared.status.Status.{Status}
use Rattle.qap_io.specs.declared.status.Status.TheVariants.{Done, Refused, Usage, OutOfMemory, Unfinished, Stopped}

-- how serious a status is: a run that writes several outputs ends with the most serious one
abbrev pub severity : Status → ℕ
severity Done = 0
severity Stopped = 1
severity Unfinished = 2
severity Refused = 3
severity Usage = 4
severity OutOfMemory = 5

-- the status of a run that failed, and did not merely end early
abbrev pub IsFailure : Status → Type 0
IsFailure s = 2 ≤ severity s

-- the status of a run that did what it was asked to, or ended early
abbrev pub IsSuccess : Status → Type 0
IsSuccess s = severity s ≤ 1

-- a step of a run ended thus: it was done, and this holds, or it failed
abbrev pub EndsWith : Status → Type 0 → Type 0
EndsWith Done Holds = Holds
EndsWith s Holds = IsFailure s

-- from a sink to a sink by an output that may be requested: without a name nothing is written, and otherwise the file of that name
-- takes a text of which this holds
abbrev pub WritesFor : {S : Type 0} → (S → List ℕ → List ℕ → S → Type 0) → Option (List ℕ) → (List ℕ → Type 0) → S → S → Type 0
WritesFor Writes None Tells old new = new ≡ old
WritesFor Writes (Some name) Tells old new = (text : List ℕ) × Tells text × Writes old name text new

-- likewise by what is printed, unless the run is quiet
abbrev pub PrintsFor : {S : Type 0} → (S → List ℕ → S → Type 0) → Bool → (List ℕ → Type 0) → S → S → Type 0
PrintsFor Prints true Tells old new = new ≡ old
PrintsFor Prints false Tells old new = (text : List ℕ) × Tells text × Prints old text new
