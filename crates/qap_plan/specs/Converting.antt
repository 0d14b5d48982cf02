-- A plan that is converted to an instance.
use Rattle.std.specs.Prelude.{◌≡◌, ◌⊎◌, ◌∷◌, ◌++◌, [], ℕ, Bool, List, Option, None, Some, codes, string_bytes, if◌then◌else◌}
use Rattle.qap_cost.specs.Instance.{Problem}
use Rattle.qap_cost.specs.Placement.{Placement}
use Rattle.qap_text.specs.InstanceText.{IsInstanceText}
use Rattle.plan_charge.specs.Restricted.{Restricts}
use Rattle.plan_check.specs.Answer.{StatesNames}
use Rattle.plan_input.specs.Loaded.{IsLoaded}
use Rattle.plan_input.specs.declared.loading.Loaded.{Loaded}
use Rattle.plan_files.specs.Outputs.{WritesFor}
use Rattle.plan_files.specs.Sources.{IsPlain}
use Rattle.qap_plan.specs.declared.commands.convert.ConvertRequest.{ConvertRequest}
use Rattle.qap_plan.specs.declared.commands.converting.Converted.{Converted}

-- the text of the larger instance that has what a plan's places cost and which are forbidden
pub record IsLargerText (l : Loaded) (text : List ℕ) : Type 0 where
  pub instance : Problem
  pub node : Placement
  pub restricts : Restricts l.problem.instance l.problem.fixed l.charges l.forbidden instance node
  pub spells : IsInstanceText text instance (10 ∷ [])

-- the text of a plan's instance, or of the larger one if places cost something or are forbidden, with nothing behind it
abbrev pub IsInstanceOf : Loaded → List ℕ → Type 0
IsInstanceOf l text = (IsPlain l × IsInstanceText text l.problem.instance (10 ∷ [])) ⊎ IsLargerText l text

-- the text of the instance, and the names
pub record IsConverted (l : Loaded) (c : Converted) : Type 0 where
  pub instance : IsInstanceOf l c.text.items
  pub names : StatesNames l.problem c.names.items

-- the file of the names is named after that of the instance
abbrev pub names_file : List ℕ → List ℕ
names_file out = out ++ codes ".json"

-- from a sink to a sink by the names, if they have a file, the instance, and a line
pub record WritesConverted {S : Type 0} (Writes : S → List ℕ → List ℕ → S → Type 0) (Prints : S → List ℕ → S → Type 0) (beside : Option (List ℕ)) (out : List ℕ) (c : Converted) (old new : S) : Type 0 where
  pub named : S
  pub written : S
  pub names : WritesFor Writes beside (λ t. t ≡ c.names.items) old named
  pub instance : Writes named out c.text.items written
  pub line : Prints written (string_bytes c.line) new

-- from a sink to a sink by what becomes of the plan in a file: its names are written beside its instance, unless that goes to a device
pub record Converts {S : Type 0} (Holds : List ℕ → List ℕ → Type 0) (Writes : S → List ℕ → List ℕ → S → Type 0) (Prints : S → List ℕ → S → Type 0) (HoldsDevice : S → List ℕ → Bool → Type 0) (r : ConvertRequest) (old new : S) : Type 0 where
  pub loaded : Loaded
  pub texts : Converted
  pub is_device : Bool
  pub read : IsLoaded Holds r.plan.now loaded
  pub converted : IsConverted loaded texts
  pub device : HoldsDevice old r.out.now is_device
  pub writes : WritesConverted Writes Prints (if is_device then None else Some (names_file r.out.now)) r.out.now texts old new
