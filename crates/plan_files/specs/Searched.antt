-- What `split` and `part` search.
use Rattle.std.specs.Prelude.{◌≡◌, ◌↔◌, ◌⊎◌, ℕ, Bool, List}
use Rattle.qap_cost.specs.Instance.{Problem}
use Rattle.qap_cost.specs.Placement.{Completes, Placement, root_of}
use Rattle.plan_charge.specs.Restricted.{Restricts}
use Rattle.plan_charge.specs.declared.charges.Charges.{Charges}
use Rattle.plan_charge.specs.declared.forbidden.Forbidden.{Forbidden}
use Rattle.plan_input.specs.Loaded.{IsLoaded}
use Rattle.plan_input.specs.declared.loading.Loaded.{Loaded}
use Rattle.plan_files.specs.Sources.{IsInstanceIn, IsPlain}
use Rattle.plan_files.specs.declared.instance_file.Searched.{Searched}

-- the instance of a plain plan's tables, and a root with the completions of what it fixes
pub record IsOfPlan (l : Loaded) (s : Searched) : Type 0 where
  pub plain : IsPlain l
  pub instance : s.instance ≡ l.problem.instance
  pub same : (p : List ℕ) → Completes l.problem.fixed p ↔ Completes s.root p

-- the larger instance that has the charges and the forbidden locations of an instance, and a root with the completions of its node
pub record IsRootOfRestricted (I : Problem) (x : Placement) (c : Charges) (f : Forbidden) (J : Problem) (root : Placement) : Type 0 where
  pub node : Placement
  pub restricts : Restricts I x c f J node
  pub same : (p : List ℕ) → Completes node p ↔ Completes root p

-- the same of a plan
abbrev pub IsWidened : Loaded → Searched → Type 0
IsWidened l s = IsRootOfRestricted l.problem.instance l.problem.fixed l.charges l.forbidden s.instance s.root

abbrev pub IsOfLoaded : Loaded → Searched → Type 0
IsOfLoaded l s = IsOfPlan l s ⊎ IsWidened l s

-- the completions of what a plan fixes
pub record IsPlannedIn (Holds : List ℕ → List ℕ → Type 0) (file : List ℕ) (s : Searched) : Type 0 where
  pub loaded : Loaded
  pub is_loaded : IsLoaded Holds file loaded
  pub of_plan : IsOfLoaded loaded s

-- all permutations of the instance of a file
pub record IsWholeIn (Holds : List ℕ → List ℕ → Type 0) (file : List ℕ) (passes : Bool) (s : Searched) : Type 0 where
  pub instance : IsInstanceIn Holds file passes s.instance
  pub root : s.root ≡ root_of s.instance.size

-- what is searched is that of the plan or of the instance in this file
abbrev pub IsSearchedIn : (List ℕ → List ℕ → Type 0) → List ℕ → Bool → Searched → Type 0
IsSearchedIn Holds file passes s = IsPlannedIn Holds file s ⊎ IsWholeIn Holds file passes s
