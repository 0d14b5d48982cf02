-- What is loaded of a plan and of the tables that it names. The possible texts of files are a relation of names and bytes.
use Rattle.std.specs.Prelude.{◌≡◌, ℕ, ◌+◌, ⊤, List, map, Option, None, Some, option_map, string_bytes, IsUtf8, String}
use Rattle.std.specs.Global.{Global}
use Rattle.std.specs.Path.{path_join, path_parent}
use Rattle.plan_charge.specs.declared.charges.Charges.{Charges}
use Rattle.plan_file.specs.Charges.{AreTextCosts, IsForbiddenBy}
use Rattle.plan_file.specs.Plan.{IsPlanText}
use Rattle.plan_file.specs.Tables.{AreTablesOf}
use Rattle.plan_file.specs.declared.source.Distances.{Distances}
use Rattle.plan_file.specs.declared.source.Distances.TheVariants as far
use Rattle.plan_file.specs.declared.source.Flows.{Flows}
use Rattle.plan_file.specs.declared.source.Flows.TheVariants as flow
use Rattle.plan_file.specs.declared.source.Plan.{Plan}
use Rattle.plan_file.specs.declared.tables.NamedProblem.{NamedProblem}
use Rattle.plan_table.specs.declared.rules.Rules.{Rules}
use Rattle.plan_input.specs.declared.loading.Loaded.{Loaded}
use Rattle.plan_input.specs.declared.loading.TableFile.{TableFile}

-- the file of the flows
abbrev pub name_of_flows : Flows → List ℕ
name_of_flows (flow.Matrix file) = string_bytes file
name_of_flows (flow.Trips file) = string_bytes file
name_of_flows (flow.TripsBetween file names) = string_bytes file

-- the file of the distances, or of the places between which they are measured
abbrev pub name_of_distances : Distances → List ℕ
name_of_distances (far.Matrix file) = string_bytes file
name_of_distances (far.Places file metric) = string_bytes file

-- a name in a folder; without a folder, the name alone
abbrev pub name_in : Option (List ℕ) → List ℕ → List ℕ
name_in None name = name
name_in (Some folder) name = path_join folder name

-- a name in a plan: a path that is not absolute is relative to the plan's folder
abbrev pub name_beside : List ℕ → List ℕ → List ℕ
name_beside plan name = name_in (path_parent plan) name

-- the plan is that of a text in this file
pub record IsPlanIn (Holds : List ℕ → List ℕ → Type 0) (file : List ℕ) (plan : Plan) : Type 0 where
  pub text : List ℕ
  pub held : Holds file text
  pub read : IsPlanText text plan

-- the table is that of a name in a plan: its text is that of the bytes in its file, which are unchanged if they are UTF-8
pub record IsTableIn (Holds : List ℕ → List ℕ → Type 0) (plan name : List ℕ) (t : TableFile) : Type 0 where
  pub bytes : List ℕ
  pub named : string_bytes t.name ≡ name_beside plan name
  pub held : Holds (string_bytes t.name) bytes
  pub text : IsUtf8 bytes → t.text.items ≡ bytes

-- there is a table of costs exactly if the plan names one, and then it is that of this name
abbrev pub IsCostTable : (List ℕ → List ℕ → Type 0) → List ℕ → Option (String Global) → Option TableFile → Type 0
IsCostTable Holds plan None None = ⊤
IsCostTable Holds plan None (Some t) = ⊥
IsCostTable Holds plan (Some name) None = ⊥
IsCostTable Holds plan (Some name) (Some t) = IsTableIn Holds plan (string_bytes name) t

-- the charges are the costs of the table, if there is one; otherwise no department pays
abbrev pub AreCostsIn : Option TableFile → Rules → NamedProblem → Charges → Type 0
AreCostsIn None rules P c = c.count ≡ 0
AreCostsIn (Some t) rules P c =
    AreTextCosts rules t.text.items (map string_bytes P.departments.items) (map string_bytes P.places.items) (P.flow_scale + P.distance_scale) c

-- the problem is that of a plan and of these tables, whose files are named
pub record IsMadeOf (plan : Plan) (flows distances : TableFile) (costs : Option TableFile) (l : Loaded) : Type 0 where
  pub problem : AreTablesOf plan flows.text.items distances.text.items l.problem
  pub charges : AreCostsIn costs plan.rules l.problem l.charges
  pub forbidden : IsForbiddenBy plan.charging (map string_bytes l.problem.departments.items) (map string_bytes l.problem.places.items) l.forbidden
  pub drawing : l.drawing ≡ plan.drawing
  pub flows_file : l.flows_file ≡ flows.name
  pub flows_encoding : l.flows_encoding ≡ flows.encoding
  pub distances_file : l.distances_file ≡ distances.name
  pub distances_encoding : l.distances_encoding ≡ distances.encoding
  pub costs_file : l.costs_file ≡ option_map (λ t. t.name) costs

-- the problem is that of the plan in this file, of the flows and the distances in the files that the plan names, and of its costs
pub record IsLoaded (Holds : List ℕ → List ℕ → Type 0) (file : List ℕ) (l : Loaded) : Type 0 where
  pub plan : Plan
  pub flows : TableFile
  pub distances : TableFile
  pub costs : Option TableFile
  pub plan_read : IsPlanIn Holds file plan
  pub flows_read : IsTableIn Holds file (name_of_flows plan.flows) flows
  pub distances_read : IsTableIn Holds file (name_of_distances plan.distances) distances
  pub costs_read : IsCostTable Holds file plan.charging.costs costs
  pub made : IsMadeOf plan flows distances costs l
