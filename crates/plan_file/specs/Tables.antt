-- A problem with names, as spelled by a plan and the texts of its tables.
use Rattle.std.specs.Prelude.{◌≡◌, ℕ, ◌≤◌, ⊤, List, [], map, length, ℤ, string_bytes}
use Rattle.qap_cost.specs.Placement.{IsPlacement}
use Rattle.plan_file.specs.Distances.{AreDistances}
use Rattle.plan_file.specs.Metric.{IsFine, distance_scale}
use Rattle.plan_file.specs.declared.metric.Metric.{Metric}
use Rattle.plan_table.specs.Lists.{IsTripsText}
use Rattle.plan_table.specs.Names.{AreNames}
use Rattle.plan_table.specs.Places.{IsPlacesText}
use Rattle.plan_table.specs.Table.{IsMatrixText}
use Rattle.plan_table.specs.Trips.{AppearInOrder, words_of}
use Rattle.plan_table.specs.declared.places.Point.{Point}
use Rattle.plan_table.specs.declared.rules.Rules.{Rules}
use Rattle.plan_file.specs.Fixing.{AreFixed}
use Rattle.plan_file.specs.Problem.{IsProblemOf}
use Rattle.plan_file.specs.declared.source.Distances.{Distances}
use Rattle.plan_file.specs.declared.source.Distances.TheVariants as far
use Rattle.plan_file.specs.declared.source.Flows.{Flows}
use Rattle.plan_file.specs.declared.source.Flows.TheVariants as flow
use Rattle.plan_file.specs.declared.source.Plan.{Plan}
use Rattle.plan_file.specs.declared.tables.NamedProblem.{NamedProblem}

-- the greatest number of decimals of a table's numbers
abbrev pub max_places : ℕ
max_places = 100

-- the departments that a plan names, if any, are valid names
abbrev pub IsSoundFlows : Flows → Type 0
IsSoundFlows (flow.TripsBetween file names) = AreNames (map string_bytes names.items)
IsSoundFlows _ = ⊤

-- the number of decimals of a plan's metric, if it has one, is allowed
abbrev pub IsSoundDistances : Distances → Type 0
IsSoundDistances (far.Places file metric) = IsFine metric
IsSoundDistances (far.Matrix file) = ⊤

-- the flows and the distances of a plan are well-formed
pub record IsSound (plan : Plan) : Type 0 where
  pub flows : IsSoundFlows plan.flows
  pub distances : IsSoundDistances plan.distances

-- the text is a matrix of flows between departments with these names, or lists them pair by pair: then the names are those given, or those of
-- the list in order of first appearance
abbrev pub IsFlowText : Flows → Rules → List ℕ → List (List ℕ) → ℕ → List ℤ → Type 0
IsFlowText (flow.Matrix file) rules text names scale entries = IsMatrixText rules text names scale entries
IsFlowText (flow.Trips file) rules text names scale entries = (t : IsTripsText rules text names scale entries) × AppearInOrder (words_of t.rows) names
IsFlowText (flow.TripsBetween file given) rules text names scale entries = IsTripsText rules text names scale entries × (names ≡ map string_bytes given.items)

-- the text has these points for places with these names, and the entries are their distances
pub record IsMeasured (metric : Metric) (rules : Rules) (text : List ℕ) (names : List (List ℕ)) (scale : ℕ) (points : List Point) (entries : List ℤ) : Type 0 where
  pub coordinate_scale : ℕ
  pub read : IsPlacesText rules text names coordinate_scale points
  pub by : scale ≡ distance_scale metric coordinate_scale
  pub distances : AreDistances metric coordinate_scale points entries

-- the text is a matrix of distances between places with these names, or they are measured
abbrev pub IsDistanceText : Distances → Rules → List ℕ → List (List ℕ) → ℕ → List Point → List ℤ → Type 0
IsDistanceText (far.Matrix file) rules text names scale points entries = IsMatrixText rules text names scale entries × (points ≡ [])
IsDistanceText (far.Places file metric) rules text names scale points entries = IsMeasured metric rules text names scale points entries

-- one text has the flows between the departments of a problem, the other one the distances between its places; the problem is that of the two
pub record AreTablesOf (plan : Plan) (flows distances : List ℕ) (P : NamedProblem) : Type 0 where
  pub flow_entries : List ℤ
  pub distance_entries : List ℤ
  pub flow_text : IsFlowText plan.flows plan.rules flows (map string_bytes P.departments.items) P.flow_scale flow_entries
  pub distance_text : IsDistanceText plan.distances plan.rules distances (map string_bytes P.places.items) P.distance_scale P.points.items distance_entries
  pub rounded : P.rounded ≡ plan.rules.round
  pub problem : IsProblemOf (length P.departments.items) flow_entries (length P.places.items) distance_entries P.instance
  pub fixed : AreFixed plan.fixed.items (map string_bytes P.departments.items) (map string_bytes P.places.items) P.fixed

-- a facility for each place, and no fewer than departments; the scales are within their limit; what is fixed is of the problem's size
pub record HasSizes (P : NamedProblem) : Type 0 where
  pub size : P.instance.size ≡ length P.places.items
  pub room : length P.departments.items ≤ length P.places.items
  pub fine_flows : P.flow_scale ≤ max_places
  pub fine_distances : P.distance_scale ≤ max_places
  pub fixed : P.fixed.size ≡ P.instance.size
  pub placed : IsPlacement P.fixed
