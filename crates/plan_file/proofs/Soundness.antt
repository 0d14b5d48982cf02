-- What a plan says is sound.
use Rattle.std.proofs.Common.{◌≤◌, ℕ, Option, Some, None, arith, codes}
use Rattle.toml.specs.Data.{Data, Members, get_member}
use Rattle.plan_file.specs.Metric.{IsFine}
use Rattle.plan_file.specs.declared.metric.Metric.{Metric}
use Rattle.plan_file.specs.declared.metric.Metric.TheVariants.{Rectilinear, Euclidean, Squared}
use Rattle.plan_file.specs.Plan.{SaysDecimals, SaysDistances, SaysFlows, SaysMetric}
use Rattle.plan_file.specs.Tables.{IsSoundDistances, IsSoundFlows}
use Rattle.plan_file.specs.declared.source.Distances.{Distances}
use Rattle.plan_file.specs.declared.source.Distances.TheVariants as far
use Rattle.plan_file.specs.declared.source.Flows.{Flows}
use Rattle.plan_file.specs.declared.source.Flows.TheVariants as flow

-- what a plan says of the flows is sound
pub sound_flows : (ms : Members) (flows : Flows) → SaysFlows ms flows → IsSoundFlows flows
sound_flows ms (flow.Matrix file) says = tt
sound_flows ms (flow.Trips file) says = tt
sound_flows ms (flow.TripsBetween file names) says = says.2

fine_decimals : (found : Option Data) (n : ℕ) → SaysDecimals found n → n ≤ 9
fine_decimals None n says = omega (arith, says)
fine_decimals (Some d) n says = says.1

fine_metric : (ms : Members) (metric : Metric) → SaysMetric ms metric → IsFine metric
fine_metric ms Rectilinear says = tt
fine_metric ms (Euclidean n) says = fine_decimals (get_member (codes "decimals") ms) n says.1
fine_metric ms Squared says = tt

-- what it says of the distances is sound
pub sound_distances : (ms : Members) (distances : Distances) → SaysDistances ms distances → IsSoundDistances distances
sound_distances ms (far.Matrix file) says = tt
sound_distances ms (far.Places file metric) says = fine_metric ms metric says.1
