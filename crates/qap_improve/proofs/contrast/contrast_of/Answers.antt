use Rattle.std.proofs.Common.{◌∙◌, ap₂, arith}
use Rattle.std.specs.Prelude.{◌-ℤ◌}
use Rattle.qap_improve.proofs.Readings.{reads_contrasted}
use Rattle.qap_improve.proofs.contrast.contrast_of.Goals as goal

pub flow_contrast-requires-clause-place : goal.flow_contrast-requires-clause-place
flow_contrast-requires-clause-place c = let size = c.rows_there-there.ensures.rows.size in omega (arith, c.requires.other)

pub flow_contrast-requires-2-clause-place : goal.flow_contrast-requires-2-clause-place
flow_contrast-requires-2-clause-place c = let size = c.rows_back-back.ensures.rows.size in omega (arith, c.requires.other)

pub distance_contrast-requires-clause-place : goal.distance_contrast-requires-clause-place
distance_contrast-requires-clause-place c = let size = c.rows_there-there.ensures.rows.size in omega (arith, c.requires.other)

pub distance_contrast-requires-2-clause-place : goal.distance_contrast-requires-2-clause-place
distance_contrast-requires-2-clause-place c = let size = c.rows_back-back.ensures.rows.size in omega (arith, c.requires.other)

pub returns : goal.returns
returns c =
    let a = c.requires.arrangement in
    let there = c.rows_there-there.ensures.rows in
    let back = c.rows_back-back.ensures.rows in
    let u = c.args.u in
    let v = c.args.v in
    let k = c.args.k in
    let hu = c.requires.first in
    let hv = c.requires.second in
    let hk = c.requires.other in
    record {
      flows = reads_contrasted c.flow_contrast.result c.flow_contrast.ensures.bounded ∙ c.flow_contrast.ensures.value
          ∙ ap₂ ◌-ℤ◌ (there.flow_first.entries k hk ∙ a.flows.each u k hu hk) (there.flow_second.entries k hk ∙ a.flows.each v k hv hk);
      flows_back = reads_contrasted c.flow_contrast-2.result c.flow_contrast-2.ensures.bounded ∙ c.flow_contrast-2.ensures.value
          ∙ ap₂ ◌-ℤ◌ (back.flow_first.entries k hk ∙ a.flows_back.each u k hu hk) (back.flow_second.entries k hk ∙ a.flows_back.each v k hv hk);
      distances = reads_contrasted c.distance_contrast.result c.distance_contrast.ensures.bounded ∙ c.distance_contrast.ensures.value
          ∙ ap₂ ◌-ℤ◌ (there.distance_first.entries k hk ∙ a.distances.each u k hu hk) (there.distance_second.entries k hk ∙ a.distances.each v k hv hk);
      distances_back = reads_contrasted c.distance_contrast-2.result c.distance_contrast-2.ensures.bounded ∙ c.distance_contrast-2.ensures.value
          ∙ ap₂ ◌-ℤ◌ (back.distance_first.entries k hk ∙ a.distances_back.each u k hu hk) (back.distance_second.entries k hk ∙ a.distances_back.each v k hv hk);
    }
