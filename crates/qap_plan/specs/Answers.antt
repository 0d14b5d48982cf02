-- The outputs of `solve`.
use Rattle.std.specs.Prelude.{ℕ, List, option_copied}
use Rattle.plan_files.specs.Outputs.{PrintsFor, WritesFor}
use Rattle.qap_plan.specs.declared.commands.command_line.Request.{Request}
use Rattle.qap_plan.specs.declared.output.outcome.Kind.{Kind}
use Rattle.qap_plan.specs.declared.output.outcome.Kind.TheVariants.{Answer, Json, Table, Picture, Report}

-- from a sink to a sink by the outputs that are requested, in this order, each of which tells what its kind does; the last is the proof
pub record Answers {S : Type 0} (Writes : S → List ℕ → List ℕ → S → Type 0) (Prints : S → List ℕ → S → Type 0) (r : Request) (Tells : Kind → List ℕ → Type 0) (Shows : List ℕ → Type 0) (old new : S) : Type 0 where
  pub printed : S
  pub written : S
  pub in_json : S
  pub tabulated : S
  pub pictured : S
  pub reported : S
  pub on_output : PrintsFor Prints r.quiet (Tells Answer) old printed
  pub to_out : WritesFor Writes (option_copied r.out) (Tells Answer) printed written
  pub to_json : WritesFor Writes (option_copied r.json) (Tells Json) written in_json
  pub to_csv : WritesFor Writes (option_copied r.csv) (Tells Table) in_json tabulated
  pub to_svg : WritesFor Writes (option_copied r.svg) (Tells Picture) tabulated pictured
  pub to_report : WritesFor Writes (option_copied r.report) (Tells Report) pictured reported
  pub to_proof : WritesFor Writes (option_copied r.proof) Shows reported new
