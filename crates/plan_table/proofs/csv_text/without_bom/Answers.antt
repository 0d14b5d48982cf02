use Rattle.std.proofs.Common.{◌∙◌, Some, None, ap, sym}
use Rattle.csv.specs.Reading.{strip_bom}
use Rattle.std.proofs.lemmas.Bool.Decides.{Decides-eqb}
use Rattle.std.proofs.lemmas.Slice.Eq.{strip_prefix_is}
use Rattle.plan_table.proofs.Boms.{bom, strip_bom-none, strip_bom-there}
use Rattle.plan_table.proofs.csv_text.without_bom.Goals as goal

pub returns-in-Some : goal.returns-in-Some
returns-in-Some c =
    let rest = c.in-Some.rest in
    let is = strip_prefix_is Decides-eqb c.args.text.now bom (Some rest) c.in-Some.ensures.cases in
    sym (ap strip_bom is ∙ strip_bom-there rest.now)

pub returns-in-None : goal.returns-in-None
returns-in-None c =
    sym (strip_bom-none c.args.text.now (strip_prefix_is Decides-eqb c.args.text.now bom None c.in-None.ensures.cases))
