use Rattle.std.proofs.lemmas.Bool.Decides.{same_from_decides}
use Rattle.tuple_match.specs.Matching.{does_match}
use Rattle.tuple_match.specs.PatternValue.{Matches}
use Rattle.std.proofs.Common.{Decides, rules}
use Rattle.tuple_match.proofs.Deciding.{Decides-does_match}
use Rattle.tuple_match.proofs.matching.matches.Goals as goal

pub returns-clause-test : goal.returns-clause-test
returns-clause-test c =
    let template = c.args.template.now in
    let tuple = c.args.tuple.now in
    let told : Decides c.rows_match.result (Matches template tuple) = search rules in
    same_from_decides c.rows_match.result (does_match template tuple) told (Decides-does_match template tuple)
