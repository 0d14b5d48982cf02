use Rattle.std.proofs.Common.{rules}
use Rattle.plan_table.proofs.CsvTexts.{judged}
use Rattle.plan_table.proofs.csv_text.check_csv.Goals as goal

pub returns-clause-exactly : goal.returns-clause-exactly
returns-clause-exactly c = judged c.args.separator c.args.text.now c.check.result (search rules)
