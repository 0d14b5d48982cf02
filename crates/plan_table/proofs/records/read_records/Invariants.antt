use Rattle.std.proofs.Common.{◌≡◌, ◌<◌, ℕ, List, Some, map}
use Rattle.csv.specs.Reading.{Reached, Ready, source_of, strip_bom}
use Rattle.csv.specs.Records.{fields_of}
use Rattle.csv.specs.declared.parser.State.TheVariants as state
use Rattle.csv.specs.declared.reader.Trim.TheVariants as trim
use Rattle.plan_table.specs.Separators.{separator_of}
use Rattle.plan_table.specs.Table.{config_of}
use Rattle.plan_table.specs.Tidy.{tidied}
use Rattle.plan_table.proofs.records.read_records.Given as goal

abbrev pub invariant-loop-record : goal.invariant-loop-record
invariant-loop-record l = (l.record-iterator.rdr.trim ≡ trim.None) × Ready l.record-iterator.rdr × (0 < l.record-iterator.left) × (l.record-iterator.rdr.config ≡ config_of (separator_of (strip_bom l.fn.text)))
    × (rest : List ℕ) × (source_of (λ s. Some s.now) l.record-iterator.rdr ≡ Some rest)
    × (raw : List (List (List ℕ))) × (map fields_of l.records.items ≡ tidied raw)
    × Reached (config_of (separator_of (strip_bom l.fn.text))) state.StartRecord (strip_bom l.fn.text) raw l.record-iterator.rdr.state rest
