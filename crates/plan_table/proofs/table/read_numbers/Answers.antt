use Rattle.std.proofs.Common.{length, map, sym}
use Rattle.std.specs.String.{string_bytes}
use Rattle.std.proofs.lemmas.List.{length-map}
use Rattle.csv.specs.Records.{fields_of}
use Rattle.plan_table.specs.Table.{word_at}
use Rattle.plan_table.proofs.Completions.{is_true, numbered_mirrored}
use Rattle.plan_table.proofs.table.read_numbers.Goals as goal

pub returns-clause-numbers : goal.returns-clause-numbers
returns-clause-numbers c =
    let names = c.args.names.now in
    let numbers = c.in_ok-numbers-2.numbers in
    let filled = c.in_ok-filled.filled.items in
    numbered_mirrored c.args.rules (word_at (fields_of c.args.head.now) 0) (map fields_of c.args.rows.now) (map fields_of filled) (map string_bytes names) (length names) numbers.scale numbers.entries.items c.deref-2.result.now
    (is_true c.args.rules.is_symmetric c.if-not-rules.false)
    c.in_ok-filled.ensures
    (rw c.deref.ensures.value at c.in_ok-numbers-2.ensures.numbers)
    (sym (length-map names string_bytes))
    c.deref-2.ensures.value
    c.in_ok-check_mirrored.ensures
