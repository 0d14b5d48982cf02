use Rattle.std.proofs.Common.{◌∙◌, arith, map, sym}
use Rattle.std.specs.String.{string_bytes}
use Rattle.std.proofs.lemmas.List.{length-map}
use Rattle.csv.specs.Records.{fields_of}
use Rattle.plan_table.specs.Table.{word_at}
use Rattle.plan_table.proofs.Fields.{there_is_word, three_fields}
use Rattle.plan_table.proofs.ListedFlows.{listed_cell}
use Rattle.plan_table.proofs.trips.read_trip.Goals as goal

pub returns : goal.returns
returns c =
    let names = map string_bytes c.args.names.now in
    let fields = fields_of c.args.row.now in
    let (from_inside, from) = c.in_ok-department_in.ensures in
    let (to_inside, to) = c.in_ok-department_in-2.ensures in
    let there = there_is_word fields 2 (omega (arith, c.in_ok-check_start.ensures)) in
    let as_many = length-map c.args.names.now string_bytes in
    record {
      from_inside = omega (arith, as_many, from_inside);
      to_inside = omega (arith, as_many, to_inside);
      word = word_at fields 2;
      is = three_fields fields _ _ (word_at fields 2) (omega (arith, c.in_ok-check_start.ensures, c.in_ok-check_end.ensures)) from to there;
      spelled = sym (listed_cell c.args.reading 0 1 (word_at fields 2) c.requires.listed) ∙ c.in_ok-read_cell.ensures;
    }
