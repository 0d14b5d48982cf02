use Rattle.std.proofs.Common.{◌∙◌, ap, arith, false, length, map}
use Rattle.std.specs.String.{string_bytes}
use Rattle.std.proofs.lemmas.List.{length-map}
use Rattle.csv.specs.Records.{fields_of}
use Rattle.plan_table.proofs.ListedFlows.{listed_matrix, listed_square}
use Rattle.plan_table.proofs.trips.matrix_of.Goals as goal

pub returns-clause-matrix : goal.returns-clause-matrix
returns-clause-matrix c =
    let names = c.args.names.items in
    let own = length-map names string_bytes in
    let lent = ap length c.deref-8.ensures.value in (
      c.in_ok-mark.mark,
      c.in_ok-mark.ensures,
      listed_matrix c.args.rules (record { mark = c.in_ok-mark.mark; round = c.args.rules.round; is_square = false }) (map string_bytes names) (map fields_of c.args.rows.now) c.len.result (length c.deref-8.result.now) c.least_scale-scale.result c.in_ok-trips.trips.items c.in_ok-decimals.decimals.items c.in-Ok.amounts.items c.in_ok-entries.entries.items c.in_ok-cells.cells.items
          (omega (arith, c.len.ensures, own))
          (omega (arith, lent, own))
          (c.in_ok-decimals.ensures ∙ ap (map (λ t. t.amount)) c.deref-3.ensures.value)
          (rw c.deref-2.ensures.value at c.in_ok-trips.ensures)
          (rw (c.deref-6.ensures.value, c.deref-7.ensures.value) at c.in_ok-cells.ensures)
          c.in_ok-entries.ensures
          (rw c.deref-4.ensures.value at c.least_scale-scale.ensures)
          (rw c.deref-5.ensures.value at c.in-Ok.ensures),
    )

pub returns-clause-square : goal.returns-clause-square
returns-clause-square c =
    let names = c.args.names.items in
    let own = length-map names string_bytes in
    let lent = ap length c.deref-8.ensures.value in
    listed_square (map string_bytes names) c.len.result (length c.deref-8.result.now) _ c.args.rules _ _ c.in_ok-entries.entries.items c.in_ok-cells.cells.items
    (omega (arith, lent, own))
    (record { positive = c.requires.positive; few = c.requires.few; different = c.requires.different })
    c.in_ok-cells.ensures
    c.in_ok-entries.ensures
