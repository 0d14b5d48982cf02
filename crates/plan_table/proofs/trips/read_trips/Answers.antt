use Rattle.std.proofs.Common.{map, subst, sym}
use Rattle.std.specs.String.{string_bytes}
use Rattle.csv.specs.Records.{fields_of}
use Rattle.plan_table.specs.Trips.{AppearInOrder, words_of}
use Rattle.plan_table.proofs.trips.read_trips.Goals as goal

pub returns-clause-text : goal.returns-clause-text
returns-clause-text c =
    let rows = map fields_of c.in_ok-rows.rows.items in
    let (mark, marked, matrix) = rw c.deref-2.ensures.value at c.in_ok-matrix.ensures.matrix in (
      record {
        rows = rows;
        mark = mark;
        read = c.in_ok-rows.ensures;
        named = c.in_ok-matrix.ensures.square.named;
        unlike = c.in_ok-matrix.ensures.unlike;
        marked = marked;
        matrix = matrix;
      },
      subst (λ v. AppearInOrder (words_of rows) (map string_bytes v.items)) (sym c.in_ok-matrix.ensures.names) (rw c.deref.ensures.value at c.in_ok-names.ensures.order),
    )
