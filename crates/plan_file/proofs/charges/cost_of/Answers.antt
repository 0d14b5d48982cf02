use Rattle.std.proofs.Common.{◌≡◌, ◌∙◌, ◌*◌, ◌+◌, ◌<◌, List, ap, ap₂, arith, get_or, inl, inr, length, map, pos, refl, rules, string_bytes, subst, sym, ℤ}
use Rattle.std.specs.Int.{w64}
use Rattle.std.specs.Prelude.{FitsSigned}
use Rattle.std.proofs.Math.Nat.{mul_comm}
use Rattle.std.proofs.lemmas.Int.{to_z-of_z}
use Rattle.std.proofs.lemmas.List.{length-map}
use Rattle.std.proofs.lemmas.Nat.{mul-add-lt}
use Rattle.plan_table.specs.Names.{HasName}
use Rattle.plan_table.specs.Trips.{name_at}
use Rattle.plan_file.proofs.charges.cost_of.Goals as goal

pub returns-in-None-clause-cost : goal.returns-in-None-clause-cost
returns-in-None-clause-cost c = inl (subst (λ r. HasName (map string_bytes r) c.args.department.now → ⊥) c.deref.ensures.value c.in-None.ensures, refl)

pub cell-requires-clause-inside : goal.cell-requires-clause-inside
cell-requires-clause-inside c =
    let rows = c.args.grid.now.rows.items in
    let columns = c.args.grid.now.columns.items in
    let row = c.in-Some.row in
    let column = c.number_of-column.result in
    let above : row < length rows = omega (arith, c.in-Some.ensures.0, ap length c.deref.ensures.value) in
    let left : column < length columns = omega (arith, c.number_of-column.ensures.inside, ap length c.deref-in-Some.ensures.value) in
    let many = c.requires.shape.many ∙ ap₂ (λ a b. a * b) (length-map rows string_bytes) (length-map columns string_bytes) in
    let wide : c.len.result ≡ length columns = search rules in
    subst (λ n. row * n + column < length c.deref-in-Some-2.result.now) (sym wide)
    (omega (arith, mul-add-lt row (length columns) column (length rows) above left, mul_comm (length columns) (length rows), many, ap (λ (l : List ℤ). length l) c.deref-in-Some-2.ensures.value))

pub returns-in-Some-clause-cost : goal.returns-in-Some-clause-cost
returns-in-Some-clause-cost c =
    let rows = c.args.grid.now.rows.items in
    let columns = c.args.grid.now.columns.items in
    let row = c.in-Some.row in
    let column = c.number_of-column.result in
    let wide : c.len.result ≡ length columns = search rules in
    let fits : FitsSigned w64 c.cell.result = search rules in
    inr (record {
      row = row;
      column = column;
      row_there = omega (arith, c.in-Some.ensures.0, ap length c.deref.ensures.value, length-map rows string_bytes);
      column_there = omega (arith, c.number_of-column.ensures.inside, ap length c.deref-in-Some.ensures.value, length-map columns string_bytes);
      row_named = subst (λ r. name_at (map string_bytes r) row ≡ c.args.department.now) c.deref.ensures.value c.in-Some.ensures.1;
      column_named = subst (λ r. name_at (map string_bytes r) column ≡ c.args.place.now) c.deref-in-Some.ensures.value c.number_of-column.ensures.named;
      is =
          to_z-of_z w64 c.cell.result fits
          ∙ c.cell.ensures.value
          ∙ ap (λ l. get_or l (row * c.len.result + column) (pos 0)) c.deref-in-Some-2.ensures.value
          ∙ ap (λ n. get_or c.args.grid.now.entries.items (row * n + column) (pos 0)) (wide ∙ sym (length-map columns string_bytes));
    })
