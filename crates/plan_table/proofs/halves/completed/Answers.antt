use Rattle.std.proofs.Common.{◌≡◌, ◌++◌, ◌∷◌, ◌∙◌, ◌+◌, [], ap, get_or, length, map, rules, subst, sym}
use Rattle.std.specs.String.{string_bytes}
use Rattle.std.proofs.lemmas.List.{get_or-map, length_push}
use Rattle.csv.specs.Records.{fields_of}
use Rattle.plan_table.specs.Halves.{IsCompleted}
use Rattle.plan_table.proofs.Completions.{completed_more}
use Rattle.plan_table.proofs.halves.completed.Goals as goal

pub loop-row-preserved : goal.loop-row-preserved
loop-row-preserved c =
    let names = map string_bytes c.args.names.now in
    let rows = map fields_of c.args.rows.now in
    let i = c.loop-row.row-index in
    let last = c.in_ok-completed_row.field-0 in
    let here : get_or rows i [] ≡ fields_of c.row-item.result = get_or-map fields_of c.args.rows.now i c.row-item.result [] c.loop-row-test.true ∙ ap fields_of (sym c.row-item.is) in
    let pushed : c.push.new.self.items ≡ c.loop-row.filled.items ++ last ∷ [] = search rules in
    record {
      many = ap length pushed ∙ length_push c.loop-row.filled.items last ∙ ap (λ k. k + 1) c.loop-row.invariant.many;
      each = completed_more fields_of names rows c.loop-row.filled.items c.push.new.self.items last i c.loop-row.invariant.many c.loop-row.invariant.each (subst (λ r. IsCompleted names rows r (fields_of last)) (sym here) c.in_ok-completed_row.ensures) pushed;
    }
