use Rattle.std.proofs.Common.{◌≡◌, ◌∙◌, ◌+◌, ◌-◌, [], Some, ap, arith, get_or, inr, map, sym, true}
use Rattle.std.specs.String.{string_bytes}
use Rattle.std.proofs.lemmas.List.{get_or-map, length-map}
use Rattle.csv.specs.Records.{fields_of}
use Rattle.plan_table.specs.Numerals.{is_nothing}
use Rattle.plan_table.specs.Table.{word_at}
use Rattle.plan_table.proofs.halves.word_of.Goals as goal

pub returns-in-Some : goal.returns-in-Some
returns-in-Some c =
    let names = c.args.names.now in
    let rows = c.args.rows.now in
    let to = c.args.field - 1 in
    let k = c.in-Some.k in
    let (there, begins) = c.in-Some.ensures in
    let nothing : is_nothing (word_at (fields_of c.args.row.now) c.args.field) ≡ true =
    ap is_nothing (sym c.word_in-own.ensures ∙ sym c.as_bytes.ensures.value) ∙ sym c.if-not-is_nothing.ensures in
    let name : string_bytes c.index-names-field.result ≡ get_or (map string_bytes names) to [] =
    ap string_bytes c.index-names-field.is ∙ sym (get_or-map string_bytes names to c.index-names-field.result [] (omega arith)) in
    let here : get_or (map fields_of rows) k [] ≡ fields_of c.index-rows-k.result = get_or-map fields_of rows k c.index-rows-k.result [] there ∙ ap fields_of (sym c.index-rows-k.is) in
    inr (
      nothing,
      record {
        from = c.args.from;
        to = to;
        at = k;
        column = omega arith;
        inside = omega (arith, there, length-map rows fields_of);
        named = c.requires.named;
        other = begins ∙ ap Some (c.as_str.ensures.value ∙ name);
        is = c.word_in.ensures ∙ ap (λ f. word_at f (c.args.from + 1)) (sym here);
      },
    )
