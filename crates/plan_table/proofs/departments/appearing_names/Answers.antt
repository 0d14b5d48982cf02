use Rattle.std.proofs.Common.{◌≡◌, ◌+◌, ◌++◌, ◌∷◌, ◌∙◌, ◌<◌, [], ap, arith, get_or, length, map, subst, sym, take}
use Rattle.std.specs.String.{string_bytes}
use Rattle.std.proofs.lemmas.List.{get_or-map, length-map, take_more}
use Rattle.csv.specs.Records.{fields_of}
use Rattle.plan_table.specs.Trips.{AppearInOrder, words_of}
use Rattle.plan_table.proofs.ListedFlows.{AppearInOrder-row}
use Rattle.plan_table.proofs.departments.appearing_names.Goals as goal

pub loop-row-preserved : goal.loop-row-preserved
loop-row-preserved c =
    let rows = map fields_of c.args.rows.now in
    let i = c.loop-row.row-index in
    let row = c.row-item.result in
    let inside : i < length rows = omega (arith, length-map c.args.rows.now fields_of, c.loop-row-test.true) in
    let here : get_or rows i [] ≡ fields_of row = get_or-map fields_of c.args.rows.now i row [] c.loop-row-test.true ∙ ap fields_of (sym c.row-item.is) in
    let more : take (i + 1) rows ≡ take i rows ++ fields_of row ∷ [] = take_more rows i [] inside ∙ ap (λ r. take i rows ++ r ∷ []) here in
    let (from, one, first) = c.in_ok-add_name.ensures.added in
    let (to, two, second) = c.in_ok-add_name-2.ensures.added in
    record {
      few = c.in_ok-add_name-2.ensures.few;
      different = c.in_ok-add_name-2.ensures.different;
      numbered = c.in_ok-add_name-2.ensures.numbered;
      order =
          subst (λ l. AppearInOrder (words_of l) (map string_bytes c.add_name-in-loop-row.new.names.items)) (sym more)
          (AppearInOrder-row (take i rows) (fields_of row) from to _ _ _ c.loop-row.invariant.order one two first second);
    }
