use Rattle.std.proofs.Common.{◌≡◌, ◌∙◌, ◌∷◌, ◌++◌, [], ap, arith, length, map, subst, sym, take}
use Rattle.std.specs.String.{string_bytes}
use Rattle.std.proofs.lemmas.List.{length-map, length-take}
use Rattle.plan_table.specs.Numbers.{AreNumbers}
use Rattle.plan_table.proofs.NumberLists.{texts_more}
use Rattle.plan_table.proofs.numbers.numbers_of.Goals as goal

pub loop-i-preserved : goal.loop-i-preserved
loop-i-preserved c =
    let names = c.args.names.now in
    let i = c.loop-i.i in
    let before = map string_bytes (take i names) in
    let many : length before ≡ i = omega (arith, length-map (take i names) string_bytes, length-take i names, c.loop-i-test.true) in
    let is = texts_more string_bytes names i c.index-names-i.result c.loop-i-test.true c.index-names-i.is in
    subst (AreNumbers c.add_number.new.numbers) (ap (λ y. before ++ y ∷ []) c.as_str.ensures.value ∙ sym is) (c.in_ok-add_number.ensures before many c.loop-i.invariant)
