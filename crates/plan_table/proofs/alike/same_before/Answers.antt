use Rattle.std.proofs.Common.{◌∙◌, [], ap, arith, below_more, sym}
use Rattle.std.specs.Cmp.Lexicographic.{other_text}
use Rattle.std.proofs.lemmas.List.{get_or-map}
use Rattle.plan_table.proofs.alike.same_before.Goals as goal

pub loop-j-preserved : goal.loop-j-preserved
loop-j-preserved c =
    let keys = c.args.keys.now in
    let one = get_or-map (λ key. key.items) keys c.loop-j.j c.index-keys-j.result [] (omega (arith, c.requires, c.loop-j-test.true)) in
    let other = get_or-map (λ key. key.items) keys c.args.k c.index-keys-k.result [] c.requires in
    let first = one ∙ ap (λ key. key.items) (sym c.index-keys-j.is) ∙ sym c.as_slice.ensures.value in
    let second = other ∙ ap (λ key. key.items) (sym c.index-keys-k.is) ∙ sym c.as_slice-in-loop-j.ensures.value in
    below_more _ _ c.loop-j.invariant (λ same. other_text _ _ c.if-eq.ensures (sym first ∙ same ∙ second))
