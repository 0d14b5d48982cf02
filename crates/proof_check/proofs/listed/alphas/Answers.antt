use Rattle.std.proofs.Common.{◌≡◌, ℕ, ◌+◌, ◌*◌, ◌/◌, ◌%◌, ◌≤◌, ◌^◌, ℤ, unsigned_abs, ◌++◌, ◌∷◌, [], to_z, of_z, sym, ◌∙◌, ap, subst, arith}
use Rattle.std.specs.Int.{w128}
use Rattle.std.proofs.Math.Nat.{mod-lt}
use Rattle.std.proofs.lemmas.List.{length-map}
use Rattle.qap_lines.proofs.Numerals.{reads_wide}
use Rattle.proof_check.specs.Rows.{IsFilled, lists_of, number_of}
use Rattle.proof_check.proofs.Layers.{IsFilled-more, IsLayers-filled, layer_within, number_of-limited, positive, row_within}
use Rattle.proof_check.proofs.listed.alphas.Goals as goal

pub number_at-requires-clause-row_in : goal.number_at-requires-clause-row_in
number_at-requires-clause-row_in c = row_within c.args.m c.loop-place.place c.loop-place-test.true

pub loop-place-preserved : goal.loop-place-preserved
loop-place-preserved c =
    let f : ℕ → ℕ → ℕ → ℤ = λ j i k. number_of (lists_of c.args.rows.now) i j (i * c.args.m + k) 0 in
    let x = c.number_at.result in
    let m = c.args.m in
    let some = positive m c.loop-place.place c.loop-place-test.true in
    let inside = row_within m c.loop-place.place c.loop-place-test.true in
    let limited = number_of-limited (lists_of c.args.rows.now) m (c.loop-place.place / m % m) (c.loop-place.place / m / m) ((c.loop-place.place / m % m) * m + c.loop-place.place % m) 0 c.requires.each
    (omega (arith, length-map c.args.rows.now (λ row. row.items), c.requires.count, inside)) (mod-lt (c.loop-place.place / m) some) (layer_within m c.loop-place.place c.loop-place-test.true) (omega (arith, some)) in
    let small : unsigned_abs x ≤ 10 ^ 24 = subst (λ (z : ℤ). unsigned_abs z ≤ 10 ^ 24) (sym c.number_at.ensures) limited in
    let read : to_z w128 (of_z w128 x) ≡ x = reads_wide x (omega (arith, small)) in
    subst (IsFilled c.args.m f (c.loop-place.place + 1)) (sym (c.in_ok-push.ensures.items ∙ ap (λ z. c.loop-place.list.items ++ z ∷ []) read))
    (IsFilled-more c.args.m f c.loop-place.place c.loop-place.list.items x c.loop-place.invariant c.number_at.ensures)

pub returns : goal.returns
returns c = IsLayers-filled c.args.m (λ j i k. number_of (lists_of c.args.rows.now) i j (i * c.args.m + k) 0) c.loop-place.place c.loop-place.list.items (omega (arith, c.loop-place-test.false, c.loop-place.auto.place-end)) c.loop-place.invariant
