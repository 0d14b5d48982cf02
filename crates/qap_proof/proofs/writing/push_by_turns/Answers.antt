use Rattle.std.proofs.Common.{◌≡◌, ◌+◌, ◌≤◌, ◌^◌, ◌++◌, ◌∷◌, take, pos, get_or, ◌∙◌, ap, sym, arith}
use Rattle.std.specs.Fmt.{signed_decimal}
use Rattle.qap_lines.specs.LineText.{numbers_text}
use Rattle.qap_lines.proofs.Numerals.{reads_positive}
use Rattle.qap_proof.specs.Text.{by_turns}
use Rattle.qap_proof.proofs.WrittenTexts.{by_turns-more, numbers_text-push_two}
use Rattle.qap_proof.proofs.writing.push_by_turns.Goals as goal

pub loop-t-preserved : goal.loop-t-preserved
loop-t-preserved c =
    let line = c.args.line.now.items in
    let fs = c.args.facilities.now in
    let ks = c.args.places.now in
    let t = c.loop-t.t in
    let old = c.loop-t.line.items in
    let middle = c.push_number.new.line.items in
    let new = c.push_number-in-loop-t.new.line.items in
    let f = get_or fs t 0 in
    let k = get_or ks t 0 in
    let small_f : f + 1 ≤ 10 ^ 25 = omega (arith, c.type_inv.facilities t) in
    let small_k : k + 1 ≤ 10 ^ 25 = omega (arith, c.type_inv.places t) in
    let one : middle ≡ old ++ 32 ∷ signed_decimal (pos (f + 1)) =
    c.in_ok-push_number.ensures ∙ ap (λ y. old ++ 32 ∷ signed_decimal y) (reads_positive c.number_from_one.result (f + 1) c.number_from_one.ensures small_f) in
    let two : new ≡ middle ++ 32 ∷ signed_decimal (pos (k + 1)) =
    c.in_ok-push_number-2.ensures ∙ ap (λ y. middle ++ 32 ∷ signed_decimal y) (reads_positive c.number_from_one-in-loop-t.result (k + 1) c.number_from_one-in-loop-t.ensures small_k) in
    numbers_text-push_two line old middle new (by_turns (take t fs) (take t ks)) (pos (f + 1)) (pos (k + 1)) c.loop-t.invariant one two
    ∙ ap (λ l. line ++ numbers_text l) (sym (by_turns-more fs ks t c.requires c.loop-t-test.true))
