use Rattle.std.proofs.Common.{◌≡◌, ◌+◌, ◌≤◌, ◌^◌, ◌++◌, ◌∷◌, take, pos, get_or, ◌∙◌, ap, sym, arith}
use Rattle.std.specs.Fmt.{signed_decimal}
use Rattle.std.proofs.lemmas.List.{map_more}
use Rattle.qap_io.specs.Number.{from_one}
use Rattle.qap_lines.specs.LineText.{numbers_text}
use Rattle.qap_lines.proofs.Numerals.{reads_positive}
use Rattle.qap_lines.proofs.WrittenTexts.{numbers_text-push}
use Rattle.qap_lines.proofs.writing.push_from_one.Goals as goal

pub loop-number-preserved : goal.loop-number-preserved
loop-number-preserved c =
    let line = c.args.line.now.items in
    let p = c.args.numbers.now in
    let i = c.loop-number.number-index in
    let old = c.loop-number.line.items in
    let k = get_or p i 0 in
    let small : k + 1 ≤ 10 ^ 25 = omega (arith, c.type_inv.numbers i) in
    let pushed : c.push_number.new.line.items ≡ old ++ 32 ∷ signed_decimal (pos (k + 1)) =
    c.in_ok-push_number.ensures ∙ ap (λ y. old ++ 32 ∷ signed_decimal y) (reads_positive c.number_from_one.result (k + 1) c.number_from_one.ensures small) in
    numbers_text-push line old c.push_number.new.line.items (from_one (take i p)) (pos (k + 1)) c.loop-number.invariant pushed
    ∙ ap (λ l. line ++ numbers_text l) (sym (map_more (λ k. pos (k + 1)) p i 0 c.loop-number-test.true))
