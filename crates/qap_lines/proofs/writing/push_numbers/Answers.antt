use Rattle.std.proofs.Common.{◌≡◌, ◌<◌, length, ◌++◌, ◌∷◌, take, get_or, pos, ◌∙◌, ap, sym, rules, to_z, of_z}
use Rattle.std.specs.Fmt.{signed_decimal}
use Rattle.std.specs.Int.{w128}
use Rattle.std.proofs.lemmas.List.{take_more}
use Rattle.number_list.specs.Numbers.{numbers_in}
use Rattle.qap_lines.specs.LineText.{numbers_text}
use Rattle.qap_lines.proofs.WrittenTexts.{numbers_text-push}
use Rattle.qap_lines.proofs.writing.push_numbers.Goals as goal

pub loop-place-preserved : goal.loop-place-preserved
loop-place-preserved c =
    let line = c.args.line.now.items in
    let zs = numbers_in c.args.numbers.now in
    let i = c.loop-place.place in
    let old = c.loop-place.line.items in
    let z = get_or zs i (pos 0) in
    let within : i < length zs = search rules in
    let at : to_z w128 (of_z w128 c.at.result) ≡ z = search rules in
    let pushed : c.push_number.new.line.items ≡ old ++ 32 ∷ signed_decimal z =
    c.in_ok-push_number.ensures ∙ ap (λ y. old ++ 32 ∷ signed_decimal y) at in
    numbers_text-push line old c.push_number.new.line.items (take i zs) z c.loop-place.invariant pushed
    ∙ ap (λ l. line ++ numbers_text l) (sym (take_more zs i (pos 0) within))
