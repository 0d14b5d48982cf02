use Rattle.std.proofs.Common.{◌∙◌, ap, sym, drop, take, length-drop, arith}
use Rattle.std.proofs.Math.Seq.{take-length}
use Rattle.qap_text.proofs.Separators.{after_separators-gap}
use Rattle.qap_text.proofs.word.skip_separators.Goals as goal

pub returns : goal.returns
returns c =
    let text = c.args.text.now in
    let place = c.first_place-start.result in
    let found = c.first_place-start.ensures in
    ap (λ k. take k (drop place text)) (sym (length-drop place text)) ∙ take-length (drop place text)
    ∙ after_separators-gap text place found.in_text (λ k below. found.before k (omega arith) below) found.at
