-- Each number goes behind a comma.
use Rattle.std.proofs.Common.{◌≡◌, ◌++◌, ◌∷◌, [], take, get_or, pos, ◌∙◌, ap, sym, append_assoc, rules, FitsSigned}
use Rattle.std.specs.Fmt.{signed_decimal}
use Rattle.std.specs.Int.{w128}
use Rattle.std.proofs.lemmas.Int.{to_z-of_z}
use Rattle.std.proofs.lemmas.List.{take_more}
use Rattle.space_script.specs.Reply.{behind_commas}
use Rattle.space_script.proofs.Replies.{number_pushed}
use Rattle.space_script.proofs.reply.push_more.Goals as goal

pub loop-number-preserved : goal.loop-number-preserved
loop-number-preserved c =
    let start = c.args.line.now.items in
    let zs = c.args.numbers.now in
    let i = c.loop-number.number-index in
    let old = c.loop-number.line.items in
    let z = get_or zs i (pos 0) in
    let fits : FitsSigned w128 (get_or zs i (pos 0)) = search rules in
    let pushed : c.push_number.new.line.items ≡ old ++ 44 ∷ signed_decimal z =
    c.in_ok-push_number.ensures ∙ ap (λ y. c.push.new.self.items ++ signed_decimal y) (to_z-of_z w128 z fits)
    ∙ ap (λ l. l ++ signed_decimal z) c.in_ok-push.ensures.items ∙ append_assoc old (44 ∷ []) (signed_decimal z) in
    number_pushed start old c.push_number.new.line.items (take i zs) z c.loop-number.invariant pushed
    ∙ ap (λ l. start ++ behind_commas l) (sym (take_more zs i (pos 0) c.loop-number-test.true))
