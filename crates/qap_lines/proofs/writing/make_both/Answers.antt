use Rattle.std.proofs.Common.{rules, ◌≡◌, ◌++◌, ◌∷◌, [], ◌∙◌, ap}
use Rattle.number_list.specs.Numbers.{numbers_in}
use Rattle.qap_lines.specs.LineText.{numbers_text}
use Rattle.qap_lines.proofs.WrittenTexts.{numbers_text-both}
use Rattle.qap_lines.proofs.writing.make_both.Goals as goal

pub returns : goal.returns
returns c =
    let line = c.push_numbers-2.new.line.items in
    let pushed : c.push.new.self.items ≡ line ++ 10 ∷ [] = search rules in
    let u = numbers_in c.args.u.now in
    pushed
    ∙ ap (λ l. l ++ 10 ∷ []) (numbers_text-both c.args.name.now c.push_numbers.new.line.items line u (numbers_in c.args.v.now) (c.in_ok-push_numbers.ensures ∙ ap (λ l. l ++ numbers_text u) c.in_ok-begin_line.ensures) c.in_ok-push_numbers-2.ensures)
