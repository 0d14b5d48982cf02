use Rattle.std.proofs.Common.{◌≡◌, ◌++◌, ◌∙◌, ap, sym}
use Rattle.std.specs.Prelude.{Option}
use Rattle.number_list.specs.NumberList.{numbers_held}
use Rattle.qap_lines.specs.LineText.{numbers_text}
use Rattle.qap_lines.proofs.WrittenTexts.{numbers_text-both}
use Rattle.qap_proof.specs.NodeLine.{may_pair_of}
use Rattle.qap_proof.specs.Text.{numbers_of_duals}
use Rattle.qap_proof.specs.declared.tree.KeptDuals.{KeptDuals}
use Rattle.qap_proof.proofs.writing.push_duals.Goals as goal

pub returns : goal.returns
returns c =
    let line = c.args.line.now.items in
    let middle = c.push_numbers.new.line.items in
    let new = c.push_numbers-2.new.line.items in
    let u = numbers_held c.in-Some.duals.u in
    let v = numbers_held c.in-Some.duals.v in
    let one : middle ≡ line ++ numbers_text u = c.in_ok-push_numbers.ensures ∙ ap (λ l. line ++ numbers_text l) c.numbers.ensures in
    let two : new ≡ middle ++ numbers_text v = c.in_ok-push_numbers-2.ensures ∙ ap (λ l. middle ++ numbers_text l) c.numbers-2.ensures in
    numbers_text-both line middle new u v one two
    ∙ ap (λ (d : Option KeptDuals). line ++ numbers_text (numbers_of_duals (may_pair_of d))) (sym c.in-Some.is)
