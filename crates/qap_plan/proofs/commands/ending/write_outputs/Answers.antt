use Rattle.std.proofs.Common.{◌∙◌, arith}
use Rattle.qap_plan.proofs.Endings.{both_done, done_of, ends_so, is_done}
use Rattle.qap_plan.proofs.commands.ending.write_outputs.Goals as goal

pub returns-clause-ends : goal.returns-clause-ends
returns-clause-ends g c = λ success.
    let rest = c.worse-5.ensures.right in
    let texts = c.worse-4.ensures.left in
    let others = c.worse-4.ensures.right in
    let words = c.worse-texts.ensures.left in
    let tables = c.worse-texts.ensures.right in
    let drawn = c.worse-others.ensures.left in
    let last = c.worse-others.ensures.right in
    let first = c.worse.ensures.left in
    let second = c.worse.ensures.right in
    let third = c.worse-2.ensures.left in
    let fourth = c.worse-2.ensures.right in
    let fifth = c.worse-3.ensures.left in
    let sixth = c.worse-3.ensures.right in
    let printed = is_done c.print_answer-printed.result _ c.print_answer-printed.ensures (omega (arith, success, rest, texts, words, first)) in
    let answer = is_done c.write_file-answer.result _ c.write_file-answer.ensures (omega (arith, success, rest, texts, words, second)) in
    let json = is_done c.write_file-json.result _ c.write_file-json.ensures (omega (arith, success, rest, texts, tables, third)) in
    let table = is_done c.write_file-table.result _ c.write_file-table.ensures (omega (arith, success, rest, texts, tables, fourth)) in
    let picture = is_done c.write_file-picture.result _ c.write_file-picture.ensures (omega (arith, success, rest, others, drawn, fifth)) in
    let report = is_done c.write_file-report.result _ c.write_file-report.ensures (omega (arith, success, rest, others, drawn, sixth)) in
    let proof = is_done c.write_proof-proof.result _ c.write_proof-proof.ensures (omega (arith, success, rest, others, last)) in
    let two = both_done c.print_answer-printed.result c.write_file-answer.result c.worse.result c.worse.ensures.one printed answer in
    let four = both_done c.write_file-json.result c.write_file-table.result c.worse-2.result c.worse-2.ensures.one json table in
    let six = both_done c.write_file-picture.result c.write_file-report.result c.worse-3.result c.worse-3.ensures.one picture report in
    let some = both_done c.worse.result c.worse-2.result c.worse-texts.result c.worse-texts.ensures.one two four in
    let more = both_done c.worse-3.result c.write_proof-proof.result c.worse-others.result c.worse-others.ensures.one six proof in
    let all = both_done c.worse-texts.result c.worse-others.result c.worse-4.result c.worse-4.ensures.one some more in
    ends_so c.status-ends.result c.worse-4.result c.worse-5.result c.worse-5.ensures.one c.worse-5.ensures.left all ∙ c.status-ends.ensures.ends

pub returns-clause-written : goal.returns-clause-written
returns-clause-written g c = λ success.
    let rest = c.worse-5.ensures.right in
    let texts = c.worse-4.ensures.left in
    let others = c.worse-4.ensures.right in
    let words = c.worse-texts.ensures.left in
    let tables = c.worse-texts.ensures.right in
    let drawn = c.worse-others.ensures.left in
    let last = c.worse-others.ensures.right in
    let first = c.worse.ensures.left in
    let second = c.worse.ensures.right in
    let third = c.worse-2.ensures.left in
    let fourth = c.worse-2.ensures.right in
    let fifth = c.worse-3.ensures.left in
    let sixth = c.worse-3.ensures.right in
    record {
      printed = c.print_answer-printed.new.sink;
      written = c.write_file-answer.new.sink;
      in_json = c.write_file-json.new.sink;
      tabulated = c.write_file-table.new.sink;
      pictured = c.write_file-picture.new.sink;
      reported = c.write_file-report.new.sink;
      on_output = done_of c.print_answer-printed.result _ c.print_answer-printed.ensures (omega (arith, success, rest, texts, words, first));
      to_out = done_of c.write_file-answer.result _ c.write_file-answer.ensures (omega (arith, success, rest, texts, words, second));
      to_json = done_of c.write_file-json.result _ c.write_file-json.ensures (omega (arith, success, rest, texts, tables, third));
      to_csv = done_of c.write_file-table.result _ c.write_file-table.ensures (omega (arith, success, rest, texts, tables, fourth));
      to_svg = done_of c.write_file-picture.result _ c.write_file-picture.ensures (omega (arith, success, rest, others, drawn, fifth));
      to_report = done_of c.write_file-report.result _ c.write_file-report.ensures (omega (arith, success, rest, others, drawn, sixth));
      to_proof = done_of c.write_proof-proof.result _ c.write_proof-proof.ensures (omega (arith, success, rest, others, last));
    }
