use Rattle.qap_plan.proofs.commands.solve_restricted.search_and_write.Goals as goal

pub returns : goal.returns
returns g c = λ success. record {
  answer = c.in_ok-answer.answer;
  found = c.in_ok-answer.ensures.answer;
  outputs = c.write_outputs.ensures.written success;
  ends = c.write_outputs.ensures.ends success;
}
