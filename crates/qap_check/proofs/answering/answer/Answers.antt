use Rattle.qap_check.proofs.Answerings.{no_optimum, no_value}
use Rattle.qap_check.proofs.answering.answer.Goals as goal

pub returns-in-Err : goal.returns-in-Err
returns-in-Err g c = no_value _ c.args.question g.W.Write.contents c.args.output.now c.value_stream.new.writer c.in-Err.error c.in-Value.is c.in-Err.ensures

pub returns-in-Err-optimal_stream : goal.returns-in-Err-optimal_stream
returns-in-Err-optimal_stream g c =
    no_optimum _ c.args.question g.W.Write.contents c.args.output.now c.optimal_stream.new.writer c.in-Err-optimal_stream.error c.in-Optimal.is c.in-Err-optimal_stream.ensures
