use Rattle.qap_plan.specs.Proofs.{Is}
use Rattle.qap_plan.proofs.Proofs.{makes_in}
use Rattle.qap_plan.proofs.commands.part.solve_and_write.Goals as goal

pub returns : goal.returns
returns g c = λ success.
    let p = c.args.posed.now in
    let found = c.in_ok-found.found in
    let planned = found.planned in
    let solved = c.in_ok-found.ensures in
    let written = c.write_part.ensures success in
    record {
      found = planned;
      text = written.puts.0;
      written = written.written;
      searched = solved.searched;
      shows = makes_in p.searched.instance (Is p.node) planned.permutation planned.cost planned.bound found.proof written.proof written.is solved.proof written.puts.0 written.puts.1;
      writes = written.puts.2;
      tells = written.tells;
    }
