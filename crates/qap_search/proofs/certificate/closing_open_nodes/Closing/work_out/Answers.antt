use Rattle.std.proofs.Common.{arith}
use Rattle.qap_search.proofs.NodeLemmas.Thoughts.{duals_of, within_more}
use Rattle.qap_search.proofs.certificate.closing_open_nodes.Closing.work_out.Goals as goal

pub returns-clause-duals : goal.returns-clause-duals
returns-clause-duals c =
    let I = c.args.instance.now in
    let x = c.args.self.now.node in
    let M = c.reduce_into.new.matrix in
    let reduced = c.in_ok-reduce_into.ensures in
    let a = c.in_ok-solve_into.ensures.least in
    let u = c.solve_into.new.answer.u.items in
    let v = c.solve_into.new.answer.v.items in
    record {
      matrix = M;
      square = c.matrix_law.ensures;
      reduced = reduced.reduced;
      duals =
          duals_of I x M u v c.requires.placement reduced.reduced a.fits
          (within_more _ _ _ (omega arith) (a.u_range _ reduced.bounded)) (within_more _ _ _ (omega arith) (a.v_range _ reduced.bounded));
      fits = a.fits;
      matching = _;
      assigns = a.assigns;
      reached = a.equal;
    }
