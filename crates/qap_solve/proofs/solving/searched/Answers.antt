use Rattle.qap_solve.proofs.Texts.{least_found}
use Rattle.qap_solve.proofs.solving.searched.Goals as goal

pub returns-in_ok-found : goal.returns-in_ok-found
returns-in_ok-found g c =
    let options = c.args.options.now in
    (c.if-cert.false, least_found c.args.instance.now options.workers options.nodes c.in_ok-found.found c.in_ok-found.ensures.answer)
