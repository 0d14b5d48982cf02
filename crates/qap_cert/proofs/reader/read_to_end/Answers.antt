use Rattle.std.proofs.Common.{List, ℕ, inr, subst}
use Rattle.std.proofs.lemmas.Result.{err_from_is_err_and}
use Rattle.qap_cert.specs.Shape.{HasShape}
use Rattle.qap_cert.specs.TextFault.{IsEndFault}
use Rattle.qap_cert.specs.Tree.{node_of}
use Rattle.qap_cert.proofs.reader.read_to_end.Goals as goal

pub returns-in_err-read_end : goal.returns-in_err-read_end
returns-in_err-read_end c =
    let grammar = c.args.grammar in
    let read = c.in_ok-read.read in
    let is = c.in_ok-read.ensures in
    let e = c.in_err-read_end.field-0.0 in
    let shape = subst (λ (placed : List ℕ). HasShape grammar.version grammar.size placed (node_of read.tree)) c.none.ensures is.0 in
    let fault = subst (λ (k : ℕ). IsEndFault k read.rest.now e) is.2 (c.in_err-read_end.ensures {u = tt}) in
    let p = err_from_is_err_and c.from_residual-in_err-read_end.result c.from_residual-in_err-read_end.ensures.1 in
    rw (p.1, p.2) (inr (inr (node_of read.tree, shape, record { rest = read.rest.now; is = is.1; holds = fault })))
