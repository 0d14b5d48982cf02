use Rattle.std.proofs.Common.{◌≡◌, ap, sym, ◌∙◌, arith}
use Rattle.std.proofs.lemmas.Result.{MatchResult-weaker}
use Rattle.qap_search.specs.Tuples.Piece.{open_count}
use Rattle.qap_search.proofs.CertificateLemmas.MadeOf.{fault_of}
use Rattle.qap_search.proofs.certificate.assembling.assemble.Goals as goal

pub returns : goal.returns
returns c =
    let few : c.open_nodes-open.result ≡ 0 = (let h = c.if-open-gt0.false in omega arith) in
    let none : open_count c.args.tuples.items ≡ 0 = sym (c.open_nodes-open.ensures ∙ ap open_count c.deref.ensures.value) ∙ few in
    MatchResult-weaker c.assemble_finished.result c.assemble_finished.ensures (λ C h. (h, none)) (λ e h. fault_of c.args.n c.args.tuples.items e none h)
