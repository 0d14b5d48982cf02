use Rattle.std.proofs.Common.{◌∙◌, sym, refl, inr, ap}
use Rattle.qap_search.specs.Tuples.DecidedTuples.{piece_tuple}
use Rattle.qap_search.proofs.CertificateLemmas.Assembled.{some_there}
use Rattle.qap_search.proofs.certificate.pieces.keep_piece.Goals as goal

pub returns-then-is_some : goal.returns-then-is_some
returns-then-is_some c =
    inr (refl, some_there c.args.best.now (sym c.is_some.ensures ∙ c.if-is_some.true), (c.in-Best.found, ap piece_tuple c.in-Best.is))
