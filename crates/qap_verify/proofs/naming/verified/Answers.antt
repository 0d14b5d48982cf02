use Rattle.std.proofs.Common.{inl, sym, subst}
use Rattle.qap_verify.specs.Naming.{IsReaderOf}
use Rattle.qap_verify.proofs.naming.verified.Goals as goal

pub returns-in-Ok : goal.returns-in-Ok
returns-in-Ok g c = inl (record {
  before = c.new-proof.result;
  after = c.answered.new.proof;
  reader = subst (IsReaderOf (g.D.Sources.holds c.args.sources.now) g.F.Read.remaining c.args.files.now.proof.now) (sym c.new-proof.ensures.inner) c.in-Ok.ensures.reader;
  run = c.answered.ensures;
})
