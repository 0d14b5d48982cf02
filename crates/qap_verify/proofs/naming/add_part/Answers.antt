use Rattle.std.proofs.Common.{inl, inr, refl, sym, subst}
use Rattle.std.proofs.lemmas.Result.{err_from_is_err_and}
use Rattle.qap_verify.specs.Naming.{IsReaderOf}
use Rattle.qap_verify.proofs.naming.add_part.Goals as goal

pub returns-in_err-open : goal.returns-in_err-open
returns-in_err-open g c =
    let p = err_from_is_err_and c.from_residual.result c.from_residual.ensures.1 in
    rw (p.1, p.2) (inl (c.in_err-open.ensures {u = tt}).refused, refl)

pub returns-in_err-part_stream : goal.returns-in_err-part_stream
returns-in_err-part_stream g c =
    let p = err_from_is_err_and c.from_residual-in_err-part_stream.result c.from_residual-in_err-part_stream.ensures.1 in
    rw (p.1, p.2) (
      inr (record {
        before = c.new-proof.result;
        after = c.part_stream.new.proof;
        reader = subst (IsReaderOf (g.D.Sources.holds c.args.sources.now) g.F.Read.remaining c.args.name.now) (sym c.new-proof.ensures.inner) c.in_ok-open.ensures.reader;
        refused = (c.in_err-part_stream.ensures {u = tt}).0;
      }),
      (c.in_err-part_stream.ensures {u = tt}).1,
    )

pub returns : goal.returns
returns g c = record {
  before = c.new-proof.result;
  after = c.part_stream.new.proof;
  reader = subst (IsReaderOf (g.D.Sources.holds c.args.sources.now) g.F.Read.remaining c.args.name.now) (sym c.new-proof.ensures.inner) c.in_ok-open.ensures.reader;
  added = c.in_ok-part_stream.ensures;
}
