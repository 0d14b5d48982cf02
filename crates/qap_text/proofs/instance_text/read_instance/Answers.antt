use Rattle.std.proofs.Common.{inl, inr}
use Rattle.std.proofs.lemmas.Result.{err_from_is_err_and}
use Rattle.qap_text.proofs.Spellings.{HasEntryFault-behind, IsInstanceText-from}
use Rattle.qap_text.proofs.instance_text.read_instance.Goals as goal

pub returns-in_err-b : goal.returns-in_err-b
returns-in_err-b c =
    let p = err_from_is_err_and c.from_residual-in_err-b.result c.from_residual-in_err-b.ensures.1 in
    rw (p.1, p.2) (elim (c.in_err-b.ensures {u = tt}) [
      | inl memory ↦ inl memory
      | inr fault ↦ inr (inr (record {
        size = c.in_ok-n.n;
        positive = c.in_ok-n.ensures.0;
        small = c.in_ok-n.ensures.1;
        start = c.in_ok-n.ensures.2;
        stop = c.in_ok-n.stop;
        spelled = c.in_ok-n.ensures.3;
        fault = HasEntryFault-behind _ _ _ _ _ _ c.in_ok-a.ensures.0 c.in_ok-a.ensures.1 c.in_ok-a.ensures.2 fault;
      }))
    ])

pub returns : goal.returns
returns c =
    IsInstanceText-from _ _ _ _ _ _ _ _ _ c.in_ok-n.ensures.3 c.in_ok-a.ensures.0 c.in_ok-b.ensures.0 c.in-Ok.ensures.0 c.in-Ok.ensures.1 c.in_ok-b.ensures.3
