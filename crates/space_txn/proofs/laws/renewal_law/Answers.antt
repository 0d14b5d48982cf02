use Rattle.space_txn.proofs.LeaseLemmas.{later_never, later_new, later_old, later_stays}
use Rattle.space_txn.proofs.laws.renewal_law.Goals as goal

pub returns : goal.returns
returns c = record {
  old = λ moment end e. later_old moment end e.end;
  new = λ moment end e. later_new moment end e.end;
  stays = λ end e. later_stays end e.end;
  forever = λ moment e. later_never e.end;
}
