use Rattle.space_txn.proofs.laws.finding_law.Goals as goal

pub returns : goal.returns
returns c = record {
  nothing_taken = λ old t template new t' s. (s.1, s.2);
  nothing_read = λ old t template new t' s. (s.1, s.2);
  own_taken = λ old t template place new t' s. s.1;
  own_read = λ old t template place new t' s. s.1;
}
