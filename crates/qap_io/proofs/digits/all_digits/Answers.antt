use Rattle.qap_io.proofs.Runs.{all_digits-run}
use Rattle.qap_io.proofs.digits.all_digits.Goals as goal

pub returns-then-digits-text : goal.returns-then-digits-text
returns-then-digits-text c = all_digits-run c.args.text.now _ _ _ c.front_digits-digits.ensures c.if-digits-gt0.true c.if-digits-text.true
