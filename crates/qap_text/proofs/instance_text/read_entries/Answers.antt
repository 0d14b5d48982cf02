use Rattle.std.proofs.Common.{◌≡◌, ◌++◌, ◌∷◌, [], arith, inr, rules}
use Rattle.std.proofs.lemmas.Result.{err_from_is_err_and}
use Rattle.qap_text.proofs.Spellings.{HasRead-more}
use Rattle.qap_text.proofs.instance_text.read_entries.Goals as goal

pub returns-in_err-entry : goal.returns-in_err-entry
returns-in_err-entry c =
    let p = err_from_is_err_and c.from_residual-in_err-entry.result c.from_residual-in_err-entry.ensures.1 in
    rw (p.1, p.2) (inr (record {
      entries = c.loop.entries.items;
      stop = c.loop.stop;
      spelled = c.loop.invariant.spelled;
      in_range = c.loop.invariant.in_range;
      too_few = omega (arith, c.loop.invariant.counted);
      fault = c.in_err-entry.ensures {u = tt};
    }))

pub loop-preserved : goal.loop-preserved
loop-preserved c =
    let pushed : c.push.new.self.items ≡ c.loop.entries.items ++ c.in_ok-entry.entry ∷ [] = search rules in
    HasRead-more _ _ _ _ _ _ _ _ _ c.loop.invariant c.in_ok-entry.ensures.0 c.in_ok-entry.ensures.2 pushed
