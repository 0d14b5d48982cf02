-- Behind the transaction stands no count.
use Rattle.std.proofs.Common.{List, map, Bor, ℕ, ap}
use Rattle.space_script.proofs.Lines.{no_renewal}
use Rattle.space_script.proofs.arguments.read_renewal.Goals as goal

pub returns-in-None : goal.returns-in-None
returns-in-None c =
    no_renewal (map (λ word. word.now) c.args.words.now) (map (λ word. word.now) c.in-Some.rest.now) c.in-Some.first.now.now
    (ap (map (λ (word : Bor (List ℕ)). word.now)) c.in-Some.ensures.cases.0) c.in-None.ensures
