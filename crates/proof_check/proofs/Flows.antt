-- Bytes that were read and copied, one after the other.
use Rattle.std.proofs.Common.{ℕ, List, [], ◌++◌}
use Rattle.std.proofs.KnownBytes.{Appends-nil, Appends-trans, Consumes-nil, Consumes-trans}
use Rattle.proof_check.specs.Flow.{Flow, Passes}

-- none
pub Passes-nil : (a : Flow) → Passes a a []
Passes-nil a = record { consumed = Consumes-nil a.left; appended = Appends-nil a.copied }

-- some, and then others
pub Passes-trans : (a b c : Flow) (bs cs : List ℕ) → Passes a b bs → Passes b c cs → Passes a c (bs ++ cs)
Passes-trans a b c bs cs p q = record {
  consumed = Consumes-trans a.left b.left c.left bs cs p.consumed q.consumed;
  appended = Appends-trans a.copied b.copied c.copied bs cs p.appended q.appended;
}
