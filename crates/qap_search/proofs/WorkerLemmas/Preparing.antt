-- What a worker has worked out to write.
use Rattle.std.proofs.Common.{◌≡◌, ℤ, Bool, Option, Some, None, sym, subst}
use Rattle.std.specs.Prelude.{IfSome}
use Rattle.qap_cost.specs.Instance.{Problem}
use Rattle.qap_search.specs.Worker.Hand.{thought_of}
use Rattle.qap_search.specs.Worker.Prepared.{AreWritesFor, HasPrepared}
use Rattle.qap_search.specs.declared.worker.prepared.Prepared.{Prepared}
use Rattle.qap_search.specs.declared.worker.stage.LastThought.{LastThought}

-- nothing
pub nothing_prepared : (I : Problem) (last : Option LastThought) (p : Prepared) → p.cost ≡ None → HasPrepared I last p
nothing_prepared I None p is = tt
nothing_prepared I (Some l) p is = subst (λ (c : Option ℤ). IfSome c (AreWritesFor I (thought_of l) p.writes)) (sym is) tt
