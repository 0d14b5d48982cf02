use Rattle.std.proofs.Common.{sym, subst}
use Rattle.std.specs.List.{All}
use Rattle.std.proofs.lemmas.List.Elements.{All-push}
use Rattle.gilmore_lawler.specs.Levels.{KeepsRows}
use Rattle.gilmore_lawler.proofs.levels.deepen.Goals as goal

pub loop-alloc-preserved : goal.loop-alloc-preserved
loop-alloc-preserved c = λ I all. subst (All (KeepsRows I)) (sym c.in_ok-push.ensures.items) (All-push (KeepsRows I) c.loop-alloc.levels.items c.new.result (c.loop-alloc.invariant I all) (c.new.ensures I))
