use Rattle.std.proofs.Common.{eqb, rules}
use Rattle.std.specs.Prelude.{not}
use Rattle.tuple_space.specs.declared.hold.Hold.{Hold}
use Rattle.tuple_space.proofs.HoldLemmas.{kept_in_turn}
use Rattle.tuple_space.proofs.hold.drop_by.Goals as goal

pub returns-clause-items : goal.returns-clause-items
returns-clause-items c = kept_in_turn _ (λ (h : Hold). not (eqb h.by c.args.holder)) _ (λ h b t y call. search rules) _ _ c.retain.ensures.filtered
