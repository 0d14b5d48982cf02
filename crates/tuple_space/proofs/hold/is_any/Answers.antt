use Rattle.std.proofs.Common.{ap, ◌∙◌, sym}
use Rattle.std.specs.Prelude.{not}
use Rattle.tuple_space.proofs.HoldLemmas.{some_hold}
use Rattle.tuple_space.proofs.hold.is_any.Goals as goal

pub returns : goal.returns
returns c = ap not c.is_empty.ensures ∙ sym (some_hold c.args.rows.now)
