use Rattle.std.proofs.Common.{◌∙◌, ap}
use Rattle.tuple_space.specs.Entries.{EntriesValue}
use Rattle.tuple_space.proofs.OrderLemmas.{closed_up}
use Rattle.tuple_space.proofs.entries.Entries.close_up_many.Goals as goal

pub invariant_of-self : goal.invariant_of-self
invariant_of-self c = rw c.close_up.ensures.entries (closed_up c.self.inside.places.entries c.self.invariant).places

pub returns-then-self-len : goal.returns-then-self-len
returns-then-self-len c = (rw c.close_up.ensures.entries (closed_up c.self.inside.places.entries c.self.invariant).are) ∙ ap (λ (v : EntriesValue). v.items) c.self.view_is
