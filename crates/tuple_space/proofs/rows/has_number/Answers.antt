use Rattle.std.proofs.Common.{◌≡◌, ◌∙◌, Option, Some, None, ap, eqb, refl}
use Rattle.std.specs.Prelude.{is_some}
use Rattle.std.specs.Borrow.{Bor}
use Rattle.std.specs.Option.{option_copied}
use Rattle.tuple_space.specs.declared.entry.Entry.{Entry}
use Rattle.tuple_space.proofs.RowLemmas.{found_any}
use Rattle.tuple_space.proofs.rows.has_number.Goals as goal

copied : (o : Option (Bor Entry)) → is_some o ≡ is_some (option_copied o)
copied (Some x) = refl
copied None = refl

pub returns : goal.returns
returns c = c.is_some.ensures ∙ copied c.get.result ∙ ap is_some c.get.ensures ∙ found_any (λ (e : Entry). eqb e.number c.args.number) c.args.entries.now.items
