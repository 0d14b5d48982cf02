use Rattle.std.proofs.Common.{◌≡◌, false, length}
use Rattle.std.specs.Prelude.{IfSome}
use Rattle.std.specs.List.{AllWithin}
use Rattle.tuple_space.specs.Wanted.{is_wanted}
use Rattle.tuple_space.proofs.search.newest_wanted.Given as goal

abbrev pub invariant-loop-index : goal.invariant-loop-index
invariant-loop-index l = AllWithin (λ o. IfSome o (λ e. is_wanted l.wanted l.moment l.template e ≡ false)) l.places l.index (length l.places)
