-- Which entries a lookup wants.
use Rattle.std.specs.Prelude.{ℕ, Bool, List}
use Rattle.tuple_match.specs.PatternValue.{PatternValue}
use Rattle.tuple_space.specs.Entry.{can_be_had, is_counted}
use Rattle.tuple_space.specs.declared.entry.Entry.{Entry}
use Rattle.tuple_space.specs.declared.search.Wanted.{Wanted}
use Rattle.tuple_space.specs.declared.search.Wanted.TheVariants.{Allowed, There}

-- it is wanted: it is available under the claim, or it counts
abbrev pub is_wanted : Wanted → ℕ → List PatternValue → Entry → Bool
is_wanted (Allowed claim) moment template e = can_be_had claim moment template e
is_wanted There moment template e = is_counted moment template e
