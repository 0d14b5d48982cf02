use Rattle.std.proofs.Common.{◌-◌, subst, arith}
use Rattle.std.specs.Prelude.{◌≡◌, Option, false}
use Rattle.std.proofs.Common.{get_or}
use Rattle.tuple_space.specs.Wanted.{is_wanted}
use Rattle.tuple_space.specs.declared.entry.Entry.{Entry}
use Rattle.tuple_space.proofs.PlaceLemmas.{all_in, contains_in}
use Rattle.tuple_space.proofs.search.newest_wanted.Goals as goal

pub returns-in-Some-clause-stands : goal.returns-in-Some-clause-stands
returns-in-Some-clause-stands c =
    let places = c.args.places.now in
    let i = c.loop-index.index - 1 in
    contains_in places i c.in-Some.entry.now (omega arith) (subst (λ (o : Option Entry). o ≡ get_or places i o) c.in-Some.ensures.stands c.index-places-index.is)

pub returns-clause-none : goal.returns-clause-none
returns-clause-none c =
    all_in (λ (e : Entry). is_wanted c.args.wanted c.args.moment c.args.template.now e ≡ false) c.args.places.now (λ k d lt. c.loop-index.invariant k d (omega arith) lt)
