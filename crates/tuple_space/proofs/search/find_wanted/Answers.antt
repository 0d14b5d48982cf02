use Rattle.std.proofs.Common.{◌≡◌, false}
use Rattle.std.specs.Prelude.{All}
use Rattle.tuple_space.specs.Index.{HasNoneWanted}
use Rattle.tuple_space.specs.Wanted.{is_wanted}
use Rattle.tuple_space.specs.declared.entry.Entry.{Entry}
use Rattle.tuple_space.proofs.IndexLemmas.{none_then, none_wanted}
use Rattle.tuple_space.proofs.search.find_wanted.Goals as goal

pub returns-in-Some-clause-none : goal.returns-in-Some-clause-none
returns-in-Some-clause-none c =
    let es = c.args.entries.now.items in
    let template = c.args.template.now in
    let buckets = c.args.buckets.now in
    none_then (All (HasNoneWanted c.in-Some.word.now c.args.wanted c.args.moment template es) buckets) (All (λ (e : Entry). is_wanted c.args.wanted c.args.moment template e ≡ false) es) c.wanted_of_word.result
    (none_wanted c.in-Some.word.now c.args.wanted c.args.moment template es buckets c.in-Some.ensures c.requires.indexed) c.wanted_of_word.ensures.none
