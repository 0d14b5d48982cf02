use Rattle.std.proofs.Common.{sym}
use Rattle.tuple_space.specs.Entry.{is_counted}
use Rattle.tuple_space.proofs.CountLemmas.{count_none, count_stands}
use Rattle.tuple_space.proofs.search.is_lacking.Goals as goal

pub returns-in-Some : goal.returns-in-Some
returns-in-Some c =
    sym (count_stands (is_counted c.args.moment c.args.template.now) c.args.entries.now.items c.in-Some.field-0.now c.in-Some.ensures.stands c.in-Some.ensures.can)

pub returns-in-None : goal.returns-in-None
returns-in-None c = sym (count_none (is_counted c.args.moment c.args.template.now) c.args.entries.now.items c.in-None.ensures.none)
