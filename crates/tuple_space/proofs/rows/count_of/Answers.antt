use Rattle.std.proofs.Common.{◌∙◌, ap}
use Rattle.std.specs.Prelude.{count_by}
use Rattle.tuple_space.specs.Entry.{is_counted}
use Rattle.tuple_space.proofs.PlaceLemmas.{counted_in}
use Rattle.tuple_space.proofs.rows.count_of.Goals as goal

pub returns : goal.returns
returns c = c.count_in.ensures ∙ counted_in (is_counted c.args.moment c.args.template.now) c.as_slice.result.now ∙ ap (count_by (is_counted c.args.moment c.args.template.now)) c.as_slice.ensures
