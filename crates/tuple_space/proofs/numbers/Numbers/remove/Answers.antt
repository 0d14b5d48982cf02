use Rattle.std.proofs.Common.{◌∙◌}
use Rattle.std.proofs.lemmas.List.Sorted.{searched}
use Rattle.tuple_space.proofs.FrontLemmas.{number_absent, number_removed, rises_at}
use Rattle.tuple_space.proofs.numbers.Numbers.remove.Goals as goal

pub remove_at-requires : goal.remove_at-requires
remove_at-requires c =
    let ns = c.args.self.now in
    let found = searched ns c.args.number c.binary_search.result (rw c.as_slice.ensures at c.binary_search.ensures.position) (rises_at ns c.requires) in
    let here = rw c.in-Ok.is at found in
    here.0

pub returns-in-Ok : goal.returns-in-Ok
returns-in-Ok c =
    let ns = c.args.self.now in
    let found = searched ns c.args.number c.binary_search.result (rw c.as_slice.ensures at c.binary_search.ensures.position) (rises_at ns c.requires) in
    let here = rw c.in-Ok.is at found in
    c.remove_at.ensures ∙ number_removed ns c.in-Ok.place c.args.number c.requires here.0 here.1

pub returns-in_default : goal.returns-in_default
returns-in_default c =
    let ns = c.args.self.now in
    let found = searched ns c.args.number c.binary_search.result (rw c.as_slice.ensures at c.binary_search.ensures.position) (rises_at ns c.requires) in
    let none = rw c.in_default.is at found in
    number_absent ns c.args.number c.in_default.field-0 none.1 none.2
