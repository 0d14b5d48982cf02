use Rattle.std.proofs.Common.{◌≡◌, ◌∙◌, ap₂, get_or, set, sym}
use Rattle.std.proofs.lemmas.List.{get_or_default}
use Rattle.plan_file.proofs.Settlings.{settled_by_exchange, stands_somewhere}
use Rattle.plan_file.proofs.keeping.settled.Goals as goal

pub returns-then-other-facility : goal.returns-then-other-facility
returns-then-other-facility c =
    let p = c.args.locations.items in
    let f = c.args.facility in
    let other = c.in-Some.other in
    let (inside, at) = rw c.deref.ensures.value at c.in-Some.ensures in
    let here : c.index-here.result.now ≡ get_or p f 0 = c.index-here.ensures ∙ get_or_default p f c.index-here.result.now 0 c.requires.facility in
    let is = ap₂ (λ k l. set (set p f k) other l) (sym at) here in
    settled_by_exchange p _ f c.args.location other c.requires.permutation c.requires.facility inside at (λ same. c.if-other-facility.true (sym same)) is

pub returns-in_default : goal.returns-in_default
returns-in_default c =
    let p = c.args.locations.items in
    let nowhere = rw c.deref.ensures.value at c.in_default.ensures in
    absurd (stands_somewhere p c.args.location c.requires.permutation c.requires.location nowhere)
