use Rattle.tuple_space.proofs.HoldLemmas.{with_found, with_none, written_back}
use Rattle.std.proofs.Common.{◌∙◌, List, ap, eqb, length, sym}
use Rattle.std.proofs.Math.ListN.{set}
use Rattle.std.specs.List.{refill}
use Rattle.std.proofs.lemmas.List.{length-set}
use Rattle.std.proofs.lemmas.Bool.{false≢true, ne_eqb}
use Rattle.std.proofs.lemmas.List.Folds.{list_any_none}
use Rattle.tuple_space.specs.declared.hold.Hold.{Hold}
use Rattle.std.specs.Prelude.{◌≢◌}
use Rattle.std.proofs.lemmas.List.Elements.{All-from_all_within}
use Rattle.tuple_space.proofs.hold.put_hold.Goals as goal

pub returns-in-Some-clause-ok : goal.returns-in-Some-clause-ok
returns-in-Some-clause-ok c =
    let first = rw c.deref.ensures at c.in-Some.ensures in
    let items = c.args.rows.now.items in
    let put = set items c.in-Some.place c.args.hold in
    ap (λ (l : List Hold). refill (length items) items (set l c.in-Some.place c.args.hold)) c.deref_mut.ensures.value
    ∙ written_back items put (length-set items c.in-Some.place c.args.hold) ∙ with_found c.args.hold items c.in-Some.place first.0 first.1 first.2

pub returns-in_ok-push-in-None-clause-ok : goal.returns-in_ok-push-in-None-clause-ok
returns-in_ok-push-in-None-clause-ok c =
    let none = rw c.deref.ensures at c.in-None.ensures in
    let items = c.in_ok-push-in-None.ensures.ok in
    items ∙ with_none c.args.hold c.args.rows.now.items (All-from_all_within (λ h. h.by ≢ c.args.hold.by) c.args.rows.now.items none)

pub returns-in_err-push-in-None-clause-ready : goal.returns-in_err-push-in-None-clause-ready
returns-in_err-push-in-None-clause-ready c = λ held.
    let by = c.args.hold.by in
    let none = rw c.deref.ensures at c.in-None.ensures in
    let other = All-from_all_within (λ (h : Hold). h.by ≢ by) c.args.rows.now.items none in
    absurd (false≢true (sym (list_any_none (λ (h : Hold). eqb h.by by) c.args.rows.now.items (λ k d lt. ne_eqb _ _ (other k d lt))) ∙ held))
