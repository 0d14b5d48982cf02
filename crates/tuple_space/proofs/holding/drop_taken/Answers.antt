use Rattle.std.proofs.Common.{◌+◌, List, arith, drop, subst}
use Rattle.std.proofs.lemmas.List.{drop_all, drop_more}
use Rattle.tuple_space.specs.Held.{numbers_by}
use Rattle.tuple_space.specs.Space.{without_taken}
use Rattle.tuple_space.specs.declared.held.Held.{Held}
use Rattle.tuple_space.proofs.PartLemmas.{IsEditedBut, edited_all, edited_begin, edited_past, edited_row, taking_edits}
use Rattle.tuple_space.proofs.holding.drop_taken.Goals as goal
use Rattle.tuple_space.proofs.holding.drop_taken.Goals.{then-row-holder, else-row-holder}

pub loop-row-init : goal.loop-row-init
loop-row-init c =
    record {
      indexed = c.requires.indexed;
      edited = edited_begin c.args.holder (without_taken c.args.holder) (taking_edits c.args.holder) c.args.held.now c.args.entries.now.items c.requires.rising c.requires.held;
    }

pub loop-row-preserved : goal.loop-row-preserved
loop-row-preserved c =
    let edit = without_taken c.args.holder in
    let i = c.loop-row.row-index in
    let old = c.args.entries.now.items in
    let now = c.loop-row.entries.items in
    let rest = drop (i + 1) c.args.held.now in
    let but = λ (l : List Held). IsEditedBut edit (numbers_by c.args.holder l) old now in
    let before = subst but (drop_more c.args.held.now i _ (omega arith)) c.loop-row.invariant.edited in
    elim c.if-row-holder.branch [
      | then-row-holder w ↦ record { edited = rw (w.entries-is, w.drop_taken_number.ensures.edited) (edited_row c.args.holder edit (taking_edits c.args.holder) _ rest old now w.if-row-holder.true before); indexed = rw (w.entries-is, w.buckets-is) w.drop_taken_number.ensures.indexed }
      | else-row-holder w ↦ record { edited = rw w.entries-is (edited_past c.args.holder edit (taking_edits c.args.holder) _ rest old now w.if-row-holder.false before); indexed = rw (w.entries-is, w.buckets-is) c.loop-row.invariant.indexed }
    ]

pub returns-clause-taken : goal.returns-clause-taken
returns-clause-taken c =
    let edit = without_taken c.args.holder in
    let old = c.args.entries.now.items in
    let now = c.loop-row.entries.items in
    edited_all c.args.holder edit (taking_edits c.args.holder) old now
    (subst (λ (l : List Held). IsEditedBut edit (numbers_by c.args.holder l) old now) (drop_all c.loop-row.row-index c.args.held.now (omega arith)) c.loop-row.invariant.edited)
