use Rattle.std.proofs.Common.{◌≡◌, ℕ, ◌+◌, ◌<◌, ◌≤◌, true, false, List, [], ◌∷◌, ap, ◌∙◌, sym, refl, cond, eqb, ltb, arith}
use Rattle.std.specs.Prelude.{not, ◌≢◌, All, Contains, filter, find, is_some, min, Result, Ok, Err}
use Rattle.std.specs.List.{list_any, list_all}
use Rattle.std.proofs.lemmas.Bool.{and_right, cond_both, cond-true, cond-false, false≢true, lt-ltb, le-ltb, ltb-false, ne_eqb, or_from, cases_Bool}
use Rattle.std.proofs.lemmas.List.Recursion.{and_fails_at}
use Rattle.tuple_space.specs.declared.lease.Lease.TheVariants.{Ms}
use Rattle.std.proofs.Common.{⊎_elim}
use Rattle.std.proofs.lemmas.List.Elements.{All-map}
use Rattle.tuple_space.specs.Holds.{holds_without}
use Rattle.tuple_space.specs.Lease.{granted, is_live}
use Rattle.tuple_space.specs.Entry.{can_be_read, is_held_by, is_open, is_taken, unheld}
use Rattle.tuple_space.specs.Space.{SpaceValue, advanced, put, released, stays_without}
use Rattle.tuple_space.specs.Writes.{put_each}
use Rattle.tuple_space.specs.Step.{done_reply}
use Rattle.tuple_space.specs.declared.entry.Claim.TheVariants.{TakeBy}
use Rattle.tuple_space.specs.declared.entry.Entry.{Entry}
use Rattle.tuple_space.specs.declared.error.SpaceError.{SpaceError}
use Rattle.tuple_space.specs.declared.error.SpaceError.TheVariants.{Exhausted as moments_used_up, NotThere, OutOfMemory as memory_used_up}
use Rattle.tuple_space.specs.declared.hold.Hold.{Hold}
use Rattle.tuple_space.specs.declared.write.Write.{Write}
use Rattle.space_txn.specs.declared.live.Live.{Live}
use Rattle.space_txn.specs.declared.mark.Mark.{Mark}
use Rattle.space_txn.specs.declared.txn.Found.TheVariants.{Entry as Stored, Own}
use Rattle.space_txn.specs.Live.{abort_each, ended_at, going_at, unmarked}
use Rattle.space_txn.specs.Machine.{Step, AdvanceStep, Call, inp_in, rdp_in, renew_txn, commit, abort, Answer, found, nothing, done, refused, commit_at, read_space}
use Rattle.space_txn.specs.Txn.{TxnValue}
use Rattle.space_txn.specs.World.{World, world_of, advance_at, abort_at, is_live_transaction}

-- a world in which the transaction isn't live accepts nothing of it
not_live : (old new : World) (t : TxnValue) → is_live_transaction old t.number ≡ false → is_live_transaction old t.number ≡ true → new ≡ old
not_live old new t dead live = absurd (false≢true (sym dead ∙ live))

-- a call on a transaction that isn't live changes nothing in the world
pub expired_changes_nothing : (old : World) (t : TxnValue) (call : Call) (answer : Answer) (new : World) (t' : TxnValue) → is_live_transaction old t.number ≡ false → Step old t call answer new t' → new ≡ old
expired_changes_nothing old t (inp_in template) (found (Stored number)) new t' dead s = not_live old new t dead s.0.live
expired_changes_nothing old t (inp_in template) (found (Own place)) new t' dead s = s.3
expired_changes_nothing old t (inp_in template) nothing new t' dead s = s.3
expired_changes_nothing old t (inp_in template) (refused error) new t' dead s = s.1
expired_changes_nothing old t (rdp_in template) (found (Stored number)) new t' dead s = not_live old new t dead s.0.live
expired_changes_nothing old t (rdp_in template) (found (Own place)) new t' dead s = s.3
expired_changes_nothing old t (rdp_in template) nothing new t' dead s = s.3
expired_changes_nothing old t (rdp_in template) (refused error) new t' dead s = s.1
expired_changes_nothing old t (renew_txn asked) done new t' dead s = not_live old new t dead s.0.live
expired_changes_nothing old t (renew_txn asked) (refused error) new t' dead s = s.1
expired_changes_nothing old t commit done new t' dead s = not_live old new t dead s.0.live
expired_changes_nothing old t commit (refused error) new t' dead s = s.1
expired_changes_nothing old t abort done new t' dead s = not_live old new t dead s.0.live
expired_changes_nothing old t abort (refused error) new t' dead s = s.1
expired_changes_nothing old t _ _ new t' dead s = absurd s

-- writes put out leave the moment
pub put_each_moment : (s : SpaceValue) (writes : List Write) → (put_each s writes).moment ≡ s.moment
put_each_moment s [] = refl
put_each_moment s (x ∷ xs) =
    put_each_moment (cond x.taken s (put s x.tuple x.lease)) xs
    ∙ cond_both x.taken s (put s x.tuple x.lease) (λ (v : SpaceValue). v.moment ≡ s.moment) (λ t. refl) (λ t. refl)

read_moment : (s : SpaceValue) (holder : ℕ) (marks : List Mark) (number : ℕ) → (read_space s holder marks number).moment ≡ s.moment
read_moment s holder marks number =
    cond_both (is_some (find (λ (m : Mark). eqb m.entry number) marks)) s _ (λ (v : SpaceValue). v.moment ≡ s.moment) (λ t. refl) (λ t. refl)

moment_of : (w v : World) → w ≡ v → w.space.moment ≡ v.space.moment
moment_of w v e = ap (λ (x : World). x.space.moment) e

-- a call on a transaction leaves the moment
pub moment_stays : (old : World) (t : TxnValue) (call : Call) (answer : Answer) (new : World) (t' : TxnValue) → Step old t call answer new t' → new.space.moment ≡ old.space.moment
moment_stays old t (inp_in template) (found (Stored number)) new t' s = moment_of _ _ s.4
moment_stays old t (inp_in template) (found (Own place)) new t' s = moment_of _ _ s.3
moment_stays old t (inp_in template) nothing new t' s = moment_of _ _ s.3
moment_stays old t (inp_in template) (refused error) new t' s = moment_of _ _ s.1
moment_stays old t (rdp_in template) (found (Stored number)) new t' s = moment_of _ _ s.4 ∙ read_moment old.space t.number t.marks number
moment_stays old t (rdp_in template) (found (Own place)) new t' s = moment_of _ _ s.3
moment_stays old t (rdp_in template) nothing new t' s = moment_of _ _ s.3
moment_stays old t (rdp_in template) (refused error) new t' s = moment_of _ _ s.1
moment_stays old t (renew_txn asked) done new t' s = moment_of _ _ s.1
moment_stays old t (renew_txn asked) (refused error) new t' s = moment_of _ _ s.1
moment_stays old t commit done new t' s = moment_of _ _ s.2 ∙ put_each_moment old.space t.writes
moment_stays old t commit (refused error) new t' s = moment_of _ _ s.1
moment_stays old t abort done new t' s = moment_of _ _ s.1
moment_stays old t abort (refused error) new t' s = moment_of _ _ s.1
moment_stays old t _ _ new t' s = absurd s

-- dropping the marks of transactions leaves the moment
pub aborts_moment : (live : List Live) (s : SpaceValue) → (abort_each live s).moment ≡ s.moment
aborts_moment [] s = refl
aborts_moment (t ∷ ts) s = aborts_moment ts (unmarked t.number s)

advanced_moment : (moment : ℕ) (s : SpaceValue) → s.moment ≤ (advanced moment s).moment
advanced_moment moment s =
    cond_both (ltb moment s.moment) s _ (λ (v : SpaceValue). s.moment ≤ v.moment) (λ t. omega arith) (λ t. let le = ltb-false moment s.moment t in omega arith)

advance_moment : (old : World) (moment : ℕ) → old.space.moment ≤ (advance_at old moment).space.moment
advance_moment old moment =
    let s = abort_each (ended_at moment old.live) old.space in
    let same = aborts_moment (ended_at moment old.live) old.space in
    let more = advanced_moment moment s in
    cond_both (ltb moment old.space.moment) old (world_of (advanced moment s) (going_at moment old.live) old.begun old.commits)
    (λ (v : World). old.space.moment ≤ v.space.moment) (λ t. omega arith) (λ t. omega arith)

-- the moment never goes back
pub moment_never_falls : (old : World) (moment : ℕ) (result : Result (Unit {0}) SpaceError) (new : World) → AdvanceStep old moment (done_reply result) new → old.space.moment ≤ new.space.moment
moment_never_falls old moment (Ok u) new s = let e = moment_of _ _ s.1 in let le = advance_moment old moment in omega arith
moment_never_falls old moment (Err moments_used_up) new s = let e = moment_of _ _ s.1 in omega arith
moment_never_falls old moment (Err NotThere) new s = absurd s
moment_never_falls old moment (Err memory_used_up) new s = absurd s

-- an earlier moment changes nothing
pub earlier_changes_nothing : (old : World) (moment : ℕ) → moment < old.space.moment → advance_at old moment ≡ old
earlier_changes_nothing old moment less = cond-true (ltb moment old.space.moment) old _ (lt-ltb moment old.space.moment less)

-- what somebody took can't be read, and what somebody else holds can't be taken
pub taken_unreadable : (moment : ℕ) (e : Entry) → is_taken e ≡ true → can_be_read moment e ≡ false
taken_unreadable moment e taken = and_right (is_live moment e.end) (not (is_taken e)) (ap not taken)

-- what somebody else holds can't be taken
pub held_untakable : (moment holder : ℕ) (e : Entry) (other : Hold) → Contains e.holds other → other.by ≢ holder → is_open (TakeBy holder) moment e ≡ false
held_untakable moment holder e other at ne =
    and_right (can_be_read moment e) (list_all (λ (x : Hold). eqb x.by holder) e.holds)
    (and_fails_at (list_all (λ (x : Hold). eqb x.by holder)) (λ (x : Hold). eqb x.by holder) refl (λ _ _. refl) e.holds at.0 other at.1 (ap (λ (x : Hold). eqb x.by holder) at.2 ∙ ne_eqb other.by holder ne))

-- no hold of a holder is left where its holds ended
without_none_by : (holder : ℕ) (holds : List Hold) → list_any (λ (h : Hold). eqb h.by holder) (holds_without holder holds) ≡ false
without_none_by holder [] = refl
without_none_by holder (h ∷ hs) = ⊎_elim
    (λ same. ap (list_any (λ (x : Hold). eqb x.by holder)) (cond-false (not (eqb h.by holder)) (h ∷ holds_without holder hs) (holds_without holder hs) (ap not same)) ∙ without_none_by holder hs)
    (λ other. ap (list_any (λ (x : Hold). eqb x.by holder)) (cond-true (not (eqb h.by holder)) (h ∷ holds_without holder hs) (holds_without holder hs) (ap not other)) ∙ or_from _ _ other (without_none_by holder hs))
    (cases_Bool (eqb h.by holder))

released_unheld : (holder moment : ℕ) (es : List Entry) → All (λ (e : Entry). is_held_by holder e ≡ false) (released holder moment es)
released_unheld holder moment es =
    All-map (λ (e : Entry). is_held_by holder e ≡ false) (unheld holder) (filter (stays_without holder moment) es) (λ k d lt. without_none_by holder _)

-- after an abort the transaction holds nothing
pub abort_unmarks : (old : World) (number : ℕ) → All (λ (e : Entry). is_held_by number e ≡ false) (abort_at old number).space.entries
abort_unmarks old number = released_unheld number old.space.moment old.space.entries

-- after a commit the transaction holds nothing
pub commit_unmarks : (old : World) (t : TxnValue) → All (λ (e : Entry). is_held_by t.number e ≡ false) (commit_at old t).space.entries
commit_unmarks old t = released_unheld t.number _ _

-- a lease is granted for a day at most, and isn't live at its end
pub zero_lease_dead : (moment : ℕ) → is_live moment (granted moment (Ms 0)) ≡ false
zero_lease_dead moment = le-ltb moment (moment + min 0 86400000) (omega arith)
