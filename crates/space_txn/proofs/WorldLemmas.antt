-- What holds of every world stays so at each step.
use Rattle.std.proofs.Common.{◌≡◌, ℕ, ◌+◌, ◌<◌, ◌≤◌, Bool, true, false, List, [], ◌∷◌, ◌++◌, get_or, ap, ◌∙◌, sym, subst, cond, eqb, ltb, ⊎_elim, arith}
use Rattle.std.specs.Prelude.{◌≢◌, not, ◌&&◌, All, filter, find, is_some, Option, Some, None, Result, Ok, Err}
use Rattle.std.specs.List.{list_any}
use Rattle.std.proofs.lemmas.Bool.{and_from, and_parts, cases_Bool, cond-true, cond-false, cond_both, eq-eqb, eqb-true, false≢true, ltb-false, ltb-true, ne_eqb, or_cases, or_left, or_right}
use Rattle.std.proofs.lemmas.List.Elements.{All-cons, All-filter, All-head, All-map, All-nil, All-push, All-tail}
use Rattle.std.proofs.lemmas.List.Folds.{list_any-append}
use Rattle.std.proofs.lemmas.List.Kept.{AllPairs-filter}
use Rattle.std.proofs.lemmas.List.Quantifiers.{all_pairs_push}
use Rattle.tuple_match.specs.FieldValue.{FieldValue}
use Rattle.tuple_match.specs.PatternValue.{PatternValue}
use Rattle.tuple_space.specs.Entry.{is_taken_by, is_there, unheld}
use Rattle.tuple_space.specs.Holds.{holds_with, holds_without}
use Rattle.tuple_space.specs.Lease.{granted, granted_end, is_permanent}
use Rattle.tuple_space.specs.Rows.{changed, with_end}
use Rattle.tuple_space.specs.Space.{SpaceValue, advanced, held_by, most, put, stays_without, with_entries, without_taken}
use Rattle.tuple_space.specs.Step as space
use Rattle.tuple_space.specs.Step.{Event, Reply}
use Rattle.tuple_space.specs.Writes.{put_each}
use Rattle.tuple_space.specs.declared.entry.Entry.{Entry}
use Rattle.tuple_space.specs.declared.error.SpaceError.{SpaceError}
use Rattle.tuple_space.specs.declared.error.SpaceError.TheVariants.{Exhausted as numbers_used_up, NotThere, OutOfMemory as memory_used_up}
use Rattle.tuple_space.specs.declared.hold.Hold.{Hold}
use Rattle.tuple_space.specs.declared.lease.Lease.{Lease}
use Rattle.tuple_space.specs.declared.write.Write.{Write}
use Rattle.space_txn.specs.Live.{AreHeldBy, abort_each, ended_at, going_at, is_live_in, others, unmarked}
use Rattle.space_txn.specs.Machine.{Step, BeginStep, AdvanceStep, Call, inp_in, rdp_in, renew_txn, commit, abort, Answer, found, nothing, done, refused, commit_at, read_space, taken_space}
use Rattle.space_txn.specs.Txn.{TxnValue}
use Rattle.space_txn.specs.World.{IsWorld, World, abort_at, advance_at, begin_at, is_live_transaction, renew_at, with_space, world_of}
use Rattle.space_txn.specs.declared.error.TxnError.{TxnError}
use Rattle.space_txn.specs.declared.error.TxnError.TheVariants.{Expired, Foreign, Exhausted, OutOfMemory}
use Rattle.space_txn.specs.declared.live.Live.{Live}
use Rattle.space_txn.specs.declared.mark.Mark.{Mark}
use Rattle.space_txn.specs.declared.txn.Found.TheVariants.{Entry as Stored, Own}
use Rattle.space_txn.proofs.LiveLemmas.{all_renewed, live_renewed, rising_renewed}
use Rattle.space_txn.proofs.RuleLemmas.{aborts_moment, put_each_moment}

-- something holds of each hold of each entry
abbrev pub OfHolds : (Hold → Type 0) → List Entry → Type 0
OfHolds P es = All (λ (e : Entry). All P e.holds) es

-- a hold is that of a transaction which is live at a moment
abbrev OfLive : ℕ → List Live → Hold → Type 0
OfLive moment live h = is_live_in moment h.by live ≡ true

holds_put : (P : Hold → Type 0) (s : SpaceValue) (tuple : List FieldValue) (lease : Lease) → OfHolds P s.entries → OfHolds P (put s tuple lease).entries
holds_put P s tuple lease all =
    All-push (λ (e : Entry). All P e.holds) s.entries (record { number = s.last + 1; tuple = tuple; end = granted s.moment lease; holds = [] }) all (All-nil P)

holds_put_each : (P : Hold → Type 0) (s : SpaceValue) (xs : List Write) → OfHolds P s.entries → OfHolds P (put_each s xs).entries
holds_put_each P s [] all = all
holds_put_each P s (x ∷ xs) all =
    cond_both x.taken s (put s x.tuple x.lease) (λ (v : SpaceValue). OfHolds P (put_each v xs).entries)
    (λ taken. holds_put_each P s xs all) (λ left. holds_put_each P (put s x.tuple x.lease) xs (holds_put P s x.tuple x.lease all))

holds_changed : (P : Hold → Type 0) (number : ℕ) (change : Entry → Entry) → ((e : Entry) → All P e.holds → All P (change e).holds)
    → (es : List Entry) → OfHolds P es → OfHolds P (changed number change es)
holds_changed P number change stays es all =
    All-map (λ (e : Entry). All P e.holds) (λ (e : Entry). cond (eqb e.number number) (change e) e) es
    (λ k d lt. cond_both (eqb (get_or es k d).number number) (change (get_or es k d)) (get_or es k d) (λ (e : Entry). All P e.holds)
    (λ t. stays (get_or es k d) (all k d lt)) (λ f. all k d lt))

one_more : (P : Hold → Type 0) (h : Hold) → P h → (hs : List Hold) → All P hs → All P (holds_with h hs)
one_more P h new [] all = All-cons P h [] new (All-nil P)
one_more P h new (x ∷ xs) all =
    cond_both (eqb x.by h.by) (h ∷ xs) (x ∷ holds_with h xs) (All P)
    (λ t. All-cons P h xs new (All-tail P x xs all))
    (λ f. All-cons P x (holds_with h xs) (All-head P x xs all) (one_more P h new xs (All-tail P x xs all)))

-- where the holds of a holder ended, what holds of the others still does, and none of them is its
pub holds_left : (P : Hold → Type 0) (number : ℕ) (hs : List Hold) → All P hs → All (λ h. P h × (number ≢ h.by)) (holds_without number hs)
holds_left P number [] all = All-nil (λ h. P h × (number ≢ h.by))
holds_left P number (h ∷ hs) all =
    let Q : Hold → Type 0 = λ x. P x × (number ≢ x.by) in
    let rest = holds_left P number hs (All-tail P h hs all) in
    ⊎_elim
    (λ same. subst (All Q) (sym (cond-false (not (eqb h.by number)) (h ∷ holds_without number hs) (holds_without number hs) (ap not same))) rest)
    (λ other. subst (All Q) (sym (cond-true (not (eqb h.by number)) (h ∷ holds_without number hs) (holds_without number hs) (ap not other)))
    (All-cons Q h (holds_without number hs) (All-head P h hs all, λ is. false≢true (sym other ∙ eq-eqb h.by number (sym is))) rest))
    (cases_Bool (eqb h.by number))

holds_unmarked : (P : Hold → Type 0) (number : ℕ) (s : SpaceValue) → OfHolds P s.entries → OfHolds (λ h. P h × (number ≢ h.by)) (unmarked number s).entries
holds_unmarked P number s all =
    let stays = stays_without number s.moment in
    let kept = All-filter stays (λ (e : Entry). All P e.holds) s.entries all in
    All-map (λ (e : Entry). All (λ h. P h × (number ≢ h.by)) e.holds) (unheld number) (filter stays s.entries)
    (λ k d lt. holds_left P number (get_or (filter stays s.entries) k d).holds (kept k d lt))

-- where several transactions ended, none of them holds anything
pub holds_aborted : (P : Hold → Type 0) (ts : List Live) (s : SpaceValue) → OfHolds P s.entries
    → OfHolds (λ h. P h × All (λ (t : Live). t.number ≢ h.by) ts) (abort_each ts s).entries
holds_aborted P [] s all = λ k d lt j c within. (all k d lt j c within, All-nil (λ (t : Live). t.number ≢ (get_or (get_or s.entries k d).holds j c).by))
holds_aborted P (t ∷ ts) s all =
    let rest = holds_aborted (λ h. P h × (t.number ≢ h.by)) ts (unmarked t.number s) (holds_unmarked P t.number s all) in
    λ k d lt j c within. (
    let here = rest k d lt j c within in
    let h = get_or (get_or (abort_each ts (unmarked t.number s)).entries k d).holds j c in
    (here.0.0, All-cons (λ (u : Live). u.number ≢ h.by) t ts here.0.1 here.1))

-- a test finds what it found where nothing that it finds was left out
pub any_kept : {X : Type 0} (p q : X → Bool) (xs : List X) → All (λ x. p x ≡ true → q x ≡ true) xs → list_any p xs ≡ true → list_any p (filter q xs) ≡ true
any_kept p q [] all e = e
any_kept {X} p q (x ∷ xs) all e =
    let Q : X → Type 0 = λ y. p y ≡ true → q y ≡ true in
    let left = filter q xs in
    ⊎_elim
    (λ here. subst (λ (l : List X). list_any p l ≡ true) (sym (cond-true (q x) (x ∷ left) left (All-head Q x xs all here))) (or_left (p x) (list_any p left) here))
    (λ behind. cond_both (q x) (x ∷ left) left (λ (l : List X). list_any p l ≡ true)
    (λ t. or_right (p x) (list_any p left) (any_kept p q xs (All-tail Q x xs all) behind)) (λ f. any_kept p q xs (All-tail Q x xs all) behind))
    (or_cases (p x) (list_any p xs) e)

-- a transaction that is live stays so where another one's row is dropped
live_others : (moment n number : ℕ) (live : List Live) → number ≢ n → is_live_in moment n live ≡ true → is_live_in moment n (others number live) ≡ true
live_others moment n number live other lives =
    any_kept (λ (t : Live). eqb t.number n && ltb moment t.end) (λ (t : Live). not (eqb t.number number)) live
    (λ k d lt is. ap not (ne_eqb _ _ (λ same. other (sym same ∙ eqb-true _ _ (and_parts _ _ is).0)))) lives

-- a number that was live and is that of no ended transaction is live at the later moment too
live_going : (before moment n : ℕ) (live : List Live) → All (λ (t : Live). t.number ≢ n) (ended_at moment live)
    → is_live_in before n live ≡ true → is_live_in moment n (going_at moment live) ≡ true
live_going before moment n [] none lives = lives
live_going before moment n (t ∷ ts) none lives =
    let N : Live → Type 0 = λ u. u.number ≢ n in
    let P : List Live → Type 0 = λ l. is_live_in moment n l ≡ true in
    let ended = ended_at moment ts in
    let going = going_at moment ts in
    let cases = or_cases (eqb t.number n && ltb before t.end) (is_live_in before n ts) lives in
    ⊎_elim
    (λ goes.
    let rest : All N ended = subst (All N) (cond-false (not (ltb moment t.end)) (t ∷ ended) ended (ap not goes)) none in
    subst P (sym (cond-true (ltb moment t.end) (t ∷ going) going goes)) (⊎_elim
    (λ here. or_left (eqb t.number n && ltb moment t.end) (is_live_in moment n going) (and_from _ _ (and_parts _ _ here).0 goes))
    (λ behind. or_right (eqb t.number n && ltb moment t.end) (is_live_in moment n going) (live_going before moment n ts rest behind)) cases))
    (λ ends.
    let all : All N (t ∷ ended) = subst (All N) (cond-true (not (ltb moment t.end)) (t ∷ ended) ended (ap not ends)) none in
    subst P (sym (cond-false (ltb moment t.end) (t ∷ going) going ends)) (⊎_elim
    (λ here. absurd (All-head N t ended all (eqb-true _ _ (and_parts _ _ here).0)))
    (λ behind. live_going before moment n ts (All-tail N t ended all) behind) cases))
    (cases_Bool (ltb moment t.end))

live_push : (moment n : ℕ) (live : List Live) (t : Live) → is_live_in moment n live ≡ true → is_live_in moment n (live ++ t ∷ []) ≡ true
live_push moment n live t lives =
    list_any-append (λ (u : Live). eqb u.number n && ltb moment u.end) live (t ∷ []) ∙ or_left (is_live_in moment n live) (is_live_in moment n (t ∷ [])) lives

-- a world whose live transactions stay, with other entries
with_held : (w : World) (s : SpaceValue) → IsWorld w → AreHeldBy s.moment w.live s.entries → IsWorld (with_space w s)
with_held w s valid held = record {
  few_begun = valid.few_begun;
  few_commits = valid.few_commits;
  from_1 = valid.from_1;
  given = valid.given;
  rising = valid.rising;
  held = held;
}

-- a world in which some transactions ended
with_fewer : (w : World) (s : SpaceValue) (commits : ℕ) (p : Live → Bool) → IsWorld w → commits ≤ most → AreHeldBy s.moment (filter p w.live) s.entries
    → IsWorld (world_of s (filter p w.live) w.begun commits)
with_fewer w s commits p valid few held = record {
  few_begun = valid.few_begun;
  few_commits = few;
  from_1 = All-filter p (λ (t : Live). 0 < t.number) w.live valid.from_1;
  given = All-filter p (λ (t : Live). t.number ≤ w.begun) w.live valid.given;
  rising = AllPairs-filter (λ (t : Live) (u : Live). t.number < u.number) p w.live valid.rising;
  held = held;
}

held_taken : (w : World) (number entry : ℕ) (taken : Bool) → IsWorld w → is_live_transaction w number ≡ true
    → AreHeldBy w.space.moment w.live (changed entry (held_by number taken) w.space.entries)
held_taken w number entry taken valid live =
    let P = OfLive w.space.moment w.live in
    holds_changed P entry (held_by number taken) (λ e all. one_more P (record { by = number; taken = taken; permanent = is_permanent e.end }) live e.holds all)
    w.space.entries valid.held

held_read : (w : World) (number entry : ℕ) (marks : List Mark) → IsWorld w → is_live_transaction w number ≡ true
    → AreHeldBy (read_space w.space number marks entry).moment w.live (read_space w.space number marks entry).entries
held_read w number entry marks valid live =
    cond_both (is_some (find (λ (m : Mark). eqb m.entry entry) marks)) w.space (with_entries w.space (changed entry (held_by number false) w.space.entries))
    (λ (s : SpaceValue). AreHeldBy s.moment w.live s.entries) (λ t. valid.held) (λ f. held_taken w number entry false valid live)

held_others : (w : World) (number : ℕ) (s : SpaceValue) → AreHeldBy s.moment w.live s.entries → AreHeldBy s.moment (others number w.live) (unmarked number s).entries
held_others w number s held =
    let left = holds_unmarked (OfLive s.moment w.live) number s held in
    λ k d lt j c within. (let here = left k d lt j c within in live_others s.moment _ number w.live here.1 here.0)

-- what holds of every world holds after a commit, where the commits suffice
pub world_committed : (w : World) (t : TxnValue) → w.commits < most → IsWorld w → IsWorld (commit_at w t)
world_committed w t few valid =
    let s = put_each w.space t.writes in
    let left = with_entries s (without_taken t.number s.entries) in
    let before = holds_put_each (OfLive w.space.moment w.live) w.space t.writes valid.held in
    let all : AreHeldBy s.moment w.live s.entries = subst (λ m. AreHeldBy m w.live s.entries) (sym (put_each_moment w.space t.writes)) before in
    with_fewer w (unmarked t.number left) (w.commits + 1) (λ (u : Live). not (eqb u.number t.number)) valid (omega arith)
    (held_others w t.number left (All-filter (λ (e : Entry). not (is_taken_by t.number e)) (λ (e : Entry). All (OfLive s.moment w.live) e.holds) s.entries all))

-- it holds after an abort
pub world_aborted : (w : World) (number : ℕ) → IsWorld w → IsWorld (abort_at w number)
world_aborted w number valid =
    with_fewer w (unmarked number w.space) w.commits (λ (u : Live). not (eqb u.number number)) valid valid.few_commits (held_others w number w.space valid.held)

-- it holds after a transaction's renewal
pub world_renewed : (w : World) (number asked : ℕ) → IsWorld w → IsWorld (renew_at w number asked)
world_renewed w number asked valid =
    let end = granted_end w.space.moment asked in
    record {
      few_begun = valid.few_begun;
      few_commits = valid.few_commits;
      from_1 = all_renewed (λ n. 0 < n) number end w.live valid.from_1;
      given = all_renewed (λ n. n ≤ w.begun) number end w.live valid.given;
      rising = rising_renewed number end w.live valid.rising;
      held = λ k d lt j c within. live_renewed w.space.moment _ number end w.live (valid.held k d lt j c within);
    }

world_begun : (w : World) (asked : ℕ) → w.begun < most → IsWorld w → IsWorld (begin_at w asked)
world_begun w asked few valid =
    let t : Live = record { number = w.begun + 1; end = granted_end w.space.moment asked } in
    record {
      few_begun = omega arith;
      few_commits = valid.few_commits;
      from_1 = All-push (λ (u : Live). 0 < u.number) w.live t valid.from_1 (omega arith);
      given = All-push (λ (u : Live). u.number ≤ w.begun + 1) w.live t (λ k d lt. (let le = valid.given k d lt in omega arith)) (omega arith);
      rising = all_pairs_push (λ (u : Live) (v : Live). u.number < v.number) w.live t valid.rising (λ k d lt. (let le = valid.given k d lt in omega arith));
      held = λ k d lt j c within. live_push w.space.moment _ w.live t (valid.held k d lt j c within);
    }

-- the holds that are left where the moment moved on are of transactions that are live then
held_advanced : (w : World) (moment : ℕ) → w.space.moment ≤ moment → AreHeldBy w.space.moment w.live w.space.entries
    → AreHeldBy (advanced moment (abort_each (ended_at moment w.live) w.space)).moment (going_at moment w.live) (advanced moment (abort_each (ended_at moment w.live) w.space)).entries
held_advanced w moment le held =
    let s = abort_each (ended_at moment w.live) w.space in
    let same = aborts_moment (ended_at moment w.live) w.space in
    let left = holds_aborted (OfLive w.space.moment w.live) (ended_at moment w.live) w.space held in
    let going : AreHeldBy moment (going_at moment w.live) s.entries = λ k d lt j c within.
    (let here = left k d lt j c within in live_going w.space.moment moment _ w.live here.1 here.0) in
    cond_both (ltb moment s.moment) s (record { entries = filter (is_there moment) s.entries; moment = moment; last = s.last })
    (λ (v : SpaceValue). AreHeldBy v.moment (going_at moment w.live) v.entries)
    (λ t. let less : moment < s.moment = ltb-true moment s.moment t in absurd (omega arith))
    (λ f. All-filter (is_there moment) (λ (e : Entry). All (OfLive moment (going_at moment w.live)) e.holds) s.entries going)

-- it holds after the moment was moved on
pub world_advanced : (w : World) (moment : ℕ) → IsWorld w → IsWorld (advance_at w moment)
world_advanced w moment valid =
    let s = advanced moment (abort_each (ended_at moment w.live) w.space) in
    cond_both (ltb moment w.space.moment) w (world_of s (going_at moment w.live) w.begun w.commits) IsWorld
    (λ t. valid)
    (λ f. with_fewer w s w.commits (λ (u : Live). ltb moment u.end) valid valid.few_commits (held_advanced w moment (ltb-false moment w.space.moment f) valid.held))

-- each step of a transaction leads from a world to a world
same_world : (old new : World) → new ≡ old → IsWorld old → IsWorld new
same_world old new is valid = subst IsWorld (sym is) valid

-- what holds of every world holds after a call on a transaction, whatever the answer
pub step_world : (old : World) (t : TxnValue) (call : Call) (answer : Answer) (new : World) (t' : TxnValue) → Step old t call answer new t' → IsWorld old → IsWorld new
step_world old t (inp_in template) (found (Stored number)) new t' s valid =
    same_world _ new s.4 (with_held old (taken_space old.space t.number number) valid (held_taken old t.number number true valid s.0.live))
step_world old t (inp_in template) (found (Own place)) new t' s valid = same_world old new s.3 valid
step_world old t (inp_in template) nothing new t' s valid = same_world old new s.3 valid
step_world old t (inp_in template) (refused error) new t' s valid = same_world old new s.1 valid
step_world old t (rdp_in template) (found (Stored number)) new t' s valid =
    same_world _ new s.4 (with_held old (read_space old.space t.number t.marks number) valid (held_read old t.number number t.marks valid s.0.live))
step_world old t (rdp_in template) (found (Own place)) new t' s valid = same_world old new s.3 valid
step_world old t (rdp_in template) nothing new t' s valid = same_world old new s.3 valid
step_world old t (rdp_in template) (refused error) new t' s valid = same_world old new s.1 valid
step_world old t (renew_txn asked) done new t' s valid = same_world _ new s.1 (world_renewed old t.number asked valid)
step_world old t (renew_txn asked) (refused error) new t' s valid = same_world old new s.1 valid
step_world old t commit done new t' s valid = same_world _ new s.2 (world_committed old t s.1.0 valid)
step_world old t commit (refused error) new t' s valid = same_world old new s.1 valid
step_world old t abort done new t' s valid = same_world _ new s.1 (world_aborted old t.number valid)
step_world old t abort (refused error) new t' s valid = same_world old new s.1 valid
step_world old t _ _ new t' s valid = absurd s

-- it holds after a transaction was begun, or refused
pub begin_world : (old : World) (asked : ℕ) (result : Result TxnValue TxnError) (new : World) → BeginStep old asked result new → IsWorld old → IsWorld new
begin_world old asked (Ok t) new s valid = same_world _ new s.2 (world_begun old asked s.0 valid)
begin_world old asked (Err Exhausted) new s valid = same_world old new s.1 valid
begin_world old asked (Err OutOfMemory) new s valid = same_world old new s.1 valid
begin_world old asked (Err Expired) new s valid = absurd s
begin_world old asked (Err Foreign) new s valid = absurd s

-- it holds after the moment was moved on, or that was refused
pub advance_world : (old : World) (moment : ℕ) (result : Result (Unit {0}) SpaceError) (new : World) → AdvanceStep old moment (space.done_reply result) new → IsWorld old → IsWorld new
advance_world old moment (Ok u) new s valid = same_world _ new s.1 (world_advanced old moment valid)
advance_world old moment (Err numbers_used_up) new s valid = same_world old new s.1 valid
advance_world old moment (Err NotThere) new s valid = absurd s
advance_world old moment (Err memory_used_up) new s valid = absurd s

-- and so do the calls outside transactions
to_space : (old : World) (s v : SpaceValue) → s ≡ v → IsWorld old → AreHeldBy v.moment old.live v.entries → IsWorld (with_space old s)
to_space old s v is valid held = subst (λ (u : SpaceValue). IsWorld (with_space old u)) (sym is) (with_held old v valid held)

-- it holds after a tuple was put out in the space, or refused
pub out_world : (old : World) (tuple : List FieldValue) (lease : Lease) (result : Result ℕ (SpaceError × List FieldValue)) (s : SpaceValue)
    → space.Step old.space (space.out tuple lease) (space.out_reply result) s → IsWorld old → IsWorld (with_space old s)
out_world old tuple lease (Ok number) s h valid = to_space old s _ h.2 valid (holds_put (OfLive old.space.moment old.live) old.space tuple lease valid.held)
out_world old tuple lease (Err back) s h valid = by back.0 h
  where
    by : (error : SpaceError) → space.Step old.space (space.out tuple lease) (space.refused error) s → IsWorld (with_space old s)
    by numbers_used_up h = to_space old s old.space h.1 valid valid.held
    by memory_used_up h = to_space old s old.space h.1 valid valid.held
    by NotThere h = absurd h

-- it holds after a tuple was taken from the space, or none could be had
pub inp_world : (old : World) (template : List PatternValue) (result : Option (ℕ × List FieldValue)) (s : SpaceValue)
    → space.Step old.space (space.inp template) (space.inp_reply result) s → IsWorld old → IsWorld (with_space old s)
inp_world old template (Some what) s h valid =
    to_space old s _ h.4 valid (All-filter (λ (e : Entry). not (eqb e.number h.0.number)) (λ (e : Entry). All (OfLive old.space.moment old.live) e.holds) old.space.entries valid.held)
inp_world old template None s h valid = to_space old s old.space h.1 valid valid.held

-- it holds after a tuple's lease was renewed, or that was refused
pub renewal_world : (old : World) (number : ℕ) (lease : Lease) (result : Result (Unit {0}) SpaceError) (s : SpaceValue)
    → space.Step old.space (space.renew number lease) (space.done_reply result) s → IsWorld old → IsWorld (with_space old s)
renewal_world old number lease (Ok u) s h valid =
    to_space old s _ h.1 valid (holds_changed (OfLive old.space.moment old.live) number (with_end (granted old.space.moment lease)) (λ e all. all) old.space.entries valid.held)
renewal_world old number lease (Err NotThere) s h valid = to_space old s old.space h.1 valid valid.held
renewal_world old number lease (Err numbers_used_up) s h valid = absurd h
renewal_world old number lease (Err memory_used_up) s h valid = absurd h
