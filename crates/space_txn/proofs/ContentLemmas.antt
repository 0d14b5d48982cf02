use Rattle.std.proofs.Common.{◌≡◌, ℕ, ◌+◌, Bool, true, false, List, [], ◌∷◌, ap, ◌∙◌, sym, subst, refl, cond, eqb, ltb, arith}
use Rattle.std.specs.Prelude.{not, ◌&&◌, ◌||◌, filter, find, is_some, map, Result, Ok, Err}
use Rattle.std.specs.List.{list_any, sum_by}
use Rattle.std.proofs.lemmas.Bool.{cond_both, false≢true}
use Rattle.std.proofs.lemmas.List.Sums.{sum_by-cons, sum_by_push}
use Rattle.tuple_match.specs.FieldValue.{FieldValue}
use Rattle.tuple_space.specs.Lease.{granted, is_live, is_permanent}
use Rattle.tuple_space.specs.Entry.{is_held, is_held_by, is_taken_by, is_there, unheld}
use Rattle.tuple_space.specs.Holds.{holds_without}
use Rattle.tuple_space.specs.Rows.{changed, permanent_tuples}
use Rattle.tuple_space.specs.Space.{SpaceValue, advanced, held_by, put, with_entries, released, stays_without, without_taken}
use Rattle.tuple_space.specs.Writes.{put_each}
use Rattle.tuple_space.specs.declared.entry.Entry.{Entry}
use Rattle.tuple_space.specs.declared.lease.Lease.{Lease}
use Rattle.tuple_space.specs.declared.lease.Lease.TheVariants.{Forever, Ms}
use Rattle.tuple_space.specs.declared.lease.LeaseEnd.{LeaseEnd}
use Rattle.tuple_space.specs.declared.lease.LeaseEnd.TheVariants.{Never, At}
use Rattle.tuple_space.specs.declared.hold.Hold.{Hold}
use Rattle.tuple_space.specs.declared.write.Write.{Write}
use Rattle.space_txn.specs.Content.{SameItems, KeepsContent, LeavesContent, content_of, is_added, added_of}
use Rattle.space_txn.specs.Machine.{Step, BeginStep, AdvanceStep, Call, inp_in, rdp_in, renew_txn, commit, abort, Answer, found, nothing, done, refused, committed_space, commit_at, taken_space, read_space}
use Rattle.space_txn.specs.Live.{abort_each, ended_at, going_at, unmarked}
use Rattle.space_txn.specs.declared.live.Live.{Live}
use Rattle.space_txn.specs.declared.mark.Mark.{Mark}
use Rattle.space_txn.specs.declared.txn.Found.TheVariants.{Entry as Stored, Own}
use Rattle.space_txn.specs.declared.error.TxnError.{TxnError}
use Rattle.space_txn.specs.declared.error.TxnError.TheVariants.{Expired, Foreign, Exhausted, OutOfMemory}
use Rattle.tuple_space.specs.Step.{done_reply}
use Rattle.tuple_space.specs.declared.error.SpaceError.{SpaceError}
use Rattle.tuple_space.specs.declared.error.SpaceError.TheVariants.{Exhausted as moments_used_up, NotThere, OutOfMemory as memory_used_up}
use Rattle.space_txn.specs.Txn.{TxnValue}
use Rattle.space_txn.specs.World.{World, world_of, with_space, abort_at, advance_at, begin_at, renew_at}

-- a weight over what is kept of a list
pub sum_of_one : {X Y : Type 0} (f : Y → ℕ) (g : X → Y) (b : Bool) (x : X) (ys : List X) → sum_by f (map g (cond b (x ∷ ys) ys)) ≡ cond b (f (g x)) 0 + sum_by f (map g ys)
sum_of_one f g true x ys = sum_by-cons f (g x) (map g ys)
sum_of_one f g false x ys = omega arith

-- a weight over the items that pass a test, as one over all items
pub sum_of_kept : {X Y : Type 0} (f : Y → ℕ) (g : X → Y) (p : X → Bool) (xs : List X) → sum_by f (map g (filter p xs)) ≡ sum_by (λ x. cond (p x) (f (g x)) 0) xs
sum_of_kept f g p [] = refl
sum_of_kept {X} {Y} f g p (x ∷ xs) =
    let one = sum_of_one f g (p x) x (filter p xs) in
    let rest = sum_of_kept f g p xs in
    let all = sum_by-cons (λ (y : X). cond (p y) (f (g y)) 0) x xs in
    omega arith

-- two weights that agree at each element add up to the same
sum_same : {X : Type 0} (f g : X → ℕ) → ((x : X) → f x ≡ g x) → (xs : List X) → sum_by f xs ≡ sum_by g xs
sum_same f g same [] = refl
sum_same f g same (x ∷ xs) =
    let one = same x in
    let rest = sum_same f g same xs in
    let left = sum_by-cons f x xs in
    let right = sum_by-cons g x xs in
    omega arith

-- a weight of tuples as one of entries
abbrev pub weight : (List FieldValue → ℕ) → Entry → ℕ
weight f e = cond (is_permanent e.end) (f e.tuple) 0

-- a weight over the permanent tuples, as one over entries
pub sum_of_permanent : (f : List FieldValue → ℕ) (es : List Entry) → sum_by f (permanent_tuples es) ≡ sum_by (weight f) es
sum_of_permanent f es = sum_of_kept f (λ (e : Entry). e.tuple) (λ (e : Entry). is_permanent e.end) es

-- an entry that goes with a holder's hold isn't permanent
goes_unweighed : (f : List FieldValue → ℕ) (held left : Bool) (moment : ℕ) (end : LeaseEnd) (tuple : List FieldValue) → (not held || (is_live moment end || left)) ≡ false → cond (is_permanent end) (f tuple) 0 ≡ 0
goes_unweighed f held left moment (At end) tuple e = refl
goes_unweighed f true left moment Never tuple e = absurd (false≢true (sym e))
goes_unweighed f false left moment Never tuple e = absurd (false≢true (sym e))

released_one : (f : List FieldValue → ℕ) (number moment : ℕ) (e : Entry) (es : List Entry) (stays : Bool) → stays_without number moment e ≡ stays → sum_by (weight f) (map (unheld number) (cond stays (e ∷ es) es)) ≡ weight f e + sum_by (weight f) (map (unheld number) es)
released_one f number moment e es true is = sum_by-cons (weight f) (unheld number e) (map (unheld number) es)
released_one f number moment e es false is =
    let none : weight f e ≡ 0 = goes_unweighed f (is_held_by number e) (list_any (λ (h : Hold). true) (holds_without number e.holds)) moment e.end e.tuple is in
    omega arith

-- ending holds leaves the permanent tuples
sum_of_released : (f : List FieldValue → ℕ) (number moment : ℕ) (es : List Entry) → sum_by (weight f) (released number moment es) ≡ sum_by (weight f) es
sum_of_released f number moment [] = refl
sum_of_released f number moment (e ∷ es) =
    let one = released_one f number moment e (filter (stays_without number moment) es) (stays_without number moment e) refl in
    let rest = sum_of_released f number moment es in
    let all = sum_by-cons (weight f) e es in
    omega arith

-- what a weight of fresh entries adds up to
put_one : (g : Entry → ℕ) (h : List FieldValue → Lease → ℕ) → ((n m : ℕ) (t : List FieldValue) (l : Lease) → g (record { number = n; tuple = t; end = granted m l; holds = [] }) ≡ h t l)
    → (s : SpaceValue) (x : Write) (taken : Bool) → sum_by g (cond taken s (put s x.tuple x.lease)).entries ≡ sum_by g s.entries + cond taken 0 (h x.tuple x.lease)
put_one g h fresh s x true = omega arith
put_one g h fresh s x false =
    sum_by_push g s.entries (record { number = s.last + 1; tuple = x.tuple; end = granted s.moment x.lease; holds = [] })
    ∙ ap (λ n. sum_by g s.entries + n) (fresh (s.last + 1) s.moment x.tuple x.lease)

sum_of_put : (g : Entry → ℕ) (h : List FieldValue → Lease → ℕ) → ((n m : ℕ) (t : List FieldValue) (l : Lease) → g (record { number = n; tuple = t; end = granted m l; holds = [] }) ≡ h t l)
    → (s : SpaceValue) (writes : List Write) → sum_by g (put_each s writes).entries ≡ sum_by g s.entries + sum_by (λ x. cond x.taken 0 (h x.tuple x.lease)) writes
sum_of_put g h fresh s [] = omega arith
sum_of_put g h fresh s (x ∷ xs) =
    let one = put_one g h fresh s x x.taken in
    let rest = sum_of_put g h fresh (cond x.taken s (put s x.tuple x.lease)) xs in
    let all = sum_by-cons (λ (y : Write). cond y.taken 0 (h y.tuple y.lease)) x xs in
    omega arith

-- a lease is permanent whenever it is granted
permanent_anytime : (f : ℕ) (m : ℕ) (l : Lease) → cond (is_permanent (granted m l)) f 0 ≡ cond (is_permanent (granted 0 l)) f 0
permanent_anytime f m Forever = refl
permanent_anytime f m (Ms k) = refl

added_weight : (f : List FieldValue → ℕ) (x : Write) (taken : Bool) → cond (not taken && is_permanent (granted 0 x.lease)) (f x.tuple) 0 ≡ cond taken 0 (cond (is_permanent (granted 0 x.lease)) (f x.tuple) 0)
added_weight f x true = refl
added_weight f x false = refl

sum_of_added : (f : List FieldValue → ℕ) (writes : List Write) → sum_by f (added_of writes) ≡ sum_by (λ x. cond x.taken 0 (cond (is_permanent (granted 0 x.lease)) (f x.tuple) 0)) writes
sum_of_added f writes =
    sum_of_kept f (λ (x : Write). x.tuple) is_added writes
    ∙ sum_same (λ (x : Write). cond (is_added x) (f x.tuple) 0) (λ (x : Write). cond x.taken 0 (cond (is_permanent (granted 0 x.lease)) (f x.tuple) 0)) (λ x. added_weight f x x.taken) writes

filter_one : (w : Entry → ℕ) (b : Bool) (e : Entry) (es : List Entry) → sum_by w (cond b (e ∷ es) es) ≡ cond b (w e) 0 + sum_by w es
filter_one w true e es = sum_by-cons w e es
filter_one w false e es = omega arith

-- a weight over what is kept, of entries themselves
pub sum_of_filter : (w : Entry → ℕ) (p : Entry → Bool) (es : List Entry) → sum_by w (filter p es) ≡ sum_by (λ e. cond (p e) (w e) 0) es
sum_of_filter w p [] = refl
sum_of_filter w p (e ∷ es) =
    let one = filter_one w (p e) e (filter p es) in
    let rest = sum_of_filter w p es in
    let all = sum_by-cons (λ (y : Entry). cond (p y) (w y) 0) e es in
    omega arith

abbrev content_entries : World → TxnValue → List Entry
content_entries w t = (committed_space w.space t.number t.writes).entries

-- the content after a commit: what wasn't taken, and what was added
pub sum_after : (f : List FieldValue → ℕ) (w : World) (t : TxnValue) → sum_by f (content_of (commit_at w t)) ≡ sum_by (weight f) (without_taken t.number w.space.entries) + sum_by f (added_of t.writes)
sum_after f w t =
    let number = t.number in
    let s = put_each w.space t.writes in
    let untaken : Entry → Bool = λ e. not (is_taken_by number e) in
    let g : Entry → ℕ = λ e. cond (untaken e) (weight f e) 0 in
    let h : List FieldValue → Lease → ℕ = λ tuple lease. cond (is_permanent (granted 0 lease)) (f tuple) 0 in
    let now = sum_of_permanent f (content_entries w t) in
    let kept = sum_of_released f number s.moment (without_taken number s.entries) in
    let left = sum_of_filter (weight f) untaken s.entries in
    let put = sum_of_put g h (λ n m tuple lease. permanent_anytime (f tuple) m lease) w.space t.writes in
    let back = sum_of_filter (weight f) untaken w.space.entries in
    let added = sum_of_added f t.writes in
    omega arith

-- a change of entries that leaves their weights
sum_of_map : (w : Entry → ℕ) (g : Entry → Entry) → ((e : Entry) → w (g e) ≡ w e) → (es : List Entry) → sum_by w (map g es) ≡ sum_by w es
sum_of_map w g same [] = refl
sum_of_map w g same (e ∷ es) =
    let one = same e in
    let rest = sum_of_map w g same es in
    let left = sum_by-cons w (g e) (map g es) in
    let right = sum_by-cons w e es in
    omega arith

sum_of_held : (f : List FieldValue → ℕ) (number holder : ℕ) (taken : Bool) (es : List Entry) → sum_by (weight f) (changed number (held_by holder taken) es) ≡ sum_by (weight f) es
sum_of_held f number holder taken es =
    sum_of_map (weight f) (λ (e : Entry). cond (eqb e.number number) (held_by holder taken e) e)
    (λ e. cond_both (eqb e.number number) (held_by holder taken e) e (λ (x : Entry). weight f x ≡ weight f e) (λ t. refl) (λ t. refl)) es

-- an entry that isn't there isn't permanent
there_one : (f : List FieldValue → ℕ) (moment : ℕ) (held : Bool) (end : LeaseEnd) (tuple : List FieldValue) → cond (is_live moment end || held) (cond (is_permanent end) (f tuple) 0) 0 ≡ cond (is_permanent end) (f tuple) 0
there_one f moment held Never tuple = refl
there_one f moment held (At end) tuple = cond_both (is_live moment (At end) || held) 0 0 (λ (n : ℕ). n ≡ 0) (λ t. refl) (λ t. refl)

sum_of_there : (f : List FieldValue → ℕ) (moment : ℕ) (es : List Entry) → sum_by (weight f) (filter (is_there moment) es) ≡ sum_by (weight f) es
sum_of_there f moment es =
    sum_of_filter (weight f) (is_there moment) es
    ∙ sum_same (λ (e : Entry). cond (is_there moment e) (weight f e) 0) (weight f) (λ e. there_one f moment (is_held e) e.end e.tuple) es

sum_of_aborts : (f : List FieldValue → ℕ) (live : List Live) (s : SpaceValue) → sum_by (weight f) (abort_each live s).entries ≡ sum_by (weight f) s.entries
sum_of_aborts f [] s = refl
sum_of_aborts f (t ∷ ts) s = sum_of_aborts f ts (unmarked t.number s) ∙ sum_of_released f t.number s.moment s.entries

-- worlds whose entries weigh the same have the same content
weighs_same : (old new : World) → ((f : List FieldValue → ℕ) → sum_by (weight f) new.space.entries ≡ sum_by (weight f) old.space.entries) → SameItems (content_of new) (content_of old)
weighs_same old new h = λ f. sum_of_permanent f new.space.entries ∙ h f ∙ sym (sum_of_permanent f old.space.entries)

keeps_at : (old w new : World) → ((f : List FieldValue → ℕ) → sum_by (weight f) w.space.entries ≡ sum_by (weight f) old.space.entries) → w.commits ≡ old.commits → new ≡ w → KeepsContent old new
keeps_at old w new h counted is =
    let P : World → Type 0 = λ v. KeepsContent old v in
    subst P (sym is) (record { same = weighs_same old w h; counted = counted })

keeps_same : (old new : World) → new ≡ old → KeepsContent old new
keeps_same old new is = keeps_at old old new (λ f. refl) refl is

read_weighs : (f : List FieldValue → ℕ) (s : SpaceValue) (holder : ℕ) (marks : List Mark) (number : ℕ) → sum_by (weight f) (read_space s holder marks number).entries ≡ sum_by (weight f) s.entries
read_weighs f s holder marks number =
    cond_both (is_some (find (λ (m : Mark). eqb m.entry number) marks)) s (with_entries s (changed number (held_by holder false) s.entries))
    (λ (x : SpaceValue). sum_by (weight f) x.entries ≡ sum_by (weight f) s.entries) (λ t. refl) (λ t. sum_of_held f number holder false s.entries)

advance_keeps : (old : World) (moment : ℕ) → KeepsContent old (advance_at old moment)
advance_keeps old moment =
    let after = world_of (advanced moment (abort_each (ended_at moment old.live) old.space)) (going_at moment old.live) old.begun old.commits in
    let s = abort_each (ended_at moment old.live) old.space in
    cond_both (ltb moment old.space.moment) old after (KeepsContent old)
    (λ t. keeps_same old old refl)
    (λ t. keeps_at old after after
    (λ f. cond_both (ltb moment s.moment) s (record { entries = filter (is_there moment) s.entries; moment = moment; last = s.last })
    (λ (x : SpaceValue). sum_by (weight f) x.entries ≡ sum_by (weight f) old.space.entries)
    (λ u. sum_of_aborts f (ended_at moment old.live) old.space)
    (λ u. sum_of_there f moment s.entries ∙ sum_of_aborts f (ended_at moment old.live) old.space))
    refl refl)

-- what a step but an accepted commit does to the content
pub step_keeps : (old : World) (t : TxnValue) (call : Call) (answer : Answer) (new : World) (t' : TxnValue) → Step old t call answer new t' → LeavesContent call answer → KeepsContent old new
step_keeps old t (inp_in template) (found (Stored number)) new t' s l =
    keeps_at old (with_space old (taken_space old.space t.number number)) new (λ f. sum_of_held f number t.number true old.space.entries) refl s.4
step_keeps old t (inp_in template) (found (Own place)) new t' s l = keeps_same old new s.3
step_keeps old t (inp_in template) nothing new t' s l = keeps_same old new s.3
step_keeps old t (inp_in template) (refused error) new t' s l = keeps_same old new s.1
step_keeps old t (rdp_in template) (found (Stored number)) new t' s l =
    keeps_at old (with_space old (read_space old.space t.number t.marks number)) new (λ f. read_weighs f old.space t.number t.marks number) refl s.4
step_keeps old t (rdp_in template) (found (Own place)) new t' s l = keeps_same old new s.3
step_keeps old t (rdp_in template) nothing new t' s l = keeps_same old new s.3
step_keeps old t (rdp_in template) (refused error) new t' s l = keeps_same old new s.1
step_keeps old t (renew_txn asked) done new t' s l = keeps_at old (renew_at old t.number asked) new (λ f. refl) refl s.1
step_keeps old t (renew_txn asked) (refused error) new t' s l = keeps_same old new s.1
step_keeps old t commit (refused error) new t' s l = keeps_same old new s.1
step_keeps old t abort done new t' s l =
    keeps_at old (abort_at old t.number) new (λ f. sum_of_released f t.number old.space.moment old.space.entries) refl s.1
step_keeps old t abort (refused error) new t' s l = keeps_same old new s.1
step_keeps old t commit done new t' s l = absurd l
step_keeps old t _ _ new t' s l = absurd s

-- the beginning of a transaction, or its refusal, keeps the content
pub begin_keeps : (old : World) (asked : ℕ) (result : Result TxnValue TxnError) (new : World) → BeginStep old asked result new → KeepsContent old new
begin_keeps old asked (Ok t) new s = keeps_at old (begin_at old asked) new (λ f. refl) refl s.2
begin_keeps old asked (Err Exhausted) new s = keeps_same old new s.1
begin_keeps old asked (Err OutOfMemory) new s = keeps_same old new s.1
begin_keeps old asked (Err Expired) new s = absurd s
begin_keeps old asked (Err Foreign) new s = absurd s

-- moving the moment on, or its refusal, keeps the content
pub advance_step_keeps : (old : World) (moment : ℕ) (result : Result (Unit {0}) SpaceError) (new : World) → AdvanceStep old moment (done_reply result) new → KeepsContent old new
advance_step_keeps old moment (Ok u) new s =
    let P : World → Type 0 = λ v. KeepsContent old v in
    subst P (sym s.1) (advance_keeps old moment)
advance_step_keeps old moment (Err moments_used_up) new s = keeps_same old new s.1
advance_step_keeps old moment (Err NotThere) new s = absurd s
advance_step_keeps old moment (Err memory_used_up) new s = absurd s
