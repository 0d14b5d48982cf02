-- A transaction that was just begun, and what is left of those that have ended.
use Rattle.std.proofs.Common.{◌≡◌, ℕ, zero, suc, ◌+◌, ◌<◌, ◌≤◌, Bool, true, false, List, [], ◌∷◌, length, get_or, Option, None, ap, ◌∙◌, sym, subst, refl, cond, eqb, ltb, arith}
use Rattle.std.specs.Prelude.{◌≢◌, not, ◌&&◌, ◌||◌, All, Contains, filter, find, min, Ok}
use Rattle.std.specs.List.{cons_option}
use Rattle.std.specs.Option.{option_map}
use Rattle.std.proofs.lemmas.Bool.{and_parts, cond-true, cond-false, cond_both, eq-eqb, false≢true, le-ltb, lt-ltb, ltb-true, ne_eqb, or_left, or_right, or_parts}
use Rattle.std.proofs.lemmas.List.Elements.{All-cons, All-contains, All-filter, All-head, All-nil, All-tail}
use Rattle.std.proofs.lemmas.List.Folds.{list_any-append, list_any_none}
use Rattle.tuple_space.specs.Entry.{is_held, is_held_by, is_open, is_there, unheld}
use Rattle.tuple_space.specs.Holds.{holds_without}
use Rattle.tuple_space.specs.Lease.{granted_end, is_live}
use Rattle.tuple_space.specs.Space.{SpaceValue, advanced, stays_without}
use Rattle.tuple_space.specs.declared.entry.Claim.TheVariants.{Take}
use Rattle.tuple_space.specs.declared.entry.Entry.{Entry}
use Rattle.tuple_space.specs.declared.hold.Hold.{Hold}
use Rattle.tuple_space.specs.declared.lease.LeaseEnd.{LeaseEnd}
use Rattle.tuple_space.specs.declared.lease.LeaseEnd.TheVariants.{Never, At}
use Rattle.space_txn.specs.Live.{abort_each, ended_at, going_at, is_live_in, unmarked}
use Rattle.space_txn.specs.Machine.{BeginStep, IsAccepted}
use Rattle.space_txn.specs.Marks.{mark_from, marks_of}
use Rattle.space_txn.specs.Txn.{TxnValue, txn_of}
use Rattle.space_txn.specs.World.{IsWorld, World, advance_at, begin_at, is_live_transaction, world_of}
use Rattle.space_txn.specs.declared.live.Live.{Live}
use Rattle.space_txn.proofs.FindingLemmas.{contains_behind, contains_kept}
use Rattle.space_txn.proofs.LiveLemmas.{live_none}
use Rattle.space_txn.proofs.RuleLemmas.{aborts_moment}
use Rattle.space_txn.proofs.WorldLemmas.{OfHolds, any_kept, holds_aborted, holds_left, world_advanced}

none_held : (n : ℕ) (hs : List Hold) → All (λ (h : Hold). h.by ≢ n) hs → find (λ (h : Hold). eqb h.by n) hs ≡ None
none_held n [] none = refl
none_held n (h ∷ hs) none =
    let P : Hold → Type 0 = λ x. x.by ≢ n in
    cond-false (eqb h.by n) _ (find (λ (x : Hold). eqb x.by n) hs) (ne_eqb _ _ (All-head P h hs none)) ∙ none_held n hs (All-tail P h hs none)

none_marked : (n : ℕ) (es : List Entry) → OfHolds (λ h. h.by ≢ n) es → [] ≡ marks_of n es
none_marked n [] none = refl
none_marked n (e ∷ es) none =
    let P : Entry → Type 0 = λ x. All (λ (h : Hold). h.by ≢ n) x.holds in
    none_marked n es (All-tail P e es none)
    ∙ sym (ap (λ (o : Option Hold). cons_option (option_map (mark_from e) o) (marks_of n es)) (none_held n e.holds (All-head P e es none)))

-- a transaction that was just begun is accepted
pub begun_accepted : (old : World) (asked : ℕ) (t : TxnValue) (new : World) → IsWorld old → BeginStep old asked (Ok t) new → 0 < asked → IsAccepted new t
begun_accepted old asked t new valid s more =
    let n = old.begun + 1 in
    let moment = old.space.moment in
    let row : Live = record { number = n; end = granted_end moment asked } in
    let none = live_none moment n old.live (λ k d lt same. (let le = valid.given k d lt in omega arith)) in
    let later : ltb moment (moment + min asked 86400000) ≡ true = lt-ltb moment (moment + min asked 86400000) (omega arith) in
    let here : (eqb n n && ltb moment (granted_end moment asked)) ≡ true = ap (λ b. b && ltb moment (granted_end moment asked)) (eq-eqb n n refl) ∙ later in
    let accepted : IsAccepted (begin_at old asked) (txn_of n [] []) = record {
      live = list_any-append (λ (u : Live). eqb u.number n && ltb moment u.end) old.live (row ∷ [])
          ∙ or_right (is_live_in moment n old.live) _ (or_left (eqb n n && ltb moment (granted_end moment asked)) false here);
      own = none_marked n old.space.entries (λ k d lt j c within same. false≢true (sym none ∙ ap (λ m. is_live_in moment m old.live) (sym same) ∙ valid.held k d lt j c within));
    } in
    subst (λ (w : World). IsAccepted w t) (sym s.2) (subst (λ (v : TxnValue). IsAccepted (begin_at old asked) v) (sym s.1) accepted)

-- the space, and the world, after the moment moved on
abbrev space_at : World → ℕ → SpaceValue
space_at old moment =
    let s = abort_each (ended_at moment old.live) old.space in
    record { entries = filter (is_there moment) s.entries; moment = moment; last = s.last }

abbrev world_at : World → ℕ → World
world_at old moment = world_of (space_at old moment) (going_at moment old.live) old.begun old.commits

advanced_to : (old : World) (moment : ℕ) → old.space.moment ≤ moment → advanced moment (abort_each (ended_at moment old.live) old.space) ≡ space_at old moment
advanced_to old moment le =
    let s = abort_each (ended_at moment old.live) old.space in
    let same = aborts_moment (ended_at moment old.live) old.space in
    cond-false (ltb moment s.moment) s (space_at old moment) (le-ltb moment s.moment (omega arith))

advanced_world : (old : World) (moment : ℕ) → old.space.moment ≤ moment → advance_at old moment ≡ world_at old moment
advanced_world old moment le =
    let s = advanced moment (abort_each (ended_at moment old.live) old.space) in
    cond-false (ltb moment old.space.moment) old (world_of s (going_at moment old.live) old.begun old.commits) (le-ltb moment old.space.moment le)
    ∙ ap (λ (v : SpaceValue). world_of v (going_at moment old.live) old.begun old.commits) (advanced_to old moment le)

contains_filtered : {X : Type 0} (p : X → Bool) (xs : List X) (i : ℕ) (x : X) → i < length xs → get_or xs i x ≡ x → p x ≡ true → Contains (filter p xs) x
contains_filtered p [] i x lt is sure = absurd (omega arith)
contains_filtered {X} p (y ∷ ys) zero x lt is sure =
    let P : X → Type 0 = λ z. Contains (cond (p z) (z ∷ filter p ys) (filter p ys)) x in
    let Q : List X → Type 0 = λ l. Contains l x in
    subst P (sym is) (subst Q (sym (cond-true (p x) (x ∷ filter p ys) (filter p ys) sure)) (0, omega arith, refl))
contains_filtered {X} p (y ∷ ys) (suc i) x lt is sure =
    let rest = contains_filtered p ys i x (omega arith) is sure in
    cond_both (p y) (y ∷ filter p ys) (filter p ys) (λ (l : List X). Contains l x) (λ t. contains_behind y (filter p ys) x rest) (λ f. rest)

-- no mark is left of a transaction whose lease has ended
pub ended_unmarked : (old : World) (moment : ℕ) (t : Live) → old.space.moment ≤ moment → Contains old.live t → t.end ≤ moment
    → All (λ (e : Entry). is_held_by t.number e ≡ false) (advance_at old moment).space.entries
ended_unmarked old moment t le at over =
    let ts = ended_at moment old.live in
    let s = abort_each ts old.space in
    let gone : Contains ts t = contains_filtered (λ (u : Live). not (ltb moment u.end)) old.live at.0 t at.1 at.2 (ap not (le-ltb moment t.end over)) in
    let none = holds_aborted (λ (h : Hold). Unit {0}) ts old.space (λ k d lt j c within. tt) in
    let P : Entry → Type 0 = λ e. is_held_by t.number e ≡ false in
    let left : All P s.entries = λ k d lt.
    (let hs = (get_or s.entries k d).holds in
    list_any_none (λ (h : Hold). eqb h.by t.number) hs (λ j c within.
    (ne_eqb _ _ (λ same. All-contains (λ (u : Live). u.number ≢ (get_or hs j c).by) ts t (none k d lt j c within).1 gone (sym same))))) in
    subst (λ (w : World). All P w.space.entries) (sym (advanced_world old moment le)) (All-filter (is_there moment) P s.entries left)

-- each mark that is left is that of a live transaction
pub left_live : (old : World) (moment : ℕ) → IsWorld old → old.space.moment ≤ moment
    → All (λ (e : Entry). All (λ h. is_live_transaction (advance_at old moment) h.by ≡ true) e.holds) (advance_at old moment).space.entries
left_live old moment valid le = (world_advanced old moment valid).held

-- the holds of an entry without those of several transactions
abbrev drop_each : List Live → List Hold → List Hold
drop_each [] hs = hs
drop_each (t ∷ ts) hs = drop_each ts (holds_without t.number hs)

dropped_all : (moment : ℕ) (ts : List Live) (hs : List Hold) → All (λ (h : Hold). is_live_in moment h.by ts ≡ true) hs → drop_each ts hs ≡ []
dropped_all moment [] [] all = refl
dropped_all moment [] (h ∷ hs) all = absurd (false≢true (All-head (λ (x : Hold). is_live_in moment x.by [] ≡ true) h hs all))
dropped_all moment (t ∷ ts) hs all =
    let left = holds_left (λ (h : Hold). is_live_in moment h.by (t ∷ ts) ≡ true) t.number hs all in
    dropped_all moment ts (holds_without t.number hs) (λ k d lt.
    (let here = left k d lt in
    let n = (get_or (holds_without t.number hs) k d).by in
    sym (ap (λ b. (b && ltb moment t.end) || is_live_in moment n ts) (ne_eqb t.number n here.1)) ∙ here.0))

contains_aborted : (ts : List Live) (s : SpaceValue) (e : Entry) → Contains s.entries e → is_live s.moment e.end ≡ true
    → Contains (abort_each ts s).entries (record e { holds = drop_each ts e.holds })
contains_aborted [] s e at live = at
contains_aborted (t ∷ ts) s e at live =
    let stays = or_right (not (is_held_by t.number e)) (is_there s.moment (unheld t.number e)) (or_left (is_live s.moment e.end) (is_held (unheld t.number e)) live) in
    contains_aborted ts (unmarked t.number s) (unheld t.number e)
    (contains_kept (unheld t.number) (stays_without t.number s.moment) s.entries at.0 e at.1 at.2 stays) live

-- a number that isn't live is that of an ended transaction
not_live : (moment n : ℕ) (live : List Live) → is_live_in moment n live ≡ false → All (λ (t : Live). eqb t.number n ≡ true → not (ltb moment t.end) ≡ true) live
not_live moment n [] dead = All-nil (λ (t : Live). eqb t.number n ≡ true → not (ltb moment t.end) ≡ true)
not_live moment n (t ∷ ts) dead =
    let parts = or_parts (eqb t.number n && ltb moment t.end) (is_live_in moment n ts) dead in
    All-cons (λ (u : Live). eqb u.number n ≡ true → not (ltb moment u.end) ≡ true) t ts
    (λ is. ap not (sym (ap (λ b. b && ltb moment t.end) is) ∙ parts.0)) (not_live moment n ts parts.1)

earlier_live : (before moment : ℕ) (end : LeaseEnd) → before ≤ moment → is_live moment end ≡ true → is_live before end ≡ true
earlier_live before moment Never le live = refl
earlier_live before moment (At n) le live = let less : moment < n = ltb-true moment n live in lt-ltb before n (omega arith)

-- an entry that only ended transactions had is held by nobody, and can be taken
pub open_again : (old : World) (moment : ℕ) (e : Entry) → IsWorld old → old.space.moment ≤ moment → Contains old.space.entries e → is_live moment e.end ≡ true
    → All (λ (h : Hold). is_live_in moment h.by old.live ≡ false) e.holds
    → Contains (advance_at old moment).space.entries (record e { holds = [] }) × (is_open Take moment (record e { holds = [] }) ≡ true)
open_again old moment e valid le at live dead =
    let ts = ended_at moment old.live in
    let s = abort_each ts old.space in
    let free : Entry = record e { holds = [] } in
    let before = old.space.moment in
    let held = All-contains (λ (x : Entry). All (λ (h : Hold). is_live_in before h.by old.live ≡ true) x.holds) old.space.entries e valid.held at in
    let over : All (λ (h : Hold). is_live_in before h.by ts ≡ true) e.holds = λ k d lt.
    (let n = (get_or e.holds k d).by in
    let ended = not_live moment n old.live (dead k d lt) in
    any_kept (λ (t : Live). eqb t.number n && ltb before t.end) (λ (t : Live). not (ltb moment t.end)) old.live (λ i c less is. ended i c less (and_parts _ _ is).0) (held k d lt)) in
    let there = contains_aborted ts old.space e at (earlier_live old.space.moment moment e.end le live) in
    let left : Contains s.entries free = subst (λ (hs : List Hold). Contains s.entries (record e { holds = hs })) (dropped_all before ts e.holds over) there in
    let kept = contains_filtered (is_there moment) s.entries left.0 free left.1 left.2 (or_left (is_live moment e.end) false live) in (
      subst (λ (w : World). Contains w.space.entries free) (sym (advanced_world old moment le)) kept,
      ap (λ b. (b && true) && true) live,
    )
