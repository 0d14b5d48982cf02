use Rattle.std.proofs.Common.{◌≡◌, ℕ, zero, suc, ◌+◌, ◌<◌, ◌≤◌, Bool, true, false, List, [], ◌∷◌, ◌++◌, append_assoc, append-nil, cond, length, ltb, get_or, ap, ◌∙◌, sym, refl, eqb, arith}
use Rattle.std.specs.Prelude.{◌≢◌, not, ◌||◌, All, Contains, filter, map, max}
use Rattle.std.specs.List.{list_any}
use Rattle.std.proofs.lemmas.Bool.{cond-true, cond-false, cond_both, eq-eqb, le-ltb, lt-ltb, ltb-true, ne_eqb}
use Rattle.std.proofs.lemmas.List.{map-append}
use Rattle.std.proofs.lemmas.List.Elements.{All-filter, All-head, All-map, All-tail, filter-append}
use Rattle.tuple_space.specs.Entry.{is_held_by, is_taken_by, unheld}
use Rattle.tuple_space.specs.Holds.{holds_without}
use Rattle.tuple_space.specs.Lease.{granted, is_live, is_permanent, later}
use Rattle.tuple_space.specs.Space.{IsSpace, SpaceValue, put, released, stays_without, without_taken}
use Rattle.tuple_space.specs.Writes.{put_each}
use Rattle.tuple_space.specs.declared.entry.Entry.{Entry}
use Rattle.tuple_space.specs.declared.hold.Hold.{Hold}
use Rattle.tuple_space.specs.declared.lease.LeaseEnd.{LeaseEnd}
use Rattle.tuple_space.specs.declared.lease.LeaseEnd.TheVariants.{Never, At}
use Rattle.tuple_space.specs.declared.write.Write.{Write}
use Rattle.space_txn.specs.Granting.{entries_for, granted_entries}
use Rattle.space_txn.specs.Machine.{commit_at}
use Rattle.space_txn.specs.Txn.{TxnValue}
use Rattle.space_txn.specs.World.{World}

-- the later of two ends is live while either is
pub later_old : (moment : ℕ) (other end : LeaseEnd) → is_live moment end ≡ true → is_live moment (later end other) ≡ true
later_old moment other Never live = refl
later_old moment Never (At n) live = refl
later_old moment (At m) (At n) live = let less : moment < n = ltb-true moment n live in lt-ltb moment (max n m) (omega arith)

-- the same where the other one is live
pub later_new : (moment : ℕ) (other end : LeaseEnd) → is_live moment other ≡ true → is_live moment (later end other) ≡ true
later_new moment other Never live = refl
later_new moment Never (At n) live = refl
later_new moment (At m) (At n) live = let less : moment < m = ltb-true moment m live in lt-ltb moment (max n m) (omega arith)

-- the later of two ends is permanent where the first is
pub later_stays : (other end : LeaseEnd) → is_permanent end ≡ true → is_permanent (later end other) ≡ true
later_stays other Never permanent = refl
later_stays Never (At n) permanent = refl
later_stays (At m) (At n) permanent = permanent

-- and where the other is `Never`
pub later_never : (end : LeaseEnd) → is_permanent (later end Never) ≡ true
later_never Never = refl
later_never (At n) = refl

-- nobody is left where all holds are one holder's
none_left : (holder : ℕ) (holds : List Hold) → All (λ (h : Hold). h.by ≡ holder) holds → list_any (λ (h : Hold). true) (holds_without holder holds) ≡ false
none_left holder [] all = refl
none_left holder (h ∷ hs) all =
    let P : Hold → Type 0 = λ x. x.by ≡ holder in
    ap (list_any (λ (x : Hold). true)) (cond-false (not (eqb h.by holder)) (h ∷ holds_without holder hs) (holds_without holder hs) (ap not (eq-eqb _ _ (All-head P h hs all))))
    ∙ none_left holder hs (All-tail P h hs all)

-- somebody is where another one holds
one_left : (holder : ℕ) (holds : List Hold) (i : ℕ) (other : Hold) → i < length holds → get_or holds i other ≡ other → other.by ≢ holder → list_any (λ (h : Hold). true) (holds_without holder holds) ≡ true
one_left holder [] i other lt is ne = absurd (omega arith)
one_left holder (h ∷ hs) zero other lt is ne =
    ap (list_any (λ (x : Hold). true)) (cond-true (not (eqb h.by holder)) (h ∷ holds_without holder hs) (holds_without holder hs) (ap not (ne_eqb _ _ (λ same. ne (sym (ap (λ (x : Hold). x.by) is) ∙ same)))))
one_left holder (h ∷ hs) (suc i) other lt is ne =
    let rest = one_left holder hs i other (omega arith) is ne in
    cond_both (not (eqb h.by holder)) (h ∷ holds_without holder hs) (holds_without holder hs) (λ (l : List Hold). list_any (λ (x : Hold). true) l ≡ true) (λ t. refl) (λ f. rest)

left_false : (held live left : Bool) → held ≡ true → live ≡ false → left ≡ false → (not held || (live || left)) ≡ false
left_false held live left h l e = ap (λ b. not b || (live || left)) h ∙ ap (λ b. b || left) l ∙ e

left_true : (held live left : Bool) → left ≡ true → (not held || (live || left)) ≡ true
left_true true true left e = refl
left_true true false left e = e
left_true false live left e = refl

-- an entry whose lease has ended leaves where its only holder lets go
pub leaves_last : (holder moment : ℕ) (e : Entry) → is_held_by holder e ≡ true → is_live moment e.end ≡ false → All (λ (h : Hold). h.by ≡ holder) e.holds → stays_without holder moment e ≡ false
leaves_last holder moment e held ended all = left_false (is_held_by holder e) (is_live moment e.end) _ held ended (none_left holder e.holds all)

-- an entry that somebody else holds stays
pub stays_held : (holder moment : ℕ) (e : Entry) (other : Hold) → Contains e.holds other → other.by ≢ holder → stays_without holder moment e ≡ true
stays_held holder moment e other at ne = left_true (is_held_by holder e) (is_live moment e.end) _ (one_left holder e.holds at.0 other at.1 at.2 ne)

-- what is put out together stands behind what was there
put_behind : (s : SpaceValue) (xs : List Write) → (put_each s xs).entries ≡ s.entries ++ granted_entries s.moment s.last xs
put_behind s [] = sym (append-nil s.entries)
put_behind s (x ∷ xs) =
    let left = filter (λ (y : Write). not y.taken) xs in
    let e : Entry = record { number = s.last + 1; tuple = x.tuple; end = granted s.moment x.lease; holds = [] } in
    by x.taken (put_behind s xs) (put_behind (put s x.tuple x.lease) xs ∙ append_assoc s.entries (e ∷ []) (entries_for s.moment (s.last + 1) left))
  where
    by : (taken : Bool) → (put_each s xs).entries ≡ s.entries ++ granted_entries s.moment s.last xs
        → (put_each (put s x.tuple x.lease) xs).entries ≡ s.entries ++ entries_for s.moment s.last (x ∷ filter (λ (y : Write). not y.taken) xs)
        → (put_each (cond taken s (put s x.tuple x.lease)) xs).entries
        ≡ s.entries ++ entries_for s.moment s.last (cond (not taken) (x ∷ filter (λ (y : Write). not y.taken) xs) (filter (λ (y : Write). not y.taken) xs))
    by true same more = same
    by false same more = more

-- the entries above a number that are left where a holder's transaction is committed
abbrev left_above : ℕ → ℕ → ℕ → List Entry → List Entry
left_above last holder moment es = filter (λ (e : Entry). ltb last e.number) (released holder moment (without_taken holder es))

left_append : (last holder moment : ℕ) (xs ys : List Entry) → left_above last holder moment (xs ++ ys) ≡ left_above last holder moment xs ++ left_above last holder moment ys
left_append last holder moment xs ys =
    let untaken : Entry → Bool = λ e. not (is_taken_by holder e) in
    let stays = stays_without holder moment in
    let above : Entry → Bool = λ e. ltb last e.number in
    ap (λ l. filter above (map (unheld holder) (filter stays l))) (filter-append untaken xs ys)
    ∙ ap (λ l. filter above (map (unheld holder) l)) (filter-append stays (filter untaken xs) (filter untaken ys))
    ∙ ap (filter above) (map-append (unheld holder) (filter stays (filter untaken xs)) (filter stays (filter untaken ys)))
    ∙ filter-append above (released holder moment (filter untaken xs)) (released holder moment (filter untaken ys))

none_above : (last : ℕ) (es : List Entry) → All (λ (e : Entry). e.number ≤ last) es → filter (λ (e : Entry). ltb last e.number) es ≡ []
none_above last [] low = refl
none_above last (e ∷ es) low =
    let P : Entry → Type 0 = λ x. x.number ≤ last in
    cond-false (ltb last e.number) (e ∷ filter (λ (x : Entry). ltb last x.number) es) (filter (λ (x : Entry). ltb last x.number) es) (le-ltb last e.number (All-head P e es low))
    ∙ none_above last es (All-tail P e es low)

-- none of the old entries is above
old_below : (last holder moment : ℕ) (es : List Entry) → All (λ (e : Entry). e.number ≤ last) es → left_above last holder moment es ≡ []
old_below last holder moment es low =
    let P : Entry → Type 0 = λ e. e.number ≤ last in
    let kept = All-filter (stays_without holder moment) P (without_taken holder es) (All-filter (λ (e : Entry). not (is_taken_by holder e)) P es low) in
    none_above last (released holder moment (without_taken holder es)) (All-map P (unheld holder) (filter (stays_without holder moment) (without_taken holder es)) kept)

-- and all of the new ones are
new_above : (last holder moment at next : ℕ) (xs : List Write) → last ≤ next → left_above last holder at (entries_for moment next xs) ≡ entries_for moment next xs
new_above last holder moment at next [] le = refl
new_above last holder moment at next (x ∷ xs) le =
    let e : Entry = record { number = next + 1; tuple = x.tuple; end = granted moment x.lease; holds = [] } in
    let rest = left_above last holder at (entries_for moment (next + 1) xs) in
    cond-true (ltb last (next + 1)) (e ∷ rest) rest (lt-ltb last (next + 1) (omega arith))
    ∙ ap (λ l. e ∷ l) (new_above last holder moment at (next + 1) xs (omega arith))

-- the entries that a commit puts out are those of its writes, with leases granted at its moment
pub granted_at_commit : (old : World) (t : TxnValue) → IsSpace old.space
    → filter (λ (e : Entry). ltb old.space.last e.number) (commit_at old t).space.entries ≡ granted_entries old.space.moment old.space.last t.writes
granted_at_commit old t valid =
    let s = old.space in
    let last = s.last in
    let at = (put_each s t.writes).moment in
    let new = granted_entries s.moment last t.writes in
    ap (left_above last t.number at) (put_behind s t.writes)
    ∙ left_append last t.number at s.entries new
    ∙ ap (λ l. l ++ left_above last t.number at new) (old_below last t.number at s.entries (λ k d lt. (valid.numbered k d lt).1))
    ∙ new_above last t.number s.moment at last (filter (λ (x : Write). not x.taken) t.writes) (omega arith)
