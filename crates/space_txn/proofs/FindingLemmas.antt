use Rattle.std.proofs.Common.{◌≡◌, ℕ, zero, suc, ◌<◌, Bool, true, false, List, [], ◌∷◌, length, get_or, Option, Some, None, ap, ◌∙◌, sym, subst, refl, cond, eqb, ltb, arith}
use Rattle.std.specs.Prelude.{not, ◌&&◌, ◌||◌, All, Contains, IfSome, filter, find, is_some, map, slice_get, Ok}
use Rattle.std.specs.List.{cons_option, list_any}
use Rattle.std.specs.Option.{option_map}
use Rattle.std.proofs.lemmas.Bool.{cond-true, cond-false, cond_both, eq-eqb, ne_eqb, ltb-true, or_parts, false≢true}
use Rattle.std.proofs.lemmas.List.Folds.{list_any_at}
use Rattle.tuple_match.specs.FieldValue.{FieldValue}
use Rattle.tuple_match.specs.PatternValue.{PatternValue, Matches}
use Rattle.tuple_match.proofs.Deciding.{Decides-does_match}
use Rattle.tuple_space.specs.Lease.{is_live, is_permanent}
use Rattle.tuple_space.specs.Entry.{IsEntry, can_be_read, is_held_by, is_open, is_taken}
use Rattle.tuple_space.specs.Rows.{IsRising, changed, permanent_tuples}
use Rattle.tuple_space.specs.Space.{IsSpace, SpaceValue, held_by, with_entries}
use Rattle.tuple_space.specs.Step.{IsHad}
use Rattle.tuple_space.specs.Writes.{taken_at}
use Rattle.tuple_space.specs.declared.entry.Claim.{Claim}
use Rattle.tuple_space.specs.declared.entry.Claim.TheVariants.{Read, Take, TakeBy}
use Rattle.tuple_space.specs.declared.entry.Entry.{Entry}
use Rattle.tuple_space.specs.declared.hold.Hold.{Hold}
use Rattle.tuple_space.specs.declared.write.Write.{Write}
use Rattle.space_txn.specs.Content.{content_of}
use Rattle.space_txn.specs.Finding.{Finds, IsUntaken, Shows}
use Rattle.space_txn.specs.Machine.{Step, inp_in, rdp_in, Answer, found, nothing, done, refused, IsOpenWriteAt, read_space, with_marks, find_answer}
use Rattle.space_txn.specs.Marks.{mark_from, mark_of, marks_of, new_mark, with_mark}
use Rattle.space_txn.specs.Txn.{TxnValue, txn_of}
use Rattle.space_txn.specs.World.{World}
use Rattle.space_txn.specs.declared.mark.Mark.{Mark}
use Rattle.space_txn.specs.declared.txn.Found.{Found}
use Rattle.space_txn.specs.declared.txn.Found.TheVariants.{Entry as Stored, Own}
use Rattle.space_txn.proofs.CommitLemmas.{Stays, stays_as_held}
use Rattle.tuple_space.proofs.RowLemmas.{rising_head, rising_tail}
use Rattle.space_txn.proofs.MarkLemmas.{find_above, hold_at, marks_above, marks_after, with_mark_here, with_mark_later}

both_true : (a b : Bool) → (a && b) ≡ true → (a ≡ true) × (b ≡ true)
both_true true b e = (refl, e)
both_true false b e = absurd (false≢true e)

not_true : (a : Bool) → not a ≡ true → a ≡ false
not_true true e = absurd (false≢true e)
not_true false e = refl

-- what a claim asks has not been taken
open_untaken : (claim : Claim) (moment : ℕ) (e : Entry) → is_open claim moment e ≡ true → is_taken e ≡ false
open_untaken Read moment e h = not_true (is_taken e) (both_true (is_live moment e.end) (not (is_taken e)) h).1
open_untaken Take moment e h = not_true (is_taken e) (both_true (is_live moment e.end) (not (is_taken e)) (both_true (can_be_read moment e) _ h).0).1
open_untaken (TakeBy holder) moment e h = not_true (is_taken e) (both_true (is_live moment e.end) (not (is_taken e)) (both_true (can_be_read moment e) _ h).0).1

-- a hold that a holder has of an entry that nobody took
abbrev Untaken : Option Hold → Type 0
Untaken o = IfSome o (λ h. h.taken ≡ false)

untaken_hold : (number : ℕ) (hs : List Hold) → list_any (λ (h : Hold). h.taken) hs ≡ false → Untaken (find (λ (h : Hold). eqb h.by number) hs)
untaken_hold number [] none = tt
untaken_hold number (h ∷ hs) none =
    let parts = or_parts h.taken _ none in
    cond_both (eqb h.by number) (Some h) (find (λ (x : Hold). eqb x.by number) hs) Untaken (λ same. parts.0) (λ other. untaken_hold number hs parts.1)

untaken_mark : (e : Entry) (o : Option Hold) → Untaken o → IfSome (option_map (mark_from e) o) (λ (m : Mark). m.taken ≡ false)
untaken_mark e None h = tt
untaken_mark e (Some x) h = h

find_front : (e : Entry) (o : Option Hold) (ms : List Mark) → All (λ (m : Mark). e.number < m.entry) ms → find (λ (m : Mark). eqb m.entry e.number) (cons_option (option_map (mark_from e) o) ms) ≡ option_map (mark_from e) o
find_front e None ms above = find_above e.number ms above
find_front e (Some h) ms above =
    cond-true (eqb e.number e.number) (Some (mark_from e h)) (find (λ (m : Mark). eqb m.entry e.number) ms) (eq-eqb _ _ refl)

find_past : (number : ℕ) (x : Entry) (o : Option Hold) (ms : List Mark) → x.number < number → find (λ (m : Mark). eqb m.entry number) (cons_option (option_map (mark_from x) o) ms) ≡ find (λ (m : Mark). eqb m.entry number) ms
find_past number x None ms less = refl
find_past number x (Some h) ms less =
    cond-false (eqb x.number number) (Some (mark_from x h)) (find (λ (m : Mark). eqb m.entry number) ms) (ne_eqb _ _ (λ same. omega arith))

-- the mark that a transaction has on an entry is found among its marks
pub find_mark : (holder : ℕ) (es : List Entry) (i : ℕ) (e : Entry) → IsRising es → i < length es → get_or es i e ≡ e → find (λ (m : Mark). eqb m.entry e.number) (marks_of holder es) ≡ mark_of holder e
find_mark holder [] i e rising lt is = absurd (omega arith)
find_mark holder (x ∷ xs) zero e rising lt is =
    let P : Entry → Type 0 = λ y. find (λ (m : Mark). eqb m.entry y.number) (marks_of holder (x ∷ xs)) ≡ mark_of holder y in
    subst P is (find_front x (hold_at holder x) (marks_of holder xs) (marks_above x.number holder xs (rising_head x xs rising)))
find_mark holder (x ∷ xs) (suc i) e rising lt is =
    let within : i < length xs = omega arith in
    let at : (get_or xs i e).number ≡ e.number = ap (λ (y : Entry). y.number) is in
    let less_at = rising_head x xs rising i e within in
    let less : x.number < e.number = omega arith in
    find_past e.number x (hold_at holder x) (marks_of holder xs) less ∙ find_mark holder xs i e (rising_tail x xs rising) within is

-- a transaction holds an entry that it has a mark on
pub marked_hold : (holder : ℕ) (es : List Entry) (e : Entry) → IsRising es → Contains es e → is_some (find (λ (m : Mark). eqb m.entry e.number) (marks_of holder es)) ≡ true
    → (h : Hold) × (hold_at holder e ≡ Some h)
marked_hold holder es e rising at marked = by (hold_at holder e) refl
  where
    by : (o : Option Hold) → hold_at holder e ≡ o → (h : Hold) × (hold_at holder e ≡ Some h)
    by None is = absurd (false≢true (sym (ap is_some (find_mark holder es at.0 e rising at.1 at.2 ∙ ap (option_map (mark_from e)) is)) ∙ marked))
    by (Some h) is = (h, is)

found_held : (holder : ℕ) (hs : List Hold) → is_some (find (λ (h : Hold). eqb h.by holder) hs) ≡ list_any (λ (h : Hold). eqb h.by holder) hs
found_held holder [] = refl
found_held holder (h ∷ hs) = by (eqb h.by holder) (found_held holder hs)
  where
    by : (b : Bool) → is_some (find (λ (x : Hold). eqb x.by holder) hs) ≡ list_any (λ (x : Hold). eqb x.by holder) hs
        → is_some (cond b (Some h) (find (λ (x : Hold). eqb x.by holder) hs)) ≡ (b || list_any (λ (x : Hold). eqb x.by holder) hs)
    by true rest = refl
    by false rest = rest

-- the same with the entry given by its number
pub marked_held : (holder number : ℕ) (es : List Entry) (e : Entry) → IsRising es → Contains es e → number ≡ e.number
    → is_some (find (λ (m : Mark). eqb m.entry number) (marks_of holder es)) ≡ true → list_any (λ (x : Entry). eqb x.number number && is_held_by holder x) es ≡ true
marked_held holder number es e rising at is marked =
    let test : Entry → Bool = λ x. eqb x.number number && is_held_by holder x in
    let had = marked_hold holder es e rising at (subst (λ n. is_some (find (λ (m : Mark). eqb m.entry n) (marks_of holder es)) ≡ true) is marked) in
    let held : is_held_by holder e ≡ true = sym (found_held holder e.holds) ∙ ap is_some had.1 in
    list_any_at test es at.0 e at.1 (ap test at.2 ∙ ap (λ b. b && is_held_by holder e) (eq-eqb _ _ (sym is)) ∙ held)

-- the marks of a transaction after it took an entry that it had read
pub marks_retaken : (holder number : ℕ) (permanent : Bool) (es : List Entry) (e : Entry) (ms new : List Mark) → IsRising es → Contains es e → number ≡ e.number → permanent ≡ is_permanent e.end
    → ms ≡ marks_of holder es → is_some (find (λ (m : Mark). eqb m.entry number) ms) ≡ true
    → ((m : Mark) → find (λ (x : Mark). eqb x.entry number) ms ≡ Some m → new ≡ with_mark (record m { taken = true; permanent = permanent }) ms)
    → new ≡ marks_of holder (changed number (held_by holder true) es)
marks_retaken holder number permanent es e ms new rising at is sure own marked told =
    let all = marks_of holder es in
    let had = marked_hold holder es e rising at
    (subst (λ (l : List Mark). is_some (find (λ (m : Mark). eqb m.entry e.number) l) ≡ true) own
    (subst (λ n. is_some (find (λ (m : Mark). eqb m.entry n) ms) ≡ true) is marked)) in
    let found : find (λ (m : Mark). eqb m.entry number) ms ≡ Some (mark_from e had.0) =
    ap (find (λ (m : Mark). eqb m.entry number)) own ∙ ap (λ n. find (λ (m : Mark). eqb m.entry n) all) is
    ∙ find_mark holder es at.0 e rising at.1 at.2 ∙ ap (option_map (mark_from e)) had.1 in
    told (mark_from e had.0) found
    ∙ ap (λ b. with_mark (record { entry = e.number; tuple = e.tuple; taken = true; permanent = b }) ms) sure
    ∙ ap (with_mark (new_mark e true)) own
    ∙ marks_after holder true es at.0 e rising at.1 at.2
    ∙ sym (ap (λ n. marks_of holder (changed n (held_by holder true) es)) is)

-- a mark that is there already, put once more, changes nothing
mark_again : (holder : ℕ) (es : List Entry) (i : ℕ) (e : Entry) (h : Hold) → IsRising es → i < length es → get_or es i e ≡ e → hold_at holder e ≡ Some h → with_mark (mark_from e h) (marks_of holder es) ≡ marks_of holder es
mark_again holder [] i e h rising lt is held = absurd (omega arith)
mark_again holder (x ∷ xs) zero e h rising lt is held =
    let ms = marks_of holder xs in
    let m = mark_from e h in
    let here : marks_of holder (x ∷ xs) ≡ m ∷ ms =
    ap (λ (y : Entry). cons_option (mark_of holder y) ms) is ∙ ap (λ (o : Option Hold). cons_option (option_map (mark_from e) o) ms) held in
    let above : All (λ (y : Mark). e.number < y.entry) ms =
    subst (λ (y : Entry). All (λ (z : Mark). y.number < z.entry) ms) is (marks_above x.number holder xs (rising_head x xs rising)) in
    ap (with_mark m) here ∙ with_mark_here m e (Some h) ms refl above ∙ sym here
mark_again holder (x ∷ xs) (suc i) e h rising lt is held =
    let within : i < length xs = omega arith in
    let at : (get_or xs i e).number ≡ e.number = ap (λ (y : Entry). y.number) is in
    let less_at = rising_head x xs rising i e within in
    let less : x.number < e.number = omega arith in
    with_mark_later (mark_from e h) x (hold_at holder x) (marks_of holder xs) less
    ∙ ap (λ (l : List Mark). cons_option (mark_of holder x) l) (mark_again holder xs i e h (rising_tail x xs rising) within is held)

-- a mark that was put is found
find_with_mark : (m : Mark) (ms : List Mark) → find (λ (x : Mark). eqb x.entry m.entry) (with_mark m ms) ≡ Some m
find_with_mark m [] = cond-true (eqb m.entry m.entry) (Some m) None (eq-eqb _ _ refl)
find_with_mark m (x ∷ xs) =
    let P : List Mark → Type 0 = λ l. find (λ (y : Mark). eqb y.entry m.entry) l ≡ Some m in
    let first : (rest : List Mark) → P (m ∷ rest) = λ rest. cond-true (eqb m.entry m.entry) (Some m) (find (λ (y : Mark). eqb y.entry m.entry) rest) (eq-eqb _ _ refl) in
    cond_both (ltb x.entry m.entry) (x ∷ with_mark m xs) (cond (eqb x.entry m.entry) (m ∷ xs) (m ∷ x ∷ xs)) P
    (λ below. let less : x.entry < m.entry = ltb-true _ _ below in
    cond-false (eqb x.entry m.entry) (Some x) (find (λ (y : Mark). eqb y.entry m.entry) (with_mark m xs)) (ne_eqb _ _ (λ same. omega arith)) ∙ find_with_mark m xs)
    (λ other. cond_both (eqb x.entry m.entry) (m ∷ xs) (m ∷ x ∷ xs) P (λ same. first xs) (λ behind. first (x ∷ xs)))

-- what stands in a list stands in it behind one more item
pub contains_behind : {X : Type 0} (y : X) (xs : List X) (x : X) → Contains xs x → Contains (y ∷ xs) x
contains_behind y xs x h = let lt = h.1 in (suc h.0, omega arith, h.2)

-- what passes a test is among what passes it
pub contains_kept : {X Y : Type 0} (g : X → Y) (p : X → Bool) (xs : List X) (i : ℕ) (x : X) → i < length xs → get_or xs i x ≡ x → p x ≡ true → Contains (map g (filter p xs)) (g x)
contains_kept g p [] i x lt is sure = absurd (omega arith)
contains_kept {X} {Y} g p (y ∷ ys) zero x lt is sure =
    let P : X → Type 0 = λ z. Contains (map g (cond (p z) (z ∷ filter p ys) (filter p ys))) (g x) in
    let Q : List X → Type 0 = λ l. Contains (map g l) (g x) in
    subst P (sym is) (subst Q (sym (cond-true (p x) (x ∷ filter p ys) (filter p ys) sure)) (0, omega arith, refl))
contains_kept {X} {Y} g p (y ∷ ys) (suc i) x lt is sure =
    let rest = contains_kept g p ys i x (omega arith) is sure in
    cond_both (p y) (y ∷ filter p ys) (filter p ys) (λ (l : List X). Contains (map g l) (g x))
    (λ t. contains_behind (g y) (map g (filter p ys)) (g x) rest) (λ f. rest)

-- a permanent entry's tuple is in the content
stands_permanent : (es : List Entry) (e : Entry) → Contains es e → is_permanent e.end ≡ true → Contains (permanent_tuples es) e.tuple
stands_permanent es e at sure = contains_kept (λ (x : Entry). x.tuple) (λ (x : Entry). is_permanent x.end) es at.0 e at.1 at.2 sure

one_more : (b : Bool) (e : Entry) (xs ys : List Entry) → map (λ (x : Entry). x.tuple) xs ≡ map (λ (x : Entry). x.tuple) ys → map (λ (x : Entry). x.tuple) (cond b (e ∷ xs) xs) ≡ map (λ (x : Entry). x.tuple) (cond b (e ∷ ys) ys)
one_more true e xs ys same = ap (λ l. e.tuple ∷ l) same
one_more false e xs ys same = same

same_tuple : (b : Bool) (d e : Entry) (xs : List Entry) → d.tuple ≡ e.tuple → map (λ (x : Entry). x.tuple) (cond b (d ∷ xs) xs) ≡ map (λ (x : Entry). x.tuple) (cond b (e ∷ xs) xs)
same_tuple true d e xs same = ap (λ t. t ∷ map (λ (x : Entry). x.tuple) xs) same
same_tuple false d e xs same = refl

-- the tuples stay where an entry is held
held_tuples : (number holder : ℕ) (taken : Bool) (es : List Entry) → permanent_tuples (changed number (held_by holder taken) es) ≡ permanent_tuples es
held_tuples number holder taken [] = refl
held_tuples number holder taken (e ∷ es) =
    let tuple : Entry → List FieldValue = λ x. x.tuple in
    let rest = changed number (held_by holder taken) es in
    let kept = filter (λ (x : Entry). is_permanent x.end) rest in
    let P : Entry → Type 0 = λ y. map tuple (cond (is_permanent y.end) (y ∷ kept) kept) ≡ map tuple (cond (is_permanent e.end) (e ∷ kept) kept) in
    cond_both (eqb e.number number) (held_by holder taken e) e P
    (λ t. same_tuple (is_permanent e.end) (held_by holder taken e) e kept refl)
    (λ f. refl)
    ∙ one_more (is_permanent e.end) e kept (filter (λ (x : Entry). is_permanent x.end) es) (held_tuples number holder taken es)

-- a write that the template asks for, at its place, and where it was taken again
own_shown : (template : List PatternValue) (writes : List Write) (place : ℕ) → IsOpenWriteAt template writes place
    → (x : Write) × (slice_get writes place ≡ Some x) × (slice_get (taken_at place writes) place ≡ Some (record x { taken = true })) × Matches template x.tuple
own_shown template [] place h = let lt = h.0 in absurd (omega arith)
own_shown template (x ∷ xs) zero h = (x, refl, refl, (Decides-does_match template x.tuple).0 (both_true (not x.taken) _ (h.1 x)).1)
own_shown template (x ∷ xs) (suc place) h = let lt = h.0 in own_shown template xs place (omega arith, λ d. h.1 d)

-- an entry that was had, and what is known of it
had_matches : (s : SpaceValue) (claim : Claim) (template : List PatternValue) (e : Entry) → IsHad s claim template e → Matches template e.tuple
had_matches s claim template e h = (Decides-does_match template e.tuple).0 (both_true (is_open claim s.moment e) _ h.can).1

had_untaken : (s : SpaceValue) (claim : Claim) (template : List PatternValue) (e : Entry) → IsHad s claim template e → is_taken e ≡ false
had_untaken s claim template e h = open_untaken claim s.moment e (both_true (is_open claim s.moment e) _ h.can).0

-- an older mark on an entry that was had says that it was read
had_unmarked : (s : SpaceValue) (claim : Claim) (template : List PatternValue) (e : Entry) (holder : ℕ) → IsSpace s → IsHad s claim template e → IsUntaken e.number (marks_of holder s.entries)
had_unmarked s claim template e holder valid h =
    let P : Option Mark → Type 0 = λ o. IfSome o (λ (m : Mark). m.taken ≡ false) in
    subst P (sym (find_mark holder s.entries h.stands.0 e valid.rising h.stands.1 h.stands.2))
    (untaken_mark e (hold_at holder e) (untaken_hold holder e.holds (had_untaken s claim template e h)))

-- the value of a transaction that marked an entry that it had
marked_finds : (w : World) (t t' : TxnValue) (claim : Claim) (template : List PatternValue) (taken : Bool) (e : Entry) (number : ℕ) → IsSpace w.space → t.marks ≡ marks_of t.number w.space.entries
    → IsHad w.space claim template e → number ≡ e.number
    → t' ≡ with_marks t (with_entries w.space (changed number (held_by t.number taken) w.space.entries))
    → Finds (Contains (content_of w)) taken template t (found (Stored number)) t'
marked_finds w t t' claim template taken e number valid own h is after =
    let es = w.space.entries in
    let m = new_mark e taken in
    let marked : marks_of t.number (changed number (held_by t.number taken) es) ≡ with_mark m t.marks =
    ap (λ n. marks_of t.number (changed n (held_by t.number taken) es)) is
    ∙ sym (ap (with_mark m) own ∙ marks_after t.number taken es h.stands.0 e valid.rising h.stands.1 h.stands.2) in
    let value : t' ≡ txn_of t.number (with_mark m t.marks) t.writes = after ∙ ap (λ (ms : List Mark). txn_of t.number ms t.writes) marked in
    let P : ℕ → Type 0 = λ n. find (λ (x : Mark). eqb x.entry n) (with_mark m t.marks) ≡ Some m in
    let U : List Mark → Type 0 = λ ms. IsUntaken number ms in
    let V : ℕ → Type 0 = λ n. IsUntaken n (marks_of t.number es) in (
      m,
      record { entry = sym is; matches = had_matches w.space claim template e h; known = λ sure. stands_permanent es e h.stands sure },
      refl,
      subst U (sym own) (subst V (sym is) (had_unmarked w.space claim template e t.number valid h)),
      value,
      ap (λ (v : TxnValue). find (λ (x : Mark). eqb x.entry number) v.marks) value ∙ subst P (sym is) (find_with_mark m t.marks),
    )

-- the value of a transaction that read an entry, which it may have marked before
read_finds : (w : World) (t t' : TxnValue) (template : List PatternValue) (e : Entry) (number : ℕ) → IsSpace w.space → t.marks ≡ marks_of t.number w.space.entries
    → IsHad w.space Read template e → number ≡ e.number
    → t' ≡ with_marks t (read_space w.space t.number t.marks number) → (o : Option Hold) → hold_at t.number e ≡ o
    → Finds (Contains (content_of w)) false template t (found (Stored number)) t'
read_finds w t t' template e number valid own h is after None held =
    let s = w.space in
    let marked = with_entries s (changed number (held_by t.number false) s.entries) in
    let older : find (λ (m : Mark). eqb m.entry number) t.marks ≡ None =
    ap (find (λ (m : Mark). eqb m.entry number)) own
    ∙ ap (λ n. find (λ (m : Mark). eqb m.entry n) (marks_of t.number s.entries)) is
    ∙ find_mark t.number s.entries h.stands.0 e valid.rising h.stands.1 h.stands.2
    ∙ ap (option_map (mark_from e)) held in
    let none : is_some (find (λ (m : Mark). eqb m.entry number) t.marks) ≡ false = ap is_some older in
    marked_finds w t t' Read template false e number valid own h is
    (after ∙ ap (with_marks t) (cond-false (is_some (find (λ (m : Mark). eqb m.entry number) t.marks)) s marked none))
read_finds w t t' template e number valid own h is after (Some x) held =
    let s = w.space in
    let es = s.entries in
    let m = mark_from e x in
    let marked = with_entries s (changed number (held_by t.number false) s.entries) in
    let older : find (λ (y : Mark). eqb y.entry number) t.marks ≡ Some m =
    ap (find (λ (y : Mark). eqb y.entry number)) own
    ∙ ap (λ n. find (λ (y : Mark). eqb y.entry n) (marks_of t.number s.entries)) is
    ∙ find_mark t.number s.entries h.stands.0 e valid.rising h.stands.1 h.stands.2
    ∙ ap (option_map (mark_from e)) held in
    let some : is_some (find (λ (y : Mark). eqb y.entry number) t.marks) ≡ true = ap is_some older in
    let same : t.marks ≡ with_mark m t.marks =
    own ∙ sym (ap (with_mark m) own ∙ mark_again t.number es h.stands.0 e x valid.rising h.stands.1 h.stands.2 held) in
    let value : t' ≡ txn_of t.number (with_mark m t.marks) t.writes =
    after ∙ ap (with_marks t) (cond-true (is_some (find (λ (y : Mark). eqb y.entry number) t.marks)) s marked some)
    ∙ ap (λ (ms : List Mark). txn_of t.number ms t.writes) (sym own ∙ same) in
    let untaken : x.taken ≡ false = subst Untaken held (untaken_hold t.number e.holds (had_untaken s Read template e h)) in
    let entry : IsEntry e = subst IsEntry h.stands.2 (valid.entries h.stands.0 e h.stands.1) in
    let stays : x.permanent ≡ true → is_permanent e.end ≡ true = subst (Stays (is_permanent e.end)) held (stays_as_held (is_permanent e.end) t.number e.holds entry.stays) in
    let P : Option Mark → Type 0 = λ o. IfSome o (λ (y : Mark). y.taken ≡ false) in (
      m,
      record { entry = sym is; matches = had_matches s Read template e h; known = λ sure. stands_permanent es e h.stands (stays sure) },
      untaken,
      subst P (sym older) untaken,
      value,
      ap (λ (v : TxnValue). find (λ (y : Mark). eqb y.entry number) v.marks) value ∙ ap (find (λ (y : Mark). eqb y.entry number)) (sym same) ∙ older,
    )

-- what taking does to a transaction's value
pub taking_finds : (old new : World) (t t' : TxnValue) (template : List PatternValue) (answer : Answer) → IsSpace old.space → Step old t (inp_in template) answer new t' → Finds (Contains (content_of old)) true template t answer t'
taking_finds old new t t' template (found (Stored number)) valid s = marked_finds old t t' (TakeBy t.number) template true s.1 number valid s.0.own s.2 s.3 s.5
taking_finds old new t t' template (found (Own place)) valid s = (s.2, s.4)
taking_finds old new t t' template nothing valid s = s.4
taking_finds old new t t' template (refused error) valid s = s.2
taking_finds old new t t' template done valid s = absurd s

-- what reading does to it
pub reading_finds : (old new : World) (t t' : TxnValue) (template : List PatternValue) (answer : Answer) → IsSpace old.space → Step old t (rdp_in template) answer new t' → Finds (Contains (content_of old)) false template t answer t'
reading_finds old new t t' template (found (Stored number)) valid s = read_finds old t t' template s.1 number valid s.0.own s.2 s.3 s.5 (hold_at t.number s.1) refl
reading_finds old new t t' template (found (Own place)) valid s = (s.2, s.4)
reading_finds old new t t' template nothing valid s = s.4
reading_finds old new t t' template (refused error) valid s = s.2
reading_finds old new t t' template done valid s = absurd s

-- what was found stands in the value and matches
pub finds_shows : (Known : List FieldValue → Type 0) (taking : Bool) (template : List PatternValue) (t t' : TxnValue) (what : Found) → Finds Known taking template t (found what) t' → Shows template t' what
finds_shows Known taking template t t' (Stored number) s = record {
  tuple = s.0.tuple;
  here = ap (option_map (λ (m : Mark). m.tuple)) s.5;
  matches = s.1.matches;
}
finds_shows Known taking template t t' (Own place) s =
    let own = own_shown template t.writes place s.0 in
    let after = txn_of t.number t.marks (taken_at place t.writes) in
    let P : TxnValue → Type 0 = λ v. option_map (λ (x : Write). x.tuple) (slice_get v.writes place) ≡ Some own.0.tuple in
    record {
      tuple = own.0.tuple;
      here = subst P (sym s.1) (cond_both taking after t P (λ sure. ap (option_map (λ (x : Write). x.tuple)) own.2) (λ never. ap (option_map (λ (x : Write). x.tuple)) own.1));
      matches = own.3;
    }

-- taking and reading leave the content
pub taking_content : (old new : World) (t t' : TxnValue) (template : List PatternValue) (answer : Answer) → Step old t (inp_in template) answer new t' → content_of new ≡ content_of old
taking_content old new t t' template (found (Stored number)) s = ap content_of s.4 ∙ held_tuples number t.number true old.space.entries
taking_content old new t t' template (found (Own place)) s = ap content_of s.3
taking_content old new t t' template nothing s = ap content_of s.3
taking_content old new t t' template (refused error) s = ap content_of s.1
taking_content old new t t' template done s = absurd s

-- the same for reading
pub reading_content : (old new : World) (t t' : TxnValue) (template : List PatternValue) (answer : Answer) → Step old t (rdp_in template) answer new t' → content_of new ≡ content_of old
reading_content old new t t' template (found (Stored number)) s =
    ap content_of s.4
    ∙ cond_both (is_some (find (λ (m : Mark). eqb m.entry number) t.marks)) old.space (with_entries old.space (changed number (held_by t.number false) old.space.entries))
    (λ (v : SpaceValue). permanent_tuples v.entries ≡ content_of old) (λ sure. refl) (λ never. held_tuples number t.number false old.space.entries)
reading_content old new t t' template (found (Own place)) s = ap content_of s.3
reading_content old new t t' template nothing s = ap content_of s.3
reading_content old new t t' template (refused error) s = ap content_of s.1
reading_content old new t t' template done s = absurd s

-- what a search found, if anything, stands in the value and matches
pub finds_shown : (Known : List FieldValue → Type 0) (taking : Bool) (template : List PatternValue) (t t' : TxnValue) (o : Option Found) → Finds Known taking template t (find_answer (Ok o)) t' → IfSome o (Shows template t')
finds_shown Known taking template t t' None s = tt
finds_shown Known taking template t t' (Some what) s = finds_shows Known taking template t t' what s
