-- When leases end, and which entries are looked at then.
use Rattle.std.proofs.Common.{◌≡◌, ℕ, ◌+◌, ◌<◌, ◌≤◌, Bool, true, false, List, [], ◌∷◌, ◌++◌, get_or, refl, sym, ap, subst, ◌∙◌, cond, eqb, ltb, not, ⊎_elim, inl, inr, arith}
use Rattle.std.specs.Prelude.{◌⊎◌, ◌≢◌, ◌&&◌, ◌||◌, All, filter, map, IsPermutation}
use Rattle.std.specs.List.{list_any}
use Rattle.std.specs.BinaryHeap.{IsUpperBound}
use Rattle.std.specs.Ordering.{nat_cmp, ordering_then}
use Rattle.std.proofs.lemmas.Bool.{and_from, and_left, and_parts, cases_Bool, cond-false, cond-true, cond_both, eq-eqb, eqb-false, eqb-true, false≢true, le-ltb, lt-ltb, ltb-false, ne_eqb, or_cases, or_left, or_right}
use Rattle.std.proofs.lemmas.List.{get_or_default}
use Rattle.std.proofs.lemmas.List.Elements.{All-cons, All-filter, All-head, All-map, All-nil, All-push, All-tail}
use Rattle.std.proofs.lemmas.List.Folds.{list_any_none}
use Rattle.std.proofs.lemmas.List.Sorted.{first_le_from_greatest, list_any-IsPermutation, sum_by-IsPermutation, sum_by_popped, sum_by_pushed}
use Rattle.tuple_match.specs.FieldValue.{FieldValue}
use Rattle.tuple_space.specs.Ends.{AreWatched, Ending, IsTakenOut, IsWatched, KeepsEndings, count_come, ending, has_come, is_ending_of, lasts_until}
use Rattle.tuple_space.specs.Entry.{is_held, is_held_by, is_there, unheld}
use Rattle.tuple_space.specs.Holds.{holds_with, holds_without}
use Rattle.tuple_space.specs.Index.{last_after}
use Rattle.tuple_space.specs.Lease.{granted, is_live, is_permanent, later}
use Rattle.tuple_space.specs.Rows.{IsRising, has_number, with_end, without}
use Rattle.tuple_space.specs.Space.{SpaceValue, advanced, held_by, put, space_of, stays_without}
use Rattle.tuple_space.specs.declared.entry.Entry.{Entry}
use Rattle.tuple_space.specs.declared.hold.Hold.{Hold}
use Rattle.tuple_space.specs.declared.lease.Lease.{Lease}
use Rattle.tuple_space.specs.declared.lease.LeaseEnd.{LeaseEnd}
use Rattle.tuple_space.specs.declared.lease.LeaseEnd.TheVariants.{Never, At}
use Rattle.tuple_space.specs.declared.write.Write.{Write}
use Rattle.tuple_space.proofs.RowLemmas.{HasNone, IsOnlyAt, number_at, rising_head, rising_tail}

-- what passes a test passes each that is wider
pub any_wider : {X : Type 0} (p q : X → Bool) → ((x : X) → p x ≡ true → q x ≡ true) → (xs : List X) → list_any p xs ≡ true → list_any q xs ≡ true
any_wider p q wider [] h = absurd (false≢true h)
any_wider p q wider (x ∷ xs) h = ⊎_elim
    (λ here. or_left (q x) (list_any q xs) (wider x here))
    (λ there. or_right (q x) (list_any q xs) (any_wider p q wider xs there))
    (or_cases (p x) (list_any p xs) h)

-- the endings of an entry stay among more
pub kept_noted : (end : LeaseEnd) (number : ℕ) (old new : List Ending) → IsPermutation (ending end number ++ old) new → (e : Entry) → KeepsEndings old new e
kept_noted Never number old new h e = λ is. sym (list_any-IsPermutation (is_ending_of e) old new h) ∙ is
kept_noted (At end) number old new h e = λ is. sym (list_any-IsPermutation (is_ending_of e) (record { 0 = (end, number) } ∷ old) new h) ∙ or_right _ (list_any (is_ending_of e) old) is

ltb_same : (n : ℕ) → ltb n n ≡ false
ltb_same n = le-ltb n n (omega arith)

-- an entry whose ending was noted is watched
pub noted : (end : LeaseEnd) (number moment : ℕ) (old new : List Ending) → IsPermutation (ending end number ++ old) new → (e : Entry) → e.number ≡ number → e.end ≡ end → IsWatched new moment e
noted Never number moment old new h e own is = inl (ap is_permanent is)
noted (At end) number moment old new h e own is =
    let row : Ending = record { 0 = (end, number) } in
    let lasts : lasts_until end e.end ≡ true = ap (lasts_until end) is ∙ ap not (ltb_same end) in
    let here : is_ending_of e row ≡ true = and_from (eqb number e.number) (lasts_until end e.end) (eq-eqb number e.number (sym own)) lasts in
    inr (inl (sym (list_any-IsPermutation (is_ending_of e) (row ∷ old) new h) ∙ or_left (is_ending_of e row) (list_any (is_ending_of e) old) here))

-- what is watched stays so while its endings stay
pub watched_kept : (old new : List Ending) (moment : ℕ) (e : Entry) → KeepsEndings old new e → IsWatched old moment e → IsWatched new moment e
watched_kept old new moment e keeps w = ⊎_elim (λ p. inl p) (λ more. ⊎_elim (λ is. inr (inl (keeps is))) (λ held. inr (inr held)) more) w

-- where endings are kept, what was watched still is
pub all_kept : (old new : List Ending) (moment : ℕ) (es : List Entry) → ((e : Entry) → KeepsEndings old new e) → AreWatched old moment es → AreWatched new moment es
all_kept old new moment es keeps h = λ k d lt. watched_kept old new moment (get_or es k d) (keeps (get_or es k d)) (h k d lt)

-- a lease that has ended stays so
ended_later : (before moment : ℕ) (end : LeaseEnd) → before ≤ moment → is_live before end ≡ false → is_live moment end ≡ false
ended_later before moment Never le h = h
ended_later before moment (At end) le h = let was = ltb-false before end h in le-ltb moment end (omega arith)

-- and what is watched stays so when the moment moves on
pub watched_later : (rows : List Ending) (before moment : ℕ) (es : List Entry) → before ≤ moment → AreWatched rows before es → AreWatched rows moment es
watched_later rows before moment es le h = λ k d lt.
    let e = get_or es k d in
    ⊎_elim (λ p. inl p) (λ more. ⊎_elim (λ is. inr (inl is)) (λ held. inr (inr (ended_later before moment e.end le held.0, held.1))) more) (h k d lt)

-- what is watched stays so among fewer entries
pub watched_filter : (rows : List Ending) (moment : ℕ) (test : Entry → Bool) (es : List Entry) → AreWatched rows moment es → AreWatched rows moment (filter test es)
watched_filter rows moment test es h = All-filter test (IsWatched rows moment) es h

-- entries change, each of which stays watched
pub watched_map : (rows : List Ending) (moment : ℕ) (change : Entry → Entry) (es : List Entry) → All (λ e. IsWatched rows moment e → IsWatched rows moment (change e)) es → AreWatched rows moment es → AreWatched rows moment (map change es)
watched_map rows moment change es keeps h = All-map (IsWatched rows moment) change es (λ k d lt. keeps k d lt (h k d lt))

-- an entry that is changed where it has a number
pub watched_changed : (rows : List Ending) (moment number : ℕ) (change : Entry → Entry) (e : Entry) → (e.number ≡ number → IsWatched rows moment e → IsWatched rows moment (change e)) → IsWatched rows moment e
    → IsWatched rows moment (cond (eqb e.number number) (change e) e)
watched_changed rows moment number change e keeps h = cond_both (eqb e.number number) (change e) e (IsWatched rows moment) (λ t. keeps (eqb-true e.number number t) h) (λ f. h)

not_true : (b : Bool) → not b ≡ true → b ≡ false
not_true true h = absurd (false≢true h)
not_true false h = refl

lasts_later : (moment : ℕ) (end other : LeaseEnd) → lasts_until moment end ≡ true → lasts_until moment (later end other) ≡ true
lasts_later moment Never other h = refl
lasts_later moment (At end) Never h = refl
lasts_later moment (At end) (At other) h = ap not (le-ltb _ moment (let was = ltb-false end moment (not_true (ltb end moment) h) in omega arith))

permanent_later : (end other : LeaseEnd) → is_permanent end ≡ true → is_permanent (later end other) ≡ true
permanent_later Never other h = refl
permanent_later (At end) other h = absurd (false≢true h)

-- a live lease that is renewed
pub watched_renewed : (rows : List Ending) (moment : ℕ) (end : LeaseEnd) (e : Entry) → is_live moment e.end ≡ true → IsWatched rows moment e → IsWatched rows moment (with_end end e)
watched_renewed rows moment end e live w = ⊎_elim
    (λ p. inl (permanent_later e.end end p))
    (λ more. ⊎_elim
    (λ is. inr (inl (any_wider (is_ending_of e) (is_ending_of (with_end end e))
    (λ r h. let parts = and_parts (eqb r.0.1 e.number) (lasts_until r.0.0 e.end) h in
    and_from (eqb r.0.1 e.number) (lasts_until r.0.0 (later e.end end)) parts.0 (lasts_later r.0.0 e.end end parts.1)) rows is)))
    (λ held. absurd (false≢true (sym held.0 ∙ live))) more) w

some_with : (h : Hold) (hs : List Hold) → list_any (λ (x : Hold). true) (holds_with h hs) ≡ true
some_with h [] = refl
some_with h (x ∷ xs) = cond_both (eqb x.by h.by) (h ∷ xs) (x ∷ holds_with h xs) (λ l. list_any (λ (y : Hold). true) l ≡ true) (λ t. refl) (λ f. refl)

-- an entry that is held by one more
pub watched_held : (rows : List Ending) (moment holder : ℕ) (taken : Bool) (e : Entry) → IsWatched rows moment e → IsWatched rows moment (held_by holder taken e)
watched_held rows moment holder taken e w = ⊎_elim (λ p. inl p) (λ more. ⊎_elim (λ is. inr (inl is)) (λ held. inr (inr (held.0, some_with _ e.holds))) more) w

-- holds among which there are none of a holder
none_of : (holder : ℕ) (hs : List Hold) → list_any (λ (h : Hold). eqb h.by holder) hs ≡ false → holds_without holder hs ≡ hs
none_of holder [] h = refl
none_of holder (x ∷ xs) h = ⊎_elim
    (λ t. absurd (false≢true (sym h ∙ or_left (eqb x.by holder) (list_any (λ (y : Hold). eqb y.by holder) xs) t)))
    (λ f. cond-true (not (eqb x.by holder)) (x ∷ holds_without holder xs) (holds_without holder xs) (ap not f)
    ∙ ap (λ l. x ∷ l) (none_of holder xs (sym (ap (λ b. b || list_any (λ (y : Hold). eqb y.by holder) xs) f) ∙ h)))
    (cases_Bool (eqb x.by holder))

still_held : (live held by : Bool) → live ≡ false → (not by || (live || held)) ≡ true → (by ≡ false) ⊎ (held ≡ true)
still_held live held true ended h = inr (sym (ap (λ b. b || held) ended) ∙ h)
still_held live held false ended h = inl refl

-- an entry that a holder lets go and that stays
pub watched_unheld : (rows : List Ending) (moment holder : ℕ) (e : Entry) → stays_without holder moment e ≡ true → IsWatched rows moment e → IsWatched rows moment (unheld holder e)
watched_unheld rows moment holder e stays w = ⊎_elim (λ p. inl p) (λ more. ⊎_elim (λ is. inr (inl is))
    (λ held. inr (inr (
      held.0,
      ⊎_elim
          (λ no. ap (list_any (λ (h : Hold). true)) (none_of holder e.holds no) ∙ held.1)
          (λ is. is)
          (still_held (is_live moment e.end) (is_held (unheld holder e)) (is_held_by holder e) held.0 stays),
    ))) more) w

kept_pass : (test : Entry → Bool) (P : Entry → Type 0) → ((e : Entry) → test e ≡ true → P e) → (xs : List Entry) → All P (filter test xs)
kept_pass test P gives [] = All-nil P
kept_pass test P gives (x ∷ xs) = cond_both (test x) (x ∷ filter test xs) (filter test xs) (All P)
    (λ t. All-cons P x (filter test xs) (gives x t) (kept_pass test P gives xs)) (λ f. kept_pass test P gives xs)

-- all that stay
pub all_unheld : (rows : List Ending) (moment holder : ℕ) (es : List Entry) → AreWatched rows moment es → AreWatched rows moment (map (unheld holder) (filter (stays_without holder moment) es))
all_unheld rows moment holder es h =
    let stay = stays_without holder moment in
    watched_map rows moment (unheld holder) (filter stay es)
    (kept_pass stay (λ e. IsWatched rows moment e → IsWatched rows moment (unheld holder e)) (λ e is. watched_unheld rows moment holder e is) es)
    (watched_filter rows moment stay es h)

-- one more entry
pub watched_put : (old new : List Ending) (w : SpaceValue) (tuple : List FieldValue) (lease : Lease) → IsPermutation (ending (granted w.moment lease) (w.last + 1) ++ old) new → AreWatched old w.moment w.entries
    → AreWatched new w.moment (put w tuple lease).entries
watched_put old new w tuple lease h all =
    let e : Entry = record { number = w.last + 1; tuple = tuple; end = granted w.moment lease; holds = [] } in
    All-push (IsWatched new w.moment) w.entries e
    (all_kept old new w.moment w.entries (kept_noted (granted w.moment lease) (w.last + 1) old new h) all)
    (noted (granted w.moment lease) (w.last + 1) w.moment old new h e refl refl)

-- the earliest ending on top
pub earliest : (x : Ending) (rows : List Ending) → IsUpperBound (λ (a b : Ending). ordering_then (nat_cmp b.0.0 a.0.0) (nat_cmp b.0.1 a.0.1)) x rows → All (λ (r : Ending). x.0.0 ≤ r.0.0) rows
earliest x [] h = All-nil (λ (r : Ending). x.0.0 ≤ r.0.0)
earliest x (y ∷ ys) h = All-cons (λ (r : Ending). x.0.0 ≤ r.0.0) y ys
    (All-head (λ (p : ℕ × ℕ). p.0 ≤ y.0.0) x.0 [] (first_le_from_greatest nat_cmp y.0 (x.0 ∷ []) (h.0, tt)))
    (earliest x ys h.1)

lasting : (moment ends : ℕ) (end : LeaseEnd) → moment < ends → lasts_until ends end ≡ true → is_live moment end ≡ true
lasting moment ends Never lt h = refl
lasting moment ends (At end) lt h = let was = ltb-false end ends (not_true (ltb end ends) h) in lt-ltb moment end (omega arith)

-- while no ending has come, an entry whose ending is noted is live
live_noted : (moment : ℕ) (e : Entry) (rows : List Ending) → All (λ (r : Ending). moment < r.0.0) rows → list_any (is_ending_of e) rows ≡ true → is_live moment e.end ≡ true
live_noted moment e [] h is = absurd (false≢true is)
live_noted moment e (r ∷ rs) h is = ⊎_elim
    (λ here. lasting moment r.0.0 e.end (All-head (λ (x : Ending). moment < x.0.0) r rs h) (and_parts (eqb r.0.1 e.number) (lasts_until r.0.0 e.end) here).1)
    (λ there. live_noted moment e rs (All-tail (λ (x : Ending). moment < x.0.0) r rs h) there)
    (or_cases (is_ending_of e r) (list_any (is_ending_of e) rs) is)

permanent_live : (moment : ℕ) (end : LeaseEnd) → is_permanent end ≡ true → is_live moment end ≡ true
permanent_live moment Never h = refl
permanent_live moment (At end) h = absurd (false≢true h)

-- so all that are watched are there
pub watched_there : (moment : ℕ) (rows : List Ending) (es : List Entry) → All (λ (r : Ending). moment < r.0.0) rows → AreWatched rows moment es → filter (is_there moment) es ≡ es
watched_there moment rows [] none h = refl
watched_there moment rows (x ∷ xs) none h =
    let there : is_there moment x ≡ true = ⊎_elim
    (λ p. or_left (is_live moment x.end) (is_held x) (permanent_live moment x.end p))
    (λ more. ⊎_elim (λ is. or_left (is_live moment x.end) (is_held x) (live_noted moment x rows none is)) (λ held. or_right (is_live moment x.end) (is_held x) held.1) more)
    (All-head (IsWatched rows moment) x xs h) in
    cond-true (is_there moment x) (x ∷ filter (is_there moment) xs) (filter (is_there moment) xs) there
    ∙ ap (λ l. x ∷ l) (watched_there moment rows xs none (All-tail (IsWatched rows moment) x xs h))

-- all but the entry of a number are watched where an ending of that number was taken out
pub watched_but : (moment number : ℕ) (old new : List Ending) (es : List Entry) → IsTakenOut moment number old new → AreWatched old moment es → All (λ e. e.number ≢ number → IsWatched new moment e) es
watched_but moment number old new es out h = λ k d lt other.
    let e = get_or es k d in
    watched_kept old new moment e
    (λ is. ⊎_elim
    (λ here. absurd (other (sym (eqb-true out.row.0.1 e.number (and_parts (eqb out.row.0.1 e.number) (lasts_until out.row.0.0 e.end) here).0) ∙ out.own)))
    (λ there. there)
    (or_cases (is_ending_of e out.row) (list_any (is_ending_of e) new) (sym (list_any-IsPermutation (is_ending_of e) old (out.row ∷ new) out.rest) ∙ is)))
    (h k d lt)

-- and one less has come
pub come_less : (moment number : ℕ) (old new : List Ending) → IsTakenOut moment number old new → count_come moment new < count_come moment old
come_less moment number old new out =
    let f : Ending → ℕ = λ r. cond (has_come moment r) 1 0 in
    let one : f out.row ≡ 1 = cond-true (has_come moment out.row) 1 0 (ap not (le-ltb moment out.row.0.0 out.come)) in
    let popped : count_come moment new + 1 ≡ count_come moment old = ap (λ k. count_come moment new + k) (sym one) ∙ sum_by_popped f out.row old new out.rest in
    omega arith

-- an ending that hasn't come
pub come_noted : (moment : ℕ) (end : LeaseEnd) (number : ℕ) (old new : List Ending) → is_live moment end ≡ true → IsPermutation (ending end number ++ old) new → count_come moment new ≡ count_come moment old
come_noted moment Never number old new live h =
    let f : Ending → ℕ = λ r. cond (has_come moment r) 1 0 in
    sum_by-IsPermutation f old new h
come_noted moment (At end) number old new live h =
    let f : Ending → ℕ = λ r. cond (has_come moment r) 1 0 in
    let row : Ending = record { 0 = (end, number) } in
    let none : f row ≡ 0 = cond-false (has_come moment row) 1 0 (ap not live) in
    let pushed : count_come moment new ≡ 0 + count_come moment old = sum_by_pushed f row old new h ∙ ap (λ k. k + count_come moment old) none in
    omega arith

-- the entry of a number stands at one place: what holds of it and of all others holds of all
pub all_with : (P : Entry → Type 0) (number : ℕ) (es : List Entry) (i : ℕ) (x : Entry) → IsOnlyAt number es i → x ≡ get_or es i x → P x → All (λ e. e.number ≢ number → P e) es → All P es
all_with P number es i x only is here others = λ k d lt. ⊎_elim
    (λ t. let same = eqb-true k i t in
    subst P (is ∙ get_or_default es i x d only.within ∙ ap (λ j. get_or es j d) (sym same)) here)
    (λ f. others k d lt (only.others k d lt (eqb-false k i f)))
    (cases_Bool (eqb k i))

-- where no entry has the number, what holds of all others holds of all
pub all_others : (P : Entry → Type 0) (number : ℕ) (es : List Entry) → HasNone number es → All (λ e. e.number ≢ number → P e) es → All P es
all_others P number es none others = λ k d lt. others k d lt (none k d lt)

-- and of all that are left without it
pub all_without : (P : Entry → Type 0) (number : ℕ) (es : List Entry) → All (λ e. e.number ≢ number → P e) es → All P (without number es)
all_without P number [] h = All-nil P
all_without P number (x ∷ xs) h =
    let Q : Entry → Type 0 = λ e. e.number ≢ number → P e in
    cond_both (not (eqb x.number number)) (x ∷ without number xs) (without number xs) (All P)
    (λ t. All-cons P x (without number xs) (All-head Q x xs h (λ same. false≢true (sym (ap not (eq-eqb x.number number same)) ∙ t))) (all_without P number xs (All-tail Q x xs h)))
    (λ f. all_without P number xs (All-tail Q x xs h))

-- entries of which one goes that isn't kept
pub kept_without : (test : Entry → Bool) (number : ℕ) (es : List Entry) → All (λ e. e.number ≡ number → test e ≡ false) es → filter test (without number es) ≡ filter test es
kept_without test number [] h = refl
kept_without test number (x ∷ xs) h =
    let Q : Entry → Type 0 = λ e. e.number ≡ number → test e ≡ false in
    let rest = kept_without test number xs (All-tail Q x xs h) in
    ⊎_elim
    (λ t. ap (filter test) (cond-false (not (eqb x.number number)) (x ∷ without number xs) (without number xs) (ap not t)) ∙ rest
    ∙ sym (cond-false (test x) (x ∷ filter test xs) (filter test xs) (All-head Q x xs h (eqb-true x.number number t))))
    (λ f. ap (filter test) (cond-true (not (eqb x.number number)) (x ∷ without number xs) (without number xs) (ap not f)) ∙ ap (λ l. cond (test x) (x ∷ l) l) rest)
    (cases_Bool (eqb x.number number))

-- the moment moved on
pub advanced_to : (moment before last : ℕ) (es kept : List Entry) → before ≤ moment → kept ≡ filter (is_there moment) es → space_of kept moment last ≡ advanced moment (space_of es before last)
advanced_to moment before last es kept le is =
    ap (λ (l : List Entry). space_of l moment last) is
    ∙ sym (cond-false (ltb moment before) (space_of es before last) (space_of (filter (is_there moment) es) moment last) (le-ltb moment before le))

-- what is there with a lease that has ended is held
pub there_held : (live held : Bool) → live ≡ false → (live || held) ≡ true → held ≡ true
there_held true held ended h = absurd (false≢true (sym ended))
there_held false held ended h = h

-- endings of a kept number are left
left_any : (test : ℕ → Bool) (e : Entry) → test e.number ≡ true → (rows : List Ending) → list_any (is_ending_of e) rows ≡ true → list_any (is_ending_of e) (filter (λ (r : Ending). test r.0.1) rows) ≡ true
left_any test e has [] is = is
left_any test e has (r ∷ rs) is =
    let rest = filter (λ (x : Ending). test x.0.1) rs in
    let P : List Ending → Type 0 = λ l. list_any (is_ending_of e) l ≡ true in
    ⊎_elim
    (λ here. let own = eqb-true r.0.1 e.number (and_parts (eqb r.0.1 e.number) (lasts_until r.0.0 e.end) here).0 in
    subst P (sym (cond-true (test r.0.1) (r ∷ rest) rest (ap test own ∙ has))) (or_left (is_ending_of e r) (list_any (is_ending_of e) rest) here))
    (λ there. let more = left_any test e has rs there in
    cond_both (test r.0.1) (r ∷ rest) rest P (λ t. or_right (is_ending_of e r) (list_any (is_ending_of e) rest) more) (λ f. more))
    (or_cases (is_ending_of e r) (list_any (is_ending_of e) rs) is)

-- where those of gone entries are dropped
pub left_noted : (es : List Entry) (old kept new : List Ending) → kept ≡ filter (λ (r : Ending). has_number r.0.1 es) old → IsPermutation kept new
    → (e : Entry) → has_number e.number es ≡ true → KeepsEndings old new e
left_noted es old kept new is h e has = λ there.
    sym (list_any-IsPermutation (is_ending_of e) kept new h) ∙ ap (list_any (is_ending_of e)) is ∙ left_any (λ n. has_number n es) e has old there

-- the same where the moment and the number last given are known
pub put_noted : (old new : List Ending) (w : SpaceValue) (tuple : List FieldValue) (lease : Lease) (last moment : ℕ) → w.last ≡ last → w.moment ≡ moment
    → IsPermutation (ending (granted moment lease) (last + 1) ++ old) new → AreWatched old moment w.entries → AreWatched new moment (put w tuple lease).entries
put_noted old new w tuple lease last moment at now h all =
    subst (λ m. AreWatched new m (put w tuple lease).entries) now
    (watched_put old new w tuple lease
    (subst (λ m. IsPermutation (ending (granted m lease) (w.last + 1) ++ old) new) (sym now) (subst (λ n. IsPermutation (ending (granted moment lease) (n + 1) ++ old) new) (sym at) h))
    (subst (λ m. AreWatched old m w.entries) (sym now) all))

either_last : (b : Bool) (v w : SpaceValue) → (cond b v w).last ≡ cond b v.last w.last
either_last true v w = refl
either_last false v w = refl

-- what a write that is put out, or was taken again, does to the number last given and to the moment
pub put_last : (w : SpaceValue) (x : Write) → (cond x.taken w (put w x.tuple x.lease)).last ≡ last_after w.last x
put_last w x = either_last x.taken w (put w x.tuple x.lease)

-- a write leaves the moment as it was
pub put_moment : (w : SpaceValue) (x : Write) → (cond x.taken w (put w x.tuple x.lease)).moment ≡ w.moment
put_moment w x = cond_both x.taken w (put w x.tuple x.lease) (λ (v : SpaceValue). v.moment ≡ w.moment) (λ t. refl) (λ f. refl)

-- all entries stay watched where their endings are left
pub all_left : (old new : List Ending) (moment : ℕ) (es : List Entry) → ((e : Entry) → has_number e.number es ≡ true → KeepsEndings old new e) → AreWatched old moment es → AreWatched new moment es
all_left old new moment es keeps h = λ k d lt.
    let e = get_or es k d in
    watched_kept old new moment e (keeps e (number_at e.number es k lt (λ o. ap (λ (x : Entry). x.number) (get_or_default es k o d lt)))) (h k d lt)

-- the entry of a number is live where some entry of it is
pub live_of : (moment number : ℕ) (es : List Entry) → IsRising es → list_any (λ (e : Entry). eqb e.number number && is_live moment e.end) es ≡ true → All (λ e. e.number ≡ number → is_live moment e.end ≡ true) es
live_of moment number [] rising h = absurd (false≢true h)
live_of moment number (x ∷ xs) rising h =
    let P : Entry → Type 0 = λ e. e.number ≡ number → is_live moment e.end ≡ true in
    let p : Entry → Bool = λ e. eqb e.number number && is_live moment e.end in
    let above = rising_head x xs rising in
    ⊎_elim
    (λ here. let parts = and_parts (eqb x.number number) (is_live moment x.end) here in
    let own = eqb-true x.number number parts.0 in
    All-cons P x xs (λ same. parts.1) (λ k d lt same. (let up = above k d lt in absurd (omega arith))))
    (λ there. All-cons P x xs
    (λ own. absurd (false≢true (sym (list_any_none p xs (λ k d lt. and_left (eqb (get_or xs k d).number number) (is_live moment (get_or xs k d).end)
    (ne_eqb (get_or xs k d).number number (λ same. (let up = above k d lt in absurd (omega arith)))))) ∙ there)))
    (live_of moment number xs (rising_tail x xs rising) there))
    (or_cases (p x) (list_any p xs) h)
