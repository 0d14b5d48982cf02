-- Rows of entries edited at the numbers of those that somebody holds.
use Rattle.std.proofs.Common.{◌≡◌, ℕ, zero, suc, ◌<◌, Bool, true, false, List, [], ◌∷◌, ◌++◌, length, get_or, refl, sym, ap, subst, ◌∙◌, cond, eqb, inl, inr, ⊎_elim, arith, append_assoc}
use Rattle.std.specs.Prelude.{◌⊎◌, ◌||◌, ◌&&◌, not, All, filter, map, remove}
use Rattle.std.specs.List.{list_any}
use Rattle.std.proofs.Math.ListN.{set}
use Rattle.std.proofs.Math.Seq.{get_or-append_seam, set-append_seam}
use Rattle.std.proofs.lemmas.Bool.{cond-true, cond-false, cond_both, eq-eqb, false≢true, ne_eqb, or_from, or_left}
use Rattle.std.proofs.lemmas.List.Elements.{All-cons, All-head, All-nil, All-tail, filter_passes}
use Rattle.std.proofs.lemmas.List.Kept.{AllPairs-cons}
use Rattle.std.proofs.lemmas.Map.Views.{any-filter_same}
use Rattle.tuple_space.specs.Entry.{is_held_by, is_taken_by, unheld}
use Rattle.tuple_space.specs.Held.{HasHeld, is_among, numbers_by}
use Rattle.tuple_space.specs.Holds.{holds_without}
use Rattle.tuple_space.specs.Rows.{IsRising, changed, edited_at, without}
use Rattle.tuple_space.specs.Space.{released, stays_without, without_taken}
use Rattle.tuple_space.specs.declared.entry.Entry.{Entry}
use Rattle.tuple_space.specs.declared.held.Held.{Held}
use Rattle.tuple_space.specs.declared.hold.Hold.{Hold}
use Rattle.tuple_space.proofs.HeldLemmas.{held_each, numbers_mine, numbers_other}
use Rattle.tuple_space.proofs.RowLemmas.{HasNone, IsOnlyAt, changed_place, none_behind, none_head, none_tail, only_tail, other_head, rising_head, rising_tail, same_head, without_place}

-- an item removed from between two parts leaves the two
pub remove_seam : (front : List Entry) (e : Entry) (behind : List Entry) → remove (front ++ e ∷ behind) (length front) ≡ front ++ behind
remove_seam [] e behind = refl
remove_seam (x ∷ front) e behind = ap (λ l. x ∷ l) (remove_seam front e behind)

or_none : (a b : Bool) → (a || b) ≡ false → (a ≡ false) × (b ≡ false)
or_none true b none = absurd (false≢true (sym none))
or_none false b none = (refl, none)

-- a holder that doesn't hold an entry took nothing of it, and has nothing to let go
pub none_by : (holder : ℕ) (holds : List Hold) → list_any (λ (h : Hold). eqb h.by holder) holds ≡ false → holds_without holder holds ≡ holds
none_by holder [] none = refl
none_by holder (h ∷ hs) none =
    let rest = list_any (λ (x : Hold). eqb x.by holder) hs in
    let apart = or_none (eqb h.by holder) rest none in
    cond-true (not (eqb h.by holder)) (h ∷ holds_without holder hs) (holds_without holder hs) (ap not apart.0) ∙ ap (λ l. h ∷ l) (none_by holder hs apart.1)

none_taken : (holder : ℕ) (holds : List Hold) → list_any (λ (h : Hold). eqb h.by holder) holds ≡ false → list_any (λ (h : Hold). eqb h.by holder && h.taken) holds ≡ false
none_taken holder [] none = refl
none_taken holder (h ∷ hs) none =
    let apart = or_none (eqb h.by holder) (list_any (λ (x : Hold). eqb x.by holder) hs) none in
    ap (λ b. (b && h.taken) || list_any (λ (x : Hold). eqb x.by holder && x.taken) hs) apart.0 ∙ none_taken holder hs apart.1

-- an edit drops an entry, or leaves one of its number that it would leave again
abbrev pub EditsOne : (List Entry → List Entry) → Entry → Type 0
EditsOne edit x = (edit (x ∷ []) ≡ []) ⊎ ((y : Entry) × (edit (x ∷ []) ≡ y ∷ []) × (y.number ≡ x.number) × (edit (y ∷ []) ≡ y ∷ []))

-- an edit that takes entries one by one, and leaves those that a holder doesn't hold as they are
pub record IsEdit (holder : ℕ) (edit : List Entry → List Entry) : Type 0 where
  pub none : edit [] ≡ []
  pub each : (x : Entry) (xs : List Entry) → edit (x ∷ xs) ≡ edit (x ∷ []) ++ edit xs
  pub quiet : (x : Entry) → is_held_by holder x ≡ false → edit (x ∷ []) ≡ x ∷ []
  pub one : (x : Entry) → EditsOne edit x

each_kept : {A : Type 0} (b : Bool) (f : Entry → A) (x : Entry) (xs : List Entry)
    → map f (cond b (x ∷ xs) xs) ≡ map f (cond b (x ∷ []) []) ++ map f xs
each_kept true f x xs = refl
each_kept false f x xs = refl

each_left : (b : Bool) (x : Entry) (xs : List Entry) → cond b (x ∷ xs) xs ≡ cond b (x ∷ []) [] ++ xs
each_left true x xs = refl
each_left false x xs = refl

-- an entry that goes, and one that stays
pub released_gone : (holder moment : ℕ) (e : Entry) → stays_without holder moment e ≡ false → released holder moment (e ∷ []) ≡ []
released_gone holder moment e gone = ap (λ b. map (unheld holder) (cond b (e ∷ []) [])) gone

-- an entry that stays is let go by the holder
pub released_stays : (holder moment : ℕ) (e : Entry) → stays_without holder moment e ≡ true → released holder moment (e ∷ []) ≡ unheld holder e ∷ []
released_stays holder moment e stays = ap (λ b. map (unheld holder) (cond b (e ∷ []) [])) stays

-- leaving out what a holder took drops an entry that it took
pub taken_gone : (holder : ℕ) (e : Entry) → is_taken_by holder e ≡ true → without_taken holder (e ∷ []) ≡ []
taken_gone holder e taken = ap (λ b. cond (not b) (e ∷ []) []) taken

-- and keeps one that it didn't take
pub taken_stays : (holder : ℕ) (e : Entry) → is_taken_by holder e ≡ false → without_taken holder (e ∷ []) ≡ e ∷ []
taken_stays holder e stays = ap (λ b. cond (not b) (e ∷ []) []) stays

filter_passed : {X : Type 0} (p : X → Bool) (xs : List X) → All (λ x. p x ≡ true) xs → filter p xs ≡ xs
filter_passed p [] h = refl
filter_passed {X} p (x ∷ xs) h =
    let P : X → Type 0 = λ y. p y ≡ true in
    cond-true (p x) (x ∷ filter p xs) (filter p xs) (All-head P x xs h) ∙ ap (λ l. x ∷ l) (filter_passed p xs (All-tail P x xs h))

-- a holder that lets go holds no more
gone_by : (holder : ℕ) (holds : List Hold) → list_any (λ (h : Hold). eqb h.by holder) (holds_without holder holds) ≡ false
gone_by holder holds = any-filter_same (λ (h : Hold). eqb h.by holder) (λ (h : Hold). not (eqb h.by holder)) false (λ h e. ap not e) holds

released_one : (holder moment : ℕ) (x : Entry) (b : Bool) → stays_without holder moment x ≡ b → EditsOne (released holder moment) x
released_one holder moment x false gone = inl (released_gone holder moment x gone)
released_one holder moment x true stays =
    let y = unheld holder x in
    let free : stays_without holder moment y ≡ true = or_left (not (is_held_by holder y)) _ (ap not (gone_by holder x.holds)) in
    let twice : unheld holder y ≡ y = ap (λ (hs : List Hold). record x { holds = hs }) (filter_passed (λ (h : Hold). not (eqb h.by holder)) (holds_without holder x.holds) (filter_passes _ x.holds)) in
    inr (y, released_stays holder moment x stays, refl, released_stays holder moment y free ∙ ap (λ (z : Entry). z ∷ []) twice)

taken_one : (holder : ℕ) (x : Entry) (b : Bool) → is_taken_by holder x ≡ b → EditsOne (without_taken holder) x
taken_one holder x true taken = inl (taken_gone holder x taken)
taken_one holder x false stays = inr (x, taken_stays holder x stays, refl, taken_stays holder x stays)

-- ending a holder's holds is such an edit
pub release_edits : (holder moment : ℕ) → IsEdit holder (released holder moment)
release_edits holder moment = record {
  none = refl;
  each = λ x xs. each_kept (stays_without holder moment x) (unheld holder) x (filter (stays_without holder moment) xs);
  quiet = λ x none. released_stays holder moment x (or_left (not (is_held_by holder x)) _ (ap not none)) ∙ ap (λ (hs : List Hold). record x { holds = hs } ∷ []) (none_by holder x.holds none);
  one = λ x. released_one holder moment x _ refl;
}

-- and so is leaving out what it took
pub taking_edits : (holder : ℕ) → IsEdit holder (without_taken holder)
taking_edits holder = record {
  none = refl;
  each = λ x xs. each_left (not (is_taken_by holder x)) x (without_taken holder xs);
  quiet = λ x none. taken_stays holder x (none_taken holder x.holds none);
  one = λ x. taken_one holder x _ refl;
}

-- the entry of a number, between those before it and behind it
pub record IsEditedAt (edit : List Entry → List Entry) (number : ℕ) (es : List Entry) (i : ℕ) : Type 0 where
  pub front : List Entry
  pub entry : Entry
  pub behind : List Entry
  pub is : es ≡ front ++ entry ∷ behind
  pub at : length front ≡ i
  pub edited : edited_at number edit es ≡ front ++ (edit (entry ∷ []) ++ behind)

-- the entry at a place
pub entry_at : (es front behind : List Entry) (e x : Entry) (place : ℕ) → es ≡ front ++ e ∷ behind → length front ≡ place → x ≡ get_or es place x → x ≡ e
entry_at es front behind e x place is at here =
    here ∙ ap (λ l. get_or l place x) is ∙ ap (λ k. get_or (front ++ e ∷ behind) k x) (sym at) ∙ get_or-append_seam front e behind x

-- the entry at a place removed: those before it and those behind it are left
pub removed_at : (es new front behind : List Entry) (e : Entry) (place : ℕ) → es ≡ front ++ e ∷ behind → length front ≡ place → new ≡ remove es place
    → new ≡ front ++ behind
removed_at es new front behind e place is at gone =
    gone ∙ ap (λ l. remove l place) is ∙ ap (λ k. remove (front ++ e ∷ behind) k) (sym at) ∙ remove_seam front e behind

-- another entry written in its place, between those before it and those behind it
pub set_at : (es new front behind : List Entry) (e x : Entry) (place : ℕ) → es ≡ front ++ e ∷ behind → length front ≡ place → new ≡ set es place x
    → new ≡ front ++ x ∷ behind
set_at es new front behind e x place is at changed =
    changed ∙ ap (λ l. set l place x) is ∙ ap (λ k. set (front ++ e ∷ behind) k x) (sym at) ∙ set-append_seam front e behind x

-- an edit made at all entries but those of these numbers, which are still to come
pub record IsEditedBut (edit : List Entry → List Entry) (rest : List ℕ) (old now : List Entry) : Type 0 where
  pub rising : IsRising now
  pub left : All (λ e. is_among e.number rest ≡ false → edit (e ∷ []) ≡ e ∷ []) now
  pub same : edit now ≡ edit old

free : (held among : Bool) → (held ≡ true → among ≡ true) → among ≡ false → held ≡ false
free true among has none = absurd (false≢true (sym none ∙ has refl))
free false among has none = refl

module _ (holder : ℕ) (edit : List Entry → List Entry) (edits : IsEdit holder edit) where
  edit_append : (xs ys : List Entry) → edit (xs ++ ys) ≡ edit xs ++ edit ys
  edit_append [] ys = ap (λ l. l ++ edit ys) (sym edits.none)
  edit_append (x ∷ xs) ys =
      edits.each x (xs ++ ys) ∙ ap (λ l. edit (x ∷ []) ++ l) (edit_append xs ys) ∙ sym (append_assoc (edit (x ∷ [])) (edit xs) (edit ys))
      ∙ ap (λ l. l ++ edit ys) (sym (edits.each x xs))

  edited_none : (number : ℕ) (es : List Entry) → HasNone number es → edited_at number edit es ≡ es
  edited_none number [] h = refl
  edited_none number (x ∷ xs) h =
      ap (λ l. l ++ edited_at number edit xs) (cond-false (eqb x.number number) (edit (x ∷ [])) (x ∷ []) (none_head number x xs h))
      ∙ ap (λ l. x ∷ l) (edited_none number xs (none_tail number x xs h))

  edited_split : (number : ℕ) (es : List Entry) (i : ℕ) → IsOnlyAt number es i → IsEditedAt edit number es i
  edited_split number [] i h = let w = h.within in absurd (omega arith)
  edited_split number (x ∷ xs) zero h = record {
    front = [];
    entry = x;
    behind = xs;
    is = refl;
    at = refl;
    edited = ap (λ l. l ++ edited_at number edit xs) (cond-true (eqb x.number number) (edit (x ∷ [])) (x ∷ []) (same_head number x xs h))
        ∙ ap (λ l. edit (x ∷ []) ++ l) (edited_none number xs (none_behind number x xs h));
  }
  edited_split number (x ∷ xs) (suc i) h =
      let rest = edited_split number xs i (only_tail number x xs i h) in
      record {
        front = x ∷ rest.front;
        entry = rest.entry;
        behind = rest.behind;
        is = ap (λ l. x ∷ l) rest.is;
        at = ap (λ k. suc k) rest.at;
        edited = ap (λ l. l ++ edited_at number edit xs) (cond-false (eqb x.number number) (edit (x ∷ [])) (x ∷ []) (other_head number x xs i h))
            ∙ ap (λ l. x ∷ l) rest.edited;
      }

  -- an edit at the number of an entry: of one that goes, of one that is changed, and of one that stays
  pub edited_gone : (number : ℕ) (es : List Entry) (i : ℕ) (x : Entry) → IsOnlyAt number es i → x ≡ get_or es i x → edit (x ∷ []) ≡ [] → without number es ≡ edited_at number edit es
  edited_gone number es i x only is gone =
      let s = edited_split number es i only in
      let same = entry_at es s.front s.behind s.entry x i s.is s.at is in
      sym (without_place number es i only) ∙ removed_at es (remove es i) s.front s.behind s.entry i s.is s.at refl
      ∙ ap (λ l. s.front ++ (l ++ s.behind)) (sym gone ∙ ap (λ y. edit (y ∷ [])) same) ∙ sym s.edited

  pub edited_changed : (number : ℕ) (es : List Entry) (i : ℕ) (x : Entry) (change : Entry → Entry) → IsOnlyAt number es i → x ≡ get_or es i x → edit (x ∷ []) ≡ change x ∷ []
      → changed number change es ≡ edited_at number edit es
  edited_changed number es i x change only is one =
      let s = edited_split number es i only in
      let same = entry_at es s.front s.behind s.entry x i s.is s.at is in
      sym (changed_place number change es i x only is) ∙ set_at es (set es i (change x)) s.front s.behind s.entry (change x) i s.is s.at refl
      ∙ ap (λ l. s.front ++ (l ++ s.behind)) (sym one ∙ ap (λ y. edit (y ∷ [])) same) ∙ sym s.edited

  pub edited_kept : (number : ℕ) (es : List Entry) (i : ℕ) (x : Entry) → IsOnlyAt number es i → x ≡ get_or es i x → edit (x ∷ []) ≡ x ∷ [] → es ≡ edited_at number edit es
  edited_kept number es i x only is stays =
      let s = edited_split number es i only in
      let same = entry_at es s.front s.behind s.entry x i s.is s.at is in
      s.is ∙ ap (λ l. s.front ++ (l ++ s.behind)) (ap (λ (y : Entry). y ∷ []) (sym same) ∙ sym stays ∙ ap (λ y. edit (y ∷ [])) same) ∙ sym s.edited

  -- and there is none where no entry has the number
  pub edited_nowhere : (number : ℕ) (es : List Entry) → HasNone number es → es ≡ edited_at number edit es
  edited_nowhere number es none = sym (edited_none number es none)

  again : (x : Entry) → edit (edit (x ∷ [])) ≡ edit (x ∷ [])
  again x = ⊎_elim (λ d. ap edit d ∙ edits.none ∙ sym d) (λ l. ap edit l.1 ∙ l.3 ∙ sym l.1) (edits.one x)

  edited_same : (number : ℕ) (es : List Entry) → edit (edited_at number edit es) ≡ edit es
  edited_same number [] = refl
  edited_same number (x ∷ xs) =
      let head = cond (eqb x.number number) (edit (x ∷ [])) (x ∷ []) in
      edit_append head (edited_at number edit xs) ∙ ap (λ l. edit head ++ l) (edited_same number xs)
      ∙ ap (λ l. l ++ edit xs) (cond_both (eqb x.number number) (edit (x ∷ [])) (x ∷ []) (λ (l : List Entry). edit l ≡ edit (x ∷ [])) (λ t. again x) (λ t. refl))
      ∙ sym (edits.each x xs)

  -- what holds of the numbers of entries holds of those that an edit leaves
  edited_numbers : (P : ℕ → Type 0) (number : ℕ) (es : List Entry) → All (λ e. P e.number) es → All (λ e. P e.number) (edited_at number edit es)
  edited_numbers P number [] h = h
  edited_numbers P number (x ∷ xs) h =
      let Q : Entry → Type 0 = λ e. P e.number in
      let rest = edited_numbers P number xs (All-tail Q x xs h) in
      let here = All-head Q x xs h in
      cond_both (eqb x.number number) (edit (x ∷ [])) (x ∷ []) (λ (l : List Entry). All Q (l ++ edited_at number edit xs))
      (λ t. ⊎_elim
      (λ d. subst (λ (l : List Entry). All Q (l ++ edited_at number edit xs)) (sym d) rest)
      (λ y. subst (λ (l : List Entry). All Q (l ++ edited_at number edit xs)) (sym y.1) (All-cons Q y.0 (edited_at number edit xs) (subst P (sym y.2) here) rest))
      (edits.one x))
      (λ f. All-cons Q x (edited_at number edit xs) here rest)

  edited_rising : (number : ℕ) (es : List Entry) → IsRising es → IsRising (edited_at number edit es)
  edited_rising number [] h = h
  edited_rising number (x ∷ xs) h =
      let R : Entry → Entry → Type 0 = λ a b. a.number < b.number in
      let more = edited_at number edit xs in
      let rest = edited_rising number xs (rising_tail x xs h) in
      let above = edited_numbers (λ n. x.number < n) number xs (rising_head x xs h) in
      cond_both (eqb x.number number) (edit (x ∷ [])) (x ∷ []) (λ (l : List Entry). IsRising (l ++ more))
      (λ t. ⊎_elim
      (λ d. subst (λ (l : List Entry). IsRising (l ++ more)) (sym d) rest)
      (λ y. subst (λ (l : List Entry). IsRising (l ++ more)) (sym y.1)
      (AllPairs-cons R y.0 more (subst (λ (n : ℕ). All (λ (e : Entry). n < e.number) more) (sym y.2) above) rest))
      (edits.one x))
      (λ f. AllPairs-cons R x more above rest)

  edited_left : (number : ℕ) (numbers : List ℕ) (es : List Entry) → All (λ e. is_among e.number (number ∷ numbers) ≡ false → edit (e ∷ []) ≡ e ∷ []) es
      → All (λ e. is_among e.number numbers ≡ false → edit (e ∷ []) ≡ e ∷ []) (edited_at number edit es)
  edited_left number numbers [] h = All-nil (λ (e : Entry). is_among e.number numbers ≡ false → edit (e ∷ []) ≡ e ∷ [])
  edited_left number numbers (x ∷ xs) h =
      let Old : Entry → Type 0 = λ e. is_among e.number (number ∷ numbers) ≡ false → edit (e ∷ []) ≡ e ∷ [] in
      let New : Entry → Type 0 = λ e. is_among e.number numbers ≡ false → edit (e ∷ []) ≡ e ∷ [] in
      let more = edited_at number edit xs in
      let rest = edited_left number numbers xs (All-tail Old x xs h) in
      cond_both (eqb x.number number) (edit (x ∷ [])) (x ∷ []) (λ (l : List Entry). All New (l ++ more))
      (λ t. ⊎_elim
      (λ d. subst (λ (l : List Entry). All New (l ++ more)) (sym d) rest)
      (λ y. subst (λ (l : List Entry). All New (l ++ more)) (sym y.1) (All-cons New y.0 more (λ none. y.3) rest))
      (edits.one x))
      (λ f. All-cons New x more (λ none. All-head Old x xs h (or_from _ _ f none)) rest)

  -- before the edit all numbers of the entries that the holder holds are still to come
  pub edited_begin : (rows : List Held) (es : List Entry) → IsRising es → HasHeld rows es → IsEditedBut edit (numbers_by holder rows) es es
  edited_begin rows es rising h = record {
    rising = rising;
    left = λ k d lt none. edits.quiet (get_or es k d) (free (is_held_by holder (get_or es k d)) _ (held_each holder (numbers_by holder rows) es (h.of holder) k d lt) none);
    same = refl;
  }

  edited_more : (number : ℕ) (rest : List ℕ) (old now : List Entry) → IsEditedBut edit (number ∷ rest) old now → IsEditedBut edit rest old (edited_at number edit now)
  edited_more number rest old now h = record {
    rising = edited_rising number now h.rising;
    left = edited_left number rest now h.left;
    same = edited_same number now ∙ h.same;
  }

  -- a row of another holder is passed over, one of the holder's is edited
  pub edited_past : (r : Held) (rest : List Held) (old now : List Entry) → (r.by ≡ holder → ⊥) → IsEditedBut edit (numbers_by holder (r ∷ rest)) old now → IsEditedBut edit (numbers_by holder rest) old now
  edited_past r rest old now other h = subst (λ (l : List ℕ). IsEditedBut edit l old now) (numbers_other holder r rest (ne_eqb _ _ other)) h

  pub edited_row : (r : Held) (rest : List Held) (old now : List Entry) → r.by ≡ holder → IsEditedBut edit (numbers_by holder (r ∷ rest)) old now
      → IsEditedBut edit (numbers_by holder rest) old (edited_at r.entry edit now)
  edited_row r rest old now mine h = edited_more r.entry (numbers_by holder rest) old now (subst (λ (l : List ℕ). IsEditedBut edit l old now) (numbers_mine holder r rest (eq-eqb _ _ mine)) h)

  edit_quiet : (es : List Entry) → All (λ e. edit (e ∷ []) ≡ e ∷ []) es → edit es ≡ es
  edit_quiet [] h = edits.none
  edit_quiet (x ∷ xs) h =
      let Q : Entry → Type 0 = λ e. edit (e ∷ []) ≡ e ∷ [] in
      edits.each x xs ∙ ap (λ l. l ++ edit xs) (All-head Q x xs h) ∙ ap (λ l. x ∷ l) (edit_quiet xs (All-tail Q x xs h))

  -- and in the end the edit has been made
  pub edited_all : (old now : List Entry) → IsEditedBut edit [] old now → now ≡ edit old
  edited_all old now h = sym (edit_quiet now (λ k d lt. h.left k d lt refl)) ∙ h.same
