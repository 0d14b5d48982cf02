use Rattle.std.proofs.Common.{◌≡◌, ℕ, ◌+◌, Bool, true, false, List, [], ◌∷◌, ◌++◌, get_or, Option, Some, None, ap, ◌∙◌, sym, subst, refl, cond, eqb, arith}
use Rattle.std.specs.Prelude.{◌≢◌, not, ◌&&◌, ◌||◌, All, filter, find, map}
use Rattle.std.specs.List.{cons_option, list_any, sum_by}
use Rattle.std.specs.Option.{option_map}
use Rattle.std.proofs.lemmas.Bool.{cond_both, eqb-true, ne_eqb, or_from}
use Rattle.std.proofs.lemmas.List.{get_or_default}
use Rattle.std.proofs.lemmas.List.Elements.{All-head, All-tail, at_read}
use Rattle.std.proofs.lemmas.List.Filters.{sum_by-filter_both}
use Rattle.std.proofs.lemmas.List.Sums.{sum_by-append, sum_by-cons}
use Rattle.tuple_match.specs.FieldValue.{FieldValue}
use Rattle.tuple_space.specs.Lease.{is_permanent}
use Rattle.tuple_space.specs.Entry.{IsEntry, is_taken_by}
use Rattle.tuple_space.specs.Rows.{IsRising, permanent_tuples}
use Rattle.tuple_space.specs.Space.{IsSpace, without_taken}
use Rattle.tuple_space.specs.declared.entry.Entry.{Entry}
use Rattle.tuple_space.specs.declared.hold.Hold.{Hold}
use Rattle.tuple_space.proofs.EntryLemmas.{IsOnce, once_head, once_tail}
use Rattle.tuple_space.proofs.RowLemmas.{any_place, only_at}
use Rattle.space_txn.specs.Content.{ChangesContent, added_of, gone_of, is_gone, is_kept, is_made_permanent, kept_of}
use Rattle.space_txn.specs.Machine.{Step, commit, done, commit_at}
use Rattle.space_txn.specs.Marks.{mark_from, marks_of}
use Rattle.space_txn.specs.Txn.{TxnValue}
use Rattle.space_txn.specs.World.{World}
use Rattle.space_txn.specs.declared.mark.Mark.{Mark}
use Rattle.space_txn.proofs.ContentLemmas.{sum_after, sum_of_filter, sum_of_one, sum_of_permanent, weight}
use Rattle.space_txn.proofs.MarkLemmas.{hold_at}

-- whether a hold takes
abbrev pub takes : Option Hold → Bool
takes None = false
takes (Some h) = h.taken

-- whether it reads what was permanent
abbrev pub keeps : Option Hold → Bool
keeps None = false
keeps (Some h) = not h.taken && h.permanent

-- what was permanent at a hold is so now
abbrev pub Stays : Bool → Option Hold → Type 0
Stays now None = Unit {0}
Stays now (Some h) = h.permanent ≡ true → now ≡ true

or_none : (a b : Bool) → b ≡ false → (a || b) ≡ a
or_none true b e = refl
or_none false b e = e

takes_one : (h : Hold) (same rest : Bool) (o : Option Hold) → (same ≡ true → rest ≡ false) → rest ≡ takes o → ((same && h.taken) || rest) ≡ takes (cond same (Some h) o)
takes_one h true rest o none is = or_none h.taken rest (none refl)
takes_one h false rest o none is = is

takes_none : (number : ℕ) (hs : List Hold) → All (λ h. h.by ≢ number) hs → list_any (λ (h : Hold). eqb h.by number && h.taken) hs ≡ false
takes_none number [] none = refl
takes_none number (h ∷ hs) none =
    let P : Hold → Type 0 = λ x. x.by ≢ number in
    or_from _ _ (ap (λ b. b && h.taken) (ne_eqb _ _ (All-head P h hs none))) (takes_none number hs (All-tail P h hs none))

-- a holder took an entry just where the one hold that it has of it takes
takes_as_held : (number : ℕ) (hs : List Hold) → IsOnce hs → list_any (λ (h : Hold). eqb h.by number && h.taken) hs ≡ takes (find (λ (h : Hold). eqb h.by number) hs)
takes_as_held number [] once = refl
takes_as_held number (h ∷ hs) once =
    takes_one h (eqb h.by number) _ (find (λ (x : Hold). eqb x.by number) hs)
    (λ same. takes_none number hs (λ k d lt is. once_head h hs once k d lt (eqb-true _ _ same ∙ sym is)))
    (takes_as_held number hs (once_tail h hs once))

-- what was permanent at a transaction's hold is so now where this holds of all holds
pub stays_as_held : (now : Bool) (number : ℕ) (hs : List Hold) → All (λ h. h.permanent ≡ true → now ≡ true) hs → Stays now (find (λ (h : Hold). eqb h.by number) hs)
stays_as_held now number [] all = tt
stays_as_held now number (h ∷ hs) all =
    let P : Hold → Type 0 = λ x. x.permanent ≡ true → now ≡ true in
    cond_both (eqb h.by number) (Some h) (find (λ (x : Hold). eqb x.by number) hs) (Stays now)
    (λ same. All-head P h hs all) (λ other. stays_as_held now number hs (All-tail P h hs all))

-- a weight over the marks that pass a test, as one over entries
abbrev pub mark_weight : (List FieldValue → ℕ) → (Mark → Bool) → Entry → Option Hold → ℕ
mark_weight f q e None = 0
mark_weight f q e (Some h) = cond (q (mark_from e h)) (f e.tuple) 0

marks_one : (f : List FieldValue → ℕ) (q : Mark → Bool) (e : Entry) (o : Option Hold) (ms : List Mark) → sum_by f (map (λ (m : Mark). m.tuple) (filter q (cons_option (option_map (mark_from e) o) ms))) ≡ mark_weight f q e o + sum_by f (map (λ (m : Mark). m.tuple) (filter q ms))
marks_one f q e None ms = omega arith
marks_one f q e (Some h) ms = sum_of_one f (λ (m : Mark). m.tuple) (q (mark_from e h)) (mark_from e h) (filter q ms)

sum_of_marks : (f : List FieldValue → ℕ) (q : Mark → Bool) (number : ℕ) (es : List Entry) → sum_by f (map (λ (m : Mark). m.tuple) (filter q (marks_of number es))) ≡ sum_by (λ e. mark_weight f q e (hold_at number e)) es
sum_of_marks f q number [] = refl
sum_of_marks f q number (e ∷ es) =
    let one = marks_one f q e (hold_at number e) (marks_of number es) in
    let rest = sum_of_marks f q number es in
    let all = sum_by-cons (λ (x : Entry). mark_weight f q x (hold_at number x)) e es in
    omega arith

-- two weights that agree at each element of a list add up to the same over it
sum_alike : {X : Type 0} (f g : X → ℕ) (xs : List X) → All (λ x. f x ≡ g x) xs → sum_by f xs ≡ sum_by g xs
sum_alike f g [] same = refl
sum_alike {X} f g (x ∷ xs) same =
    let P : X → Type 0 = λ y. f y ≡ g y in
    let one = All-head P x xs same in
    let rest = sum_alike f g xs (All-tail P x xs same) in
    let left = sum_by-cons f x xs in
    let right = sum_by-cons g x xs in
    omega arith

gone_cases : (taken was now : Bool) (n : ℕ) → (was ≡ true → now ≡ true) → cond taken (cond now n 0) 0 ≡ cond (taken && (was || now)) n 0
gone_cases false was now n stays = refl
gone_cases true true now n stays = ap (λ b. cond b n 0) (stays refl)
gone_cases true false now n stays = refl

kept_cases : (taken was now : Bool) (n : ℕ) → (was ≡ true → now ≡ true) → cond (not taken) (cond (not taken && was) (cond now n 0) 0) 0 ≡ cond (not taken && was) n 0
kept_cases true was now n stays = refl
kept_cases false true now n stays = ap (λ b. cond b n 0) (stays refl)
kept_cases false false now n stays = refl

gone_at : (f : List FieldValue → ℕ) (renewed : Mark → Bool) (e : Entry) (o : Option Hold) (taken : Bool) → taken ≡ takes o → Stays (is_permanent e.end) o
    → ((h : Hold) → renewed (mark_from e h) ≡ is_permanent e.end) → cond taken (weight f e) 0 ≡ mark_weight f (is_gone renewed) e o
gone_at f renewed e None taken is stays told = ap (λ b. cond b (weight f e) 0) is
gone_at f renewed e (Some h) taken is stays told =
    ap (λ b. cond b (weight f e) 0) is
    ∙ gone_cases h.taken h.permanent (is_permanent e.end) (f e.tuple) stays
    ∙ ap (λ b. cond (h.taken && (h.permanent || b)) (f e.tuple) 0) (sym (told h))

kept_at : (f : List FieldValue → ℕ) (e : Entry) (o : Option Hold) (taken : Bool) → taken ≡ takes o → Stays (is_permanent e.end) o
    → cond (not taken) (cond (keeps o) (weight f e) 0) 0 ≡ mark_weight f is_kept e o
kept_at f e None taken is stays = cond_both (not taken) 0 0 (λ (n : ℕ). n ≡ 0) (λ t. refl) (λ t. refl)
kept_at f e (Some h) taken is stays =
    ap (λ b. cond (not b) (cond (not h.taken && h.permanent) (weight f e) 0) 0) is
    ∙ kept_cases h.taken h.permanent (is_permanent e.end) (f e.tuple) stays

-- a mark that a transaction has on an entry tells whether that is permanent now
permanent_told : (w : World) → IsRising w.space.entries → All (λ e. (h : Hold) → is_made_permanent w (mark_from e h) ≡ is_permanent e.end) w.space.entries
permanent_told w rising = λ k d lt h.
    let es = w.space.entries in
    let e = get_or es k d in
    let is : e ≡ get_or es k e = get_or_default es k d e lt in
    any_place e.number (λ (x : Entry). is_permanent x.end) es k e
    (only_at e.number es k rising lt (at_read es (λ (x : Entry). x.number ≡ e.number) k e lt is refl)) is

-- what a transaction took, weighed by its marks
sum_of_gone : (f : List FieldValue → ℕ) (number : ℕ) (w : World) → IsSpace w.space
    → sum_by (weight f) (filter (is_taken_by number) w.space.entries) ≡ sum_by f (gone_of (is_made_permanent w) (marks_of number w.space.entries))
sum_of_gone f number w valid =
    let es = w.space.entries in
    let renewed = is_made_permanent w in
    sum_of_filter (weight f) (is_taken_by number) es
    ∙ sum_alike (λ (e : Entry). cond (is_taken_by number e) (weight f e) 0) (λ (e : Entry). mark_weight f (is_gone renewed) e (hold_at number e)) es
    (λ k d lt. let e = get_or es k d in
    gone_at f renewed e (hold_at number e) (is_taken_by number e) (takes_as_held number e.holds (valid.entries k d lt).once)
    (stays_as_held (is_permanent e.end) number e.holds (valid.entries k d lt).stays) (permanent_told w valid.rising k d lt))
    ∙ sym (sum_of_marks f (is_gone renewed) number es)

-- what it read and didn't take
sum_of_kept_marks : (f : List FieldValue → ℕ) (number : ℕ) (es : List Entry) → All IsEntry es
    → sum_by (weight f) (filter (λ e. keeps (hold_at number e)) (without_taken number es)) ≡ sum_by f (kept_of (marks_of number es))
sum_of_kept_marks f number es entries =
    let w : Entry → ℕ = λ e. cond (keeps (hold_at number e)) (weight f e) 0 in
    sum_of_filter (weight f) (λ e. keeps (hold_at number e)) (without_taken number es)
    ∙ sum_of_filter w (λ e. not (is_taken_by number e)) es
    ∙ sum_alike (λ (e : Entry). cond (not (is_taken_by number e)) (w e) 0) (λ (e : Entry). mark_weight f is_kept e (hold_at number e)) es
    (λ k d lt. let e = get_or es k d in
    kept_at f e (hold_at number e) (is_taken_by number e) (takes_as_held number e.holds (entries k d lt).once)
    (stays_as_held (is_permanent e.end) number e.holds (entries k d lt).stays))
    ∙ sym (sum_of_marks f is_kept number es)

-- what a commit does to the content
commit_changes : (w : World) (t : TxnValue) → IsSpace w.space → t.marks ≡ marks_of t.number w.space.entries → ChangesContent w (commit_at w t) t
commit_changes w t valid own =
    let number = t.number in
    let es = w.space.entries in
    let left = without_taken number es in
    let renewed = is_made_permanent w in
    let is_read : Entry → Bool = λ e. keeps (hold_at number e) in
    let rest = permanent_tuples (filter (λ e. not (is_read e)) left) in
    record {
      rest = rest;
      before = λ f.
          let parts = sum_by-append f (gone_of renewed t.marks) (kept_of t.marks ++ rest) in
          let others = sum_by-append f (kept_of t.marks) rest in
          let all = sum_of_permanent f es in
          let gone = sum_of_gone f number w valid in
          let gone_own = ap (λ (ms : List Mark). sum_by f (gone_of renewed ms)) own in
          let kept = sum_of_kept_marks f number es valid.entries in
          let kept_own = ap (λ (ms : List Mark). sum_by f (kept_of ms)) own in
          let over = sum_of_permanent f (filter (λ e. not (is_read e)) left) in
          let taken = sum_by-filter_both (is_taken_by number) (λ e. not (is_taken_by number e)) (λ e. refl) (weight f) es in
          let held = sum_by-filter_both is_read (λ e. not (is_read e)) (λ e. refl) (weight f) left in
          omega arith;
      after = λ f.
          let parts = sum_by-append f (added_of t.writes) (kept_of t.marks ++ rest) in
          let others = sum_by-append f (kept_of t.marks) rest in
          let new = sum_after f w t in
          let kept = sum_of_kept_marks f number es valid.entries in
          let kept_own = ap (λ (ms : List Mark). sum_by f (kept_of ms)) own in
          let over = sum_of_permanent f (filter (λ e. not (is_read e)) left) in
          let held = sum_by-filter_both is_read (λ e. not (is_read e)) (λ e. refl) (weight f) left in
          omega arith;
      counted = refl;
    }

-- the same of a step of the machine
pub commit_step_changes : (old new : World) (t : TxnValue) → IsSpace old.space → Step old t commit done new t → ChangesContent old new t
commit_step_changes old new t valid s =
    let P : World → Type 0 = λ w. ChangesContent old w t in
    subst P (sym s.2) (commit_changes old t valid s.0.own)
