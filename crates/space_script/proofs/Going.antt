-- Transactions that stay live.
use Rattle.std.proofs.Common.{◌≡◌, ℕ, zero, suc, ◌+◌, ◌<◌, ◌≤◌, Bool, true, List, [], ◌∷◌, ◌++◌, get_or, refl, sym, ap, subst, ◌∙◌, drop, inl, inr, eqb, ltb, slice_get, Some, take, arith}
use Rattle.std.proofs.Math.ListN.{set}
use Rattle.std.specs.Prelude.{◌≢◌, ◌&&◌, All, max, not, remove}
use Rattle.std.specs.List.{list_any}
use Rattle.std.proofs.lemmas.Bool.{and_from, and_parts, cond-true, cond_both, eqb-true, lt-ltb, ltb-true, ne_eqb, or_cases, or_left, or_right}
use Rattle.std.proofs.lemmas.List.Elements.{All-append, All-drop, All-filter, All-head, All-set, All-tail, All-take, filter-append, filter_passes}
use Rattle.std.proofs.lemmas.List.Folds.{list_any-append}
use Rattle.std.proofs.lemmas.Map.Views.{any-filter_same}
use Rattle.std.proofs.lemmas.Option.{none-some, same_Some}
use Rattle.tuple_match.specs.PatternValue.{PatternValue}
use Rattle.tuple_space.specs.Lease.{granted_end}
use Rattle.space_txn.specs.declared.live.Live.{Live}
use Rattle.space_txn.specs.declared.txn.Found.TheVariants.{Entry as Stored, Own}
use Rattle.space_txn.specs.Live.{is_live_in, others, renewed_row, renewed_rows}
use Rattle.space_txn.specs.Machine.{Answer, Call, Step, inp_in, rdp_in, renew_txn, commit, abort, found, nothing, done, refused}
use Rattle.space_txn.specs.Txn.{TxnValue}
use Rattle.space_txn.specs.World.{World, advance_at, begin_at, is_live_transaction}
use Rattle.space_txn.proofs.RuleLemmas.{moment_stays}
use Rattle.space_script.specs.Session.{IsGoing, KeepsGoing, live_of}

-- a transaction that goes on in a world goes on in another one where no fewer were begun, and where it is live at the same moment
same_moment : (old new : World) (t : TxnValue) → old.begun ≤ new.begun → new.space.moment ≡ old.space.moment
    → is_live_in old.space.moment t.number new.live ≡ true → IsGoing old t → IsGoing new t
same_moment old new t begun moment live going =
    (omega (arith, begun, going.0), ap (λ (m : ℕ). is_live_in m t.number new.live) moment ∙ live)

-- a world that differs from another one in its space alone
other_space : (old new : World) → new.live ≡ old.live → new.begun ≡ old.begun → new.space.moment ≡ old.space.moment → KeepsGoing old new
other_space old new live begun moment = λ t going.
    same_moment old new t (omega (arith, begun)) moment (ap (is_live_in old.space.moment t.number) live ∙ going.1) going

same_rows : (old new : World) (t : TxnValue) (call : Call) (answer : Answer) (t' : TxnValue) → Step old t call answer new t' → new.live ≡ old.live → new.begun ≡ old.begun → KeepsGoing old new
same_rows old new t call answer t' s live begun = other_space old new live begun (moment_stays old t call answer new t' s)

-- where the world is the same, the same transactions go on
pub same_world : (old new : World) → new ≡ old → KeepsGoing old new
same_world old new same = λ t going. subst (λ (w : World). IsGoing w t) (sym same) going

-- a renewal ends no lease
renewed_live : (moment number end n : ℕ) (rows : List Live) → is_live_in moment n rows ≡ true → is_live_in moment n (renewed_rows number end rows) ≡ true
renewed_live moment number end n [] live = live
renewed_live moment number end n (r ∷ rs) live = elim (or_cases (is_live r) (is_live_in moment n rs) live) [
  | inl here ↦ or_left (is_live (renewed_row number end r)) (is_live_in moment n (renewed_rows number end rs)) (row here)
  | inr behind ↦ or_right (is_live (renewed_row number end r)) (is_live_in moment n (renewed_rows number end rs)) (renewed_live moment number end n rs behind)
]
  where
    is_live : Live → Bool
    is_live t = eqb t.number n && ltb moment t.end

    row : is_live r ≡ true → is_live (renewed_row number end r) ≡ true
    row here =
        let parts = and_parts (eqb r.number n) (ltb moment r.end) here in
        let less : moment < r.end = ltb-true moment r.end parts.1 in
        cond_both (eqb r.number number) (record r { end = max r.end end }) r (λ (t : Live). is_live t ≡ true)
        (λ same. and_from (eqb r.number n) (ltb moment (max r.end end)) parts.0 (lt-ltb moment (max r.end end) (omega (arith, less)))) (λ other. here)

-- another transaction's end ends no lease
others_live : (moment number n : ℕ) (rows : List Live) → n ≢ number → is_live_in moment n rows ≡ true → is_live_in moment n (others number rows) ≡ true
others_live moment number n rows other live =
    any-filter_same (λ (t : Live). eqb t.number n && ltb moment t.end) (λ (t : Live). not (eqb t.number number)) true
    (λ t found. ap not (ne_eqb t.number number (λ same. other (sym (eqb-true t.number n (and_parts (eqb t.number n) (ltb moment t.end) found).0) ∙ same)))) rows
    ∙ live

-- a search or a renewal, and a commit or an abort that is refused, end nothing
abbrev pub EndsNothing : Call → Answer → Type 0
EndsNothing commit done = ⊥
EndsNothing abort done = ⊥
EndsNothing _ _ = Unit {0}

-- a call that ends nothing lets all transactions go on
pub step_keeps : (old : World) (t : TxnValue) (call : Call) (answer : Answer) (new : World) (t' : TxnValue) → Step old t call answer new t' → EndsNothing call answer → KeepsGoing old new
step_keeps old t (inp_in template) (found (Stored number)) new t' s e = same_rows old new t (inp_in template) (found (Stored number)) t' s (ap (λ (w : World). w.live) s.4) (ap (λ (w : World). w.begun) s.4)
step_keeps old t (inp_in template) (found (Own place)) new t' s e = same_world old new s.3
step_keeps old t (inp_in template) nothing new t' s e = same_world old new s.3
step_keeps old t (inp_in template) (refused error) new t' s e = same_world old new s.1
step_keeps old t (rdp_in template) (found (Stored number)) new t' s e = same_rows old new t (rdp_in template) (found (Stored number)) t' s (ap (λ (w : World). w.live) s.4) (ap (λ (w : World). w.begun) s.4)
step_keeps old t (rdp_in template) (found (Own place)) new t' s e = same_world old new s.3
step_keeps old t (rdp_in template) nothing new t' s e = same_world old new s.3
step_keeps old t (rdp_in template) (refused error) new t' s e = same_world old new s.1
step_keeps old t (renew_txn asked) done new t' s e = λ x going.
    let live = renewed_live old.space.moment t.number (granted_end old.space.moment asked) x.number old.live going.1 in
    subst (λ (w : World). IsGoing w x) (sym s.1) (going.0, live)
step_keeps old t (renew_txn asked) (refused error) new t' s e = same_world old new s.1
step_keeps old t commit done new t' s e = absurd e
step_keeps old t commit (refused error) new t' s e = same_world old new s.1
step_keeps old t abort done new t' s e = absurd e
step_keeps old t abort (refused error) new t' s e = same_world old new s.1
step_keeps old t _ _ new t' s e = absurd s

-- a commit or an abort ends its own transaction alone
pub commit_keeps : (old : World) (t : TxnValue) (new : World) (t' : TxnValue) → Step old t commit done new t' → (x : TxnValue) → x.number ≢ t.number → IsGoing old x → IsGoing new x
commit_keeps old t new t' s x other going =
    same_moment old new x (omega (arith, ap (λ (w : World). w.begun) s.2)) (moment_stays old t commit done new t' s)
    (ap (λ (w : World). is_live_in old.space.moment x.number w.live) s.2 ∙ others_live old.space.moment t.number x.number old.live other going.1) going

-- the same for an abort
pub abort_keeps : (old : World) (t : TxnValue) (new : World) (t' : TxnValue) → Step old t abort done new t' → (x : TxnValue) → x.number ≢ t.number → IsGoing old x → IsGoing new x
abort_keeps old t new t' s x other going =
    same_moment old new x (omega (arith, ap (λ (w : World). w.begun) s.1)) (moment_stays old t abort done new t' s)
    (ap (λ (w : World). is_live_in old.space.moment x.number w.live) s.1 ∙ others_live old.space.moment t.number x.number old.live other going.1) going

-- a begin ends nothing
pub begin_keeps : (old new : World) (asked : ℕ) → new ≡ begin_at old asked → KeepsGoing old new
begin_keeps old new asked is = λ x going.
    let row : Live = record { number = old.begun + 1; end = granted_end old.space.moment asked } in
    let test : Live → Bool = λ t. eqb t.number x.number && ltb old.space.moment t.end in
    subst (λ (w : World). IsGoing w x) (sym is)
    (omega (arith, going.0), list_any-append test old.live (row ∷ []) ∙ or_left (list_any test old.live) (list_any test (row ∷ [])) going.1)

-- a search changes no number
pub inp_number : (old : World) (t : TxnValue) (template : List PatternValue) (answer : Answer) (new : World) (t' : TxnValue) → Step old t (inp_in template) answer new t' → t'.number ≡ t.number
inp_number old t template (found (Stored number)) new t' s = ap (λ (x : TxnValue). x.number) s.5
inp_number old t template (found (Own place)) new t' s = ap (λ (x : TxnValue). x.number) s.4
inp_number old t template nothing new t' s = ap (λ (x : TxnValue). x.number) s.4
inp_number old t template (refused error) new t' s = ap (λ (x : TxnValue). x.number) s.2
inp_number old t template done new t' s = absurd s

-- the same for a search that reads
pub rdp_number : (old : World) (t : TxnValue) (template : List PatternValue) (answer : Answer) (new : World) (t' : TxnValue) → Step old t (rdp_in template) answer new t' → t'.number ≡ t.number
rdp_number old t template (found (Stored number)) new t' s = ap (λ (x : TxnValue). x.number) s.5
rdp_number old t template (found (Own place)) new t' s = ap (λ (x : TxnValue). x.number) s.4
rdp_number old t template nothing new t' s = ap (λ (x : TxnValue). x.number) s.4
rdp_number old t template (refused error) new t' s = ap (λ (x : TxnValue). x.number) s.2
rdp_number old t template done new t' s = absurd s

-- a list without one of its transactions, and one of them alone
pub all_remove : (P : TxnValue → Type 0) (ts : List TxnValue) (i : ℕ) → All P ts → All P (remove ts i)
all_remove P ts i all = All-append P (take i ts) (drop (suc i) ts) (All-take P i ts all) (All-drop P (suc i) ts all)

-- what holds of all transactions holds of the one at a place
pub all_at : (P : TxnValue → Type 0) (ts : List TxnValue) (i : ℕ) (t : TxnValue) → All P ts → slice_get ts i ≡ Some t → P t
all_at P [] i t all at = absurd (none-some t at)
all_at P (x ∷ xs) zero t all at = subst P (same_Some x t at) (All-head P x xs all)
all_at P (x ∷ xs) (suc i) t all at = all_at P xs i t (All-tail P x xs all) at

-- those that are kept where all go on
pub all_keep : (old new : World) (ts : List TxnValue) → KeepsGoing old new → All (IsGoing old) ts → All (IsGoing new) ts
all_keep old new ts keeps all = λ k d lt. keeps (get_or ts k d) (all k d lt)

-- and where one of them has another value
pub all_step : (old new : World) (ts : List TxnValue) (place : ℕ) (t after : TxnValue) → KeepsGoing old new → slice_get ts place ≡ Some t → after.number ≡ t.number
    → All (IsGoing old) ts → All (IsGoing new) (set ts place after)
all_step old new ts place t after keeps at same all =
    let going = keeps t (all_at (IsGoing old) ts place t all at) in
    All-set (IsGoing new) ts place after (subst (λ (n : ℕ). (n ≤ new.begun) × (is_live_transaction new n ≡ true)) (sym same) going) (all_keep old new ts keeps all)

-- those that were live are live with one that is
pub live_all : (w : World) (ts : List TxnValue) → All (IsGoing w) ts → live_of w ts ≡ ts
live_all w [] all = refl
live_all w (x ∷ xs) all =
    cond-true (is_live_transaction w x.number) (x ∷ live_of w xs) (live_of w xs) (All-head (IsGoing w) x xs all).1
    ∙ ap (λ l. x ∷ l) (live_all w xs (All-tail (IsGoing w) x xs all))

-- with one more behind transactions that all go on, the live ones are those and, if it is live, that one
pub live_push : (w : World) (ts : List TxnValue) (t : TxnValue) → All (IsGoing w) ts → ts ++ live_of w (t ∷ []) ≡ live_of w (ts ++ t ∷ [])
live_push w ts t all =
    sym (filter-append (λ (x : TxnValue). is_live_transaction w x.number) ts (t ∷ []) ∙ ap (λ l. l ++ live_of w (t ∷ [])) (live_all w ts all))

-- those that are live among some that were begun
pub live_going : (w : World) (ts : List TxnValue) → All (λ (t : TxnValue). t.number ≤ w.begun) ts → All (IsGoing w) (live_of w ts)
live_going w ts begun = λ k d lt.
    let test : TxnValue → Bool = λ t. is_live_transaction w t.number in
    (All-filter test (λ (t : TxnValue). t.number ≤ w.begun) ts begun k d lt, filter_passes test ts k d lt)

-- the moment moved on
pub advance_begun : (old new : World) (moment : ℕ) → new ≡ advance_at old moment → new.begun ≡ old.begun
advance_begun old new moment is =
    ap (λ (w : World). w.begun) is ∙ cond_both (ltb moment old.space.moment) old _ (λ (w : World). w.begun ≡ old.begun) (λ earlier. refl) (λ later. refl)

-- the others go on where one of them was taken out
pub remove_going : (old new : World) (n : ℕ) (ts : List TxnValue) → ((x : TxnValue) → x.number ≢ n → IsGoing old x → IsGoing new x) → All (λ (x : TxnValue). x.number ≢ n) ts → All (IsGoing old) ts → All (IsGoing new) ts
remove_going old new n ts keeps others all = λ k d lt. keeps (get_or ts k d) (others k d lt) (all k d lt)
