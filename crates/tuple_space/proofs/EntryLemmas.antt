use Rattle.std.proofs.Common.{◌≡◌, ℕ, suc, Bool, true, List, [], ◌∷◌, ◌∙◌, sym, subst, refl, cond, eqb, arith}
use Rattle.std.specs.Prelude.{◌≢◌, All, AllPairs, not}
use Rattle.std.proofs.lemmas.Bool.{cond_both, eqb-true, eqb-false}
use Rattle.std.proofs.lemmas.List.Elements.{All-cons, All-filter, All-head, All-nil, All-tail}
use Rattle.std.proofs.lemmas.List.Kept.{AllPairs-cons, AllPairs-filter}
use Rattle.tuple_space.specs.Entry.{IsEntry, unheld}
use Rattle.tuple_space.specs.Holds.{holds_with}
use Rattle.tuple_space.specs.Lease.{is_permanent, later}
use Rattle.tuple_space.specs.Rows.{with_end}
use Rattle.tuple_space.specs.Space.{held_by}
use Rattle.tuple_space.specs.declared.entry.Entry.{Entry}
use Rattle.tuple_space.specs.declared.hold.Hold.{Hold}
use Rattle.tuple_space.specs.declared.lease.LeaseEnd.{LeaseEnd}
use Rattle.tuple_space.specs.declared.lease.LeaseEnd.TheVariants.{Never, At}

-- two holders
abbrev pub Differ : Hold → Hold → Type 0
Differ h k = h.by ≢ k.by

-- nobody holds twice
abbrev pub IsOnce : List Hold → Type 0
IsOnce holds = AllPairs Differ holds

-- where nobody holds twice, the first holder differs from those behind it
pub once_head : (h : Hold) (hs : List Hold) → IsOnce (h ∷ hs) → All (Differ h) hs
once_head h hs o = λ k d lt. o 0 (suc k) d (omega arith) (omega arith)

-- and none of those holds twice
pub once_tail : (h : Hold) (hs : List Hold) → IsOnce (h ∷ hs) → IsOnce hs
once_tail h hs o = λ i j d below within. o (suc i) (suc j) d (omega arith) (omega arith)

-- a hold put among others keeps what holds of it and of each of them
pub All-with : (P : Hold → Type 0) (h : Hold) (hs : List Hold) → P h → All P hs → All P (holds_with h hs)
All-with P h [] this all = All-cons P h [] this (All-nil P)
All-with P h (x ∷ xs) this all =
    cond_both (eqb x.by h.by) (h ∷ xs) (x ∷ holds_with h xs) (λ (l : List Hold). All P l)
    (λ same. All-cons P h xs this (All-tail P x xs all))
    (λ other. All-cons P x (holds_with h xs) (All-head P x xs all) (All-with P h xs this (All-tail P x xs all)))

-- and each holder still holds once
pub once_with : (h : Hold) (hs : List Hold) → IsOnce hs → IsOnce (holds_with h hs)
once_with h [] o = AllPairs-cons Differ h [] (All-nil (Differ h)) o
once_with h (x ∷ xs) o =
    cond_both (eqb x.by h.by) (h ∷ xs) (x ∷ holds_with h xs) IsOnce
    (λ same. AllPairs-cons Differ h xs (λ k d lt is. once_head x xs o k d lt (eqb-true _ _ same ∙ is)) (once_tail x xs o))
    (λ other. AllPairs-cons Differ x (holds_with h xs)
    (All-with (Differ x) h xs (eqb-false _ _ other) (once_head x xs o))
    (once_with h xs (once_tail x xs o)))

-- what is permanent stays so where its lease's end is moved
stays_later : (end other : LeaseEnd) → is_permanent end ≡ true → is_permanent (later end other) ≡ true
stays_later Never other e = refl
stays_later (At n) Never e = refl
stays_later (At n) (At m) e = e

-- an entry whose lease ends at the later of its end and another
pub IsEntry-end : (end : LeaseEnd) (e : Entry) → IsEntry e → IsEntry (with_end end e)
IsEntry-end end e h = record {
  once = h.once;
  stays = λ k d lt is. stays_later e.end end (h.stays k d lt is);
}

-- an entry held by one more, or by one anew
pub IsEntry-held : (holder : ℕ) (taken : Bool) (e : Entry) → IsEntry e → IsEntry (held_by holder taken e)
IsEntry-held holder taken e h =
    let hold : Hold = record { by = holder; taken = taken; permanent = is_permanent e.end } in
    record {
      once = once_with hold e.holds h.once;
      stays = All-with (λ (x : Hold). x.permanent ≡ true → is_permanent e.end ≡ true) hold e.holds (λ is. is) h.stays;
    }

-- an entry that one holder lets go
pub IsEntry-unheld : (holder : ℕ) (e : Entry) → IsEntry e → IsEntry (unheld holder e)
IsEntry-unheld holder e h =
    let besides : Hold → Bool = λ x. not (eqb x.by holder) in
    record {
      once = AllPairs-filter Differ besides e.holds h.once;
      stays = All-filter besides (λ (x : Hold). x.permanent ≡ true → is_permanent e.end ≡ true) e.holds h.stays;
    }

-- an entry that was just put out
pub IsEntry-new : (e : Entry) → e.holds ≡ [] → IsEntry e
IsEntry-new e none = record {
  once = subst IsOnce (sym none) (λ i j d below within. absurd (omega arith));
  stays = subst (All (λ (x : Hold). x.permanent ≡ true → is_permanent e.end ≡ true)) (sym none) (All-nil (λ (x : Hold). x.permanent ≡ true → is_permanent e.end ≡ true));
}

-- an entry that is changed where it has a number
pub IsEntry-changed : (number : ℕ) (change : Entry → Entry) → ((e : Entry) → IsEntry e → IsEntry (change e)) → (e : Entry) → IsEntry e → IsEntry (cond (eqb e.number number) (change e) e)
IsEntry-changed number change keeps e h = cond_both (eqb e.number number) (change e) e IsEntry (λ t. keeps e h) (λ t. h)
