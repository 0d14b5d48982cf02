use Rattle.std.proofs.Common.{◌≡◌, ℕ, ◌≤◌, ◌<◌, ◌+◌, List, [], ◌∷◌, Bool, true, false, cond, get_or, not, sym, refl, arith}
use Rattle.std.specs.Prelude.{filter, map}
use Rattle.std.proofs.lemmas.List.Elements.{All-filter, All-map, All-push}
use Rattle.std.proofs.lemmas.List.Quantifiers.{all_pairs_push}
use Rattle.std.proofs.lemmas.Bool.{cond_both, false≢true}
use Rattle.std.proofs.lemmas.List.Sums.{sum_by-cons}
use Rattle.tuple_match.specs.FieldValue.{FieldValue}
use Rattle.tuple_space.specs.declared.entry.Entry.{Entry}
use Rattle.tuple_space.specs.Entry.{IsEntry}
use Rattle.tuple_space.proofs.EntryLemmas.{IsEntry-new}
use Rattle.tuple_space.specs.Space.{SpaceValue, IsSpace, most, put, space_of}
use Rattle.tuple_space.specs.Writes.{put_count, put_each}
use Rattle.tuple_space.specs.Lease.{granted}
use Rattle.tuple_space.specs.declared.lease.Lease.{Lease}
use Rattle.tuple_space.specs.declared.write.Write.{Write}
use Rattle.tuple_space.proofs.RowLemmas.{rising_filter, rising_map}

-- a space keeps being one where entries go and the moment moves on
pub IsSpace-filter : (test : Entry → Bool) (es : List Entry) (moment last later : ℕ) → later ≤ most → IsSpace (space_of es moment last) → IsSpace (space_of (filter test es) later last)
IsSpace-filter test es moment last later early h = record {
  rising = rising_filter test es h.rising;
  entries = All-filter test IsEntry es h.entries;
  numbered = All-filter test (λ (e : Entry). (0 < e.number) × (e.number ≤ last)) es h.numbered;
  few = h.few;
  early = early;
}

-- a space keeps being one where entries change in other things than their numbers and stay entries
pub IsSpace-map : (change : Entry → Entry) → ((e : Entry) → (change e).number ≡ e.number) → ((e : Entry) → IsEntry e → IsEntry (change e)) → (es : List Entry) (moment last : ℕ) → IsSpace (space_of es moment last) → IsSpace (space_of (map change es) moment last)
IsSpace-map change keeps stays es moment last h = record {
  rising = rising_map change keeps es h.rising;
  entries = All-map IsEntry change es (λ k d lt. stays (get_or es k d) (h.entries k d lt));
  numbered = All-map (λ (e : Entry). (0 < e.number) × (e.number ≤ last)) change es (λ k d lt.
      let own = h.numbered k d lt in
      let same = keeps (get_or es k d) in
      (omega arith, omega arith));
  few = h.few;
  early = h.early;
}

-- a space keeps being one where a tuple is put out
pub IsSpace-put : (w : SpaceValue) (tuple : List FieldValue) (lease : Lease) → w.last < most → IsSpace w → IsSpace (put w tuple lease)
IsSpace-put w tuple lease room h =
    let fits : Entry → Type 0 = λ e. (0 < e.number) × (e.number ≤ w.last + 1) in
    let new : Entry = record { number = w.last + 1; tuple = tuple; end = granted w.moment lease; holds = [] } in
    record {
      entries = All-push IsEntry w.entries new h.entries (IsEntry-new new refl);
      rising = all_pairs_push (λ (x y : Entry). x.number < y.number) w.entries new h.rising (λ k d lt. let own = h.numbered k d lt in omega arith);
      numbered = All-push fits w.entries new (λ k d lt. let own = h.numbered k d lt in (omega arith, omega arith)) (omega arith, omega arith);
      few = omega arith;
      early = h.early;
    }

-- a write that isn't taken again counts as one
one_of : (taken : Bool) → taken ≡ false → cond {A = ℕ} (not taken) 1 0 ≡ 1
one_of true e = absurd (false≢true (sym e))
one_of false e = refl

-- and where several are
pub IsSpace-put_each : (w : SpaceValue) (writes : List Write) → w.last + put_count writes ≤ most → IsSpace w → IsSpace (put_each w writes)
IsSpace-put_each w [] room h = h
IsSpace-put_each w (x ∷ xs) room h =
    let P : SpaceValue → Type 0 = λ v. IsSpace (put_each v xs) in
    let counted = sum_by-cons (λ (y : Write). cond {A = ℕ} (not y.taken) 1 0) x xs in
    cond_both x.taken w (put w x.tuple x.lease) P
    (λ t. IsSpace-put_each w xs (omega arith) h)
    (λ f. let one : cond {A = ℕ} (not x.taken) 1 0 ≡ 1 = one_of x.taken f in
    IsSpace-put_each (put w x.tuple x.lease) xs (omega arith) (IsSpace-put w x.tuple x.lease (omega arith) h))
