-- Transactions under their numbers.
use Rattle.std.proofs.Common.{◌≡◌, ℕ, zero, suc, Bool, true, List, [], ◌∷◌, ◌++◌, length, get_or, refl, sym, ap, ◌∙◌, eqb, slice_get, Option, Some, None, MatchOption, arith}
use Rattle.std.proofs.Math.ListN.{set}
use Rattle.std.specs.Prelude.{◌≢◌, filter, map, position, remove}
use Rattle.std.specs.List.{list_all}
use Rattle.std.specs.Map.{keys_of, lookup, values_of}
use Rattle.std.proofs.lemmas.Bool.{and_parts, cond-true, eq-eqb, eqb-true, false≢true}
use Rattle.std.proofs.lemmas.List.{get_or-map, length-map}
use Rattle.std.proofs.lemmas.List.Elements.{All-cons}
use Rattle.std.proofs.lemmas.List.Quantifiers.{position-Some}
use Rattle.std.proofs.lemmas.Map.{NonePasses, none_passes_from_lookup}
use Rattle.std.proofs.lemmas.Option.{none-some, same_Some, slice_get-get_or}
use Rattle.indexmap.specs.IndexMap.{insert_entry, set_value_at}
use Rattle.tuple_space.proofs.NumberLemmas as lemmas
use Rattle.tuple_space.specs.Entries as numbers
use Rattle.space_txn.specs.Txn.{TxnValue, txn_of}
use Rattle.space_script.specs.Kept.{AreNumbered}
use Rattle.space_script.specs.Session.{NoneKept, StandsAt}

-- a transaction's number
abbrev number : TxnValue → ℕ
number t = t.number

-- transactions, each with its number
abbrev pub numbered : List TxnValue → List (ℕ × TxnValue)
numbered ts = numbers.numbered number ts

-- what holds of all things under their numbers
pub are_numbered : (ps : List (ℕ × TxnValue)) (ts : List TxnValue) → ps ≡ numbered ts → AreNumbered ps
are_numbered ps ts is = lemmas.are_numbered number ps ts is

-- the values of such pairs are the transactions
pub values_are : (ps : List (ℕ × TxnValue)) (ts : List TxnValue) → ps ≡ numbered ts → values_of ps ≡ ts
values_are ps ts is = lemmas.values_are number ps ts is

-- the pairs without the one at a place are those of the transactions without it
pub numbered-remove : (ts : List TxnValue) (i : ℕ) → remove (numbered ts) i ≡ numbered (remove ts i)
numbered-remove ts i = lemmas.numbered-remove number ts i

-- the pairs that a test keeps are those of the transactions that it keeps
pub numbered-filter : (test : TxnValue → Bool) (ts : List TxnValue) → filter (λ (p : ℕ × TxnValue). test p.1) (numbered ts) ≡ numbered (filter test ts)
numbered-filter test ts = lemmas.numbered-filter number test ts

-- writing at a place what stands there changes nothing
pub set_same : (ts : List TxnValue) (i : ℕ) (x : TxnValue) → slice_get ts i ≡ Some x → set ts i x ≡ ts
set_same ts i x at = lemmas.set_same ts i x at

-- a transaction with a number that none has goes behind the others
pub numbered_new : (ps : List (ℕ × TxnValue)) (x : TxnValue) → AreNumbered ps → NoneKept (values_of ps) x.number → insert_entry eqb ps x.number x ≡ numbered (values_of ps ++ x ∷ [])
numbered_new ps x each new = lemmas.numbered_new number ps x each new

module _ (ps : List (ℕ × TxnValue)) (i : ℕ) (old new : TxnValue) (each : AreNumbered ps) (at : slice_get (values_of ps) i ≡ Some old) (same : new.number ≡ old.number) where
  pub written_numbered : AreNumbered (set_value_at ps i new)
  written_numbered = lemmas.written_numbered number ps i old new each at same

  pub written_values : values_of (set_value_at ps i new) ≡ set (values_of ps) i new
  written_values = lemmas.written_values number ps i old new each at same

-- what is put at a place stands there
pub get_set : (ts : List TxnValue) (i : ℕ) (old new found : TxnValue) → slice_get ts i ≡ Some old → slice_get (set ts i new) i ≡ Some found → found ≡ new
get_set [] i old new found at got = absurd (none-some old at)
get_set (y ∷ ys) zero old new found at got = sym (same_Some new found got)
get_set (y ∷ ys) (suc i) old new found at got = get_set ys i old new found at got

-- where a number is looked for among the keys
pub placed : (number : ℕ) (ps : List (ℕ × TxnValue)) (r : Option ℕ) → AreNumbered ps → r ≡ position (λ k. eqb number k) (keys_of ps)
    → MatchOption r (NoneKept (values_of ps) number) (λ place. (t : TxnValue) × StandsAt (values_of ps) number place t)
placed number ps r each is = by r (is ∙ ap (position (λ k. eqb number k)) (ap keys_of each ∙ lemmas.keys-numbered (λ (t : TxnValue). t.number) (values_of ps)))
  where
    ts : List TxnValue
    ts = values_of ps

    numbers : List ℕ
    numbers = map (λ (t : TxnValue). t.number) ts

    long : length numbers ≡ length ts
    long = length-map ts (λ (t : TxnValue). t.number)

    by : (o : Option ℕ) → o ≡ position (λ k. eqb number k) numbers → MatchOption o (NoneKept ts number) (λ place. (t : TxnValue) × StandsAt ts number place t)
    by None found = λ k d lt same.
        let fails = lemmas.position_none (λ n. eqb number n) numbers (sym found) k d.number (omega (arith, lt, long)) in
        let here : get_or numbers k d.number ≡ (get_or ts k d).number = get_or-map (λ (t : TxnValue). t.number) ts k d d.number lt in
        false≢true (sym fails ∙ eq-eqb number _ (sym (here ∙ same)))
    by (Some i) found =
        let any = txn_of 0 [] [] in
        let at = position-Some (λ n. eqb number n) numbers i 0 (sym found) in
        let within = at.0 in
        let here : get_or numbers i 0 ≡ (get_or ts i any).number = get_or-map (λ (t : TxnValue). t.number) ts i any 0 (omega (arith, within, long)) in
        (get_or ts i any, record { there = slice_get-get_or ts i any (omega (arith, within, long)); named = sym (eqb-true number _ at.1 ∙ here) })

-- the pair at a place is a transaction under its number
pub pair_at : (ps : List (ℕ × TxnValue)) (i n : ℕ) (t : TxnValue) → AreNumbered ps → slice_get ps i ≡ Some (n, t) → (slice_get (values_of ps) i ≡ Some t) × (n ≡ t.number)
pair_at ps i n t each at = by (values_of ps) i (ap (λ l. slice_get l i) (sym each) ∙ at)
  where
    by : (ts : List TxnValue) (k : ℕ) → slice_get (numbered ts) k ≡ Some (n, t) → (slice_get ts k ≡ Some t) × (n ≡ t.number)
    by [] k is = absurd (none-some (n, t) is)
    by (x ∷ xs) zero is =
        let same = same_Some (x.number, x) (n, t) is in
        (ap (λ (p : ℕ × TxnValue). Some p.1) same, sym (ap (λ (p : ℕ × TxnValue). p.0) same) ∙ ap (λ (p : ℕ × TxnValue). p.1.number) same)
    by (x ∷ xs) (suc k) is = by xs k is

-- no transaction has a number that isn't found
none_passes : (number : ℕ) (ts : List TxnValue) → NonePasses (eqb number) (numbered ts) → NoneKept ts number
none_passes number [] none = λ k d lt. absurd (omega (arith, lt))
none_passes number (x ∷ xs) none =
    All-cons (λ (t : TxnValue). t.number ≢ number) x xs (λ same. false≢true (sym none.0 ∙ eq-eqb number _ (sym same))) (none_passes number xs none.1)

-- where no pair is found by a number, no transaction of it is kept
pub none_found : (number : ℕ) (ps : List (ℕ × TxnValue)) → AreNumbered ps → lookup (eqb number) ps ≡ None → NoneKept (values_of ps) number
none_found number ps each none = none_passes number (values_of ps) (none_passes_from_lookup (eqb number) (numbered (values_of ps)) (ap (lookup (eqb number)) (sym each) ∙ none))

-- a filter leaves what passes as a whole
pub all_filter : (test : TxnValue → Bool) (ts : List TxnValue) → list_all test ts ≡ true → filter test ts ≡ ts
all_filter test [] all = refl
all_filter test (x ∷ xs) all =
    let parts = and_parts (test x) (list_all test xs) all in
    cond-true (test x) (x ∷ filter test xs) (filter test xs) parts.0 ∙ ap (λ l. x ∷ l) (all_filter test xs parts.1)

-- whatever stands at the place of a number has it
pub stands_too : (ts : List TxnValue) (number place : ℕ) (t found : TxnValue) → StandsAt ts number place t → slice_get ts place ≡ Some found → StandsAt ts number place found
stands_too ts number place t found stands at =
    record { there = at; named = ap (λ (x : TxnValue). x.number) (same_Some found t (sym at ∙ stands.there)) ∙ stands.named }
