-- The costliest of the pairs that were looked at so far.
use Rattle.std.proofs.Common.{◌≡◌, refl, sym, ◌∙◌, subst, ap, arith, ℕ, suc, zero, ◌+◌, ◌<◌, ◌≤◌, ◌⊎◌, inl, inr, ⊎_elim, Bool, true, false, cond, List, [], ◌∷◌, length, take}
use Rattle.std.specs.Prelude.{⊤, ℤ, pos, ◌<ℤ◌, ◌≤ℤ◌, int_lt}
use Rattle.std.specs.List.{AllByRecursion, AllPairs, Contains}
use Rattle.std.proofs.lemmas.Int.{by_lt_z, ints}
use Rattle.std.proofs.lemmas.List.{length-take, length-take-le}
use Rattle.std.proofs.lemmas.List.Elements.{All-from_recursion}
use Rattle.std.proofs.lemmas.List.Kept.{AllPairs-cons}
use Rattle.qap_cost.specs.Instance.{Problem}
use Rattle.plan_answer.specs.Pairs.{AreDearest, IsBefore, IsEarlier, IsPairOf}
use Rattle.plan_answer.specs.Putting.{kept_with, with_pair}
use Rattle.plan_answer.specs.declared.pairs.Pair.{Pair}

-- each pair comes before all that stand behind it
abbrev pub Sorted : List Pair → Type 0
Sorted [] = ⊤
Sorted (x ∷ xs) = AllByRecursion (IsBefore x) xs × Sorted xs

-- the pair is one of the list
abbrev pub Among : Pair → List Pair → Type 0
Among z [] = ⊥
Among z (y ∷ ys) = (y ≡ z) ⊎ Among z ys

-- the pair comes behind each of the list
abbrev pub Behind : Pair → List Pair → Type 0
Behind z xs = AllByRecursion (λ y. IsBefore y z) xs

-- of those that were looked at the costliest, at most this many
pub record AreKept (Seen : Pair → Type 0) (most : ℕ) (xs : List Pair) : Type 0 where
  pub seen : AllByRecursion Seen xs
  pub ordered : Sorted xs
  pub few : length xs ≤ most
  pub others : (z : Pair) → Seen z → Among z xs ⊎ ((length xs ≡ most) × Behind z xs)

all_map : (P Q : Pair → Type 0) → ((x : Pair) → P x → Q x) → (xs : List Pair) → AllByRecursion P xs → AllByRecursion Q xs
all_map P Q f [] a = tt
all_map P Q f (x ∷ xs) a = (f x a.0, all_map P Q f xs a.1)

all_among : (P : Pair → Type 0) (z : Pair) (xs : List Pair) → AllByRecursion P xs → Among z xs → P z
all_among P z [] a m = absurd m
all_among P z (x ∷ xs) a (inl e) = subst P e a.0
all_among P z (x ∷ xs) a (inr m) = all_among P z xs a.1 m

all_take : (P : Pair → Type 0) (k : ℕ) (xs : List Pair) → AllByRecursion P xs → AllByRecursion P (take k xs)
all_take P zero xs a = tt
all_take P (suc k) [] a = tt
all_take P (suc k) (x ∷ xs) a = (a.0, all_take P k xs a.1)

all_with : (P : Pair → Type 0) (x : Pair) (xs : List Pair) → P x → AllByRecursion P xs → AllByRecursion P (with_pair x xs)
all_with P x [] p a = (p, tt)
all_with P x (y ∷ ys) p a =
    elim (int_lt y.cost x.cost) as (λ v. AllByRecursion P (cond v (x ∷ y ∷ ys) (y ∷ with_pair x ys))) [ true ↦ (p, a) | false ↦ (a.0, all_with P x ys p a.1) ]

length_with : (x : Pair) (xs : List Pair) → length (with_pair x xs) ≡ suc (length xs)
length_with x [] = refl
length_with x (y ∷ ys) =
    elim (int_lt y.cost x.cost) as (λ v. length (cond v (x ∷ y ∷ ys) (y ∷ with_pair x ys)) ≡ suc (suc (length ys))) [ true ↦ refl | false ↦ ap suc (length_with x ys) ]

among_new : (x : Pair) (xs : List Pair) → Among x (with_pair x xs)
among_new x [] = inl refl
among_new x (y ∷ ys) =
    elim (int_lt y.cost x.cost) as (λ v. Among x (cond v (x ∷ y ∷ ys) (y ∷ with_pair x ys))) [ true ↦ inl refl | false ↦ inr (among_new x ys) ]

among_old : (z x : Pair) (xs : List Pair) → Among z xs → Among z (with_pair x xs)
among_old z x [] m = absurd m
among_old z x (y ∷ ys) m =
    elim (int_lt y.cost x.cost) as (λ v. Among z (cond v (x ∷ y ∷ ys) (y ∷ with_pair x ys))) [ true ↦ inr m | false ↦ ⊎_elim inl (λ n. inr (among_old z x ys n)) m ]

less : (a b : ℤ) → int_lt a b ≡ true → a <ℤ b
less a b e = grind (arith, ints)

not_less : (a b : ℤ) → int_lt a b ≡ false → b ≤ℤ a
not_less a b e = grind (arith, ints)

-- what costs more than one comes before all that this comes before
before_more : (x y z : Pair) → y.cost <ℤ x.cost → IsBefore y z → IsBefore x z
before_more x y z l (inl m) = inl (omega (arith, ints))
before_more x y z l (inr m) = inl (omega (arith, ints))

before_later : (x y : Pair) → x.cost ≤ℤ y.cost → IsEarlier y x → IsBefore y x
before_later x y l e = by_lt_z x.cost y.cost (λ m. inl m) (λ m. let same : y.cost ≡ x.cost = omega (arith, ints) in inr (same, e))

sorted_by : (x y : Pair) (ys : List Pair) → IsEarlier y x → AllByRecursion (IsBefore y) ys → Sorted ys → Sorted (with_pair x ys) → (b : Bool) → int_lt y.cost x.cost ≡ b
    → Sorted (cond b (x ∷ y ∷ ys) (y ∷ with_pair x ys))
sorted_by x y ys e a s deeper true is =
    let l = less y.cost x.cost is in
    ((inl l, all_map (IsBefore y) (IsBefore x) (λ z. before_more x y z l) ys a), (a, s))
sorted_by x y ys e a s deeper false is = (all_with (IsBefore y) x ys (before_later x y (not_less y.cost x.cost is) e) a, deeper)

sorted_with : (x : Pair) (xs : List Pair) → AllByRecursion (λ y. IsEarlier y x) xs → Sorted xs → Sorted (with_pair x xs)
sorted_with x [] e s = (tt, tt)
sorted_with x (y ∷ ys) e s = sorted_by x y ys e.0 s.0 s.1 (sorted_with x ys e.1 s.1) (int_lt y.cost x.cost) refl

sorted_take : (k : ℕ) (xs : List Pair) → Sorted xs → Sorted (take k xs)
sorted_take zero xs s = tt
sorted_take (suc k) [] s = tt
sorted_take (suc k) (x ∷ xs) s = (all_take (IsBefore x) k xs s.0, sorted_take k xs s.1)

among_take : (z : Pair) (k : ℕ) (xs : List Pair) → Sorted xs → Among z xs → Among z (take k xs) ⊎ ((k ≤ length xs) × Behind z (take k xs))
among_take z zero xs s m = inr (omega arith, tt)
among_take z (suc k) [] s m = absurd m
among_take z (suc k) (y ∷ ys) s (inl e) = inl (inl e)
among_take z (suc k) (y ∷ ys) s (inr m) =
    ⊎_elim (λ n. inl (inr n)) (λ r. let le : k ≤ length ys = r.0 in inr (omega arith, (all_among (IsBefore y) z ys s.0 m, r.1))) (among_take z k ys s.1 m)

behind_by : (z x y : Pair) (ys : List Pair) → IsBefore y z → Behind z ys → Behind z (take (length ys) (with_pair x ys)) → (b : Bool) → int_lt y.cost x.cost ≡ b
    → Behind z (take (suc (length ys)) (cond b (x ∷ y ∷ ys) (y ∷ with_pair x ys)))
behind_by z x y ys b a deeper true is = (before_more x y z (less y.cost x.cost is) b, all_take (λ v. IsBefore v z) (length ys) (y ∷ ys) (b, a))
behind_by z x y ys b a deeper false is = (b, deeper)

-- a further pair leaves one behind that was behind
behind_with : (z x : Pair) (xs : List Pair) → Behind z xs → Behind z (take (length xs) (with_pair x xs))
behind_with z x [] a = tt
behind_with z x (y ∷ ys) a = behind_by z x y ys a.0 a.1 (behind_with z x ys a.1) (int_lt y.cost x.cost) refl

kept_step : (Seen : Pair → Type 0) (most : ℕ) (x : Pair) (xs : List Pair) → AreKept Seen most xs → ((y : Pair) → Seen y → IsEarlier y x) → AreKept (λ y. Seen y ⊎ (y ≡ x)) most (take most (with_pair x xs))
kept_step Seen most x xs k earlier =
    let all = with_pair x xs in
    let ordered : Sorted all = sorted_with x xs (all_map Seen (λ y. IsEarlier y x) earlier xs k.seen) k.ordered in
    let trimmed = λ (z : Pair) (m : Among z all). ⊎_elim {C = Among z (take most all) ⊎ ((length (take most all) ≡ most) × Behind z (take most all))} inl (λ r. inr (length-take-le most all r.0, r.1)) (among_take z most all ordered m) in
    let full = λ (e : length xs ≡ most). length-take-le most all (omega (arith, length_with x xs)) in
    record {
      seen = all_take (λ y. Seen y ⊎ (y ≡ x)) most all (all_with (λ y. Seen y ⊎ (y ≡ x)) x xs (inr refl) (all_map Seen (λ y. Seen y ⊎ (y ≡ x)) (λ y s. inl s) xs k.seen));
      ordered = sorted_take most all ordered;
      few = omega (arith, length-take most all);
      others = λ z s. ⊎_elim
          (λ old. ⊎_elim (λ m. trimmed z (among_old z x xs m)) (λ r. inr (full r.0, subst (λ n. Behind z (take n all)) r.0 (behind_with z x xs r.1))) (k.others z old))
          (λ e. trimmed z (subst (λ v. Among v all) (sym e) (among_new x xs)))
          s;
    }

same_seen : (Seen Other : Pair → Type 0) (most : ℕ) (xs : List Pair) → ((y : Pair) → Seen y → Other y) → ((y : Pair) → Other y → Seen y) → AreKept Seen most xs → AreKept Other most xs
same_seen Seen Other most xs there back k = record {
  seen = all_map Seen Other there xs k.seen;
  ordered = k.ordered;
  few = k.few;
  others = λ z o. k.others z (back z o);
}

-- the pairs that cost something, of the rows below one, and of that one below a column
pub record IsSeen (I : Problem) (p : List ℕ) (row column : ℕ) (x : Pair) : Type 0 where
  pub pair : IsPairOf I p x
  pub dear : pos 0 <ℤ x.cost
  pub earlier : (x.from < row) ⊎ ((x.from ≡ row) × (x.to < column))

-- the costliest of the pairs in rows below one, and in that one below a column
abbrev pub AreDearestUpTo : Problem → List ℕ → ℕ → ℕ → ℕ → List Pair → Type 0
AreDearestUpTo I p most row column xs = AreKept (IsSeen I p row column) most xs

same_pair : (x y : Pair) → x.from ≡ y.from → x.to ≡ y.to → x.cost ≡ y.cost → x ≡ y
same_pair x y e f g =
    let made : ℕ → ℕ → ℤ → Pair = λ a b c. record { from = a; to = b; cost = c } in
    ap (λ (v : ℕ). made v x.to x.cost) e ∙ ap (λ (v : ℕ). made y.from v x.cost) f ∙ ap (λ (v : ℤ). made y.from y.to v) g

-- before any pair was looked at, none is kept
pub none_seen : (I : Problem) (p : List ℕ) (most : ℕ) → AreDearestUpTo I p most 0 0 []
none_seen I p most = record {
  seen = tt;
  ordered = tt;
  few = omega arith;
  others = λ z s. absurd (⊎_elim (λ l. omega arith) (λ r. let l = r.1 in omega arith) s.earlier);
}

-- those kept at the end of a row are those kept at the beginning of the next one
pub next_row : (I : Problem) (p : List ℕ) (most row : ℕ) (xs : List Pair) → AreDearestUpTo I p most row I.size xs → AreDearestUpTo I p most (row + 1) 0 xs
next_row I p most row xs k =
    same_seen _ _ most xs
    (λ y s. record { pair = s.pair; dear = s.dear; earlier = inl (⊎_elim (λ l. omega arith) (λ r. let e = r.0 in omega arith) s.earlier) })
    (λ y s. record {
      pair = s.pair;
      dear = s.dear;
      earlier = let inside = s.pair.to_inside in ⊎_elim (λ l. grind arith) (λ r. let l = r.1 in absurd (omega arith)) s.earlier;
    }) k

seen_alike : (I : Problem) (p : List ℕ) (x y : Pair) → IsPairOf I p x → IsPairOf I p y → y.from ≡ x.from → y.to ≡ x.to → y ≡ x
seen_alike I p x y a b e f = same_pair y x e f (b.costs ∙ rw (e, f) (sym a.costs))

later : (I : Problem) (p : List ℕ) (row column : ℕ) (y : Pair) → IsSeen I p row column y → IsSeen I p row (column + 1) y
later I p row column y s = record { pair = s.pair; dear = s.dear; earlier = ⊎_elim (λ l. inl l) (λ r. let l = r.1 in inr (r.0, omega arith)) s.earlier }

new_or_old : (I : Problem) (p : List ℕ) (x y : Pair) → IsPairOf I p x → IsSeen I p x.from (x.to + 1) y → IsSeen I p x.from x.to y ⊎ (y ≡ x)
new_or_old I p x y a s =
    ⊎_elim
    (λ l. inl (record { pair = s.pair; dear = s.dear; earlier = inl l }))
    (λ r. let l = r.1 in
    let split : (y.to < x.to) ⊎ (y.to ≡ x.to) = grind arith in
    ⊎_elim (λ m. inl (record { pair = s.pair; dear = s.dear; earlier = inr (r.0, m) })) (λ e. inr (seen_alike I p x y a s.pair r.0 e)) split)
    s.earlier

next_pair_by : (I : Problem) (p : List ℕ) (most : ℕ) (x : Pair) (xs : List Pair) → IsPairOf I p x → AreDearestUpTo I p most x.from x.to xs → (b : Bool) → int_lt (pos 0) x.cost ≡ b → AreDearestUpTo I p most x.from (x.to + 1) (cond b (take most (with_pair x xs)) xs)
next_pair_by I p most x xs a k true is =
    same_seen _ _ most _
    (λ y s. ⊎_elim (later I p x.from x.to y) (λ e. subst (IsSeen I p x.from (x.to + 1)) (sym e) (record { pair = a; dear = less (pos 0) x.cost is; earlier = inr (refl, omega arith) })) s)
    (λ y s. new_or_old I p x y a s)
    (kept_step (IsSeen I p x.from x.to) most x xs k (λ y s. s.earlier))
next_pair_by I p most x xs a k false is =
    let none = not_less (pos 0) x.cost is in
    same_seen _ _ most _
    (λ y s. later I p x.from x.to y s)
    (λ y s. let dear = s.dear in ⊎_elim (λ old. old) (λ e. let same = ap (λ (v : Pair). v.cost) e in absurd (omega (arith, ints))) (new_or_old I p x y a s))
    k

-- with the pair that comes next, the costliest are those that are kept with it
pub next_pair : (I : Problem) (p : List ℕ) (most : ℕ) (x : Pair) (xs : List Pair) → IsPairOf I p x → AreDearestUpTo I p most x.from x.to xs → AreDearestUpTo I p most x.from (x.to + 1) (kept_with most x xs)
next_pair I p most x xs a k = next_pair_by I p most x xs a k (int_lt (pos 0) x.cost) refl

pairs_sorted : (xs : List Pair) → Sorted xs → AllPairs IsBefore xs
pairs_sorted [] s = λ i j d l m. absurd (omega arith)
pairs_sorted (x ∷ xs) s = AllPairs-cons IsBefore x xs (All-from_recursion (IsBefore x) xs s.0) (pairs_sorted xs s.1)

contains_among : (z : Pair) (xs : List Pair) → Among z xs → Contains xs z
contains_among z [] m = absurd m
contains_among z (y ∷ ys) (inl e) = (0, omega arith, e)
contains_among z (y ∷ ys) (inr m) = let c = contains_among z ys m in let l = c.1 in (suc c.0, omega arith, c.2)

-- once all rows were looked at, those kept are the costliest of all pairs
pub all_seen : (I : Problem) (p : List ℕ) (most : ℕ) (xs : List Pair) → AreDearestUpTo I p most I.size 0 xs → AreDearest I p most xs
all_seen I p most xs k = record {
  pairs = All-from_recursion _ xs (all_map _ (IsPairOf I p) (λ x s. s.pair) xs k.seen);
  dear = All-from_recursion _ xs (all_map _ (λ x. pos 0 <ℤ x.cost) (λ x s. s.dear) xs k.seen);
  ordered = pairs_sorted xs k.ordered;
  few = k.few;
  others = λ x a d. ⊎_elim (λ m. inl (contains_among x xs m)) (λ r. inr (r.0, All-from_recursion _ xs r.1)) (k.others x (record { pair = a; dear = d; earlier = inl a.from_inside }));
}
