-- Steps on the way through a table of differences.
use Rattle.std.proofs.Common.{◌≡◌, ◌≢◌, refl, ℕ, ◌+◌, ◌*◌, ◌/◌, ◌%◌, ◌<◌, ◌≤◌, List, length, map, get_or, set, sym, subst, ◌∙◌, ap, ap₂, arith, inl, inr, get_or-set_same, get_or-set_other}
use Rattle.std.specs.Prelude.{ℤ, pos, ◌+ℤ◌, unsigned_abs}
use Rattle.std.proofs.Math.ListN.{length-set}
use Rattle.std.proofs.lemmas.List.{length-map}
use Rattle.std.proofs.lemmas.Int.{ints}
use Rattle.std.proofs.lemmas.Bool.{cases_eq, cases_order}
use Rattle.std.proofs.lemmas.Nat.{div-mul-add, mod-mul-add, mul-add-lt, mul-le}
use Rattle.qap_cost.specs.Instance.{IsInstance, Problem}
use Rattle.qap_cost.specs.Objective.{Permutes, cost_of}
use Rattle.qap_improve.specs.Exchange.{exchanging}
use Rattle.qap_improve.specs.Table.{AreDifferences, AreOthers, HasFilled, HasMoved, HasSettled, IsDifference, Settles}
use Rattle.qap_improve.proofs.Costs.{cost_of-bounded}
use Rattle.qap_improve.proofs.Exchanges.{Permutes-exchanging}

-- each row and column has a place of its own
pub same_row : (n i j r s : ℕ) → j < n → s < n → i * n + j ≡ r * n + s → i ≡ r
same_row n i j r s hj hs e = sym (div-mul-add i n j hj) ∙ ap (λ k. k / n) e ∙ div-mul-add r n s hs

-- two entries at one place of a table are in one column
pub same_column : (n i j r s : ℕ) → j < n → s < n → i * n + j ≡ r * n + s → j ≡ s
same_column n i j r s hj hs e = sym (mod-mul-add i n j hj) ∙ ap (λ k. k % n) e ∙ mod-mul-add r n s hs

-- the diagonal of a row and what is left of it hold no pair
past_diagonal : (n i j r : ℕ) → i < j → j < n → i * n + j < r * n + (r + 1) → i * n + j < r * n
past_diagonal n i j r above within before =
    elim (cases_order i r) [
      | inl e ↦ absurd (let rows : i * n ≡ r * n = ap (λ k. k * n) e in omega arith)
      | inr a ↦ elim a [
        | inl low ↦ let rows : (i + 1) * n ≤ r * n = mul-le (i + 1) n r n (omega arith) (omega arith) in omega arith
        | inr high ↦ absurd (let rows : r * n ≤ i * n = mul-le r n i n (omega arith) (omega arith) in omega arith)
      ]
    ]

-- a table filled before row r is filled before the first pair of that row
pub HasFilled-row : (I : Problem) (p : List ℕ) (table : List ℤ) (r : ℕ) → HasFilled I p table (r * I.size) → HasFilled I p table (r * I.size + (r + 1))
HasFilled-row I p table r h = record {
  count = h.count;
  before = λ i j above within less. h.before i j above within (past_diagonal I.size i j r above within less);
}

-- with the difference of r and s written, the table is filled before the next place of the row
pub HasFilled-more : (I : Problem) (p : List ℕ) (table : List ℤ) (r s : ℕ) (x : ℤ) → r < s → s < I.size → IsDifference I p r s x
    → HasFilled I p table (r * I.size + s) → HasFilled I p (set table (r * I.size + s) x) (r * I.size + (s + 1))
HasFilled-more I p table r s x order below is h =
    let n = I.size in
    let count = h.count in
    let place : r * n + s < length table = omega (arith, mul-add-lt r n s n (omega arith) below) in
    record {
      count = length-set table (r * n + s) x ∙ h.count;
      before = λ i j above within less.
          elim (cases_eq (i * n + j) (r * n + s)) [
            | inl e ↦
                let row = same_row n i j r s within below e in
                let column = same_column n i j r s within below e in
                subst (λ (y : ℤ). cost_of I p +ℤ y ≡ cost_of I (exchanging p i j))
                (sym (ap (λ k. get_or (set table (r * n + s) x) k (pos 0)) e ∙ get_or-set_same table (r * n + s) x (pos 0) place))
                (subst (λ k. cost_of I p +ℤ x ≡ cost_of I (exchanging p i k)) (sym column)
                (subst (λ k. cost_of I p +ℤ x ≡ cost_of I (exchanging p k s)) (sym row) is))
            | inr a ↦
                subst (λ (y : ℤ). cost_of I p +ℤ y ≡ cost_of I (exchanging p i j))
                (sym (get_or-set_other table (r * n + s) (i * n + j) x (pos 0) a))
                (h.before i j above within (omega arith))
          ];
    }

-- the same where the place is known by other words, and so is what was written
pub HasFilled-written : (I : Problem) (p : List ℕ) (table new : List ℤ) (r s k : ℕ) (x : ℤ) → r < s → s < I.size → k ≡ r * I.size + s → new ≡ set table k x → IsDifference I p r s x
    → HasFilled I p table (r * I.size + s) → HasFilled I p new (r * I.size + (s + 1))
HasFilled-written I p table new r s k x order below at told is h =
    subst (λ (t : List ℤ). HasFilled I p t (r * I.size + (s + 1))) (sym (told ∙ ap (λ (place : ℕ). set table place x) at))
    (HasFilled-more I p table r s x order below is h)

-- a number that equals the difference of two facilities is that difference
pub same_difference : (I : Problem) (q : List ℕ) (r s : ℕ) (x y : ℤ) → y ≡ x → IsDifference I q r s x → IsDifference I q r s y
same_difference I q r s x y e is = subst (λ (z : ℤ). cost_of I q +ℤ z ≡ cost_of I (exchanging q r s)) (sym e) is

-- the differences from before the exchange are a table that is brought up to date before the first place
pub HasMoved-none : (I : Problem) (q : List ℕ) (u v : ℕ) (table : List ℤ) → AreDifferences I (exchanging q u v) table → HasMoved I q u v table (0 * I.size)
HasMoved-none I q u v table h = record {
  count = h.count;
  before = λ r s order below less others. absurd (omega arith);
  behind = λ r s order below place. h.each r s order below;
}

-- a table brought up to date before row r is so before the first pair of that row
pub HasMoved-row : (I : Problem) (q : List ℕ) (u v : ℕ) (table : List ℤ) (r : ℕ) → HasMoved I q u v table (r * I.size) → HasMoved I q u v table (r * I.size + (r + 1))
HasMoved-row I q u v table r h = record {
  count = h.count;
  before = λ i j above within less others. h.before i j above within (past_diagonal I.size i j r above within less) others;
  behind = λ i j order below place. h.behind i j order below (omega arith);
}

-- a number written to the place of r and s is there, and at that of no other two
written : (I : Problem) (q : List ℕ) (table : List ℤ) (r s i j : ℕ) (x : ℤ) → s < I.size → r < s → j < I.size → length table ≡ I.size * I.size → i * I.size + j ≡ r * I.size + s → IsDifference I q r s x
    → IsDifference I q i j (get_or (set table (r * I.size + s) x) (i * I.size + j) (pos 0))
written I q table r s i j x below order within count e is =
    let n = I.size in
    let place : r * n + s < length table = omega (arith, mul-add-lt r n s n (omega arith) below) in
    let row = same_row n i j r s within below e in
    let column = same_column n i j r s within below e in
    subst (λ (y : ℤ). cost_of I q +ℤ y ≡ cost_of I (exchanging q i j))
    (sym (ap (λ k. get_or (set table (r * n + s) x) k (pos 0)) e ∙ get_or-set_same table (r * n + s) x (pos 0) place))
    (subst (λ k. cost_of I q +ℤ x ≡ cost_of I (exchanging q i k)) (sym column)
    (subst (λ k. cost_of I q +ℤ x ≡ cost_of I (exchanging q k s)) (sym row) is))

HasMoved-more : (I : Problem) (q : List ℕ) (u v : ℕ) (table : List ℤ) (r s : ℕ) (x : ℤ) → r < s → s < I.size → (AreOthers u v r s → IsDifference I q r s x)
    → HasMoved I q u v table (r * I.size + s) → HasMoved I q u v (set table (r * I.size + s) x) (r * I.size + (s + 1))
HasMoved-more I q u v table r s x order below is h =
    let n = I.size in
    record {
      count = length-set table (r * n + s) x ∙ h.count;
      before = λ i j above within less others.
          elim (cases_eq (i * n + j) (r * n + s)) [
            | inl e ↦
                let row = same_row n i j r s within below e in
                let column = same_column n i j r s within below e in
                written I q table r s i j x below order within h.count e (is (subst (λ k. AreOthers u v r k) column (subst (λ k. AreOthers u v k j) row others)))
            | inr a ↦
                subst (λ (y : ℤ). cost_of I q +ℤ y ≡ cost_of I (exchanging q i j))
                (sym (get_or-set_other table (r * n + s) (i * n + j) x (pos 0) a))
                (h.before i j above within (omega arith) others)
          ];
      behind = λ i j above within place.
          subst (λ (y : ℤ). cost_of I (exchanging q u v) +ℤ y ≡ cost_of I (exchanging (exchanging q u v) i j))
          (sym (get_or-set_other table (r * n + s) (i * n + j) x (pos 0) (λ e. omega arith)))
          (h.behind i j above within (omega arith));
    }

-- the same where the place is known by other words, and so is what was written
pub HasMoved-written : (I : Problem) (q : List ℕ) (u v : ℕ) (table new : List ℤ) (r s k : ℕ) (x : ℤ) → r < s → s < I.size → k ≡ r * I.size + s → new ≡ set table k x
    → (AreOthers u v r s → IsDifference I q r s x) → HasMoved I q u v table (r * I.size + s) → HasMoved I q u v new (r * I.size + (s + 1))
HasMoved-written I q u v table new r s k x order below at told is h =
    subst (λ (t : List ℤ). HasMoved I q u v t (r * I.size + (s + 1))) (sym (told ∙ ap (λ (place : ℕ). set table place x) at))
    (HasMoved-more I q u v table r s x order below is h)

-- what stands at the place that the way through the table has reached
pub old_difference : (I : Problem) (q : List ℕ) (u v : ℕ) (table : List ℤ) (r s k : ℕ) (x : ℤ) → r < s → s < I.size → k ≡ r * I.size + s → x ≡ get_or table k (pos 0)
    → HasMoved I q u v table (r * I.size + s) → IsDifference I (exchanging q u v) r s x
old_difference I q u v table r s k x order below at told h =
    same_difference I (exchanging q u v) r s _ x (told ∙ ap (λ (place : ℕ). get_or table place (pos 0)) at) (h.behind r s order below (omega arith))

-- when all places are passed, all pairs that share no facility with u and v are brought up
pub HasMoved-all : (I : Problem) (q : List ℕ) (u v : ℕ) (table : List ℤ) → HasMoved I q u v table (I.size * I.size) → HasSettled I q u v 0 table
HasMoved-all I q u v table h = record {
  count = h.count;
  each = λ r s order below ru rv su sv.
      h.before r s order below (mul-add-lt r I.size s I.size (omega arith) below)
      (record {
        first_of_r = λ e. let none = ru e in omega arith;
        second_of_r = λ e. let none = rv e in omega arith;
        first_of_s = λ e. let none = su e in omega arith;
        second_of_s = λ e. let none = sv e in omega arith;
      });
}

-- with the difference of r and s written, it is that of q, and all others are as they were
pub Settles-written : (I : Problem) (q : List ℕ) (table new : List ℤ) (r s k : ℕ) (x : ℤ) → r < s → s < I.size → length table ≡ I.size * I.size → k ≡ r * I.size + s → new ≡ set table k x
    → IsDifference I q r s x → Settles I q r s table new
Settles-written I q table new r s k x order below count at told is =
    let n = I.size in
    subst (λ (t : List ℤ). Settles I q r s table t) (sym (told ∙ ap (λ (place : ℕ). set table place x) at))
    (record {
      count = length-set table (r * n + s) x;
      each = λ i j above within.
          elim (cases_eq (i * n + j) (r * n + s)) [
            | inl e ↦ inl (written I q table r s i j x below order within count e is)
            | inr a ↦ inr (
              get_or-set_other table (r * n + s) (i * n + j) x (pos 0) a,
              (λ row column. a (ap₂ (λ (k l : ℕ). k * n + l) row column)),
              (λ row. λ column. omega arith),
            )
          ];
    })

-- the order of the two is nothing
pub Settles-back : (I : Problem) (q : List ℕ) (k w : ℕ) (old new : List ℤ) → Settles I q k w old new → Settles I q w k old new
Settles-back I q k w old new h = record {
  count = h.count;
  each = λ r s order below. elim (h.each r s order below) [
    | inl is ↦ inl is
    | inr same ↦ inr (same.0, same.2, same.1)
  ];
}

-- one facility is no pair
pub Settles-none : (I : Problem) (q : List ℕ) (k w : ℕ) (table : List ℤ) → k ≡ w → Settles I q k w table table
Settles-none I q k w table same = record {
  count = refl;
  each = λ r s order below. inr (refl, (λ row column. omega arith), (λ row column. omega arith));
}

-- with facility k settled with both, one facility more is
pub HasSettled-more : (I : Problem) (q : List ℕ) (u v k : ℕ) (old first second : List ℤ) → HasSettled I q u v k old → Settles I q k u old first → Settles I q k v first second → HasSettled I q u v (k + 1) second
HasSettled-more I q u v k old first second h f g = record {
  count = g.count ∙ f.count ∙ h.count;
  each = λ r s order below ru rv su sv.
      elim (g.each r s order below) [
        | inl is ↦ is
        | inr later ↦ elim (f.each r s order below) [
          | inl is ↦ same_difference I q r s _ _ later.0 is
          | inr before ↦ same_difference I q r s _ _ (later.0 ∙ before.0)
              (h.each r s order below
              (λ e. let less = ru e in elim (cases_eq s k) [ inl at ↦ absurd (before.2 e at) | inr a ↦ omega arith ])
              (λ e. let less = rv e in elim (cases_eq s k) [ inl at ↦ absurd (later.2 e at) | inr a ↦ omega arith ])
              (λ e. let less = su e in elim (cases_eq r k) [ inl at ↦ absurd (before.1 at e) | inr a ↦ omega arith ])
              (λ e. let less = sv e in elim (cases_eq r k) [ inl at ↦ absurd (later.1 at e) | inr a ↦ omega arith ]))
        ]
      ];
}

-- once the pairs of u and v with all facilities are settled, the table holds the differences of q
pub HasSettled-all : (I : Problem) (q : List ℕ) (u v : ℕ) (table : List ℤ) → HasSettled I q u v I.size table → AreDifferences I q table
HasSettled-all I q u v table h = record {
  count = h.count;
  each = λ r s order below. h.each r s order below (λ e. below) (λ e. below) (λ e. omega arith) (λ e. omega arith);
}

apart_at_most : (x y d : ℤ) → x +ℤ d ≡ y → unsigned_abs x ≤ 65536 * 1000000000000000000 → unsigned_abs y ≤ 65536 * 1000000000000000000
    → unsigned_abs d ≤ 131072 * 1000000000000000000
apart_at_most x y d is hx hy = omega (arith, ints)

-- how far from 0 a difference may lie
pub IsDifference-bounded : (I : Problem) (p : List ℕ) (r s : ℕ) (x : ℤ) → IsInstance I → Permutes I p → r ≢ s → r < I.size → s < I.size → IsDifference I p r s x
    → unsigned_abs x ≤ 131072 * 1000000000000000000
IsDifference-bounded I p r s x is h apart hr hs d =
    apart_at_most (cost_of I p) (cost_of I (exchanging p r s)) x d
    (cost_of-bounded I p is h) (cost_of-bounded I (exchanging p r s) is (Permutes-exchanging I p r s apart hr hs h))

-- the place of a row and a column, where the table stands for a list of numbers
pub place_inside : {X : Type 0} (n m r s : ℕ) (value : X → ℤ) (xs : List X) → m ≡ n → r < n → s < n → length (map value xs) ≡ n * n → r * m + s < length xs
place_inside n m r s value xs same row column count =
    let rows : r * m ≡ r * n = ap (λ k. r * k) same in
    omega (arith, mul-add-lt r n s n row column, length-map xs value)

-- what the table says, read by other words
pub told_difference : (I : Problem) (p : List ℕ) (table told : List ℤ) (r s k : ℕ) → AreDifferences I p table → told ≡ table → k ≡ r * I.size + s → r < s → s < I.size
    → IsDifference I p r s (get_or told k (pos 0))
told_difference I p table told r s k h same at order below =
    subst (λ (x : ℤ). cost_of I p +ℤ x ≡ cost_of I (exchanging p r s)) (sym (ap₂ (λ (xs : List ℤ) (i : ℕ). get_or xs i (pos 0)) same at)) (h.each r s order below)
