-- Tables of residuals, of which one row after the other is written.
use Rattle.std.proofs.Common.{◌≡◌, ℕ, ◌+◌, ◌*◌, ◌<◌, ◌≤◌, arith, sym, ◌∙◌, ap, subst, List, length, inl, inr}
use Rattle.std.specs.Prelude.{ℤ}
use Rattle.std.proofs.lemmas.Bool.{cases_lt}
use Rattle.std.proofs.lemmas.Nat.{mul-le}
use Rattle.qap_cost.specs.Instance.{Problem, entry}
use Rattle.pair_duals.specs.Filling.{FillsPart}
use Rattle.pair_duals.specs.Kept.{AreKept, kept_row}
use Rattle.pair_duals.specs.PairDuals.{Duals, cube, residual}
use Rattle.pair_duals.proofs.Fillings.{FillsPart-along, row_before}
use Rattle.pair_duals.proofs.Forms.{residual-both}
use Rattle.pair_duals.proofs.Values.{place_in_layers}

-- two digits of a number
same_digits : (m a b c d : ℕ) → b < m → d < m → a * m + b ≡ c * m + d → (a ≡ c) × (b ≡ d)
same_digits m a b c d hb hd e =
    elim (cases_lt a c) [
      | inl less ↦
          let far = row_before m a c less in
          absurd (omega (arith, far))
      | inr more ↦
          elim (cases_lt c a) [
            | inl less ↦
                let far = row_before m c a less in
                absurd (omega (arith, far))
            | inr same ↦
                let one : a ≡ c = omega arith in
                let product = ap (λ n. n * m) one in (one, omega (arith, product))
          ]
    ]

-- no two pairs share a row
same_row : (m i j l i' j' l' : ℕ) → i < m → l < m → i' < m → l' < m → kept_row m i j l ≡ kept_row m i' j' l' → (i ≡ i') × (j ≡ j') × (l ≡ l')
same_row m i j l i' j' l' hi hl hi' hl' e =
    let outer = same_digits m (j * m + l) i (j' * m + l') i' hi hi' e in
    let inner = same_digits m j l j' l' hl hl' outer.0 in (outer.1, inner.0, inner.1)

-- a place in a row before another
pub place_before : (m r s k : ℕ) → r < s → k < m → r * m + k < s * m
place_before m r s k less hk = let far = row_before m r s less in omega (arith, far)

-- no row was written yet
pub AreKept-none : (I : Problem) (D : Duals) (table : List ℤ) → length table ≡ cube (length D.facilities) * length D.facilities → AreKept I D 0 table
AreKept-none I D table count = record { count = count; each = λ i k j l hi hk hj hl below. absurd (omega arith) }

-- one row more was written
pub AreKept-more : (I : Problem) (D : Duals) (i j l : ℕ) (old new : List ℤ) → i < length D.facilities → l < length D.facilities → AreKept I D (kept_row (length D.facilities) i j l) old
    → FillsPart (length D.facilities) (λ _ k. residual I D i k j l) (kept_row (length D.facilities) i j l) (length D.facilities) old new → AreKept I D (kept_row (length D.facilities) i j l + 1) new
AreKept-more I D i j l old new hi hl kept part =
    let m = length D.facilities in
    record {
      count = part.same_length ∙ kept.count;
      each = λ i' k j' l' hi' hk hj' hl' below.
          elim (cases_lt (kept_row m i' j' l') (kept_row m i j l)) [
            | inl less ↦ part.before (kept_row m i' j' l' * m + k) (place_before m (kept_row m i' j' l') (kept_row m i j l) k less hk) ∙ kept.each i' k j' l' hi' hk hj' hl' less
            | inr more ↦
                let e : kept_row m i' j' l' ≡ kept_row m i j l = omega arith in
                let s = same_row m i' j' l' i j l hi' hl' hi hl e in
                let pair : residual I D i' k j' l' ≡ residual I D i k j l =
                ap (λ n. residual I D n k j' l') s.0 ∙ ap (λ n. residual I D i k n l') s.1 ∙ ap (residual I D i k j) s.2 in
                ap (λ n. entry m new n k) e ∙ part.row k hk ∙ sym pair
          ];
    }

-- the rows of a facility at the next location follow
pub kept_row-next_location : (m j l : ℕ) → kept_row m m j l ≡ kept_row m 0 j (l + 1)
kept_row-next_location m j l = omega arith

-- those of the next facility follow
pub kept_row-next_facility : (m j : ℕ) → kept_row m 0 j m ≡ kept_row m 0 (j + 1) 0
kept_row-next_facility m j = omega arith

-- where a row ends
pub row_in_table : (m i j l : ℕ) → i < m → j < m → l < m → kept_row m i j l * m + m ≤ cube m * m
row_in_table m i j l hi hj hl =
    let inner = row_before m j m hj in
    let middle = row_before m (j * m + l) (m * m) (omega (arith, inner)) in
    row_before m (kept_row m i j l) (cube m) (omega (arith, middle))

-- the row of a pair is one of the table
pub kept_row-within : (m i j l : ℕ) → i < m → j < m → l < m → kept_row m i j l < cube m
kept_row-within m i j l hi hj hl = place_in_layers m j l i hj hl hi

-- a table of the greatest size
pub table-small : (m : ℕ) → m ≤ 256 → cube m * m ≤ 4294967296
table-small m h =
    let square : m * m ≤ 256 * 256 = mul-le _ _ _ _ h h in
    let layers : (m * m) * m ≤ 65536 * 256 = mul-le _ _ _ _ square h in
    mul-le _ _ _ _ layers h

-- a pair is written first at the place of the earlier facility
pub row_earlier : (m i j l k : ℕ) → i < j → j < m → k < m → kept_row m j i k < kept_row m i j l
row_earlier m i j l k less hj hk =
    let inner = place_before m i j k less hk in
    let outer = place_before m (i * m + k) (j * m + l) j (omega (arith, inner)) hj in
    omega (arith, outer)

-- a row that was copied from those of the other facility
pub AreKept-copied : (I : Problem) (D : Duals) (n i j l : ℕ) (old new : List ℤ) → n ≡ length D.facilities → i < length D.facilities → j < length D.facilities → l < length D.facilities → i < j
    → AreKept I D (kept_row (length D.facilities) i j l) old → FillsPart n (λ _ k. entry n old (kept_row n j i k) l) (kept_row n i j l) n old new
    → FillsPart (length D.facilities) (λ _ k. residual I D i k j l) (kept_row (length D.facilities) i j l) (length D.facilities) old new
AreKept-copied I D n i j l old new same hi hj hl less kept part =
    let m = length D.facilities in
    let copied : FillsPart m (λ _ k. entry m old (kept_row m j i k) l) (kept_row m i j l) m old new =
    subst (λ (n : ℕ). FillsPart n (λ _ k. entry n old (kept_row n j i k) l) (kept_row n i j l) n old new) same part in
    FillsPart-along m (λ _ k. entry m old (kept_row m j i k) l) (λ _ k. residual I D i k j l) (kept_row m i j l) m old new copied
    (λ k hk. kept.each j l i k hj hl hi hk (row_earlier m i j l k less hj hk) ∙ residual-both I D j l i k)
