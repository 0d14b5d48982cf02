-- Tables that are filled, and whose rows and columns are exchanged.
use Rattle.std.proofs.Common.{◌≡◌, ◌≢◌, ℕ, ◌+◌, ◌*◌, ◌<◌, ◌≤◌, List, length, get_or, set, sym, ◌∙◌, ap, ap₂, arith, inl, inr, get_or-set_same, get_or-set_other}
use Rattle.std.specs.Prelude.{ℤ, pos}
use Rattle.std.specs.List.{swap}
use Rattle.std.proofs.Math.ListN.{length-set}
use Rattle.std.proofs.lemmas.Bool.{cases_eq}
use Rattle.std.proofs.lemmas.List.Edits.{swap_is}
use Rattle.std.proofs.lemmas.Nat.{mul-add-lt}
use Rattle.qap_cost.specs.Instance.{entry}
use Rattle.qap_improve.specs.Arrangement.{AreExchanged, IsTable, IsTableBefore}
use Rattle.qap_improve.specs.Exchange.{partner}
use Rattle.qap_improve.proofs.Exchanges.{partner-below, partner-first, partner-other, partner-second}
use Rattle.qap_improve.proofs.Tables.{same_column, same_row}

-- an entry more
pub IsTableBefore-more : (n i j k : ℕ) (f : ℕ → ℕ → ℤ) (table : List ℤ) (x : ℤ) → i < n → j < n → k ≡ i * n + j → x ≡ f i j → IsTableBefore (i * n + j) n f table
    → IsTableBefore (i * n + (j + 1)) n f (set table k x)
IsTableBefore-more n i j k f table x hi hj at is h =
    let count = h.count in
    let place : k < length table = omega (arith, mul-add-lt i n j n hi hj) in
    record {
      count = length-set table k x ∙ h.count;
      each = λ a b ha hb less.
          elim (cases_eq (a * n + b) k) [
            | inl e ↦
                let row : a ≡ i = same_row n a b i j hb hj (e ∙ at) in
                let column : b ≡ j = same_column n a b i j hb hj (e ∙ at) in
                ap (λ m. get_or (set table k x) m (pos 0)) e ∙ get_or-set_same table k x (pos 0) place ∙ is ∙ ap₂ f (sym row) (sym column)
            | inr other ↦
                get_or-set_other table k (a * n + b) x (pos 0) other ∙ h.each a b ha hb (omega arith)
          ];
    }

-- a table that is filled before place n * n is filled
pub IsTableBefore-all : (t n : ℕ) (f : ℕ → ℕ → ℤ) (table : List ℤ) → n * n ≤ t → IsTableBefore t n f table → IsTable n f table
IsTableBefore-all t n f table whole h = record {
  count = h.count;
  each = λ i j hi hj. h.each i j hi hj (omega (arith, mul-add-lt i n j n hi hj));
}

length-swap : (xs : List ℤ) (a b : ℕ) → a < length xs → b < length xs → length (swap xs a b) ≡ length xs
length-swap xs a b ha hb =
    ap length (sym (swap_is xs a b (pos 0) ha hb))
    ∙ length-set (set xs a (get_or xs b (pos 0))) b (get_or xs a (pos 0)) ∙ length-set xs a (get_or xs b (pos 0))

swapped-at : (xs : List ℤ) (a b m : ℕ) → a ≢ b → a < length xs → b < length xs → get_or (swap xs a b) m (pos 0) ≡ get_or xs (partner a b m) (pos 0)
swapped-at xs a b m apart ha hb =
    let w : List ℤ = set xs a (get_or xs b (pos 0)) in
    let v : List ℤ = set w b (get_or xs a (pos 0)) in
    let at : get_or v m (pos 0) ≡ get_or xs (partner a b m) (pos 0) =
    elim (cases_eq m a) [
      | inl e ↦
          ap (λ k. get_or v k (pos 0)) e ∙ get_or-set_other w b a (get_or xs a (pos 0)) (pos 0) apart
          ∙ get_or-set_same xs a (get_or xs b (pos 0)) (pos 0) ha ∙ ap (λ k. get_or xs k (pos 0)) (sym (partner-first a b m e))
      | inr n ↦ elim (cases_eq m b) [
        | inl e ↦
            ap (λ k. get_or v k (pos 0)) e
            ∙ get_or-set_same w b (get_or xs a (pos 0)) (pos 0) (omega (arith, length-set xs a (get_or xs b (pos 0))))
            ∙ ap (λ k. get_or xs k (pos 0)) (sym (partner-second a b m n e))
        | inr o ↦
            get_or-set_other w b m (get_or xs a (pos 0)) (pos 0) o ∙ get_or-set_other xs a m (get_or xs b (pos 0)) (pos 0) n
            ∙ ap (λ k. get_or xs k (pos 0)) (sym (partner-other a b m n o))
      ]
    ] in
    ap (λ ys. get_or ys m (pos 0)) (sym (swap_is xs a b (pos 0) ha hb)) ∙ at

-- the place that is exchanged with row i, column j, where column k of rows r and s is exchanged
in_column : (n r s k i j : ℕ) → k < n → j < n → j ≡ k → partner (r * n + k) (s * n + k) (i * n + j) ≡ partner r s i * n + j
in_column n r s k i j hk hj same =
    elim (cases_eq i r) [
      | inl e ↦
          partner-first (r * n + k) (s * n + k) (i * n + j) (ap₂ (λ a b. a * n + b) e same)
          ∙ ap₂ (λ a b. a * n + b) (sym (partner-first r s i e)) (sym same)
      | inr o ↦ elim (cases_eq i s) [
        | inl e ↦
            partner-second (r * n + k) (s * n + k) (i * n + j) (λ h. o (same_row n i j r k hj hk h)) (ap₂ (λ a b. a * n + b) e same)
            ∙ ap₂ (λ a b. a * n + b) (sym (partner-second r s i o e)) (sym same)
        | inr m ↦
            partner-other (r * n + k) (s * n + k) (i * n + j) (λ h. o (same_row n i j r k hj hk h)) (λ h. m (same_row n i j s k hj hk h))
            ∙ ap (λ a. a * n + j) (sym (partner-other r s i o m))
      ]
    ]

out_of_column : (n r s k i j : ℕ) → k < n → j < n → j ≢ k → partner (r * n + k) (s * n + k) (i * n + j) ≡ i * n + j
out_of_column n r s k i j hk hj other =
    partner-other (r * n + k) (s * n + k) (i * n + j) (λ h. other (same_column n i j r k hj hk h)) (λ h. other (same_column n i j s k hj hk h))

-- the same, where columns r and s of row k are exchanged
in_row : (n r s k i j : ℕ) → r < n → s < n → j < n → i ≡ k → partner (k * n + r) (k * n + s) (i * n + j) ≡ i * n + partner r s j
in_row n r s k i j hr hs hj same =
    elim (cases_eq j r) [
      | inl e ↦
          partner-first (k * n + r) (k * n + s) (i * n + j) (ap₂ (λ a b. a * n + b) same e)
          ∙ ap₂ (λ a b. a * n + b) (sym same) (sym (partner-first r s j e))
      | inr o ↦ elim (cases_eq j s) [
        | inl e ↦
            partner-second (k * n + r) (k * n + s) (i * n + j) (λ h. o (same_column n i j k r hj hr h)) (ap₂ (λ a b. a * n + b) same e)
            ∙ ap₂ (λ a b. a * n + b) (sym same) (sym (partner-second r s j o e))
        | inr m ↦
            partner-other (k * n + r) (k * n + s) (i * n + j) (λ h. o (same_column n i j k r hj hr h)) (λ h. m (same_column n i j k s hj hs h))
            ∙ ap (λ b. i * n + b) (sym (partner-other r s j o m))
      ]
    ]

out_of_row : (n r s k i j : ℕ) → r < n → s < n → j < n → i ≢ k → partner (k * n + r) (k * n + s) (i * n + j) ≡ i * n + j
out_of_row n r s k i j hr hs hj other =
    partner-other (k * n + r) (k * n + s) (i * n + j) (λ h. other (same_row n i j k r hj hr h)) (λ h. other (same_row n i j k s hj hs h))

-- rows r and s are at each other's place before column k
pub record HaveRowsMoved (k n r s : ℕ) (old new : List ℤ) : Type 0 where
  pub count : length new ≡ n * n
  pub done : (i j : ℕ) → i < n → j < n → j < k → entry n new i j ≡ entry n old (partner r s i) j
  pub rest : (i j : ℕ) → i < n → j < n → k ≤ j → entry n new i j ≡ entry n old i j

-- with the two entries of column k exchanged, rows r and s are at each other's place before column k + 1
pub HaveRowsMoved-more : (k n r s : ℕ) (old mid new : List ℤ) → r < n → s < n → r ≢ s → k < n → new ≡ swap mid (r * n + k) (s * n + k)
    → HaveRowsMoved k n r s old mid → HaveRowsMoved (k + 1) n r s old new
HaveRowsMoved-more k n r s old mid new hr hs apart hk is h =
    let count = h.count in
    let a = r * n + k in
    let b = s * n + k in
    let first : a < length mid = omega (arith, mul-add-lt r n k n hr hk) in
    let second : b < length mid = omega (arith, mul-add-lt s n k n hs hk) in
    let differ : a ≢ b = λ e. apart (same_row n r k s k hk hk e) in
    let at : (m : ℕ) → get_or new m (pos 0) ≡ get_or mid (partner a b m) (pos 0) =
    λ m. ap (λ xs. get_or xs m (pos 0)) is ∙ swapped-at mid a b m differ first second in
    let here : (i j : ℕ) → j < n → j ≡ k → entry n new i j ≡ entry n mid (partner r s i) j =
    λ i j hj same. at (i * n + j) ∙ ap (λ m. get_or mid m (pos 0)) (in_column n r s k i j hk hj same) in
    let there : (i j : ℕ) → j < n → j ≢ k → entry n new i j ≡ entry n mid i j =
    λ i j hj other. at (i * n + j) ∙ ap (λ m. get_or mid m (pos 0)) (out_of_column n r s k i j hk hj other) in
    record {
      count = ap length is ∙ length-swap mid a b first second ∙ h.count;
      done = λ i j hi hj below.
          elim (cases_eq j k) [
            | inl e ↦ here i j hj e ∙ h.rest (partner r s i) j (partner-below r s i n hr hs hi) hj (omega arith)
            | inr o ↦ there i j hj o ∙ h.done i j hi hj (omega arith)
          ];
      rest = λ i j hi hj behind. there i j hj (λ e. omega arith) ∙ h.rest i j hi hj (omega arith);
    }

-- columns r and s are at each other's place before row k
pub record HaveColumnsMoved (k n r s : ℕ) (old new : List ℤ) : Type 0 where
  pub count : length new ≡ n * n
  pub done : (i j : ℕ) → i < n → j < n → i < k → entry n new i j ≡ entry n old i (partner r s j)
  pub rest : (i j : ℕ) → i < n → j < n → k ≤ i → entry n new i j ≡ entry n old i j

-- with the two entries of row k exchanged, columns r and s are at each other's place before row k + 1
pub HaveColumnsMoved-more : (k n r s : ℕ) (old mid new : List ℤ) → r < n → s < n → r ≢ s → k < n → new ≡ swap mid (k * n + r) (k * n + s)
    → HaveColumnsMoved k n r s old mid → HaveColumnsMoved (k + 1) n r s old new
HaveColumnsMoved-more k n r s old mid new hr hs apart hk is h =
    let count = h.count in
    let a = k * n + r in
    let b = k * n + s in
    let first : a < length mid = omega (arith, mul-add-lt k n r n hk hr) in
    let second : b < length mid = omega (arith, mul-add-lt k n s n hk hs) in
    let differ : a ≢ b = λ e. apart (same_column n k r k s hr hs e) in
    let at : (m : ℕ) → get_or new m (pos 0) ≡ get_or mid (partner a b m) (pos 0) =
    λ m. ap (λ xs. get_or xs m (pos 0)) is ∙ swapped-at mid a b m differ first second in
    let here : (i j : ℕ) → j < n → i ≡ k → entry n new i j ≡ entry n mid i (partner r s j) =
    λ i j hj same. at (i * n + j) ∙ ap (λ m. get_or mid m (pos 0)) (in_row n r s k i j hr hs hj same) in
    let there : (i j : ℕ) → j < n → i ≢ k → entry n new i j ≡ entry n mid i j =
    λ i j hj other. at (i * n + j) ∙ ap (λ m. get_or mid m (pos 0)) (out_of_row n r s k i j hr hs hj other) in
    record {
      count = ap length is ∙ length-swap mid a b first second ∙ h.count;
      done = λ i j hi hj below.
          elim (cases_eq i k) [
            | inl e ↦ here i j hj e ∙ h.rest i (partner r s j) hi (partner-below r s j n hr hs hj) (omega arith)
            | inr o ↦ there i j hj o ∙ h.done i j hi hj (omega arith)
          ];
      rest = λ i j hi hj behind. there i j hj (λ e. omega arith) ∙ h.rest i j hi hj (omega arith);
    }

-- both exchanges
pub AreExchanged-both : (n r s : ℕ) (old mid new : List ℤ) → r < n → s < n → IsTable n (λ i j. entry n old (partner r s i) j) mid → IsTable n (λ i j. entry n mid i (partner r s j)) new
    → AreExchanged n r s old new
AreExchanged-both n r s old mid new hr hs rows columns = record {
  count = columns.count;
  each = λ i j hi hj. columns.each i j hi hj ∙ rows.each i (partner r s j) hi (partner-below r s j n hr hs hj);
}
