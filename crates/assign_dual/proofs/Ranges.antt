-- How far the duals of a partial assignment lie from 0.
use Rattle.std.proofs.Common.{◌≡◌, ℕ, zero, suc, ◌+◌, ◌*◌, ◌<◌, ◌≤◌, List, [], ◌∷◌, length, pos, get_or, arith, subst, ◌∙◌, sym, inl, inr, refl}
use Rattle.std.specs.Prelude.{ℤ, ◌+ℤ◌, ◌⊎◌, Option, Some, None, unsigned_abs}
use Rattle.std.proofs.lemmas.Int.{ints}
use Rattle.std.proofs.lemmas.Bool.{cases_lt}
use Rattle.qap_cost.specs.Matrix.{Square, entry_of}
use Rattle.assign_dual.specs.Range.{NoneAbove}
use Rattle.qap_cost.specs.Range.{AllWithin}
use Rattle.assign_dual.specs.Partial.{IsPartial, IsMatching, OwnersDiffer, owner_of}
use Rattle.assign_dual.specs.Number.{number_at}

past_end : (xs : List ℤ) (i : ℕ) → length xs ≤ i → get_or xs i (pos 0) ≡ pos 0
past_end [] i h = refl
past_end (x ∷ xs) zero h = absurd (omega arith)
past_end (x ∷ xs) (suc i) h = past_end xs i (omega arith)

-- what is in a list of entries by rows is in each place of the matrix
pub entry-within : (M : Square) (m : ℕ) → AllWithin m M.entries → (i k : ℕ) → unsigned_abs (entry_of M i k) ≤ m
entry-within M m range i k =
    let at = i * M.size + k in
    elim (cases_lt at (length M.entries)) [
      | inl inside ↦ range.each at inside
      | inr past ↦ subst (λ (x : ℤ). unsigned_abs x ≤ m) (sym (past_end M.entries at past)) (omega arith)
    ]

-- a column has a row or none
pub owner_cases : (o : Option ℕ) → ((i : ℕ) × (o ≡ Some i)) ⊎ (o ≡ None)
owner_cases None = inr refl
owner_cases (Some i) = inl (i, refl)

-- in a matching each column that has a row has one of the first rows, and no two have the same
pub OwnersDiffer-from : (n rows : ℕ) (matching : List ℕ) (row_of : List (Option ℕ)) → IsMatching n rows matching row_of → OwnersDiffer n rows row_of
OwnersDiffer-from n rows matching row_of is = record {
  within = λ k i hk e. (is.owned k i hk e).0;
  distinct = λ k l i hk hl e f. sym (is.owned k i hk e).1 ∙ (is.owned l i hl f).1;
}

-- a dual of a row is at most an entry of a column whose dual is 0, and at least the entry that it has
pub u_within : (M : Square) (rows : ℕ) (matching : List ℕ) (row_of : List (Option ℕ)) (u v : List ℤ) (m : ℕ) →
    IsPartial M rows matching row_of u v → AllWithin m M.entries → AllWithin m u
u_within M rows matching row_of u v m is range = record {
  each = λ i h.
      let hi : i < M.size = omega (arith, is.fits.u_count) in
      elim (cases_lt i rows) [
        | inl placed ↦
            let z = is.fits.level (omega arith) in
            let zero = z.2 in
            let above = is.fits.below i z.0 placed z.1 in
            let free : unsigned_abs (entry_of M i z.0) ≤ m = entry-within M m range i z.0 in
            let k = get_or matching i 0 in
            let hk : k < M.size = is.matches.column i placed in
            let tight = is.tight i placed in
            let falls = is.fits.falls k hk in
            let own : unsigned_abs (entry_of M i k) ≤ m = entry-within M m range i k in
            omega (arith, ints, zero, above, tight, falls)
        | inr later ↦ let zero = is.fits.rest i later hi in omega (arith, ints, zero)
      ];
}

-- where entries lie within m of 0, the duals of the columns lie within 2 * m
pub v_within : (M : Square) (rows : ℕ) (matching : List ℕ) (row_of : List (Option ℕ)) (u v : List ℤ) (m : ℕ) → rows ≤ M.size →
    IsPartial M rows matching row_of u v → AllWithin m M.entries → AllWithin (2 * m) v
v_within M rows matching row_of u v m few is range = record {
  each = λ k h.
      let hk : k < M.size = omega (arith, is.fits.v_count) in
      elim (owner_cases (owner_of row_of k)) [
        | inl owned ↦
            let i = owned.0 in
            let at = is.matches.owned k i hk owned.1 in
            let placed : i < rows = at.0 in
            let tight : (number_at u i +ℤ number_at v k) ≡ entry_of M i k = subst (λ (j : ℕ). (number_at u i +ℤ number_at v j) ≡ entry_of M i j) at.1 (is.tight i placed) in
            let entry : unsigned_abs (entry_of M i k) ≤ m = entry-within M m range i k in
            let row : unsigned_abs (number_at u i) ≤ m = (u_within M rows matching row_of u v m is range).each i (omega (arith, is.fits.u_count)) in
            omega (arith, ints)
        | inr free ↦ let zero = is.free k hk free in omega (arith, ints, zero)
      ];
}

-- no column's dual is above 0
pub v_NoneAbove : (M : Square) (rows : ℕ) (matching : List ℕ) (row_of : List (Option ℕ)) (u v : List ℤ) → IsPartial M rows matching row_of u v → NoneAbove v
v_NoneAbove M rows matching row_of u v is = record {
  each = λ k h. is.fits.falls k (omega (arith, is.fits.v_count));
}
