-- The numbers below n, ascending, are a permutation.
use Rattle.std.proofs.Common.{◌≡◌, ◌<◌, ◌≤◌, ℕ, ◌+◌, ◌++◌, ◌∷◌, [], length, sym, ap, ◌∙◌, arith}
use Rattle.std.specs.Prelude.{slice_index}
use Rattle.std.specs.List.{range_with_len}
use Rattle.std.proofs.lemmas.List.{map-id}
use Rattle.std.proofs.lemmas.List.FromFn.{length-range_with_len, get_or-range_with_len, map-range_with_len_more}
use Rattle.qap_cost.specs.Bijection.{IsPerm}

same_at : (n i : ℕ) → i < length (range_with_len 0 n) → slice_index (range_with_len 0 n) i ≡ i
same_at n i h = get_or-range_with_len 0 n i 0 (omega (arith, length-range_with_len 0 n)) ∙ omega arith

-- the numbers below n, ascending, are a permutation
pub IsPerm-range : (n : ℕ) → 0 < n → n ≤ 256 → IsPerm (range_with_len 0 n)
IsPerm-range n positive small =
    let count = length-range_with_len 0 n in
    record {
      bijection = record {
        within = λ i h. omega (arith, same_at n i h);
        distinct = λ i j h k e. sym (same_at n i h) ∙ e ∙ same_at n j k;
      };
      positive = omega (arith, count);
      small = omega (arith, count);
    }

-- one number more
pub range_more : (n : ℕ) → range_with_len 0 (n + 1) ≡ range_with_len 0 n ++ n ∷ []
range_more n =
    sym (map-id (range_with_len 0 (n + 1))) ∙ map-range_with_len_more (λ k. k) 0 n n (omega arith)
    ∙ ap (λ xs. xs ++ n ∷ []) (map-id (range_with_len 0 n))
