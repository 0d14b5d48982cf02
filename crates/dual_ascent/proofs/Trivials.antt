-- Pair duals that are all the same, and the ranges of an ascent.
use Rattle.std.proofs.Common.{◌≡◌, ℕ, ◌+◌, ◌*◌, ◌<◌, ◌≤◌, List, length, get_or, replicate, arith, sym, ◌∙◌, ap, subst}
use Rattle.std.specs.Prelude.{ℤ, pos, negsuc, unsigned_abs}
use Rattle.std.proofs.lemmas.Int.{ints}
use Rattle.std.proofs.lemmas.List.{get_or-replicate, length-replicate}
use Rattle.qap_cost.specs.Instance.{Problem}
use Rattle.qap_cost.specs.Range.{AllWithin}
use Rattle.pair_duals.specs.Limits.{Limits}
use Rattle.pair_duals.specs.PairDuals.{Duals, Fit, alpha_of, beta_of, cube, in_layers}
use Rattle.pair_duals.specs.Range.{IsInScale}
use Rattle.pair_duals.proofs.Values.{place_in_layers}
use Rattle.pair_duals.proofs.Widths.{pair-within}
use Rattle.dual_ascent.specs.AscentRange.{AreSmall}

-- the range of an ascent is within that of a width whose limit is no lower
pub in_scale : (m : Limits) (I : Problem) (s : ℕ) → 35184372088832 ≤ m.cost → AreSmall I s → IsInScale m I s
in_scale m I s room h = record { below = λ i j k l hi hj hk hl. omega (arith, room, h.each i j k l hi hj hk hl) }

-- the same for a scale that is the same number
pub in_scale_along : (m : Limits) (I : Problem) (s t : ℕ) → t ≡ s → 35184372088832 ≤ m.cost → AreSmall I s → IsInScale m I t
in_scale_along m I s t same room h = subst (λ (r : ℕ). IsInScale m I r) (sym same) (in_scale m I s room h)

-- copies of a number within a limit are within it
pub AllWithin-same : (limit n : ℕ) (x : ℤ) → unsigned_abs x ≤ limit → AllWithin limit (replicate n x)
AllWithin-same limit n x h = record {
  each = λ j below.
      let at : get_or (replicate n x) j (pos 0) ≡ x = get_or-replicate n j x (pos 0) (subst (λ (k : ℕ). j < k) (length-replicate n x) below) in
      subst (λ (z : ℤ). unsigned_abs z ≤ limit) (sym at) h;
}

-- the limits under which pairs are no less than twice the least product
abbrev narrow : Limits
narrow = record { size = 64; cost = 35184372088832; dual = 0; pair = 0; start = 0; reach = 0; sum = 0 }

-- a number in layers of one number
pub in_layers-same : (m : ℕ) (xs : List ℤ) (x : ℤ) (j i k : ℕ) → xs ≡ replicate (cube m) x → j < m → i < m → k < m → in_layers m xs j i k ≡ x
in_layers-same m xs x j i k same hj hi hk =
    ap (λ (ys : List ℤ). get_or ys ((j * m + i) * m + k) (pos 0)) same
    ∙ get_or-replicate (cube m) ((j * m + i) * m + k) x (pos 0) (place_in_layers m j i k hj hi hk)

-- where each pair is charged for both of its products the least that they can be, it has nothing less left
pub Fit-same : (I : Problem) (D : Duals) → AreSmall I D.scale → length D.locations ≡ length D.facilities
    → ((i : ℕ) → i < length D.facilities → get_or D.facilities i 0 < I.size) → ((k : ℕ) → k < length D.locations → get_or D.locations k 0 < I.size)
    → D.alpha ≡ replicate (cube (length D.facilities)) (negsuc 35184372088831) → D.beta ≡ replicate (cube (length D.facilities)) (pos 0) → Fit I D
Fit-same I D small count facilities locations alpha beta = record {
  below = λ i k j l hi hk hj hl ij kl.
      let m = length D.facilities in
      let x : ℤ = negsuc 35184372088831 in
      let hk' : k < m = omega (arith, count) in
      let hl' : l < m = omega (arith, count) in
      let cost = pair-within narrow I D.scale (get_or D.facilities i 0) (get_or D.locations k 0) (get_or D.facilities j 0) (get_or D.locations l 0)
      (in_scale narrow I D.scale (omega arith) small) (facilities i hi) (locations k hk) (facilities j hj) (locations l hl) in
      let a : alpha_of D i k j ≡ x = in_layers-same m D.alpha x j i k alpha hj hi hk' in
      let b : beta_of D i k l ≡ pos 0 = in_layers-same m D.beta (pos 0) l i k beta hl' hi hk' in
      let a' : alpha_of D j l i ≡ x = in_layers-same m D.alpha x i j l alpha hi hj hl' in
      let b' : beta_of D j l k ≡ pos 0 = in_layers-same m D.beta (pos 0) k j l beta hk' hj hl' in
      omega (arith, ints, cost, a, b, a', b');
}
