-- What duals leave of a pair, from parts that many pairs share.
use Rattle.std.proofs.Common.{◌≡◌, ℕ, ◌<◌, ◌≤◌, w64, to_z, of_z, lit<, sym, ◌∙◌, ap, ap₂, subst, get_or}
use Rattle.std.specs.Prelude.{ℤ, pos, ◌+ℤ◌, ◌-ℤ◌, ◌*ℤ◌, unsigned_abs}
use Rattle.std.proofs.lemmas.Int.{to_z-of_z, fits_signed_mul}
use Rattle.qap_cost.specs.Instance.{Problem, entry}
use Rattle.qap_cost.specs.Range.{InRange}
use Rattle.qap_cost.proofs.Objectives.{reads_entry}
use Rattle.qap_cost.proofs.Sums.{*ℤ-+ℤ}
use Rattle.pair_duals.specs.CostOfPair.{cost_of_pair}
use Rattle.pair_duals.specs.Limits.{Limits}
use Rattle.pair_duals.specs.PairDuals.{Duals, alpha_of, beta_of, residual}
use Rattle.pair_duals.specs.Range.{IsInScale}
use Rattle.pair_duals.proofs.Products.{scale-assoc}
use Rattle.pair_duals.proofs.Widths.{product-within}

-- two products of scaled entries are a scaled pair
pair_is : (I : Problem) (s i k j l : ℕ) (there b back b' : ℤ) → there ≡ pos s *ℤ entry I.size I.a i j → b ≡ entry I.size I.b k l → back ≡ pos s *ℤ entry I.size I.a j i → b' ≡ entry I.size I.b l k
    → there *ℤ b +ℤ back *ℤ b' ≡ pos s *ℤ cost_of_pair I i k j l
pair_is I s i k j l there b back b' ht hb hk hb' =
    ap₂ ◌+ℤ◌ (ap₂ ◌*ℤ◌ ht hb ∙ scale-assoc s (entry I.size I.a i j) (entry I.size I.b k l)) (ap₂ ◌*ℤ◌ hk hb' ∙ scale-assoc s (entry I.size I.a j i) (entry I.size I.b l k))
    ∙ sym (*ℤ-+ℤ (pos s) (entry I.size I.a i j *ℤ entry I.size I.b k l) (entry I.size I.a j i *ℤ entry I.size I.b l k))

-- what is left of the pair of facilities number i and j at locations number k and l, which are these
pub residual-from_parts : (I : Problem) (D : Duals) (i k j l f g h e : ℕ) (there b back b' own other x : ℤ)
    → f ≡ get_or D.facilities i 0 → g ≡ get_or D.locations k 0 → h ≡ get_or D.facilities j 0 → e ≡ get_or D.locations l 0
    → there ≡ pos D.scale *ℤ entry I.size I.a f h → b ≡ entry I.size I.b g e → back ≡ pos D.scale *ℤ entry I.size I.a h f → b' ≡ entry I.size I.b e g
    → own ≡ alpha_of D i k j +ℤ beta_of D i k l → other ≡ alpha_of D j l i +ℤ beta_of D j l k → x ≡ (there *ℤ b +ℤ back *ℤ b') -ℤ (own +ℤ other) → x ≡ residual I D i k j l
residual-from_parts I D i k j l f g h e there b back b' own other x ef eg eh ee ht hb hk hb' ho hr is =
    is ∙ ap₂ ◌-ℤ◌
    (pair_is I D.scale f g h e there b back b' ht hb hk hb' ∙ ap₂ (λ u v. pos D.scale *ℤ cost_of_pair I u v h e) ef eg ∙ ap₂ (λ u v. pos D.scale *ℤ cost_of_pair I (get_or D.facilities i 0) (get_or D.locations k 0) u v) eh ee)
    (ap₂ ◌+ℤ◌ ho hr)

-- a scaled entry, as it was computed and passed on
pub scaled_entry-read : (s t : ℕ) (x a e : ℤ) → x ≡ pos t *ℤ to_z w64 (of_z w64 a) → t ≡ s → s ≤ 1048576 → a ≡ e → InRange a → to_z w64 (of_z w64 x) ≡ pos s *ℤ e
scaled_entry-read s t x a e is scale small same range =
    let product : x ≡ pos s *ℤ a = is ∙ ap₂ (λ n z. pos n *ℤ z) scale (reads_entry a range) in
    ap (λ z. to_z w64 (of_z w64 z)) product
    ∙ to_z-of_z w64 (pos s *ℤ a) (fits_signed_mul w64 (pos s) a 1048576 1000000000 small range (lit< tt))
    ∙ ap (λ z. pos s *ℤ z) same

-- a product of a scaled entry is within the limit
pub part-within : (m : Limits) (I : Problem) (s i j k l : ℕ) (there b : ℤ) → IsInScale m I s → i < I.size → j < I.size → k < I.size → l < I.size → there ≡ pos s *ℤ entry I.size I.a i j → b ≡ entry I.size I.b k l → unsigned_abs (there *ℤ b) ≤ m.cost
part-within m I s i j k l there b scale hi hj hk hl ht hb =
    subst (λ z. unsigned_abs z ≤ m.cost) (sym (ap₂ ◌*ℤ◌ ht hb ∙ scale-assoc s (entry I.size I.a i j) (entry I.size I.b k l))) (product-within m I s i j k l scale hi hj hk hl)
