-- Lists of contrasts, written one after the other.
use Rattle.std.proofs.Common.{◌≡◌, ◌∙◌, ℕ, ◌+◌, ◌*◌, ◌<◌, ◌≤◌, List, length, pos, sym, subst, inl, inr, arith}
use Rattle.std.proofs.lemmas.Int.{ints}
use Rattle.std.proofs.lemmas.Bool.{cases_lt}
use Rattle.std.proofs.lemmas.List.{get_or-set_other, length-set}
use Rattle.std.proofs.lemmas.Grind.{get_or-set_at}
use Rattle.std.specs.Prelude.{slice_set, ℤ, ◌-ℤ◌, unsigned_abs}
use Rattle.qap_cost.specs.Instance.{Problem}
use Rattle.qap_cost.specs.Objective.{Permutes}
use Rattle.qap_improve.specs.Arrangement.{HasEntriesWithin}
use Rattle.qap_improve.specs.Difference.{flow, distance}
use Rattle.qap_improve.proofs.Arrangements.{distance-within}
use Rattle.qap_improve.specs.Table.{HasContrasts, IsContrast, IsSmall}
use Rattle.qap_improve.specs.declared.contrast.Contrast.{Contrast}

-- a contrast of zeros
abbrev pub no_contrast : Contrast
no_contrast = record { flow = pos 0; flow_back = pos 0; distance = pos 0; distance_back = pos 0 }

-- with the contrast of facility t written, those before place t + 1 are there
pub HasContrasts-written : (I : Problem) (p : List ℕ) (u v : ℕ) (xs : List Contrast) (t : ℕ) (x : Contrast) → t < length xs → IsContrast I p u v t x
    → HasContrasts I p u v xs t → HasContrasts I p u v (slice_set xs t x) (t + 1)
HasContrasts-written I p u v xs t x within is h = record {
  count = length-set xs t x ∙ h.count;
  each = λ k other below. elim (cases_lt k t) [
    | inl before ↦ subst (λ y. IsContrast I p u v k y) (sym (get_or-set_other xs t k x other (λ e. omega (arith, e, before)))) (h.each k other before)
    | inr at ↦
        let e : k ≡ t = omega (arith, at, below) in
        subst (λ y. IsContrast I p u v k y) (sym (get_or-set_at xs t k x other e within)) (subst (λ i. IsContrast I p u v i x) (sym e) is)
  ];
}

apart : (l : ℕ) (x a b : ℤ) → x ≡ a -ℤ b → unsigned_abs a ≤ l → unsigned_abs b ≤ l → unsigned_abs x ≤ 2 * l
apart l x a b is ha hb = omega (arith, ints)

-- how far from 0 a contrast may lie
pub IsContrast-small : (l : ℕ) (I : Problem) (p : List ℕ) (u v k : ℕ) (x : Contrast) → HasEntriesWithin l I → Permutes I p → u < I.size → v < I.size → k < I.size → IsContrast I p u v k x → IsSmall l x
IsContrast-small l I p u v k x h perm hu hv hk is = record {
  flow = apart l x.flow (flow I u k) (flow I v k) is.flows (h.flows u k hu hk) (h.flows v k hv hk);
  flow_back = apart l x.flow_back (flow I k u) (flow I k v) is.flows_back (h.flows k u hk hu) (h.flows k v hk hv);
  distance = apart l x.distance (distance I p u k) (distance I p v k) is.distances (distance-within l I p u k h perm hu hk) (distance-within l I p v k h perm hv hk);
  distance_back = apart l x.distance_back (distance I p k u) (distance I p k v) is.distances_back (distance-within l I p k u h perm hk hu) (distance-within l I p k v h perm hk hv);
}
