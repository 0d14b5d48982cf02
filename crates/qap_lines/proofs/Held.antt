-- Numbers held to a range, one after another.
use Rattle.std.proofs.Common.{◌≡◌, List, [], ◌∷◌, map, ℤ, refl, sym, ap₂, subst}
use Rattle.qap_cost.specs.Range.{AllLimited}
use Rattle.qap_lines.specs.Number.{held}
use Rattle.qap_lines.proofs.NumberLists.{AllLimited-head, AllLimited-tail, held-within, held_within-is}

-- numbers in range are held as they are
pub held-all_within : (zs : List ℤ) → AllLimited zs → map held zs ≡ zs
held-all_within [] h = refl
held-all_within (z ∷ zs) h =
    ap₂ (λ y ys. y ∷ ys) (held-within z (AllLimited-head z zs h)) (held-all_within zs (AllLimited-tail z zs h))

-- numbers that are held in range are those numbers
pub held_all_within-is : (zs : List ℤ) → AllLimited (map held zs) → map held zs ≡ zs
held_all_within-is [] h = refl
held_all_within-is (z ∷ zs) h =
    ap₂ (λ y ys. y ∷ ys) (held-within z (held_within-is z (AllLimited-head (held z) (map held zs) h))) (held_all_within-is zs (AllLimited-tail (held z) (map held zs) h))

-- numbers in range are still so when they are held
pub AllLimited-held : (zs : List ℤ) → AllLimited zs → AllLimited (map held zs)
AllLimited-held zs h = subst AllLimited (sym (held-all_within zs h)) h

-- numbers that are in range when they are held were so before
pub AllLimited-from_held : (zs : List ℤ) → AllLimited (map held zs) → AllLimited zs
AllLimited-from_held zs h = subst AllLimited (held_all_within-is zs h) h
