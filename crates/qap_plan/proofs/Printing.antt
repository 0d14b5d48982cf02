-- Texts that are printed one after another.
use Rattle.std.proofs.Common.{◌≡◌, ◌+◌, ◌∷◌, ℕ, List, arith, false, nat_eq, subst, sym}
use Rattle.std.specs.Prelude.{if◌then◌else◌, true}
use Rattle.qap_plan.specs.Estimates.{PrintsEstimates, PrintsMany}

-- one more
pub PrintsMany-more : {S : Type 0} (Prints : S → List ℕ → S → Type 0) (count : ℕ) (old middle new : S) (text : List ℕ) → PrintsMany Prints count old middle → Prints middle text new → PrintsMany Prints (count + 1) old new
PrintsMany-more Prints count old middle new text h last =
    (text ∷ h.0, omega (arith, h.1), record { middle = middle; first = h.2; last = last })

-- all parts, and one more text
pub PrintsEstimates-all : {S : Type 0} (Prints : S → List ℕ → S → Type 0) (left : ℕ) (old new : S) → nat_eq left 0 ≡ false → PrintsMany Prints (left + 1) old new → PrintsEstimates Prints true left old new
PrintsEstimates-all Prints left old new some h = subst (λ b. PrintsMany Prints (if b then 0 else left + 1) old new) (sym some) h
