-- Numbers within limits.
use Rattle.std.proofs.Common.{◌≡◌, ℕ, ◌≤◌, arith}
use Rattle.std.specs.Option.{unwrap_or}
use Rattle.std.specs.Int.{int_min}
use Rattle.std.specs.Prelude.{ℤ, IfSome, Option, Some, None, true, false, cond, int_lt}
use Rattle.qap_cost.specs.Range.{IsLimited}

-- the lesser of two numbers that are in range
pub IsLimited-min : (a b : ℤ) → IsLimited a → IsLimited b → IsLimited (int_min a b)
IsLimited-min a b first second = elim (int_lt b a) as (λ v. IsLimited (cond v b a)) [ true ↦ second | false ↦ first ]

-- a number that is within a limit, or what stands for none, is within the limit
pub within-limit : (limit : Option ℕ) (d most old new : ℕ) → most ≡ unwrap_or limit d → old ≤ most → new ≡ old → IfSome limit (λ l. new ≤ l)
within-limit None d most old new is within same = tt
within-limit (Some l) d most old new is within same = omega (arith, is, within, same)
