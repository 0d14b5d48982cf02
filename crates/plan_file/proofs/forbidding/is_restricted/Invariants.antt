use Rattle.std.proofs.Common.{◌<◌, ℕ, [], get_or, map, string_bytes}
use Rattle.plan_file.specs.Choices.{IsBarred}
use Rattle.plan_file.proofs.forbidding.is_restricted.Given as goal

abbrev pub invariant-loop-place : goal.invariant-loop-place
invariant-loop-place l = (j : ℕ) → j < l.place-index → IsBarred l.charging l.department (get_or (map string_bytes l.places) j []) → ⊥
