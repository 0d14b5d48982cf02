-- The flows between departments, and how wide their lines are.
use Rattle.std.specs.Prelude.{ℕ, suc, zero, ◌*◌, ◌/◌, min, max, pos, ◌+ℤ◌, int_lt, unsigned_abs, if◌then◌else◌}
use Rattle.qap_cost.specs.Instance.{Problem, entry}

-- the flow between two departments, both directions together; none if that is negative
abbrev pub flow_between : Problem → ℕ → ℕ → ℕ
flow_between I i j = let both = entry I.size I.a i j +ℤ entry I.size I.a j i in if int_lt both (pos 0) then 0 else unsigned_abs both

-- the largest of f 0, .., f (n - 1), or 0
abbrev pub largest_to : (ℕ → ℕ) → ℕ → ℕ
largest_to f zero = 0
largest_to f (suc n) = max (f n) (largest_to f n)

-- the largest flow between two departments
abbrev pub largest_flow : Problem → ℕ
largest_flow I = largest_to (λ i. largest_to (flow_between I i) i) I.size

-- tenths of a pixel: proportional to the largest amount, whose line is nine pixels wide, and at least half a pixel
abbrev pub width_of : ℕ → ℕ → ℕ
width_of flow most = max 5 (min 90 (flow * 90 / max 1 most))
