-- The cost step of an instance: a number that divides the cost of every permutation, so that distinct costs differ by at least that much.
use Rattle.std.specs.Prelude.{◌≡◌, ℕ, zero, suc, ◌*◌, ◌%◌, ◌==◌, ◌&&◌, Bool, true, max, if◌then◌else◌, List, ℤ, pos, ◌+ℤ◌, ◌*ℤ◌, unsigned_abs}
use Rattle.std.specs.Ordering.{int_eq}
use Rattle.qap_cost.specs.Instance.{Problem, entry}
use Rattle.qap_cost.specs.Objective.{Permutes, cost_of}
use Rattle.pair_duals.specs.Reduced.{but}

-- x is a multiple of g
abbrev pub Divides : ℕ → ℤ → Type 0
Divides g x = (k : ℤ) × (x ≡ pos g *ℤ k)

-- g divides the cost of every permutation of the instance
pub record DividesCosts (I : Problem) (g : ℕ) : Type 0 where
  pub each : (p : List ℕ) → Permutes I p → Divides g (cost_of I p)

-- ---- common divisors

-- the greatest of the numbers 1, .., n that divide both x and y; 0 if there is none
abbrev pub greatest_divisor : ℕ → ℕ → ℕ → ℕ
greatest_divisor zero x y = 0
greatest_divisor (suc n) x y = (if (x % suc n == 0) && (y % suc n == 0) then suc n else greatest_divisor n x y)

-- the greatest common divisor; that of x and 0 is x
abbrev pub gcd : ℕ → ℕ → ℕ
gcd x y = greatest_divisor (max x y) x y

-- that of f(0), .., f(n - 1), by their absolute values; 0 if there are none, or all are 0
abbrev pub gcd_to : (ℕ → ℤ) → ℕ → ℕ
gcd_to f zero = 0
gcd_to f (suc n) = gcd (gcd_to f n) (unsigned_abs (f n))

-- that of f(i,0), .., f(i,n - 1), except f(i,i)
abbrev pub gcd_of_row : (ℕ → ℕ → ℤ) → ℕ → ℕ → ℤ
gcd_of_row f n i = pos (gcd_to (but i (f i)) n)

-- that of all f(i,j) with distinct i and j below n
abbrev pub gcd_of_others : (ℕ → ℕ → ℤ) → ℕ → ℕ
gcd_of_others f n = gcd_to (gcd_of_row f n) n

-- the entry f(i,i) of the diagonal
abbrev pub on_diagonal : (ℕ → ℕ → ℤ) → ℕ → ℤ
on_diagonal f i = f i i

-- that of all f(i,i) with i below n
abbrev pub gcd_of_diagonal : (ℕ → ℕ → ℤ) → ℕ → ℕ
gcd_of_diagonal f n = gcd_to (on_diagonal f) n

-- ---- symmetry

-- row i, column j, and row j, column i
abbrev pub both_ways : (ℕ → ℕ → ℤ) → ℕ → ℕ → ℤ
both_ways f i j = f i j +ℤ f j i

-- whether the test passes at 0, .., n - 1
abbrev pub all_to : (ℕ → Bool) → ℕ → Bool
all_to test zero = true
all_to test (suc n) = all_to test n && test n

-- whether f(i,j) is f(j,i)
abbrev pub is_mirrored : (ℕ → ℕ → ℤ) → ℕ → ℕ → Bool
is_mirrored f i j = int_eq (f i j) (f j i)

-- whether this holds for all j below n
abbrev pub is_row_mirrored : (ℕ → ℕ → ℤ) → ℕ → ℕ → Bool
is_row_mirrored f n i = all_to (is_mirrored f i) n

-- whether this holds for all i below n
abbrev pub is_symmetric : (ℕ → ℕ → ℤ) → ℕ → Bool
is_symmetric f n = all_to (is_row_mirrored f n) n

-- ---- the step

-- a common divisor of all products of an f(i,j) and a g(k,l), and of the costs of single facilities
abbrev pub product_step : Problem → (ℕ → ℕ → ℤ) → (ℕ → ℕ → ℤ) → ℕ
product_step I f g =
    gcd (gcd_of_others f I.size * gcd_of_others g I.size)
    (gcd_of_diagonal (entry I.size I.a) I.size * gcd_of_diagonal (entry I.size I.b) I.size)

-- the product of those of A and of B; if A is symmetric, a pair costs an entry of A times the sum of two of B, and if B is symmetric, the sum
-- of two of A times an entry of B. The step is the greatest that applies, or 1 if that is 0
abbrev pub step_of : Problem → ℕ
step_of I =
    let a = entry I.size I.a in
    let b = entry I.size I.b in
    max 1 (max (product_step I a b)
    (max (if is_symmetric a I.size then product_step I a (both_ways b) else 0)
    (if is_symmetric b I.size then product_step I (both_ways a) b else 0)))
