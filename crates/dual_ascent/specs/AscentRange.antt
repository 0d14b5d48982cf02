-- Which instances and scales an ascent accepts.
use Rattle.std.specs.Prelude.{ℕ, ◌*◌, ◌^◌, ◌<◌, ◌≤◌, unsigned_abs}
use Rattle.qap_cost.specs.Instance.{Problem, entry}

-- no scaled product of an entry of A and one of B is above the limit of duals
pub record AreSmall (I : Problem) (scale : ℕ) : Type 0 where
  pub each : (i j k l : ℕ) → i < I.size → j < I.size → k < I.size → l < I.size
      → scale * (unsigned_abs (entry I.size I.a i j) * unsigned_abs (entry I.size I.b k l)) ≤ 2 ^ 45

-- so that there are duals that fit
pub record HasRange (I : Problem) (scale : ℕ) : Type 0 where
  pub size : I.size ≤ 64
  pub positive : 0 < scale
  pub bounded : scale ≤ 2 ^ 20
  pub products : AreSmall I scale
