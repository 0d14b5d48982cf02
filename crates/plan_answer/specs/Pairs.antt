-- The costs of pairs of facilities, and which are highest.
use Rattle.std.specs.Prelude.{◌≡◌, ℕ, ◌<◌, ◌≤◌, ◌⊎◌, All, List, length, pos, ◌<ℤ◌}
use Rattle.std.specs.List.{AllPairs, Contains}
use Rattle.qap_cost.specs.Instance.{Problem}
use Rattle.qap_cost.specs.Objective.{pair_cost}
use Rattle.plan_answer.specs.declared.pairs.Pair.{Pair}

-- two facilities of the instance, and their cost at their locations
pub record IsPairOf (I : Problem) (p : List ℕ) (x : Pair) : Type 0 where
  pub from_inside : x.from < I.size
  pub to_inside : x.to < I.size
  pub costs : x.cost ≡ pair_cost I p x.from x.to

-- it precedes the other in a list by rows
abbrev pub IsEarlier : Pair → Pair → Type 0
IsEarlier x y = (x.from < y.from) ⊎ ((x.from ≡ y.from) × (x.to < y.to))

-- it costs more, or as much and precedes the other by rows
abbrev pub IsBefore : Pair → Pair → Type 0
IsBefore x y = (y.cost <ℤ x.cost) ⊎ ((x.cost ≡ y.cost) × IsEarlier x y)

-- of the pairs that cost something the first `most`, the costliest first, or all if there are fewer (the k largest
-- of a list, in a stable order: Knuth, The Art of Computer Programming, volume 3, 1998, 5): each omitted pair comes
-- after each listed one
pub record AreDearest (I : Problem) (p : List ℕ) (most : ℕ) (xs : List Pair) : Type 0 where
  pub pairs : All (IsPairOf I p) xs
  pub dear : All (λ x. pos 0 <ℤ x.cost) xs
  pub ordered : AllPairs IsBefore xs
  pub few : length xs ≤ most
  pub others : (x : Pair) → IsPairOf I p x → pos 0 <ℤ x.cost → Contains xs x ⊎ ((length xs ≡ most) × All (λ y. IsBefore y x) xs)
