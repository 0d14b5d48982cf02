-- What nodes with the same placed facilities share: the rows of the free facilities.
use Rattle.std.specs.Prelude.{◌≡◌, ℕ, ◌*◌, ◌+◌, Bool, IsTrue, List, length, ℤ}
use Rattle.qap_cost.specs.Bijection.{AreDifferent}
use Rattle.qap_cost.specs.Instance.{Problem}
use Rattle.qap_cost.specs.Placement.{free_below}
use Rattle.qap_cost.specs.Range.{AllWithin}
use Rattle.gilmore_lawler.specs.declared.side.Side.TheVariants.{Flow, Distance}
use Rattle.gilmore_lawler.specs.Table.{IsTable, IsFactorRow}

-- an instance, with these facilities placed
pub record FlowSide : Type 0 where
  pub instance : Problem
  pub facilities : List ℕ

-- a row of the flows for each free facility, in the form whose products are the entries of Gilmore-Lawler matrices;
-- no number is further from 0 than the flows are
pub record HasFlowRows (s : FlowSide) (rows : List ℤ) : Type 0 where
  pub table : IsTable (2 * length s.facilities + length (free_below s.instance.size s.facilities)) (length (free_below s.instance.size s.facilities))
      (IsFactorRow s.instance Flow s.facilities (free_below s.instance.size s.facilities)) rows
  pub range : (l : ℕ) → AllWithin l s.instance.a → AllWithin l rows

-- likewise for the distances: a row for each free location, with these taken
pub record HasDistanceRows (I : Problem) (places : List ℕ) (rows : List ℤ) : Type 0 where
  pub table : IsTable (2 * length places + length (free_below I.size places)) (length (free_below I.size places))
      (IsFactorRow I Distance places (free_below I.size places)) rows
  pub range : (l : ℕ) → AllWithin l I.b → AllWithin l rows

-- these are the rows, if they are marked as computed
pub record KeepsFlowRows (made : Bool) (s : FlowSide) (rows : List ℤ) : Type 0 where
  pub are_those : IsTrue made → HasFlowRows s rows

-- these distinct locations are taken, those are free, and these are the rows of the distances then
pub record HasLocationRows (I : Problem) (places free : List ℕ) (rows : List ℤ) : Type 0 where
  pub different : AreDifferent I.size places
  pub are_free : free ≡ free_below I.size places
  pub are_theirs : HasDistanceRows I places rows
