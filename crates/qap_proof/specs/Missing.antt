-- The parts that a proof still needs: the leaves of its tree whose values are below its cost.
use Rattle.std.specs.Prelude.{◌≡◌, ℕ, ◌<◌, ◌⊎◌, ◌++◌, List, [], ◌∷◌, length, ℤ, ◌<ℤ◌, ◌≤ℤ◌, All, Contains, map, slice_index_or}
use Rattle.qap_cost.specs.Instance.{Problem}
use Rattle.qap_cost.specs.Placement.{Placement}
use Rattle.qap_proof.specs.Claim.{Claim, IsRoot, NoneCompletesForLess}
use Rattle.qap_proof.specs.Cover.{AreAmong, AreLeaves}
use Rattle.qap_proof.specs.Tree.{whole}
use Rattle.qap_proof.specs.declared.leaf.Leaf.{Leaf}
use Rattle.qap_proof.specs.declared.missing.MissingPart.{MissingPart}

-- y places what x places, with its facilities ascending
pub record IsAscendingOf (x y : Placement) : Type 0 where
  pub root : IsRoot x.size y
  pub places : AreAmong y x
  pub all : AreAmong x y

-- the part is that of the leaf of its number, whose value is less than c
pub record IsMissing (n : ℕ) (c : ℤ) (ls : List Leaf) (m : MissingPart) : Type 0 where
  pub within : m.leaf < length ls
  pub root : IsRoot n m.node
  pub node : (d : Leaf) → IsAscendingOf (slice_index_or ls m.leaf d).node m.node
  pub value : (d : Leaf) → m.value ≡ (slice_index_or ls m.leaf d).value
  pub short : m.value <ℤ c

-- the parts listed before are followed by that of the leaf of this number, if its value is less than c
abbrev pub IsListed : ℤ → ℕ → Leaf → List MissingPart → List MissingPart → Type 0
IsListed c k l old new =
    ((l.value <ℤ c) × (m : MissingPart) × (m.leaf ≡ k) × IsAscendingOf l.node m.node × (m.value ≡ l.value) × (new ≡ old ++ m ∷ []))
    ⊎ ((c ≤ℤ l.value) × (new ≡ old))

-- each part is needed, and each leaf with a value less than c has one
pub record ListsMissing (n : ℕ) (c : ℤ) (ls : List Leaf) (ms : List MissingPart) : Type 0 where
  pub each : All (IsMissing n c ls) ms
  pub all : (k : ℕ) (d : Leaf) → k < length ls → (slice_index_or ls k d).value <ℤ c → Contains (map (λ (m : MissingPart). m.leaf) ms) k

-- in ascending order of their values
abbrev pub IsHardestFirst : List MissingPart → Type 0
IsHardestFirst ms = (i j : ℕ) (d : MissingPart) → i < j → j < length ms → (slice_index_or ms i d).value ≤ℤ (slice_index_or ms j d).value

-- these are all parts that a proof still needs, the hardest first
pub record AreMissing (I : Problem) (C : Claim) (ms : List MissingPart) : Type 0 where
  pub leaves : List Leaf
  pub are : AreLeaves I (whole C.root) C.tree leaves
  pub lists : ListsMissing I.size C.cost leaves ms
  pub hardest_first : IsHardestFirst ms

-- no permutation that completes the part's node costs less than c
abbrev pub IsMissingBounded : Problem → ℤ → MissingPart → Type 0
IsMissingBounded I c m = NoneCompletesForLess I m.node c
