-- The rest of a tree that is read line by line, level by level: at each level a split has children left.
use Rattle.std.specs.Prelude.{◌≡◌, ℕ, ◌-◌, ◌⊎◌, ◌++◌, ◌∷◌, [], List, length, take, map, ℤ, Option, Some, None}
use Rattle.qap_cost.specs.Instance.{Problem}
use Rattle.qap_cost.specs.Placement.{Placement, free_locations}
use Rattle.qap_cert.specs.Code.{joined}
use Rattle.qap_cert.specs.Fault.{IsTreeFaultAmong}
use Rattle.qap_cert.specs.Tree.{Nodes}
use Rattle.qap_cert.specs.Valid.{AllValid}
use Rattle.qap_cert.specs.Walk.{BeginsWithTrees, IsFaultBefore, Any}
use Rattle.qap_cert.specs.declared.error.CertError.{CertError}
use Rattle.qap_cert.specs.declared.version.Version.{Version}

-- a level: the facilities placed once its split is made, and how many of the split's children are left
pub record Level : Type 0 where
  pub placed : List ℕ
  pub left : ℕ

-- a split at a node of an instance: its facility, and the locations of the children that are left
pub record OpenSplit : Type 0 where
  pub node : Placement
  pub facility : ℕ
  pub locations : List ℕ

-- a split of this node on this facility, with no child checked yet
abbrev pub IsSplitOf : Placement → ℕ → OpenSplit → Type 0
IsSplitOf x f s = s ≡ record { node = x; facility = f; locations = free_locations x }

-- the facilities placed once a split is made
abbrev pub placed_behind : OpenSplit → List ℕ
placed_behind s = s.node.facilities ++ s.facility ∷ []

-- the level of a split
abbrev pub level_of : OpenSplit → Level
level_of s = record { placed = placed_behind s; left = length s.locations }

-- the facilities that are placed one level further out
abbrev pub placed_outside : List ℕ → List ℕ
placed_outside placed = take (length placed - 1) placed

-- the levels, innermost first, where these facilities are placed, one more at each level, given the numbers of children left
abbrev pub levels_of : List ℕ → List ℕ → List Level
levels_of placed [] = []
levels_of placed (left ∷ outer) = record { placed = placed; left = left } ∷ levels_of (placed_outside placed) outer

-- the text begins with the trees that are left at these levels, innermost first; the rest follows, from line `next` on
abbrev pub BeginsWithLevels : Version → ℕ → List Level → ℕ → List ℕ → List ℕ → ℕ → Type 0
BeginsWithLevels v n [] line text rest next = (rest ≡ text) × (next ≡ line)
BeginsWithLevels v n (l ∷ outer) line text rest next =
    (behind : List ℕ) × (after : ℕ) × BeginsWithTrees v n l.placed l.left line text behind after Any × BeginsWithLevels v n outer after behind rest next

-- the first fault of a text that has to begin so
abbrev pub IsFaultAtLevels : Version → ℕ → List Level → ℕ → List ℕ → CertError → Type 0
IsFaultAtLevels v n [] line text e = ⊥
IsFaultAtLevels v n (l ∷ outer) line text e =
    IsFaultBefore v n l.placed l.left line text e
    ⊎ ((behind : List ℕ) × (after : ℕ) × BeginsWithTrees v n l.placed l.left line text behind after Any × IsFaultAtLevels v n outer after behind e)

-- it begins so; the report says whether the trees are valid at the nodes, and if not the first fault
abbrev pub IsToldOfLevels : Version → ℕ → Problem → ℤ → Option CertError → List OpenSplit → ℕ → List ℕ → List ℕ → ℕ → Type 0
IsToldOfLevels v n I g None [] line text rest next = (rest ≡ text) × (next ≡ line)
IsToldOfLevels v n I g (Some e) [] line text rest next = ⊥
IsToldOfLevels v n I g None (s ∷ outer) line text rest next =
    (behind : List ℕ) × (after : ℕ)
    × BeginsWithTrees v n (placed_behind s) (length s.locations) line text behind after (AllValid I g s.node s.facility s.locations)
    × IsToldOfLevels v n I g None outer after behind rest next
IsToldOfLevels v n I g (Some e) (s ∷ outer) line text rest next =
    ((behind : List ℕ) × (after : ℕ)
    × BeginsWithTrees v n (placed_behind s) (length s.locations) line text behind after (AllValid I g s.node s.facility s.locations)
    × IsToldOfLevels v n I g (Some e) outer after behind rest next)
    ⊎ ((behind : List ℕ) × (after : ℕ)
    × BeginsWithTrees v n (placed_behind s) (length s.locations) line text behind after
    (λ (ts : Nodes). IsTreeFaultAmong I g s.node s.facility s.locations line ts e)
    × BeginsWithLevels v n (map level_of outer) after behind rest next)

-- some children of a split, for these of its locations, are valid, or they have the first fault of all its children, whatever follows
abbrev pub IsRunTold : Problem → ℤ → Placement → ℕ → List ℕ → List ℕ → ℕ → Option CertError → Nodes → Type 0
IsRunTold I g x f here locations line None ts = AllValid I g x f here ts
IsRunTold I g x f here locations line (Some e) ts = (others : Nodes) → IsTreeFaultAmong I g x f locations line (joined ts others) e

-- why the trees of some levels are not valid, once only the syntax of the rest has to be checked
pub record IsToldBehind (v : Version) (n : ℕ) (I : Problem) (g : ℤ) (o : Option CertError) (splits : List OpenSplit) (line : ℕ) (text : List ℕ) (outer : List OpenSplit) (next : ℕ) (rest : List ℕ) : Type 0 where
  pub none : o ≡ None → (p : Option CertError) (behind : List ℕ) (after : ℕ) → IsToldOfLevels v n I g p outer next rest behind after → IsToldOfLevels v n I g p splits line text behind after
  pub some : (e : CertError) → o ≡ Some e → (behind : List ℕ) (after : ℕ) → BeginsWithLevels v n (map level_of outer) next rest behind after → IsToldOfLevels v n I g (Some e) splits line text behind after
  pub fault : (e : CertError) → IsFaultAtLevels v n (map level_of outer) next rest e → IsFaultAtLevels v n (map level_of splits) line text e

-- after the trees of the inner levels, what is left at the outer levels completes what was left at first
pub record LeadsBehind (v : Version) (n : ℕ) (levels : List Level) (line : ℕ) (text : List ℕ) (outer : List Level) (next : ℕ) (rest : List ℕ) : Type 0 where
  pub trees : (behind : List ℕ) (after : ℕ) → BeginsWithLevels v n outer next rest behind after → BeginsWithLevels v n levels line text behind after
  pub fault : (e : CertError) → IsFaultAtLevels v n outer next rest e → IsFaultAtLevels v n levels line text e

-- the nodes of these splits are of this size
abbrev pub AreOfSize : ℕ → List OpenSplit → Type 0
AreOfSize n [] = Unit {0}
AreOfSize n (s ∷ outer) = (s.node.size ≡ n) × AreOfSize n outer
