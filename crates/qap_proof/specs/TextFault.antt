-- What prevents a text from being that of a proof: the first fault in order of lines.
use Rattle.std.specs.Prelude.{◌≡◌, ◌≢◌, ℕ, suc, zero, ◌+◌, ◌*◌, ◌<◌, ◌≤◌, ◌⊎◌, ◌++◌, ◌∷◌, [], List, length, ℤ, pos, codes, ◌<ℤ◌, Bool, false}
use Rattle.qap_cost.specs.Limits.{max_size}
use Rattle.qap_cost.specs.Bijection.{IsPerm}
use Rattle.qap_cost.specs.Placement.{Placement, root_of}
use Rattle.qap_cost.specs.Range.{AllLimited, IsLimited}
use Rattle.qap_io.specs.Number.{from_one}
use Rattle.qap_lines.specs.Line.{line_after, HasNoLine, IsLine}
use Rattle.qap_lines.specs.LineText.{line_text}
use Rattle.qap_lines.specs.Number.{IsNamed}
use Rattle.qap_proof.specs.Claim.{IsRoot}
use Rattle.qap_proof.specs.Fault.{IsNumberFault}
use Rattle.qap_proof.specs.Shape.{IsSplit, HasShape, AllHaveShape, free_count, has_duals}
use Rattle.qap_proof.specs.Text.{letter, split_numbers, by_turns, tree_text, trees_text}
use Rattle.qap_proof.specs.Tree.{Split, Node, Nodes, node_count, nodes_count, child_count, IsFreeOn, child_of}
use Rattle.qap_proof.specs.declared.side.Side.{Side}
use Rattle.qap_proof.specs.declared.error.ProofError.{ProofError}
use Rattle.qap_proof.specs.declared.error.ProofError.TheVariants.{BadHeader, BadVersion, BadLine, Truncated, TrailingText, PermBad, RootBad, DualCount, DualRange, CutWithoutDuals, NoEarlierChild}

-- the text has no whole line, or its first line has a fault
abbrev pub IsLineFault : ℕ → List ℕ → (List ℕ → ProofError → Type 0) → ProofError → Type 0
IsLineFault number text P e = ((e ≡ Truncated number) × HasNoLine text) ⊎ ((line rest : List ℕ) × IsLine text line rest × P line e)

-- the first line: `qapproof` and a positive number, which must be 1
abbrev pub IsHeaderFault : List ℕ → ProofError → Type 0
IsHeaderFault line e =
    ((e ≡ BadHeader) × ((n : ℕ) → 0 < n → IsNamed (codes "qapproof") line (pos n ∷ []) → ⊥))
    ⊎ ((e ≡ BadVersion) × (n : ℕ) × (1 < n) × IsNamed (codes "qapproof") line (pos n ∷ []))

-- the second line: `n` and a number from 1 to 256
abbrev pub IsSizeFault : List ℕ → ProofError → Type 0
IsSizeFault line e = (e ≡ BadLine 2) × ((n : ℕ) → 0 < n → n ≤ max_size → IsNamed (codes "n") line (pos n ∷ []) → ⊥)

-- the third line: `cost` and a number from -10^24 to 10^24
abbrev pub IsCostFault : List ℕ → ProofError → Type 0
IsCostFault line e = (e ≡ BadLine 3) × ((c : ℤ) → IsLimited c → IsNamed (codes "cost") line (c ∷ []) → ⊥)

-- the fourth line: `perm` and n numbers, which must list each of 1 to n once
abbrev pub IsPermFault : ℕ → List ℕ → ProofError → Type 0
IsPermFault n line e =
    ((e ≡ BadLine 4) × ((zs : List ℤ) → length zs ≡ n → IsNamed (codes "perm") line zs → ⊥))
    ⊎ ((e ≡ PermBad 4) × (zs : List ℤ) × (length zs ≡ n) × IsNamed (codes "perm") line zs × ((p : List ℕ) → IsPerm p → zs ≢ from_one p))

-- the content of a node's line: `b` and numbers; `s` or `t`, a facility or a location, and numbers; `c` alone; or `m`, a number and
-- as many more as the size
pub data Saying : Type 0 where
  closes : List ℤ → Saying
  splits : Side → ℕ → List ℤ → Saying
  cuts : Saying
  mirrors : ℤ → List ℤ → Saying

-- the line of a node of an instance of size n with this content
abbrev pub Says : ℕ → List ℕ → Saying → Type 0
Says n line (closes zs) = IsNamed (codes "b") line zs
Says n line (splits side i zs) = (i < n) × IsNamed (letter side) line (pos (i + 1) ∷ zs)
Says n line cuts = IsNamed (codes "c") line []
Says n line (mirrors z zs) = (length zs ≡ n) × IsNamed (codes "m") line (z ∷ zs)

-- not exactly one number for each of m facilities and m locations; or that many, and some out of range
abbrev pub IsDualsFault : ℕ → ℕ → List ℤ → ProofError → Type 0
IsDualsFault m number zs e =
    ((e ≡ DualCount number) × (length zs ≢ 2 * m)) ⊎ ((e ≡ DualRange number) × (length zs ≡ 2 * m) × (AllLimited zs → ⊥))

-- the first fault of the content of a node's line at x, with this many earlier children and with or without duals of its parent
abbrev pub IsSayingFault : Placement → ℕ → Bool → ℕ → Saying → ProofError → Type 0
IsSayingFault x earlier duals number (closes zs) e = IsDualsFault (free_count x) number zs e
IsSayingFault x earlier duals number (splits side i zs) e =
    IsNumberFault x number side i e
    ⊎ ((length x.facilities < x.size) × IsFreeOn side x i × (zs ≢ []) × IsDualsFault (free_count x) number zs e)
IsSayingFault x earlier duals number cuts e = (e ≡ CutWithoutDuals number) × (duals ≡ false)
IsSayingFault x earlier duals number (mirrors z zs) e =
    ((e ≡ NoEarlierChild number) × ((j : ℕ) → j < earlier → z ≢ pos (j + 1)))
    ⊎ ((e ≡ PermBad number) × (j : ℕ) × (j < earlier) × (z ≡ pos (j + 1)) × ((p : List ℕ) → IsPerm p → zs ≢ from_one p))

-- the line has no content that a node may have, or that has a fault
abbrev pub IsNodeFault : Placement → ℕ → Bool → ℕ → List ℕ → ProofError → Type 0
IsNodeFault x earlier duals number line e =
    ((e ≡ BadLine number) × ((w : Saying) → Says x.size line w → ⊥))
    ⊎ ((w : Saying) × Says x.size line w × IsSayingFault x earlier duals number w e)

-- after some but not all of the children of a split of x, the first of which begins at the line of this number, there is a fault
abbrev pub IsFaultAmong : Placement → Split → ℕ → List ℕ → (ℕ → ℕ → List ℕ → Type 0) → Type 0
IsFaultAmong x s number text P =
    (before : Nodes) × (rest : List ℕ) × (text ≡ trees_text before ++ rest) × AllHaveShape x s 0 before
    × (child_count before < free_count x) × P (child_count before) (line_after number (nodes_count before)) rest

-- the first fault of what should begin with the lines of a tree at x, with m facilities free: the first line has it, or that is a
-- split and, after some of its children, the next one has it
abbrev pub IsTreeTextFault : ℕ → Placement → ℕ → Bool → ℕ → List ℕ → ProofError → Type 0
IsTreeTextFault zero x earlier duals number text e = IsLineFault number text (IsNodeFault x earlier duals number) e
IsTreeTextFault (suc m) x earlier duals number text e =
    IsLineFault number text (IsNodeFault x earlier duals number) e
    ⊎ ((s : Split) × (rest : List ℕ) × (text ≡ line_text (letter s.side) (split_numbers s) ++ rest) × IsSplit x s
    × IsFaultAmong x s (line_after number 1) rest (λ c line rest. IsTreeTextFault m (child_of x s c) c (has_duals s.duals) line rest e))

-- the last line: `end`, with nothing after it
abbrev pub IsEndFault : ℕ → List ℕ → ProofError → Type 0
IsEndFault number text e =
    IsLineFault number text (λ line e. (e ≡ BadLine number) × (line ≢ codes "end")) e
    ⊎ ((e ≡ TrailingText (line_after number 1)) × (rest : List ℕ) × (rest ≢ []) × (text ≡ codes "end\n" ++ rest))

-- the text begins so, and what follows has a property
pub record Behind (front text : List ℕ) (P : List ℕ → Type 0) : Type 0 where
  pub rest : List ℕ
  pub is : text ≡ front ++ rest
  pub holds : P rest

-- the first fault from the tree on, which begins at this line, for a proof with this root
abbrev pub IsFaultFromTree : Placement → ℕ → List ℕ → ProofError → Type 0
IsFaultFromTree x number text e =
    IsTreeTextFault (free_count x) x 0 false number text e
    ⊎ ((t : Node) × HasShape x 0 false t × Behind (tree_text t) text (λ rest. IsEndFault (line_after number (node_count t)) rest e))

-- a bound that has a line: from -10^24 to 10^24, and below the cost
pub record IsBelow (c g : ℤ) : Type 0 where
  pub limited : IsLimited g
  pub less : g <ℤ c

-- the first line is not one of a bound
abbrev pub HasNoBound : List ℕ → Type 0
HasNoBound text = (line rest : List ℕ) (g : ℤ) → IsLine text line rest → IsNamed (codes "bound") line (g ∷ []) → ⊥

-- the first line is one of a bound, which is not below the cost, or is out of range
abbrev pub IsBoundLineFault : ℤ → ℕ → List ℕ → ProofError → Type 0
IsBoundLineFault c number text e =
    (e ≡ BadLine number) × (line rest : List ℕ) × (g : ℤ) × IsLine text line rest × IsNamed (codes "bound") line (g ∷ []) × (IsBelow c g → ⊥)

-- the first fault from the line of this number on, which may state a bound
abbrev pub IsFaultFromBound : Placement → ℤ → ℕ → List ℕ → ProofError → Type 0
IsFaultFromBound x c number text e =
    IsBoundLineFault c number text e
    ⊎ ((HasNoBound text × IsFaultFromTree x number text e)
    ⊎ ((g : ℤ) × IsBelow c g × Behind (line_text (codes "bound") (g ∷ [])) text (λ rest. IsFaultFromTree x (number + 1) rest e)))

-- the first line is not one of a root
abbrev pub HasNoRoot : List ℕ → Type 0
HasNoRoot text = (line rest : List ℕ) (zs : List ℤ) → IsLine text line rest → IsNamed (codes "node") line zs → ⊥

-- a root that has a line: it is nonempty
pub record HasRootLine (n : ℕ) (x : Placement) : Type 0 where
  pub root : IsRoot n x
  pub some : 0 < length x.facilities

-- the first line is one of a root, but its numbers do not form one
abbrev pub IsRootLineFault : ℕ → List ℕ → ProofError → Type 0
IsRootLineFault n text e =
    (e ≡ RootBad 5) × (line rest : List ℕ) × (zs : List ℤ) × IsLine text line rest × IsNamed (codes "node") line zs
    × ((x : Placement) → HasRootLine n x → zs ≢ by_turns x.facilities x.places)

-- the first fault from the fifth line on, which may state a root
abbrev pub IsFaultFromRoot : ℕ → ℤ → List ℕ → ProofError → Type 0
IsFaultFromRoot n c text e =
    IsRootLineFault n text e
    ⊎ ((HasNoRoot text × IsFaultFromBound (root_of n) c 5 text e)
    ⊎ ((x : Placement) × HasRootLine n x × Behind (line_text (codes "node") (by_turns x.facilities x.places)) text (λ rest. IsFaultFromBound x c 6 rest e)))

-- the first fault from the fourth line on
abbrev pub IsFaultFromPerm : ℕ → ℤ → List ℕ → ProofError → Type 0
IsFaultFromPerm n c text e =
    IsLineFault 4 text (IsPermFault n) e
    ⊎ ((p : List ℕ) × IsPerm p × (length p ≡ n) × Behind (line_text (codes "perm") (from_one p)) text (λ rest. IsFaultFromRoot n c rest e))

-- the first fault from the third line on
abbrev pub IsFaultFromCost : ℕ → List ℕ → ProofError → Type 0
IsFaultFromCost n text e =
    IsLineFault 3 text IsCostFault e
    ⊎ ((c : ℤ) × IsLimited c × Behind (line_text (codes "cost") (c ∷ [])) text (λ rest. IsFaultFromPerm n c rest e))

-- the first fault from the second line on
abbrev pub IsFaultFromSize : List ℕ → ProofError → Type 0
IsFaultFromSize text e =
    IsLineFault 2 text IsSizeFault e
    ⊎ ((n : ℕ) × (0 < n) × (n ≤ max_size) × Behind (line_text (codes "n") (pos n ∷ [])) text (λ rest. IsFaultFromCost n rest e))

-- the first fault of a text
abbrev pub IsTextFault : List ℕ → ProofError → Type 0
IsTextFault text e =
    IsLineFault 1 text IsHeaderFault e
    ⊎ Behind (line_text (codes "qapproof") (pos 1 ∷ [])) text (λ rest. IsFaultFromSize rest e)
