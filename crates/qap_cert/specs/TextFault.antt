-- What prevents a text from being that of a certificate: the first fault in order of lines.
use Rattle.std.specs.Prelude.{◌≡◌, ◌≢◌, ℕ, suc, zero, ◌+◌, ◌-◌, ◌*◌, ◌<◌, ◌≤◌, ◌⊎◌, ◌++◌, ◌∷◌, [], List, length, ℤ, pos, codes, ◌<ℤ◌}
use Rattle.qap_cost.specs.Limits.{max_size}
use Rattle.qap_cost.specs.Bijection.{IsPerm}
use Rattle.qap_cost.specs.Placement.{IsFree}
use Rattle.qap_cost.specs.Range.{AllLimited, IsLimited}
use Rattle.qap_lines.specs.Line.{line_after, HasNoLine, IsLine}
use Rattle.qap_lines.specs.Number.{IsNamed}
use Rattle.qap_cert.specs.Shape.{HasShape, AllHaveShape, child_count}
use Rattle.qap_cert.specs.Version.{version_number, MayName, split_numbers}
use Rattle.qap_cert.specs.declared.version.Version.{Version}
use Rattle.qap_cert.specs.declared.version.Version.TheVariants.{First, Second}
use Rattle.qap_io.specs.Number.{from_one}
use Rattle.qap_lines.specs.LineText.{line_text}
use Rattle.qap_cert.specs.Text.{tree_text, trees_text}
use Rattle.qap_cert.specs.Tree.{Node, Nodes, node_count, nodes_count}
use Rattle.qap_cert.specs.declared.error.CertError.{CertError}
use Rattle.qap_cert.specs.declared.error.CertError.TheVariants.{BadHeader, BadVersion, BadLine, Truncated, TrailingText, PermBad, SplitTooDeep, FacilityTaken, DualCount, DualRange}

-- the text has no whole line, or its first line has a fault
abbrev pub IsLineFault : ℕ → List ℕ → (List ℕ → CertError → Type 0) → CertError → Type 0
IsLineFault number text P e = ((e ≡ Truncated number) × HasNoLine text) ⊎ ((line rest : List ℕ) × IsLine text line rest × P line e)

-- the first line: `qapcert` and a positive number, which must be 1 or 2
abbrev pub IsHeaderFault : List ℕ → CertError → Type 0
IsHeaderFault line BadHeader = (n : ℕ) → 0 < n → IsNamed (codes "qapcert") line (pos n ∷ []) → ⊥
IsHeaderFault line BadVersion = (n : ℕ) × (2 < n) × IsNamed (codes "qapcert") line (pos n ∷ [])
IsHeaderFault line _ = ⊥

-- the second line: `n` and a number from 1 to 256
abbrev pub IsSizeFault : List ℕ → CertError → Type 0
IsSizeFault line e = (e ≡ BadLine 2) × ((n : ℕ) → 0 < n → n ≤ max_size → IsNamed (codes "n") line (pos n ∷ []) → ⊥)

-- the third line: `cost` and a number from -10^24 to 10^24
abbrev pub IsCostFault : List ℕ → CertError → Type 0
IsCostFault line e = (e ≡ BadLine 3) × ((c : ℤ) → IsLimited c → IsNamed (codes "cost") line (c ∷ []) → ⊥)

-- the fourth line: `perm` and n numbers, which must list each of 1 to n once
abbrev pub IsPermFault : ℕ → List ℕ → CertError → Type 0
IsPermFault n line (BadLine at) = (at ≡ 4) × ((zs : List ℤ) → length zs ≡ n → IsNamed (codes "perm") line zs → ⊥)
IsPermFault n line (PermBad at) = (at ≡ 4) × (zs : List ℤ) × (length zs ≡ n) × IsNamed (codes "perm") line zs × ((p : List ℕ) → IsPerm p → zs ≢ from_one p)
IsPermFault n line _ = ⊥

-- the line is that of a split on this facility: `s`, in version 2 with the facility, which is one of n
pub record IsSplitLine (v : Version) (n : ℕ) (placed line : List ℕ) (f : ℕ) : Type 0 where
  pub named : IsNamed (codes "s") line (split_numbers v f)
  pub allowed : MayName v n placed f

-- the line of a node with these of n facilities placed: a split's, if some are free and its facility is among them;
-- or `b` and a number from -10^24 to 10^24 for each free facility and each free location
abbrev pub IsNodeFault : Version → ℕ → List ℕ → ℕ → List ℕ → CertError → Type 0
IsNodeFault v n placed number line (BadLine at) =
    (at ≡ number) × ((f : ℕ) → IsSplitLine v n placed line f → ⊥) × ((zs : List ℤ) → IsNamed (codes "b") line zs → ⊥)
IsNodeFault v n placed number line (SplitTooDeep at) = (at ≡ number) × (f : ℕ) × IsSplitLine v n placed line f × (n ≤ length placed)
IsNodeFault v n placed number line (FacilityTaken at) =
    (at ≡ number) × (f : ℕ) × IsSplitLine v n placed line f × (length placed < n) × (IsFree n placed f → ⊥)
IsNodeFault v n placed number line (DualCount at) =
    (at ≡ number) × (zs : List ℤ) × IsNamed (codes "b") line zs × (length zs ≢ 2 * (n - length placed))
IsNodeFault v n placed number line (DualRange at) =
    (at ≡ number) × (zs : List ℤ) × IsNamed (codes "b") line zs × (length zs ≡ 2 * (n - length placed)) × (AllLimited zs → ⊥)
IsNodeFault v n placed number line _ = ⊥

-- after some but not all of the children of a split, below which these facilities are placed and whose first begins at
-- the line of this number, there is a fault
abbrev pub IsFaultAmong : Version → ℕ → List ℕ → ℕ → List ℕ → (ℕ → List ℕ → Type 0) → Type 0
IsFaultAmong v n placed number text P =
    (before : Nodes) × (rest : List ℕ) × (text ≡ trees_text v before ++ rest) × AllHaveShape v n placed before
    × (child_count before + length placed ≤ n) × P (line_after number (nodes_count before)) rest

-- the first fault of what should begin with the lines of a tree with m free facilities, besides these placed ones: the first
-- line has it, or that is a split and, after some of its children, the next one has it
abbrev pub IsTreeTextFault : Version → ℕ → ℕ → List ℕ → ℕ → List ℕ → CertError → Type 0
IsTreeTextFault v n zero placed number text e = IsLineFault number text (IsNodeFault v n placed number) e
IsTreeTextFault v n (suc m) placed number text e =
    IsLineFault number text (IsNodeFault v n placed number) e
    ⊎ ((f : ℕ) × (rest : List ℕ) × (text ≡ line_text (codes "s") (split_numbers v f) ++ rest) × MayName v n placed f
    × IsFree n placed f
    × IsFaultAmong v n (placed ++ f ∷ []) (line_after number 1) rest (λ line rest. IsTreeTextFault v n m (placed ++ f ∷ []) line rest e))

-- the last line: `end`, with nothing after it
abbrev pub IsEndFault : ℕ → List ℕ → CertError → Type 0
IsEndFault number text e =
    IsLineFault number text (λ line e. (e ≡ BadLine number) × (line ≢ codes "end")) e
    ⊎ ((e ≡ TrailingText (line_after number 1)) × (rest : List ℕ) × (rest ≢ []) × (text ≡ codes "end\n" ++ rest))

-- the text begins so, and what follows has a property
pub record Behind (front text : List ℕ) (P : List ℕ → Type 0) : Type 0 where
  pub rest : List ℕ
  pub is : text ≡ front ++ rest
  pub holds : P rest

-- the first fault from the tree on, which begins at this line, for a certificate of size n
abbrev pub IsFaultFromTree : Version → ℕ → ℕ → List ℕ → CertError → Type 0
IsFaultFromTree v n number text e =
    IsTreeTextFault v n n [] number text e
    ⊎ ((t : Node) × HasShape v n [] t × Behind (tree_text v t) text (λ rest. IsEndFault (line_after number (node_count t)) rest e))

-- a bound that has a line: from -10^24 to 10^24, and below the cost
pub record IsBelow (c g : ℤ) : Type 0 where
  pub limited : IsLimited g
  pub less : g <ℤ c

-- the first line is not one of a bound
abbrev pub HasNoBound : List ℕ → Type 0
HasNoBound text = (line rest : List ℕ) (g : ℤ) → IsLine text line rest → IsNamed (codes "bound") line (g ∷ []) → ⊥

-- the first line is one of a bound, which is not below the cost, or is out of range
abbrev pub IsBoundLineFault : ℤ → List ℕ → CertError → Type 0
IsBoundLineFault c text e =
    (e ≡ BadLine 5) × (line rest : List ℕ) × (g : ℤ) × IsLine text line rest × IsNamed (codes "bound") line (g ∷ []) × (IsBelow c g → ⊥)

-- the first fault from the fifth line on: in version 2 that may state a bound
abbrev pub IsFaultFromBound : Version → ℕ → ℤ → List ℕ → CertError → Type 0
IsFaultFromBound First n c text e = IsFaultFromTree First n 5 text e
IsFaultFromBound Second n c text e =
    IsBoundLineFault c text e
    ⊎ ((HasNoBound text × IsFaultFromTree Second n 5 text e)
    ⊎ ((g : ℤ) × IsBelow c g × Behind (line_text (codes "bound") (g ∷ [])) text (λ rest. IsFaultFromTree Second n 6 rest e)))

-- the first fault from the fourth line on
abbrev pub IsFaultFromPerm : Version → ℕ → ℤ → List ℕ → CertError → Type 0
IsFaultFromPerm v n c text e =
    IsLineFault 4 text (IsPermFault n) e
    ⊎ ((p : List ℕ) × IsPerm p × (length p ≡ n) × Behind (line_text (codes "perm") (from_one p)) text (λ rest. IsFaultFromBound v n c rest e))

-- the first fault from the third line on
abbrev pub IsFaultFromCost : Version → ℕ → List ℕ → CertError → Type 0
IsFaultFromCost v n text e =
    IsLineFault 3 text IsCostFault e
    ⊎ ((c : ℤ) × IsLimited c × Behind (line_text (codes "cost") (c ∷ [])) text (λ rest. IsFaultFromPerm v n c rest e))

-- the first fault from the second line on
abbrev pub IsFaultFromSize : Version → List ℕ → CertError → Type 0
IsFaultFromSize v text e =
    IsLineFault 2 text IsSizeFault e
    ⊎ ((n : ℕ) × (0 < n) × (n ≤ max_size) × Behind (line_text (codes "n") (pos n ∷ [])) text (λ rest. IsFaultFromCost v n rest e))

-- the first fault of a text
abbrev pub IsTextFault : List ℕ → CertError → Type 0
IsTextFault text e =
    IsLineFault 1 text IsHeaderFault e
    ⊎ ((v : Version) × Behind (line_text (codes "qapcert") (pos (version_number v) ∷ [])) text (λ rest. IsFaultFromSize v rest e))
