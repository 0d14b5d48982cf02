-- The content of a node's line.
use Rattle.std.specs.Prelude.{◌≡◌, ℕ, ◌*◌, ◌<◌, List, length, take, ℤ, codes, Option, Some, None}
use Rattle.qap_cost.specs.Placement.{IsFree}
use Rattle.qap_cost.specs.Range.{AllLimited}
use Rattle.qap_lines.specs.Number.{IsNamed}
use Rattle.qap_cert.specs.TextFault.{IsSplitLine}
use Rattle.qap_cert.specs.declared.version.Version.{Version}

-- it is that of a split on this facility, which is free; or it is not that of a split
abbrev pub IsNodeLine : Version → ℕ → List ℕ → List ℕ → Option ℕ → Type 0
IsNodeLine v n placed line (Some f) = IsSplitLine v n placed line f × (length placed < n) × IsFree n placed f
IsNodeLine v n placed line None = (f : ℕ) → IsSplitLine v n placed line f → ⊥

-- it is that of a bound with a dual for each of m facilities and m locations; these are the first of them, as many as requested
pub record HasDuals (m wanted : ℕ) (line : List ℕ) (first : List ℤ) : Type 0 where
  pub numbers : List ℤ
  pub named : IsNamed (codes "b") line numbers
  pub counted : length numbers ≡ 2 * m
  pub limited : AllLimited numbers
  pub is : first ≡ take wanted numbers
