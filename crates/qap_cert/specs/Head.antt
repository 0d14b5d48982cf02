-- The lines before the tree in the text of a certificate, and how the tree completes the text.
use Rattle.std.specs.Prelude.{◌≡◌, ℕ, ◌++◌, [], List, length, ℤ, codes}
use Rattle.qap_cost.specs.Bijection.{IsPerm}
use Rattle.qap_cost.specs.Range.{IsLimited}
use Rattle.qap_lines.specs.Bound.{IsBoundFor}
use Rattle.qap_cert.specs.Certificate.{claim_of, tree_line}
use Rattle.qap_cert.specs.Shape.{HasShape}
use Rattle.qap_cert.specs.Text.{tree_text, IsCertificateText}
use Rattle.qap_cert.specs.TextFault.{IsFaultFromTree, IsTextFault}
use Rattle.qap_cert.specs.Tree.{Node}
use Rattle.qap_cert.specs.Version.{MayBound}
use Rattle.qap_cert.specs.declared.error.CertError.{CertError}
use Rattle.qap_cert.specs.declared.version.Version.{Version}

-- the lines before the tree state a version, a cost, a permutation and a bound; the tree's first line has this number, and
-- the rest begins with it: a tree and the end there make the text that of a certificate, and a fault there is one of the text
pub record HasHead (text : List ℕ) (v : Version) (c g : ℤ) (p : List ℕ) (line : ℕ) (rest : List ℕ) : Type 0 where
  pub cost : IsLimited c
  pub permutation : IsPerm p
  pub stated : MayBound v c g
  pub bound : IsBoundFor c g
  pub line_is : line ≡ tree_line c g
  pub whole : (t : Node) → HasShape v (length p) [] t → rest ≡ tree_text v t ++ codes "end\n" → IsCertificateText text (claim_of c g p t)
  pub fault : (e : CertError) → IsFaultFromTree v (length p) line rest e → IsTextFault text e
