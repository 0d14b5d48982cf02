-- A certificate that has been read line by line.
use Rattle.std.proofs.Common.{◌≡◌, ℕ, ◌<◌, ◌≤◌, List, [], ◌∷◌, ◌++◌, length, ℤ, pos, inr, sym, ap, subst, ◌∙◌}
use Rattle.std.specs.Prelude.{codes}
use Rattle.qap_cost.specs.Bijection.{IsPerm}
use Rattle.qap_cost.specs.Range.{IsLimited}
use Rattle.qap_lines.specs.Bound.{IsBoundFor}
use Rattle.qap_cert.specs.Certificate.{claim_of, IsCertificate, tree_line}
use Rattle.qap_cert.specs.Head.{HasHead}
use Rattle.qap_cert.specs.Shape.{HasShape}
use Rattle.qap_io.specs.Number.{from_one}
use Rattle.qap_lines.specs.LineText.{line_text}
use Rattle.qap_cert.specs.Text.{bound_text, tree_text, IsCertificateText}
use Rattle.qap_cert.specs.TextFault.{IsFaultFromTree, IsFaultFromBound, IsTextFault}
use Rattle.qap_cert.specs.Tree.{Node}
use Rattle.qap_cert.specs.Version.{version_number, MayBound}
use Rattle.qap_cert.specs.declared.error.CertError.{CertError}
use Rattle.qap_cert.specs.declared.version.Version.{Version}
use Rattle.qap_cert.proofs.OneText.{certificate_parts}
use Rattle.qap_cert.proofs.Versions.{HasShape-second}

-- what stands in the lines of a text
pub record Lines (v : Version) (n : ℕ) (c g : ℤ) (p : List ℕ) (t : Node) : Type 0 where
  pub cost : IsLimited c
  pub permutation : IsPerm p
  pub size : length p ≡ n
  pub stated : MayBound v c g
  pub bound : IsBoundFor c g
  pub tree : HasShape v n [] t

-- what stands in such lines is a certificate
pub IsCertificate-read : (v : Version) (n : ℕ) (c g : ℤ) (p : List ℕ) (t : Node) → Lines v n c g p t → IsCertificate (claim_of c g p t)
IsCertificate-read v n c g p t h = record {
  cost = h.cost;
  bound = h.bound;
  permutation = h.permutation;
  tree = HasShape-second t v (length p) [] (subst (λ (k : ℕ). HasShape v k [] t) (sym h.size) h.tree);
}

-- a text of such lines in succession is that of the certificate
pub IsCertificateText-read : (v : Version) (n : ℕ) (c g : ℤ) (p : List ℕ) (t : Node) (text size cost perm behind : List ℕ) → Lines v n c g p t
    → text ≡ line_text (codes "qapcert") (pos (version_number v) ∷ []) ++ size → size ≡ line_text (codes "n") (pos n ∷ []) ++ cost → cost ≡ line_text (codes "cost") (c ∷ []) ++ perm
    → perm ≡ line_text (codes "perm") (from_one p) ++ behind → behind ≡ bound_text c g ++ (tree_text v t ++ codes "end\n") → IsCertificateText text (claim_of c g p t)
IsCertificateText-read v n c g p t text size cost perm behind h a b d e f = record {
  version = v;
  certificate = IsCertificate-read v n c g p t h;
  bound = h.stated;
  tree = subst (λ (k : ℕ). HasShape v k [] t) (sym h.size) h.tree;
  is =
      a
      ∙ ap (λ l. line_text (codes "qapcert") (pos (version_number v) ∷ []) ++ l)
      (b
      ∙ ap (λ (k : ℕ). line_text (codes "n") (pos k ∷ []) ++ cost) (sym h.size)
      ∙ ap (λ l. line_text (codes "n") (pos (length p) ∷ []) ++ l) (d ∙ ap (λ l. line_text (codes "cost") (c ∷ []) ++ l) (e ∙ ap (λ l. line_text (codes "perm") (from_one p) ++ l) f)))
      ∙ sym (certificate_parts v (claim_of c g p t));
}

-- a fault behind the permutation's line is one of the text
pub IsTextFault-behind : (v : Version) (n : ℕ) (c : ℤ) (p text size cost perm behind : List ℕ) (e : CertError) → 0 < n → n ≤ 256 → IsLimited c → IsPerm p → length p ≡ n
    → text ≡ line_text (codes "qapcert") (pos (version_number v) ∷ []) ++ size → size ≡ line_text (codes "n") (pos n ∷ []) ++ cost → cost ≡ line_text (codes "cost") (c ∷ []) ++ perm
    → perm ≡ line_text (codes "perm") (from_one p) ++ behind → IsFaultFromBound v n c behind e → IsTextFault text e
IsTextFault-behind v n c p text size cost perm behind e some small limited is_perm sized a b d f fault = inr (
  v,
  record {
    rest = size;
    is = a;
    holds =
        inr (
          n,
          some,
          small,
          record {
            rest = cost;
            is = b;
            holds =
                inr (c, limited, record { rest = perm; is = d; holds = inr (p, is_perm, sized, record { rest = behind; is = f; holds = fault }) });
          },
        );
  },
)

-- what stands before the tree
pub HasHead-read : (v : Version) (n : ℕ) (c g : ℤ) (p : List ℕ) (line : ℕ) (text size cost perm behind rest : List ℕ) → 0 < n → n ≤ 256 → IsLimited c → IsPerm p → length p ≡ n
    → text ≡ line_text (codes "qapcert") (pos (version_number v) ∷ []) ++ size → size ≡ line_text (codes "n") (pos n ∷ []) ++ cost → cost ≡ line_text (codes "cost") (c ∷ []) ++ perm
    → perm ≡ line_text (codes "perm") (from_one p) ++ behind → MayBound v c g → IsBoundFor c g → line ≡ tree_line c g → behind ≡ bound_text c g ++ rest
    → ((n : ℕ) (e : CertError) → IsFaultFromTree v n line rest e → IsFaultFromBound v n c behind e) → HasHead text v c g p line rest
HasHead-read v n c g p line text size cost perm behind rest some small limited is_perm sized a b d f stated bound line_is behind_is lift = record {
  cost = limited;
  permutation = is_perm;
  stated = stated;
  bound = bound;
  line_is = line_is;
  whole = λ t shape rest_is.
      IsCertificateText-read v n c g p t text size cost perm behind
      (record { cost = limited; permutation = is_perm; size = sized; stated = stated; bound = bound; tree = subst (λ (k : ℕ). HasShape v k [] t) sized shape })
      a b d f (behind_is ∙ ap (λ l. bound_text c g ++ l) rest_is);
  fault = λ e fault.
      IsTextFault-behind v n c p text size cost perm behind e some small limited is_perm sized a b d f
      (lift n e (subst (λ (k : ℕ). IsFaultFromTree v k line rest e) sized fault));
}
