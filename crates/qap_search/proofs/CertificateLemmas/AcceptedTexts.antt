-- The text of a finished search's certificate is accepted, as showing its cost to be the least one.
use Rattle.std.proofs.Common.{◌≡◌, ℕ, List, refl, sym, ap, subst, inl, inr, arith}
use Rattle.std.proofs.lemmas.Int.{ints}
use Rattle.qap_cost.specs.Instance.{Problem}
use Rattle.qap_cert.proofs.Faults.{certificate_fault}
use Rattle.qap_cert.proofs.OneText.{no_text_fault, one_certificate}
use Rattle.qap_cert.specs.Acceptance.{IsRefused, IsVerdictOf, ShowsVerdict}
use Rattle.qap_cert.specs.Certificate.{Claim}
use Rattle.qap_cert.specs.Fault.{IsFault}
use Rattle.qap_cert.specs.Text.{IsCertificateText, certificate_text}
use Rattle.qap_cert.specs.declared.acceptance.Verdict.{Verdict}
use Rattle.qap_cert.specs.declared.acceptance.Verdict.TheVariants.{Optimal, Gap}
use Rattle.qap_cert.specs.declared.error.CertError.{CertError}
use Rattle.qap_cert.specs.declared.version.Version.TheVariants.{Second}
use Rattle.tuple_match.specs.FieldValue.{FieldValue}
use Rattle.qap_search.specs.Law.CutTree.{IsCutTree}
use Rattle.qap_search.specs.Certificate.Finished.{IsAssembled}
use Rattle.qap_search.specs.Law.Replacement.{Best}
use Rattle.qap_search.specs.Law.Search.{from_root}
use Rattle.qap_search.proofs.CertificateLemmas.Certificates.{certificate_certifies}

-- the text of what was assembled, in version 2
text_of : (n : ℕ) (content : List (List FieldValue)) (C : Claim) → IsAssembled n content C → IsCertificateText (certificate_text Second C) C
text_of n content C a = record {
  version = Second;
  certificate = a.certificate;
  bound = tt;
  tree = a.certificate.tree;
  is = refl;
}

-- the text of the certificate of a cut tree without open nodes shows its cost to be the least one
pub text_shown : (I : Problem) (known : Best) (content : List (List FieldValue)) (commits : ℕ) (C : Claim) → IsCutTree (from_root I known) content commits → IsAssembled I.size content C → ShowsVerdict I (certificate_text Second C) (Optimal C.cost)
text_shown I known content commits C h a = record {
  certificate = C;
  is_text = text_of I.size content C a;
  certified = certificate_certifies I known content commits C h a;
  says = (a.closed, refl);
}

-- where a certificate's bound is its cost, its verdict is that the cost is optimal
only_optimal : (C : Claim) (v : Verdict) → C.bound ≡ C.cost → IsVerdictOf C v → v ≡ Optimal C.cost
only_optimal C (Optimal c) closed says = ap Optimal (sym says.1)
only_optimal C (Gap g c) closed says =
    let low = says.0 in
    let high = says.1 in
    let below = says.2 in
    absurd (omega (arith, ints))

-- it shows no other verdict
pub only_shown : (I : Problem) (known : Best) (content : List (List FieldValue)) (commits : ℕ) (C : Claim) (v : Verdict) → IsCutTree (from_root I known) content commits → IsAssembled I.size content C → ShowsVerdict I (certificate_text Second C) v → v ≡ Optimal C.cost
only_shown I known content commits C v h a shows =
    let same = one_certificate (certificate_text Second C) shows.certificate C shows.is_text (text_of I.size content C a) in
    only_optimal C v a.closed (subst (λ (D : Claim). IsVerdictOf D v) same shows.says)

-- no error refuses it
pub text_not_refused : (I : Problem) (known : Best) (content : List (List FieldValue)) (commits : ℕ) (C : Claim) (e : CertError) → IsCutTree (from_root I known) content commits → IsAssembled I.size content C → IsRefused I (certificate_text Second C) e → ⊥
text_not_refused I known content commits C e h a (inl fault) = no_text_fault (certificate_text Second C) C e (text_of I.size content C a) fault
text_not_refused I known content commits C e h a (inr has) =
    let same = one_certificate (certificate_text Second C) has.certificate C has.is_text (text_of I.size content C a) in
    certificate_fault I C e (subst (λ (D : Claim). IsFault I D e) same has.fault) (certificate_certifies I known content commits C h a)
