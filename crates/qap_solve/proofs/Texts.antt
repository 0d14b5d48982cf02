-- The texts that are written for a certificate.
use Rattle.std.proofs.Common.{◌≡◌, ℕ, Bool, List, ℤ, refl, sym, subst, ◌++◌, ap, Option, Some, None, arith}
use Rattle.qap_cost.specs.Instance.{Problem}
use Rattle.qap_cost.specs.Objective.{IsLeast, NoneCostsLess, Permutes}
use Rattle.qap_cert.specs.Certificate.{Claim, Certifies, IsCertificate}
use Rattle.qap_cert.specs.Text.{IsCertificateText, certificate_text}
use Rattle.qap_cert.specs.declared.version.Version.TheVariants.{Second}
use Rattle.shared_space.specs.Limit.{IsWithin}
use Rattle.qap_search.specs.Runs.Answer.{CertifiesLeast, IsLeastAnswer, LeavesBest, accepted_of}
use Rattle.qap_search.specs.Law.Search.{whole}
use Rattle.qap_search.specs.Certificate.Stopped.{CertifiesStopped}
use Rattle.qap_search.specs.declared.runs.answer.Least.{Least}
use Rattle.qap_text.specs.Input.{HasInstance, Input}
use Rattle.qap_text.specs.Gap.{gap_line}
use Rattle.qap_text.specs.WrittenSolution.{solution_text}
use Rattle.qap_solve.specs.Outcome.{IsLeastFound}
use Rattle.qap_solve.specs.Solving.{Solves}
use Rattle.qap_solve.specs.Solution.{IsGapProofText, IsGapText, IsLeastText, IsOutput, IsProofText, ShowsGap, ShowsLeast}

permuted : (I : Problem) (C : Claim) → IsCertificate C → Certifies I C → Permutes I C.permutation
permuted I C shape certified = record { bijection = shape.permutation.bijection; same_size = certified.same_size }

certificate_is : (C : Claim) → IsCertificate C → IsCertificateText (certificate_text Second C) C
certificate_is C shape = record { version = Second; certificate = shape; bound = tt; tree = shape.tree; is = refl }

-- the text of a permutation of least cost is what is to be written
pub least_text : (I : Problem) (nodes : Option ℕ) (p : List ℕ) (c : ℤ) → IsLeastFound I nodes p c → IsLeastText I nodes (solution_text c p)
least_text I nodes p c found = record {
  permutation = p;
  permutes = found.permutes;
  least = record { reached = (p, found.permutes, refl); least = subst (NoneCostsLess I) (sym found.costs) found.least };
  is = ap (λ c. solution_text c p) (sym found.costs);
  decided = found.decided;
  left = subst (LeavesBest (whole I) found.decided p) (sym found.costs) found.left;
  within = found.within;
}

-- where the certificate's bound is its cost, its text is a proof of that
pub proof_text : (I : Problem) (nodes : Option ℕ) (C : Claim) → IsCertificate C → ShowsLeast I nodes C → IsLeast I C.cost → IsProofText I nodes (certificate_text Second C)
proof_text I nodes C shape by least = record {
  certificate = C;
  is = refl;
  shown = record { certificate = C; is_text = certificate_is C shape; certified = by.certified; says = (by.closed, refl) };
  least = least;
  by = by;
}

-- a certificate whose nodes are the accepted commits is within their limit
pub shows_least : (I : Problem) (nodes : Option ℕ) (commits : ℕ) (C : Claim) → CertifiesLeast I commits C → IsWithin nodes commits → ShowsLeast I nodes C
shows_least I None commits C least within = record { certified = least.certified; closed = least.closed; within = tt }
shows_least I (Some limit) commits C least within = let same = least.nodes_are in record { certified = least.certified; closed = least.closed; within = omega arith }

-- what a search answers is what it has found
pub least_found : (I : Problem) (workers : ℕ) (nodes : Option ℕ) (a : Least) → IsLeastAnswer I workers nodes a → IsLeastFound I nodes a.permutation a.cost
least_found I workers nodes a h = record {
  permutes = h.permutes;
  costs = h.costs;
  least = h.least;
  decided = accepted_of a.reports.items;
  left = h.left;
  within = h.within;
}

-- and where it comes of a search that was stopped, a permutation with a bound, and a proof of the bound
shows_gap : (I : Problem) (nodes : ℕ) (C : Claim) → CertifiesStopped I nodes C → NoneCostsLess I C.bound → ShowsGap I nodes C
shows_gap I nodes C stopped none = record { stopped = stopped; permutes = permuted I C stopped.closes.certificate stopped.certified; none_less = none }

-- the line of a stopped search's bound and cost, and behind it its permutation's text, if none costs less than its
-- bound
pub gap_text : (I : Problem) (nodes : ℕ) (C : Claim) → CertifiesStopped I nodes C → NoneCostsLess I C.bound → IsGapText I nodes (gap_line C.bound C.cost ++ solution_text C.cost C.permutation)
gap_text I nodes C stopped none = record { certificate = C; shown = shows_gap I nodes C stopped none; is = refl }

-- the text of its certificate, if none costs less than its bound
pub gap_proof_text : (I : Problem) (nodes : ℕ) (C : Claim) → CertifiesStopped I nodes C → NoneCostsLess I C.bound → IsGapProofText I nodes (certificate_text Second C)
gap_proof_text I nodes C stopped none = record {
  certificate = C;
  shown = shows_gap I nodes C stopped none;
  is = refl;
  is_text = certificate_is C stopped.closes.certificate;
}

-- what is written is what the instance that was read is solved as
pub solved_as : {R : Type 0} (s : Input R) (nodes : Option ℕ) (cert asked : Bool) (I : Problem) (rest text : List ℕ) → HasInstance s I rest → cert ≡ asked → IsOutput asked I nodes text → Solves s nodes cert text
solved_as s nodes cert asked I rest text input same h =
    record { instance = I; rest = rest; input = input; holds = subst (λ (b : Bool). IsOutput b I nodes text) (sym same) h }
