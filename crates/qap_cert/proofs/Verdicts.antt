-- What a certified verdict says is so.
use Rattle.std.proofs.Common.{◌≡◌, ◌∙◌, ℕ, List, length, ℤ, subst}
use Rattle.qap_cost.specs.Bijection.{IsPerm}
use Rattle.qap_cost.specs.Instance.{Problem, IsInstance}
use Rattle.qap_cost.specs.Placement.{root_of}
use Rattle.qap_cost.specs.Objective.{IsLeast, NoneCostsLess, cost_of}
use Rattle.qap_cert.proofs.Validity.{Certifies-NoneCostsLess, Certifies-IsLeast}
use Rattle.qap_cert.specs.Acceptance.{ShowsVerdict, IsVerdictOf, IsSo}
use Rattle.qap_cert.specs.Certificate.{Claim, claim_of, Certifies}
use Rattle.qap_cert.specs.Head.{HasHead}
use Rattle.qap_cert.specs.Tree.{Node}
use Rattle.qap_cert.specs.Valid.{Valid}
use Rattle.qap_cert.specs.Walk.{EndsBehindTree}
use Rattle.qap_cert.specs.declared.acceptance.Verdict.{Verdict}
use Rattle.qap_cert.specs.declared.acceptance.Verdict.TheVariants.{Optimal, Gap}
use Rattle.qap_cert.specs.declared.version.Version.{Version}

-- the verdict of a certified claim is so where no permutation costs less than its bound
pub IsSo-certified : (I : Problem) (C : Claim) (v : Verdict) → IsPerm C.permutation → Certifies I C → NoneCostsLess I C.bound → (C.bound ≡ C.cost → IsLeast I C.cost) → IsVerdictOf C v → IsSo I v
IsSo-certified I C (Optimal c) perm h bound least says = subst (IsLeast I) says.1 (least says.0)
IsSo-certified I C (Gap g c) perm h bound least says = (
  (C.permutation, record { bijection = perm.bijection; same_size = h.same_size }, h.cost ∙ says.1),
  subst (NoneCostsLess I) says.0 bound,
  says.2,
)

-- what a tree shows that was found valid as its lines came
pub ShowsVerdict-judged : (I : Problem) (text : List ℕ) (v : Version) (c g : ℤ) (p : List ℕ) (line : ℕ) (rest : List ℕ) (verdict : Verdict) → HasHead text v c g p line rest → length p ≡ I.size → cost_of I p ≡ c
    → EndsBehindTree v (length p) rest (Valid I g (root_of I.size)) → ((q : List ℕ) (t : Node) → IsVerdictOf (claim_of c g q t) verdict) → ShowsVerdict I text verdict
ShowsVerdict-judged I text v c g p line rest verdict head size cost h says = record {
  certificate = claim_of c g p h.tree;
  is_text = head.whole h.tree h.shape h.is;
  certified = record { same_size = size; cost = cost; tree = h.holds };
  says = says p h.tree;
}

-- a verdict that a text shows is so
pub IsSo-shown : (I : Problem) (text : List ℕ) (verdict : Verdict) → IsInstance I → ShowsVerdict I text verdict → IsSo I verdict
IsSo-shown I text verdict instance h =
    let C = h.certificate in
    let shape = h.is_text.certificate in
    IsSo-certified I C verdict shape.permutation h.certified (Certifies-NoneCostsLess I C instance h.certified) (Certifies-IsLeast I C instance shape h.certified) h.says
