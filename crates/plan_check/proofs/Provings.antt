-- What a bound of a proof shows of the arrangements that keep what is fixed.
use Rattle.std.proofs.Common.{◌≡◌, ◌∙◌, ℕ, List, length, ℤ, ◌≤ℤ◌, arith, sym}
use Rattle.std.specs.Prelude.{◌↔◌}
use Rattle.std.proofs.lemmas.Int.{ints}
use Rattle.qap_cost.specs.Instance.{Problem}
use Rattle.qap_cost.specs.Objective.{IsLeast, Permutes, cost_of}
use Rattle.qap_cost.specs.Placement.{Completes, Placement}
use Rattle.qap_proof.specs.Claim.{NoneCompletesForLess}
use Rattle.plan_check.specs.Proved.{IsLeastKept}

-- nodes that the same permutations complete have the same bounds
pub none_kept_for_less : (I : Problem) (x root : Placement) (g : ℤ) → ((p : List ℕ) → Completes x p ↔ Completes root p) → NoneCompletesForLess I root g → NoneCompletesForLess I x g
none_kept_for_less I x root g same none = λ p permutes completes. none p permutes ((same p).0 completes)

-- a permutation that costs no more than the bound costs least
pub least_kept : (I : Problem) (x : Placement) (p : List ℕ) (c g : ℤ) → Permutes I p → Completes x p → cost_of I p ≡ c → NoneCompletesForLess I x g → c ≤ℤ g → IsLeastKept I x c
least_kept I x p c g permutes completes costs none reaches = record {
  reached = (p, permutes, completes, costs);
  least = λ q other kept. let above : g ≤ℤ cost_of I q = none q other kept in omega (arith, ints, above, reaches);
}

-- where nothing is fixed, of all
pub least_of_all : (I : Problem) (x : Placement) (c : ℤ) → x.size ≡ I.size → length x.facilities ≡ 0 → IsLeastKept I x c → IsLeast I c
least_of_all I x c size empty kept =
    let (p, permutes, completes, costs) = kept.reached in
    record {
      reached = (p, permutes, costs);
      least = λ q other. kept.least q other (record {
        bijection = other.bijection;
        same_size = other.same_size ∙ sym size;
        agrees = λ t below. absurd (omega (arith, empty));
      });
    }
