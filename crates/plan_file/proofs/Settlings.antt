-- One facility brought to a location.
use Rattle.std.proofs.Common.{◌≡◌, ◌≢◌, ◌∙◌, ℕ, ◌<◌, List, get_or, length, ap, arith, pos, refl, replicate, subst, sym}
use Rattle.qap_cost.specs.Bijection.{IsPerm}
use Rattle.qap_cost.specs.Instance.{Problem}
use Rattle.qap_cost.proofs.Bijections.{inverse-IsBijection, inverse_of}
use Rattle.qap_improve.specs.Exchange.{exchanging}
use Rattle.qap_improve.proofs.Exchanges.{Permutes-exchanging, exchanging-first, exchanging-other, length-exchanging}
use Rattle.plan_file.specs.Settling.{IsSettled}

-- each location is that of some facility
pub stands_somewhere : (p : List ℕ) (k : ℕ) → IsPerm p → k < length p → ((i : ℕ) → i < length p → get_or p i 0 ≢ k) → ⊥
stands_somewhere p k perm below nowhere =
    let (q, inverse) = inverse_of p perm.bijection in
    let inside = (inverse-IsBijection p q perm.bijection inverse).within k (omega (arith, below, inverse.same_length)) in
    nowhere (get_or q k 0) (omega (arith, inside, inverse.same_length)) (inverse.back k below)

-- a problem of that size, whose permutations they are
of_size : ℕ → Problem
of_size n = record { size = n; a = replicate 0 (pos 0); b = replicate 0 (pos 0) }

IsPerm-exchanging : (p : List ℕ) (r s : ℕ) → r ≢ s → r < length p → s < length p → IsPerm p → IsPerm (exchanging p r s)
unfolding of_size
IsPerm-exchanging p r s apart first second perm =
    let kept = Permutes-exchanging (of_size (length p)) p r s apart first second (record { bijection = perm.bijection; same_size = refl }) in
    let long = length-exchanging p r s in
    record {
      bijection = kept.bijection;
      positive = omega (arith, long, perm.positive);
      small = omega (arith, long, perm.small);
    }

-- an exchange settles
pub settled_by_exchange : (p new : List ℕ) (f k other : ℕ) → IsPerm p → f < length p → other < length p → get_or p other 0 ≡ k → f ≢ other → new ≡ exchanging p f other → IsSettled p f k new
settled_by_exchange p new f k other perm first second at apart is =
    subst (IsSettled p f k) (sym is) (record {
      permutation = IsPerm-exchanging p f other apart first second perm;
      long = length-exchanging p f other;
      settled = exchanging-first p f other apart first ∙ at;
      kept = λ i differs elsewhere. exchanging-other p f other i differs (λ same. elsewhere (ap (λ j. get_or p j 0) same ∙ at));
      same = λ here. absurd (apart (perm.bijection.distinct f other first second (here ∙ sym at)));
    })

-- a facility that stands at its location is settled there without a move
pub settled_already : (p : List ℕ) (f k : ℕ) → IsPerm p → get_or p f 0 ≡ k → IsSettled p f k p
settled_already p f k perm at = record {
  permutation = perm;
  long = refl;
  settled = at;
  kept = λ i other elsewhere. refl;
  same = λ here. refl;
}
