-- Permutations of the facilities and of the locations that change no cost take the completions of one child to those of another.
use Rattle.std.proofs.Common.{◌≡◌, ℕ, ◌<◌, List, length, get_or, ℤ, sym, ◌∙◌, ap, ap₂, arith}
use Rattle.std.specs.Prelude.{◌*ℤ◌}
use Rattle.qap_cost.specs.Bijection.{IsBijection}
use Rattle.qap_cost.specs.Instance.{Problem, entry}
use Rattle.qap_cost.specs.Objective.{pair_cost, row_cost}
use Rattle.qap_cost.specs.Sum.{sum_to}
use Rattle.qap_cost.specs.Placement.{Placement, IsPlacement, Completes}
use Rattle.qap_cost.proofs.Bijections.{inverse_of, inverse-IsBijection, sum_to-in_order}
use Rattle.qap_cost.proofs.Sums.{sum_to-same}
use Rattle.gilmore_lawler.proofs.Lists.{composed, length-composed, get_or-composed, IsBijection-composed}
use Rattle.qap_proof.proofs.Images.{HasFellow}
use Rattle.proof_tree.specs.Image.{TakesBoth}

-- p, between the facilities' permutation and the locations' permutation reversed
pub HasFellow-by_both : (I : Problem) (x : Placement) (s t p : List ℕ) (h g i k : ℕ) → IsPlacement x → I.size ≡ x.size → TakesBoth I x s t h g i k → Completes x p → get_or p i 0 ≡ k → h < x.size → g < x.size → HasFellow I x p h g
HasFellow-by_both I x s t p h g i k placement same both done stands h_in g_in =
    let n = x.size in
    let s_is = both.keeps_a.permutation.bijection in
    let t_is = both.keeps_b.permutation.bijection in
    let inverse = inverse_of t t_is in
    let back = inverse.0 in
    let back_count : length back ≡ n = inverse.1.same_length ∙ both.keeps_b.count in
    let back_is : IsBijection back = inverse-IsBijection t back t_is inverse.1 in
    let ps = composed p s in
    let ps_count : length ps ≡ n = length-composed p s ∙ both.keeps_a.count in
    let ps_is : IsBijection ps = IsBijection-composed p s done.bijection s_is (done.same_size ∙ sym both.keeps_a.count) in
    let q = composed back ps in
    let q_count : length q ≡ n = length-composed back ps ∙ ps_count in
    let s_in : (r : ℕ) → r < n → get_or s r 0 < n = λ r hr. omega (arith, both.keeps_a.count, s_is.within r (omega (arith, both.keeps_a.count))) in
    let p_in : (r : ℕ) → r < n → get_or p r 0 < n = λ r hr. omega (arith, done.same_size, done.bijection.within r (omega (arith, done.same_size))) in
    let at : (r : ℕ) → r < n → get_or q r 0 ≡ get_or back (get_or p (get_or s r 0) 0) 0 =
    λ r hr. get_or-composed back ps r (omega (arith, ps_count)) ∙ ap (λ l. get_or back l 0) (get_or-composed p s r (omega (arith, both.keeps_a.count))) in
    let q_in : (r : ℕ) → r < n → get_or q r 0 < n =
    λ r hr. omega (arith, at r hr, back_count, back_is.within (get_or p (get_or s r 0) 0) (omega (arith, back_count, p_in (get_or s r 0) (s_in r hr)))) in
    let again : (r : ℕ) → r < n → get_or t (get_or q r 0) 0 ≡ get_or p (get_or s r 0) 0 =
    λ r hr. ap (λ l. get_or t l 0) (at r hr) ∙ inverse.1.back (get_or p (get_or s r 0) 0) (omega (arith, both.keeps_b.count, p_in (get_or s r 0) (s_in r hr))) in
    let size : length s ≡ I.size = both.keeps_a.count ∙ sym same in
    let pair : (r u : ℕ) → r < I.size → u < I.size → pair_cost I q r u ≡ pair_cost I p (get_or s r 0) (get_or s u 0) =
    λ r u hr hu.
    let hr' : r < n = omega (arith, same) in
    let hu' : u < n = omega (arith, same) in
    let flow_kept : entry n I.a (get_or s r 0) (get_or s u 0) ≡ entry n I.a r u = both.keeps_a.keeps r u hr' hu' in
    let flow : entry I.size I.a r u ≡ entry I.size I.a (get_or s r 0) (get_or s u 0) =
    ap (λ (k : ℕ). entry k I.a r u) same ∙ sym flow_kept ∙ ap (λ (k : ℕ). entry k I.a (get_or s r 0) (get_or s u 0)) (sym same) in
    let kept : entry n I.b (get_or t (get_or q r 0) 0) (get_or t (get_or q u 0) 0) ≡ entry n I.b (get_or q r 0) (get_or q u 0) = both.keeps_b.keeps (get_or q r 0) (get_or q u 0) (q_in r hr') (q_in u hu') in
    let moved : entry n I.b (get_or t (get_or q r 0) 0) (get_or t (get_or q u 0) 0) ≡ entry n I.b (get_or p (get_or s r 0) 0) (get_or p (get_or s u 0) 0) = ap₂ (entry n I.b) (again r hr') (again u hu') in
    let way : entry I.size I.b (get_or q r 0) (get_or q u 0) ≡ entry I.size I.b (get_or p (get_or s r 0) 0) (get_or p (get_or s u 0) 0) =
    ap (λ (k : ℕ). entry k I.b (get_or q r 0) (get_or q u 0)) same ∙ (sym kept ∙ moved) ∙ ap (λ (k : ℕ). entry k I.b (get_or p (get_or s r 0) 0) (get_or p (get_or s u 0) 0)) (sym same) in
    ap₂ ◌*ℤ◌ flow way in
    let in_order : (f : ℕ → ℤ) → sum_to (λ r. f (get_or s r 0)) I.size ≡ sum_to f I.size =
    λ f. ap (sum_to (λ r. f (get_or s r 0))) (sym size) ∙ sum_to-in_order f s s_is ∙ ap (sum_to f) size in
    let row : (r : ℕ) → r < I.size → row_cost I q r ≡ row_cost I p (get_or s r 0) =
    λ r hr. sum_to-same (pair_cost I q r) (λ u. pair_cost I p (get_or s r 0) (get_or s u 0)) I.size (λ u hu. pair r u hr hu) ∙ in_order (pair_cost I p (get_or s r 0)) in
    record {
      other = q;
      completes = record {
        bijection = IsBijection-composed back ps back_is ps_is (back_count ∙ sym ps_count);
        same_size = q_count;
        agrees = λ r below.
            let f = get_or x.facilities r 0 in
            let l = get_or x.places r 0 in
            let f_in : f < n = placement.facilities.within r below in
            let l_in : l < n = placement.places.within r (omega (arith, placement.paired)) in
            let placed = both.placed r below in
            let there : get_or p (get_or s f 0) 0 ≡ get_or t l 0 = ap (λ a. get_or p a 0) (sym placed.facility) ∙ done.agrees placed.turn placed.placed ∙ placed.location in
            at f f_in ∙ ap (λ a. get_or back a 0) there ∙ inverse.1.there l (omega (arith, both.keeps_b.count));
      };
      cost = sum_to-same (row_cost I q) (λ r. row_cost I p (get_or s r 0)) I.size row ∙ in_order (row_cost I p);
      stands = at h h_in ∙ ap (λ a. get_or back a 0) (ap (λ a. get_or p a 0) both.facility ∙ stands ∙ sym both.location) ∙ inverse.1.there g (omega (arith, both.keeps_b.count));
    }
