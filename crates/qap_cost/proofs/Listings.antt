-- What a listing of all permutations has found out about the least cost.
use Rattle.std.proofs.Common.{◌≡◌, ℕ, ◌-◌, ◌<◌, ◌≤◌, suc, subst, List, [], ◌∷◌, length, get_or, refl, sym, ◌∙◌, ap, ap₂, arith, inl, inr, Global, ◌*◌, ◌^◌, to_z, of_z}
use Rattle.std.specs.Int.{w128}
use Rattle.std.specs.Iterator.{AlwaysYields, Yields}
use Rattle.std.specs.Iterator.Runs.{WholeRun, YieldsRun}
use Rattle.std.specs.Prelude.{Option, Some, None, Result, Ok, Err, IfOk, IfSome, IsSomeAnd, MatchOption, ◌⊎◌, ℤ, ◌≤ℤ◌, vec_len, Vec, unsigned_abs}
use Rattle.std.specs.List.{range_with_len}
use Rattle.std.proofs.lemmas.List.FromFn.{length-range_with_len, get_or-range_with_len}
use Rattle.std.proofs.lemmas.Int.{ints, to_z-of_z, fits_signed_from_abs}
use Rattle.itertools.specs.declared.combinations.Permutations.{Permutations}
use Rattle.itertools.specs.Odometer.{numbers, ways}
use Rattle.itertools.specs.Pool.{permutation_left, unranked, ClonesAt, pool_steps, reads_ranks}
use Rattle.qap_cost.specs.Instance.{Problem, IsInstance}
use Rattle.qap_cost.specs.Bijection.{IsPerm}
use Rattle.qap_cost.specs.Objective.{IsLeast, Permutes, cost_of}
use Rattle.qap_cost.proofs.Orders.{IsIn, rank_ways, each_listed, listed-IsBijection, unranked-below, numbers-IsBijection, length-numbers}

-- ---- the start of the listing

-- an iterator that always yields ys yields just these
drained : {S A : Type 0} (steps : S → Option A → S → Type 0) (s t u : S) (xs ys : List A) → AlwaysYields steps (λ x. x) s ys → Yields steps s xs t → steps t None u → xs ≡ ys
drained steps s t u [] [] a y e = refl
drained steps s t u [] (z ∷ ys) a y e = absurd (a.0 u (subst (λ w. steps w None u) (sym y) e))
drained steps s t u (x ∷ xs) [] a y e = absurd (a x y.0 y.1)
drained steps s t u (x ∷ xs) (z ∷ ys) a y e =
    let r = a.1 x y.0 y.1 in
    ap₂ (λ w ws. w ∷ ws) r.0 (drained steps y.0 t u xs ys r.1 y.2 e)

whole_items : {S A : Type 0} (steps : S → Option A → S → Type 0) (s : S) (xs ys : List A) → AlwaysYields steps (λ x. x) s ys → WholeRun steps s (λ p. xs ≡ p.items) → xs ≡ ys
unfolding YieldsRun
whole_items steps s xs ys a w =
    let p = w.0 in
    let ran = p.gave.0 in
    let last = ran.2 w.2 in
    w.3 ∙ drained steps s ran.0 last.0 p.items ys a (subst (λ z. Yields steps z p.items ran.0) w.1 ran.1) last.1

-- the pool is what its source yields
pub pool_is : {T E S A : Type 0} (steps : S → Option A → S → Type 0) (s : S) (ys : List A) (read : T → List A) (r : Result T E) → AlwaysYields steps (λ x. x) s ys → IfOk r (λ t. WholeRun steps s (λ p. read t ≡ p.items)) → IfOk r (λ t. read t ≡ ys)
pool_is steps s ys read (Ok t) a w = whole_items steps s (read t) ys a w
pool_is steps s ys read (Err e) a w = tt

-- the ranks that are listed, by the size of the pool
pub places_are : {E : Type 0} (n : ℕ) (r : Result (Permutations ℕ Global) E) → IfOk r (λ s. s.pool.items ≡ range_with_len 0 n) → IfOk r (λ s. permutation_left s ≡ ways (λ _. 0) (λ q. vec_len s.pool - length q) n [])
    → IfOk r (λ s. permutation_left s ≡ rank_ways n n [])
places_are n (Ok s) pool left =
    let count : vec_len s.pool ≡ n = omega (arith, s.pool.ok.0, ap length pool, length-range_with_len 0 n) in
    left ∙ ap (λ m. ways (λ _. 0) (λ q. m - length q) n []) count
places_are n (Err e) pool left = tt

-- ---- the loop

-- each permutation is still to come, or costs no less than the best one so far
pub record Covers (I : Problem) (s : Permutations ℕ Global) (best : Option (ℤ × List ℕ)) : Type 0 where
  pub pool : s.pool.items ≡ range_with_len 0 I.size
  pub listed : (ds : List ℕ) → IsIn (permutation_left s) ds → IsIn (rank_ways I.size I.size []) ds
  pub reached : IfSome best (λ b. (b.0 ≡ cost_of I b.1) × Permutes I b.1)
  pub least : (p : List ℕ) → Permutes I p → ((ds : List ℕ) × IsIn (permutation_left s) ds × (unranked (numbers 0 I.size) ds ≡ p)) ⊎ IsSomeAnd best (λ b. b.0 ≤ℤ cost_of I p)

-- what came at a step is the permutation of the next ranks
pub record Came (I : Problem) (s t : Permutations ℕ Global) (xs : List ℕ) : Type 0 where
  pub ranks : List ℕ
  pub same_pool : s.pool.items ≡ t.pool.items
  pub next : permutation_left s ≡ ranks ∷ permutation_left t
  pub given : xs ≡ unranked (numbers 0 I.size) ranks
  pub permutes : Permutes I xs

clones_same : (clones : ℕ → ℕ → Type 0) → ((a b : ℕ) → clones a b → b ≡ a) → (n : ℕ) (pool ds vs : List ℕ) → pool ≡ range_with_len 0 n → ((i : ℕ) → i < length ds → get_or ds i 0 < n) → ClonesAt clones pool ds vs → vs ≡ ds
clones_same clones same n pool [] [] is below h = refl
clones_same clones same n pool (d ∷ ds) (v ∷ vs) is below h =
    let small : d < n = below 0 (omega arith) in
    ap₂ (λ x xs. x ∷ xs)
    (same (get_or pool d v) v h.0 ∙ ap (λ xs. get_or xs d v) is ∙ get_or-range_with_len 0 n d v small ∙ omega arith)
    (clones_same clones same n pool ds vs is (λ i h. below (suc i) (omega arith)) h.1)
clones_same clones same n pool [] (v ∷ vs) is below h = elim h [ ]
clones_same clones same n pool (d ∷ ds) [] is below h = elim h [ ]

-- a permutation that the listing yields at a step is that of the next ranks
pub Came-at : {E : Type 0} (clones : ℕ → ℕ → Type 0) → ((a b : ℕ) → clones a b → b ≡ a) → (I : Problem) (s t : Permutations ℕ Global) (best : Option (ℤ × List ℕ)) (item : Result (Vec ℕ Global) E) (v : Vec ℕ Global) → Covers I s best → item ≡ Ok v → pool_steps permutation_left (λ u. u.pool.items) (reads_ranks clones) s (Some item) t → Came I s t v.items
Came-at {E} clones same I s t best item v h is steps =
    let at : pool_steps {E = E} permutation_left (λ u. u.pool.items) (reads_ranks clones) s (Some (Ok v)) t =
    subst (λ r. pool_steps permutation_left (λ u. u.pool.items) (reads_ranks clones) s (Some r) t) is steps in
    let ds = at.1.0 in
    let there : IsIn (rank_ways I.size I.size []) ds = h.listed ds (subst (λ l. IsIn l ds) (sym at.1.1) (inl refl)) in
    let count : length s.pool.items ≡ I.size = ap length h.pool ∙ length-range_with_len 0 I.size in
    let read : ClonesAt clones s.pool.items (unranked (numbers 0 I.size) ds) v.items =
    subst (λ m. ClonesAt clones s.pool.items (unranked (numbers 0 m) ds) v.items) count at.1.2 in
    let given : v.items ≡ unranked (numbers 0 I.size) ds =
    clones_same clones same I.size s.pool.items (unranked (numbers 0 I.size) ds) v.items h.pool (unranked-below I.size ds there) read in
    let is = listed-IsBijection I.size ds there in
    record {
      ranks = ds;
      same_pool = at.0;
      next = at.1.1;
      given = given;
      permutes = subst (Permutes I) (sym given) (record { bijection = is.0; same_size = is.1 });
    }

-- before the first step, with no best one yet, each permutation is still to come
pub Covers-none : (I : Problem) (s : Permutations ℕ Global) → s.pool.items ≡ range_with_len 0 I.size → permutation_left s ≡ rank_ways I.size I.size [] → Covers I s None
Covers-none I s pool left = record {
  pool = pool;
  listed = λ ds h. subst (λ l. IsIn l ds) left h;
  reached = tt;
  least = λ p is.
      let r = each_listed I.size p is.bijection is.same_size in
      inl (r.0, subst (λ l. IsIn l r.0) (sym left) r.1, r.2);
}

-- a cost that a permutation has
abbrev pub Reached : Problem → ℤ × List ℕ → Type 0
Reached I b = (b.0 ≡ cost_of I b.1) × Permutes I b.1

abbrev IsCheaper : Option (ℤ × List ℕ) → ℤ × List ℕ → ℤ × List ℕ → Type 0
IsCheaper best next new = MatchOption best (new ≡ next) (λ b. ((new ≡ b) × (b.0 ≤ℤ next.0)) ⊎ ((new ≡ next) × (next.0 ≤ℤ b.0)))

-- the cheaper one is reached, and is below both
abbrev Below : Problem → Option (ℤ × List ℕ) → ℤ × List ℕ → ℤ × List ℕ → Type 0
Below I best next new = Reached I new × (new.0 ≤ℤ next.0) × ((x : ℤ) → IsSomeAnd best (λ b. b.0 ≤ℤ x) → new.0 ≤ℤ x)

below_both : (I : Problem) (best : Option (ℤ × List ℕ)) (next new : ℤ × List ℕ) → IsCheaper best next new → IfSome best (Reached I) → Reached I next → Below I best next new
below_both I None next new e old is =
    let cost : new.0 ≡ next.0 = ap (λ (b : ℤ × List ℕ). b.0) e in
    (subst (Reached I) (sym e) is, omega (arith, ints), λ x h. absurd h)
below_both I (Some b) next new (inl e) old is =
    let cost : new.0 ≡ b.0 = ap (λ (b : ℤ × List ℕ). b.0) e.0 in
    let less : b.0 ≤ℤ next.0 = e.1 in
    (subst (Reached I) (sym e.0) old, omega (arith, ints), λ x h. omega (arith, ints))
below_both I (Some b) next new (inr e) old is =
    let cost : new.0 ≡ next.0 = ap (λ (b : ℤ × List ℕ). b.0) e.0 in
    let less : next.0 ≤ℤ b.0 = e.1 in
    (subst (Reached I) (sym e.0) is, omega (arith, ints), λ x h. omega (arith, ints))

-- after a step the cheaper of the best one so far and the one that came is the best one
pub Covers-more : (I : Problem) (s t : Permutations ℕ Global) (best : Option (ℤ × List ℕ)) (xs : List ℕ) (next new : ℤ × List ℕ) → Covers I s best → Came I s t xs → next.0 ≡ cost_of I next.1 → next.1 ≡ xs → IsCheaper best next new → Covers I t (Some new)
Covers-more I s t best xs next new h came cost is cheaper =
    let b = below_both I best next new cheaper h.reached (cost, subst (Permutes I) (sym is) came.permutes) in
    record {
      pool = sym came.same_pool ∙ h.pool;
      listed = λ ds there. h.listed ds (subst (λ l. IsIn l ds) (sym came.next) (inr there));
      reached = b.0;
      least = λ p permutes.
          elim (h.least p permutes) [
            | inl later ↦
                let there : (came.ranks ≡ later.0) ⊎ IsIn (permutation_left t) later.0 = subst (λ l. IsIn l later.0) came.next later.1 in
                elim there [
                  | inl e ↦
                      let same : next.1 ≡ p = is ∙ came.given ∙ ap (unranked (numbers 0 I.size)) e ∙ later.2 in
                      let costs : next.0 ≡ cost_of I p = cost ∙ ap (cost_of I) same in
                      let below : new.0 ≤ℤ next.0 = b.1 in
                      inr (subst (λ c. new.0 ≤ℤ c) costs below)
                  | inr rest ↦ inl (later.0, rest, later.2)
                ]
            | inr known ↦ inr (b.2 (cost_of I p) known)
          ];
    }

-- ---- the end

-- at the end of the listing the best one is a permutation with its cost, which is the least
pub Covers-all : (I : Problem) (s : Permutations ℕ Global) (best : Option (ℤ × List ℕ)) (b : ℤ × List ℕ) → Covers I s best → permutation_left s ≡ [] → best ≡ Some b → Reached I b × IsLeast I b.0
Covers-all I s best b h end is =
    let reached : Reached I b = subst (λ (o : Option (ℤ × List ℕ)). IfSome o (Reached I)) is h.reached in (
      reached,
      record {
        reached = (b.1, reached.1, sym reached.0);
        least = λ p permutes.
            elim (h.least p permutes) [
              | inl later ↦ absurd (subst (λ l. IsIn l later.0) end later.1)
              | inr known ↦ subst (λ (o : Option (ℤ × List ℕ)). IsSomeAnd o (λ c. c.0 ≤ℤ cost_of I p)) is known
            ];
      },
    )

-- at the end of the listing there is a best one
pub Covers-some : (I : Problem) (s : Permutations ℕ Global) (best : Option (ℤ × List ℕ)) → Covers I s best → permutation_left s ≡ [] → best ≡ None → ⊥
Covers-some I s best h end is =
    elim (h.least (numbers 0 I.size) (record { bijection = numbers-IsBijection I.size; same_size = length-numbers 0 I.size })) [
      | inl later ↦ subst (λ l. IsIn l later.0) end later.1
      | inr known ↦ subst (λ (o : Option (ℤ × List ℕ)). IsSomeAnd o (λ c. c.0 ≤ℤ cost_of I (numbers 0 I.size))) is known
    ]

-- what came at a step is a permutation of 1 to 256 numbers
pub Came-IsPerm : (I : Problem) (s t : Permutations ℕ Global) (xs : List ℕ) → IsInstance I → Came I s t xs → IsPerm xs
Came-IsPerm I s t xs is came = record {
  bijection = came.permutes.bijection;
  positive = omega (arith, came.permutes.same_size, is.positive);
  small = omega (arith, came.permutes.same_size, is.small);
}

-- a cost is read as it was written
pub reads_cost : (x : ℤ) → unsigned_abs x ≤ 65536 * 10 ^ 18 → to_z w128 (of_z w128 x) ≡ x
reads_cost x h = to_z-of_z w128 x (fits_signed_from_abs w128 x (omega arith))
