-- The least of what leaves show, one tree after another.
use Rattle.std.proofs.Common.{◌≡◌, ℕ, zero, suc, ◌+◌, ◌<◌, ◌⊎◌, inl, inr, List, [], ◌∷◌, ◌++◌, length, get_or, drop, sym, ap, ap₂, subst, refl, ◌∙◌, arith}
use Rattle.std.proofs.Math.Seq.{drop-cons}
use Rattle.std.proofs.lemmas.Int.{ints}
use Rattle.std.proofs.lemmas.List.Elements.{All-append, All-cons, All-nil, Contains-append_cases, Contains-append_left, Contains-append_right}
use Rattle.std.specs.Prelude.{ℤ, ◌≤ℤ◌, Contains}
use Rattle.qap_cost.specs.Instance.{Problem}
use Rattle.qap_cost.specs.Placement.{Placement, placing}
use Rattle.qap_cert.specs.Shape.{AllHaveShape}
use Rattle.qap_cert.specs.Tree.{Node, Nodes, node, node_of, nodes_of}
use Rattle.qap_cert.specs.declared.tree.Tree.{Tree}
use Rattle.qap_cert.specs.declared.version.Version.TheVariants.{Second}
use Rattle.qap_search.specs.Certificate.LeafBounds.{IsLeastOf, shown, shown_by_all}

-- the least of one number, and of two
pub least_alone : (a : ℤ) → IsLeastOf (a ∷ []) a
least_alone a = record {
  one = (0, omega arith, refl);
  least = All-cons (λ (x : ℤ). a ≤ℤ x) a [] (omega (arith, ints)) (All-nil (λ (x : ℤ). a ≤ℤ x));
}

-- the least of two numbers is the first one where that is at most the second
pub least_first : (a z r : ℤ) → r ≡ a → a ≤ℤ z → IsLeastOf (a ∷ z ∷ []) r
least_first a z r is less =
    subst (IsLeastOf (a ∷ z ∷ [])) (sym is)
    (record { one = (0, omega arith, refl); least = All-cons (λ (x : ℤ). a ≤ℤ x) a (z ∷ []) (omega (arith, ints)) (All-cons (λ (x : ℤ). a ≤ℤ x) z [] less (All-nil (λ (x : ℤ). a ≤ℤ x))) })

-- it is the second one where that is at most the first
pub least_second : (a z r : ℤ) → r ≡ z → z ≤ℤ a → IsLeastOf (a ∷ z ∷ []) r
least_second a z r is less =
    subst (IsLeastOf (a ∷ z ∷ [])) (sym is)
    (record { one = (1, omega arith, refl); least = All-cons (λ (x : ℤ). z ≤ℤ x) a (z ∷ []) less (All-cons (λ (x : ℤ). z ≤ℤ x) z [] (omega (arith, ints)) (All-nil (λ (x : ℤ). z ≤ℤ x))) })

contained_alone : (b g : ℤ) → Contains (b ∷ []) g → g ≡ b
contained_alone b g (zero, less, is) = sym is
contained_alone b g (suc k, less, is) = absurd (omega arith)

-- the least of some and of others, by way of the least of the first
pub least_joined : (a : ℤ) (xs : List ℤ) (b : ℤ) (ys : List ℤ) (g : ℤ) → IsLeastOf (a ∷ xs) b → IsLeastOf (b ∷ ys) g → IsLeastOf (a ∷ (xs ++ ys)) g
least_joined a xs b ys g first rest = record {
  one =
      elim (Contains-append_cases (b ∷ []) ys g rest.one) as (λ (_ : Contains (b ∷ []) g ⊎ Contains ys g). Contains (a ∷ (xs ++ ys)) g) [
        | inl here ↦ Contains-append_left (a ∷ xs) ys g (subst (Contains (a ∷ xs)) (sym (contained_alone b g here)) first.one)
        | inr there ↦ Contains-append_right (a ∷ xs) ys g there
      ];
  least =
      let P : ℤ → Type 0 = λ x. g ≤ℤ x in
      let low : g ≤ℤ b = rest.least 0 b (omega arith) in
      All-append P (a ∷ xs) ys
      (λ k d below. let above = first.least k d below in omega (arith, ints, low, above))
      (λ k d below. rest.least (suc k) d (omega arith));
}

-- of all children those from number c on are still to be asked; what is the least of what was found and of what they show is the least
-- of all, where the leaves have the duals of a proof's shape
pub record HaveShown (I : Problem) (x : Placement) (f : ℕ) (least found : ℤ) (ks : List ℕ) (all : Nodes) (ls : List ℕ) (rest : Nodes) : Type 0 where
  pub shape : AllHaveShape Second x.size (x.facilities ++ f ∷ []) rest
  pub whole : (g : ℤ) → IsLeastOf (found ∷ shown_by_all I x f ls rest) g → IsLeastOf (least ∷ shown_by_all I x f ks all) g

-- before the first child nothing has been found but the number to begin with
pub HaveShown-none : (I : Problem) (x : Placement) (f : ℕ) (least : ℤ) (ks : List ℕ) (all : Nodes) → AllHaveShape Second x.size (x.facilities ++ f ∷ []) all → HaveShown I x f least least ks all ks all
HaveShown-none I x f least ks all shape = record { shape = shape; whole = λ g h. h }

-- the child of number i is the first that is still to be asked
pub HaveShown-at : (I : Problem) (x : Placement) (f : ℕ) (least found : ℤ) (ks : List ℕ) (ts : List Tree) (i : ℕ) (child : Tree) → i < length ts → i < length ks → child ≡ get_or ts i child → HaveShown I x f least found ks (nodes_of ts) (drop i ks) (nodes_of (drop i ts)) → HaveShown I x f least found ks (nodes_of ts) (get_or ks i 0 ∷ drop (i + 1) ks) (node (node_of child) (nodes_of (drop (i + 1) ts)))
HaveShown-at I x f least found ks ts i child in_ts in_ks is h =
    let k = get_or ks i 0 in
    let one : suc i ≡ i + 1 = omega arith in
    let at_k : drop i ks ≡ k ∷ drop (i + 1) ks = drop-cons ks i 0 in_ks ∙ ap (λ (j : ℕ). k ∷ drop j ks) one in
    let at_t : drop i ts ≡ child ∷ drop (i + 1) ts = drop-cons ts i child in_ts ∙ ap₂ (λ (t : Tree) (j : ℕ). t ∷ drop j ts) (sym is) one in
    subst (λ (us : List Tree). HaveShown I x f least found ks (nodes_of ts) (k ∷ drop (i + 1) ks) (nodes_of us)) at_t
    (subst (λ (js : List ℕ). HaveShown I x f least found ks (nodes_of ts) js (nodes_of (drop i ts))) at_k h)

-- with the least of what was found and of what child c shows, one child more has been asked
pub HaveShown-more : (I : Problem) (x : Placement) (f : ℕ) (least found after : ℤ) (ks : List ℕ) (all : Nodes) (k : ℕ) (ls : List ℕ) (t : Node) (rest : Nodes) → HaveShown I x f least found ks all (k ∷ ls) (node t rest) → IsLeastOf (found ∷ shown I (placing x f k) t) after → HaveShown I x f least after ks all ls rest
HaveShown-more I x f least found after ks all k ls t rest h shows = record {
  shape = h.shape.1;
  whole = λ g others. h.whole g (least_joined found (shown I (placing x f k) t) after (shown_by_all I x f ls rest) g shows others);
}

-- once all children, of a proof's shape, have been asked, what was found is the least of all that they show
pub HaveShown-all : (I : Problem) (x : Placement) (f : ℕ) (least found : ℤ) (ks : List ℕ) (all : Nodes) (ls : List ℕ) (ts : List Tree) → ls ≡ [] → ts ≡ [] → HaveShown I x f least found ks all ls (nodes_of ts) → IsLeastOf (least ∷ shown_by_all I x f ks all) found
HaveShown-all I x f least found ks all ls ts no_ks no_ts h =
    let end = subst (λ (us : List Tree). HaveShown I x f least found ks all [] (nodes_of us)) no_ts (subst (λ (js : List ℕ). HaveShown I x f least found ks all js (nodes_of ts)) no_ks h) in
    end.whole found (least_alone found)
