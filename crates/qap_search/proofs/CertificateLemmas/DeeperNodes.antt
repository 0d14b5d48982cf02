-- When a list of numbers is that of a node below another.
use Rattle.std.proofs.Common.{◌≡◌, ◌≢◌, ◌↔◌, ℕ, zero, suc, ◌+◌, ◌-◌, ◌*◌, Bool, false, IsTrue, List, [], ◌∷◌, ◌++◌, length, get_or, ℤ, pos, refl, sym, ap, ap₂, subst, ◌∙◌, arith}
use Rattle.std.proofs.lemmas.Bool.{false≢true}
use Rattle.qap_cost.specs.Placement.{Placement, placing}
use Rattle.qap_search.specs.Certificate.TreeBuilding.{BeginsByTurns, EndsWith}
use Rattle.number_list.specs.Turns.{by_turns}
use Rattle.qap_search.specs.Tuples.Piece.{node_list}
use Rattle.qap_search.proofs.CertificateLemmas.Keys.{node_list-placing}

-- facility and location alternately, and two numbers behind them
abbrev then_two : List ℕ → List ℕ → ℕ → ℕ → List ℤ
then_two fs ks f k = by_turns fs ks ++ (pos f ∷ pos k ∷ [])

length-then_two : (fs ks : List ℕ) (f k : ℕ) → length ks ≡ length fs → length (then_two fs ks f k) ≡ 2 * length fs + 2
length-then_two [] [] f k h = omega arith
length-then_two [] (l ∷ ks) f k h = absurd (omega arith)
length-then_two (g ∷ fs) [] f k h = absurd (omega arith)
length-then_two (g ∷ fs) (l ∷ ks) f k h = let rest = length-then_two fs ks f k (omega arith) in omega arith

begins-then_two : (fs ks : List ℕ) (f k : ℕ) → length ks ≡ length fs → BeginsByTurns fs ks (then_two fs ks f k)
begins-then_two [] ks f k h t less = absurd (omega arith)
begins-then_two (g ∷ fs) [] f k h t less = absurd (omega arith)
begins-then_two (g ∷ fs) (l ∷ ks) f k h zero less = (refl, refl)
begins-then_two (g ∷ fs) (l ∷ ks) f k h (suc t) less =
    let rest = begins-then_two fs ks f k (omega arith) t (omega arith) in
    let at_f : 2 * suc t ≡ suc (suc (2 * t)) = omega arith in
    let at_k : 2 * suc t + 1 ≡ suc (suc (2 * t + 1)) = omega arith in
    let list = then_two (g ∷ fs) (l ∷ ks) f k in
    (ap (λ (j : ℕ). get_or list j (pos 0)) at_f ∙ rest.0, ap (λ (j : ℕ). get_or list j (pos 0)) at_k ∙ rest.1)

-- the numbers at the end, counted from the front
ends-then_two : (fs ks : List ℕ) (f k : ℕ) → length ks ≡ length fs → (get_or (then_two fs ks f k) (2 * length fs) (pos 0) ≡ pos f) × (get_or (then_two fs ks f k) (2 * length fs + 1) (pos 0) ≡ pos k)
ends-then_two [] [] f k h = (refl, refl)
ends-then_two [] (l ∷ ks) f k h = absurd (omega arith)
ends-then_two (g ∷ fs) [] f k h = absurd (omega arith)
ends-then_two (g ∷ fs) (l ∷ ks) f k h =
    let rest = ends-then_two fs ks f k (omega arith) in
    let at_f : 2 * length (g ∷ fs) ≡ suc (suc (2 * length fs)) = omega arith in
    let at_k : 2 * length (g ∷ fs) + 1 ≡ suc (suc (2 * length fs + 1)) = omega arith in
    let list = then_two (g ∷ fs) (l ∷ ks) f k in
    (ap (λ (j : ℕ). get_or list j (pos 0)) at_f ∙ rest.0, ap (λ (j : ℕ). get_or list j (pos 0)) at_k ∙ rest.1)

then_two-from : (fs ks : List ℕ) (f k : ℕ) (list : List ℤ) → length ks ≡ length fs → length list ≡ 2 * length fs + 2 → BeginsByTurns fs ks list → get_or list (2 * length fs) (pos 0) ≡ pos f → get_or list (2 * length fs + 1) (pos 0) ≡ pos k → list ≡ then_two fs ks f k
then_two-from fs ks f k [] h long begins one two = absurd (omega arith)
then_two-from fs ks f k (x ∷ []) h long begins one two = absurd (omega arith)
then_two-from [] (l ∷ ks) f k (x ∷ y ∷ zs) h long begins one two = absurd (omega arith)
then_two-from (g ∷ fs) [] f k (x ∷ y ∷ zs) h long begins one two = absurd (omega arith)
then_two-from [] [] f k (x ∷ y ∷ z ∷ zs) h long begins one two = absurd (omega arith)
then_two-from [] [] f k (x ∷ y ∷ []) h long begins one two = ap₂ (λ (a b : ℤ). a ∷ b ∷ []) one two
then_two-from (g ∷ fs) (l ∷ ks) f k (x ∷ y ∷ zs) h long begins one two =
    let list = x ∷ y ∷ zs in
    let first = begins zero (omega arith) in
    let at_f : suc (suc (2 * length fs)) ≡ 2 * length (g ∷ fs) = omega arith in
    let at_k : suc (suc (2 * length fs + 1)) ≡ 2 * length (g ∷ fs) + 1 = omega arith in
    let rest = then_two-from fs ks f k zs (omega arith) (omega arith)
    (λ t less.
    let later = begins (suc t) (omega arith) in
    let to_f : suc (suc (2 * t)) ≡ 2 * suc t = omega arith in
    let to_k : suc (suc (2 * t + 1)) ≡ 2 * suc t + 1 = omega arith in
    (ap (λ (j : ℕ). get_or list j (pos 0)) to_f ∙ later.0, ap (λ (j : ℕ). get_or list j (pos 0)) to_k ∙ later.1))
    (ap (λ (j : ℕ). get_or list j (pos 0)) at_f ∙ one) (ap (λ (j : ℕ). get_or list j (pos 0)) at_k ∙ two) in
    ap₂ (λ (a b : ℤ). a ∷ b ∷ zs) first.0 first.1 ∙ ap (λ (xs : List ℤ). pos g ∷ pos l ∷ xs) rest

-- a list is a child's where it is as long, begins with its parent's and ends in its facility and location
pub child_test : (x : Placement) (f k : ℕ) (list : List ℤ) (b : Bool) → length x.places ≡ length x.facilities → length list ≡ 2 * length x.facilities + 2 → BeginsByTurns x.facilities x.places list → IsTrue b ↔ EndsWith f k list → IsTrue b ↔ (list ≡ node_list (placing x f k))
child_test x f k list b paired long begins test =
    let d = length x.facilities in
    let at_f : 2 * d ≡ length list - 2 = omega arith in
    let at_k : 2 * d + 1 ≡ length list - 1 = omega arith in
    let is = node_list-placing x f k paired in (
      (λ h.
          let ends = test.0 h in
          then_two-from x.facilities x.places f k list paired long begins
          (ap (λ (j : ℕ). get_or list j (pos 0)) at_f ∙ ends.0) (ap (λ (j : ℕ). get_or list j (pos 0)) at_k ∙ ends.1) ∙ sym is),
      (λ e.
          let same = e ∙ is in
          let ends = ends-then_two x.facilities x.places f k paired in
          test.1 (
            ap (λ (j : ℕ). get_or list j (pos 0)) (sym at_f) ∙ ap (λ (xs : List ℤ). get_or xs (2 * d) (pos 0)) same ∙ ends.0,
            ap (λ (j : ℕ). get_or list j (pos 0)) (sym at_k) ∙ ap (λ (xs : List ℤ). get_or xs (2 * d + 1) (pos 0)) same ∙ ends.1,
          )),
    )

-- one of another length is none, and so is one that begins with another's
pub no_child_length : (x : Placement) (f k : ℕ) (list : List ℤ) → length x.places ≡ length x.facilities → length list ≢ 2 * length x.facilities + 2 → IsTrue false ↔ (list ≡ node_list (placing x f k))
no_child_length x f k list paired other = (
  (λ h. absurd (false≢true h)),
  (λ e. absurd (other (ap length (e ∙ node_list-placing x f k paired) ∙ length-then_two x.facilities x.places f k paired))),
)

-- a list that doesn't begin with the facilities and locations of a node is that of none of its children
pub no_child_begins : (x : Placement) (f k : ℕ) (list : List ℤ) → length x.places ≡ length x.facilities → (BeginsByTurns x.facilities x.places list → ⊥) → IsTrue false ↔ (list ≡ node_list (placing x f k))
no_child_begins x f k list paired other = (
  (λ h. absurd (false≢true h)),
  (λ e. absurd (other (subst (BeginsByTurns x.facilities x.places) (sym (e ∙ node_list-placing x f k paired)) (begins-then_two x.facilities x.places f k paired)))),
)
