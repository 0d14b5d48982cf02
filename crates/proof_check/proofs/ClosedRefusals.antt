-- What a child reaches without a text is what its value with the least numbers of its form does.
use Rattle.std.proofs.Common.{◌≡◌, ℕ, ◌<◌, List, length, ℤ, ◌∙◌, ap, inl, inr, arith}
use Rattle.std.specs.Prelude.{◌↔◌, ◌+ℤ◌, ◌≤ℤ◌}
use Rattle.std.specs.Int.{int_max}
use Rattle.std.proofs.lemmas.Int.{by_lt_z, clamps, ints}
use Rattle.qap_cost.specs.Instance.{Problem}
use Rattle.qap_cost.specs.Matrix.{total}
use Rattle.pair_duals.specs.Reduced.{Form, AreLeast, AreLeastOfRows, IsChild, at, count_of}
use Rattle.proof_tree.specs.Valid.{IsClosed, ReachesBound, Under}
use Rattle.proof_check.specs.Judge.{IsValueWithMinima}
use Rattle.proof_check.proofs.SameForms.{one_child, one_least_of_columns, one_least_of_rows, one_list_of_least}

-- the least numbers of a form have one sum
one_sum : (R S : Form) (u v w x : List ℤ) → count_of R ≡ count_of S → ((r c : ℕ) → r < count_of R → c < count_of R → at R r c ≡ at S r c) → AreLeastOfRows (count_of R) R.entries u → AreLeast (count_of R) R.entries u v
    → AreLeastOfRows (count_of S) S.entries w → AreLeast (count_of S) S.entries w x → (total u +ℤ total v) ≡ (total w +ℤ total x)
one_sum R S u v w x count same rows columns others below =
    let us : u ≡ w = one_least_of_rows (count_of R) (count_of S) R.entries S.entries u w count same rows others in
    let vs : v ≡ x = one_least_of_columns (count_of S) S.entries w v x (one_list_of_least (count_of R) (count_of S) R.entries S.entries u w v count us same columns) below in
    ap (λ (l : List ℤ). total l +ℤ total v) us ∙ ap (λ (l : List ℤ). total w +ℤ total l) vs

reaches_more : (step : ℕ) (bound : ℤ) (scale : ℕ) (a b : ℤ) → a ≤ℤ b → ReachesBound step bound scale a → ReachesBound step bound scale b
reaches_more step bound scale a b most reaches k less = let past = reaches k less in omega (arith, ints, past, most)

-- the greater of two numbers
max_first : (a b : ℤ) → a ≤ℤ int_max a b
max_first a b = by_lt_z a b (λ less. omega (arith, ints, clamps, less)) (λ most. omega (arith, ints, clamps, most))

max_second : (a b : ℤ) → b ≤ℤ int_max a b
max_second a b = by_lt_z a b (λ less. omega (arith, ints, clamps, less)) (λ most. omega (arith, ints, clamps, most))

-- a child without a text reaches what its value does, with its least numbers if they add to it
pub closed_is : (I : Problem) (step : ℕ) (now : Under) (h g : ℕ) (R : Form) (z bound : ℤ) → h < count_of now.form → IsChild I now.duals now.form h g R → IsValueWithMinima R z → IsClosed I step bound now h g ↔ ReachesBound step bound now.duals.scale z
closed_is I step now h g R z bound hh child value = (there, back)
  where
    there : IsClosed I step bound now h g → ReachesBound step bound now.duals.scale z
    there (inl alone) =
        let first = max_first R.value (R.value +ℤ (total value.u +ℤ total value.v)) in
        let own = child.value in
        let is = value.is in
        reaches_more step bound now.duals.scale (now.form.value +ℤ at now.form h g) z (omega (arith, ints, first, own, is)) alone
    there (inr more) =
        let same = one_child I now.duals now.form more.form R h g hh more.child child in
        let sums = one_sum more.form R more.u more.v value.u value.v (ap length same.rows) same.entries more.rows more.columns value.rows value.columns in
        let second = max_second R.value (R.value +ℤ (total value.u +ℤ total value.v)) in
        let own = same.value in
        let is = value.is in
        reaches_more step bound now.duals.scale (more.form.value +ℤ (total more.u +ℤ total more.v)) z (omega (arith, ints, second, own, sums, is)) more.reaches

    back : ReachesBound step bound now.duals.scale z → IsClosed I step bound now h g
    back reaches =
        by_lt_z R.value (R.value +ℤ (total value.u +ℤ total value.v))
        (λ less.
        let is = value.is in
        inr (record { form = R; u = value.u; v = value.v; child = child; rows = value.rows; columns = value.columns; reaches = reaches_more step bound now.duals.scale z (R.value +ℤ (total value.u +ℤ total value.v)) (omega (arith, ints, clamps, is, less)) reaches }))
        (λ most.
        let is = value.is in
        let own = child.value in
        inl (reaches_more step bound now.duals.scale z (now.form.value +ℤ at now.form h g) (omega (arith, ints, clamps, is, most, own)) reaches))
