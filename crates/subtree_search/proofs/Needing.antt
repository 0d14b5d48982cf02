-- Children that a split has to try.
use Rattle.std.proofs.Common.{◌≡◌, ℕ, ◌<◌, List, sym, subst, arith}
use Rattle.std.specs.Prelude.{ℤ, pos, ◌+ℤ◌, ◌-ℤ◌, ◌≤ℤ◌, ◌<ℤ◌, Bool, true, false, All, IfSome, Option, Some, None}
use Rattle.std.proofs.lemmas.Int.{ints, by_lt_z}
use Rattle.std.proofs.lemmas.List.Elements.{All-push, All-weaker}
use Rattle.qap_cost.specs.Instance.{Problem}
use Rattle.qap_cost.specs.Matrix.{total}
use Rattle.qap_cost.specs.Placement.{Placement}
use Rattle.pair_duals.specs.PairDuals.{Duals}
use Rattle.pair_duals.specs.Reduced.{Form, IsChild, IsStart, at, count_of}
use Rattle.proof_tree.proofs.Multiples.{scaled-monotone}
use Rattle.subtree_search.specs.Closed.{HasLeast, StaysWithin, threshold_of}
use Rattle.subtree_search.specs.Drawn.{IsDrawn}
use Rattle.subtree_search.specs.Lines.{IsLineOf, child_on, column_on, row_on}
use Rattle.subtree_search.specs.Needs.{IsLeft, IsLined, NeedsTrial, StaysOpen}
use Rattle.subtree_search.specs.Opens.{Adds, Becomes}
use Rattle.subtree_search.specs.declared.line.Line.{Line}
use Rattle.subtree_search.specs.declared.split.OpenChild.{OpenChild}
use Rattle.subtree_search.proofs.Progress.{column_within, row_within}

-- where a test for what is above the threshold fails
pub not_above : (passes : Bool) (t x : ℤ) → (t <ℤ x → passes ≡ true) → passes ≡ false → x ≤ℤ t
not_above passes t x above fails = by_lt_z t x (λ less. let passed = above less in absurd (cc)) (λ most. most)

-- a form that its least entries do not close
pub StaysWithin-left : (R : Form) (s t : ℤ) (closes : Bool) → s ≡ t → HasLeast R s closes → closes ≡ false → StaysWithin R t
StaysWithin-left R s t closes same has fails = record { u = has.u; v = has.v; rows = has.rows; columns = has.columns; within = subst (λ (z : ℤ). (R.value +ℤ (total has.u +ℤ total has.v)) ≤ℤ z) same (has.left fails) }

-- the threshold of a higher cost is no lower
threshold-higher : (scale step : ℕ) (c d : ℤ) → c ≤ℤ d → threshold_of scale step c ≤ℤ threshold_of scale step d
threshold-higher scale step c d more = scaled-monotone scale (c -ℤ pos step) (d -ℤ pos step) (omega (arith, ints, more))

-- the child of number k on the line, with its own form before a line and its value after that
pub StaysOpen-child : (I : Problem) (D : Duals) (step : ℕ) (R S : Form) (line : Line) (k h g : ℕ) (c d value : ℤ) (child : OpenChild) → h ≡ row_on line k → g ≡ column_on line k → IsChild I D R h g S → StaysWithin S (threshold_of D.scale step c)
    → child.value ≡ value → value ≤ℤ threshold_of D.scale step d → d ≤ℤ c → StaysOpen I D step R (row_on line k) (column_on line k) c child
StaysOpen-child I D step R S line k h g c d value child row column made within is low less =
    let higher = threshold-higher D.scale step d c less in
    record {
      own = S;
      made = subst (λ (a : ℕ). IsChild I D R a (column_on line k) S) row (subst (λ (b : ℕ). IsChild I D R h b S) column made);
      within = within;
      value = omega (arith, ints, is, low, higher);
    }

-- what a trial leaves open was not pruned
pub left_by : (I : Problem) (D : Duals) (step scale : ℕ) (y : Placement) (R : Form) (line : Line) (k h g : ℕ) (c d : ℤ) (o : Option OpenChild) → IsLineOf (count_of R) line → k < count_of R → h ≡ row_on line k → g ≡ column_on line k
    → (R.value +ℤ at R h g) ≤ℤ threshold_of D.scale step c → Becomes I scale y (child_on y line k) d o → IfSome o (StaysOpen I D step R (row_on line k) (column_on line k) c) → IfSome o (IsLeft I D step y R c)
left_by I D step scale y R line k h g c d None on below row column kept become stays = stays
left_by I D step scale y R line k h g c d (Some child) on below row column kept become stays = record {
  h = row_on line k;
  g = column_on line k;
  row = row_within (count_of R) k line on below;
  column = column_within (count_of R) k line on below;
  is = become.is;
  kept = subst (λ (a : ℕ). (R.value +ℤ at R a (column_on line k)) ≤ℤ threshold_of D.scale step c) row (subst (λ (b : ℕ). (R.value +ℤ at R h b) ≤ℤ threshold_of D.scale step c) column kept);
  open_there = stays;
}

-- the node's form, after its line
pub IsLined-drawn : (I : Problem) (D : Duals) (x y : Placement) (R S : Form) (u : List ℤ) → x ≡ y → IsStart I D y R → IsDrawn R S u → IsLined I D x S
IsLined-drawn I D x y R S u same begins drawn = record { start = R; begins = subst (λ (z : Placement). IsStart I D z R) (sym same) begins; u = u; v = drawn.v; line = drawn.line }

-- a wider interval of costs
NeedsTrial-wider : (I : Problem) (D : Duals) (step : ℕ) (y : Placement) (least most lower higher : ℤ) → lower ≤ℤ least → most ≤ℤ higher → (child : OpenChild) → NeedsTrial I D step y least most child → NeedsTrial I D step y lower higher child
NeedsTrial-wider I D step y least most lower higher down up child h =
    let above = h.above in
    let below = h.below in
    record { form = h.form; lined = h.lined; cost = h.cost; above = omega (arith, ints, above, down); below = omega (arith, ints, below, up); left = h.left }

pub All-wider : (I : Problem) (D : Duals) (step : ℕ) (y : Placement) (least most lower higher : ℤ) (children : List OpenChild) → lower ≤ℤ least → most ≤ℤ higher → All (NeedsTrial I D step y least most) children → All (NeedsTrial I D step y lower higher) children
All-wider I D step y least most lower higher children down up = All-weaker (NeedsTrial I D step y least most) (NeedsTrial I D step y lower higher) (NeedsTrial-wider I D step y least most lower higher down up) children

-- also with the child that is added, if there is one
pub All-tried : (I : Problem) (D : Duals) (step : ℕ) (x y : Placement) (R : Form) (least most c : ℤ) (o : Option OpenChild) (old new : List OpenChild) → x ≡ y → IsLined I D y R → least ≤ℤ c → c ≤ℤ most → IfSome o (IsLeft I D step x R c) → Adds o old new
    → All (NeedsTrial I D step y c most) old → All (NeedsTrial I D step y least most) new
All-tried I D step x y R least most c None old new same lined down up left added h = subst (All (NeedsTrial I D step y least most)) (sym added) (All-wider I D step y c most least most old down (omega (arith, ints)) h)
All-tried I D step x y R least most c (Some child) old new same lined down up left added h =
    let here = subst (λ (z : Placement). IsLeft I D step z R c child) same left in
    subst (All (NeedsTrial I D step y least most)) (sym added)
    (All-push (NeedsTrial I D step y least most) old child (All-wider I D step y c most least most old down (omega (arith, ints)) h) (record { form = R; lined = lined; cost = c; above = down; below = up; left = here }))
