-- The nodes of a search: when they are closed, and their children.
use Rattle.std.proofs.Common.{◌≡◌, ℕ, ◌+◌, ◌<◌, List, length, get_or, sym, ◌∙◌, ap, ap₂, subst, arith}
use Rattle.std.specs.Prelude.{ℤ, ◌≤ℤ◌, pos, ◌*ℤ◌}
use Rattle.qap_cost.specs.Instance.{Problem}
use Rattle.qap_cost.specs.Objective.{cost_of}
use Rattle.qap_cost.specs.Placement.{Placement, IsPlacement, IsFreeFacility, IsFreeLocation, Completes, free_facilities, free_locations, placing}
use Rattle.qap_cost.specs.Symmetry.{Keeps}
use Rattle.gilmore_lawler.proofs.Skips.{length-remove}
use Rattle.qap_symmetry.specs.Table.{matrix_of}
use Rattle.qap_symmetry.specs.declared.table.Table.{Table}
use Rattle.qap_symmetry.specs.declared.table.Table.TheVariants.{Flows, Distances}
use Rattle.pair_duals.specs.PairDuals.{Duals}
use Rattle.pair_duals.specs.Reduced.{Form, IsChild, IsFormOf, IsNonNegative, count_of}
use Rattle.pair_duals.specs.Seats.{child_at}
use Rattle.pair_duals.proofs.Forms.{value-le}
use Rattle.pair_duals.proofs.Seatings.{facilities_of, locations_of, same_count}
use Rattle.subtree_search.specs.Images.{TakesFree, free_of, taken_of}
use Rattle.subtree_search.specs.Opens.{IsOpenAt}
use Rattle.subtree_search.specs.Premises.{AreSound, IsNode}
use Rattle.subtree_search.specs.declared.split.OpenChild.{OpenChild}
use Rattle.subtree_search.proofs.Closings.{IsPlacement-child}

-- a node whose form has no row is a permutation
pub whole_from_form : (I : Problem) (D : Duals) (step : ℕ) (y : Placement) (R : Form) → IsNode I D step y R → count_of R ≡ 0 → length y.facilities ≡ y.size
whole_from_form I D step y R n none = omega (arith, none, n.form.numbers.row_count, (facilities_of y n.placement).count)

-- a child has fewer rows than its parent
pub fewer_rows : (I : Problem) (D : Duals) (old new : Form) (h g : ℕ) → h < count_of old → IsChild I D old h g new → count_of new + 1 ≡ count_of old
fewer_rows I D old new h g hh child = omega (arith, ap length child.rows, length-remove old.rows h hh)

-- the facility of row h, and the location of column g
pub facility_is : (I : Problem) (D : Duals) (step : ℕ) (y : Placement) (R : Form) (h i f : ℕ) → IsNode I D step y R → h < count_of R → i ≡ get_or R.rows h 0 → f ≡ get_or D.facilities i 0 → f ≡ get_or (free_facilities y) h 0
facility_is I D step y R h i f n hh row is = is ∙ ap (λ (k : ℕ). get_or D.facilities k 0) row ∙ n.form.numbers.facilities h hh

-- the location of a column, by its number
pub location_is : (I : Problem) (D : Duals) (step : ℕ) (y : Placement) (R : Form) (g k l : ℕ) → IsNode I D step y R → g < count_of R → k ≡ get_or R.columns g 0 → l ≡ get_or D.locations k 0 → l ≡ get_or (free_locations y) g 0
location_is I D step y R g k l n hg column is =
    is ∙ ap (λ (j : ℕ). get_or D.locations j 0) column
    ∙ n.form.numbers.locations g (omega (arith, n.form.numbers.row_count, n.form.numbers.column_count, same_count y n.placement))

-- the facility of a row is free
pub facility_free : (I : Problem) (D : Duals) (step : ℕ) (y : Placement) (R : Form) (h f : ℕ) → IsNode I D step y R → h < count_of R → f ≡ get_or (free_facilities y) h 0 → IsFreeFacility y f
facility_free I D step y R h f n hh is = subst (IsFreeFacility y) (sym is) ((facilities_of y n.placement).each h (omega (arith, n.form.numbers.row_count)))

-- and so is the location of a column
pub location_free : (I : Problem) (D : Duals) (step : ℕ) (y : Placement) (R : Form) (g k : ℕ) → IsNode I D step y R → g < count_of R → k ≡ get_or (free_locations y) g 0 → IsFreeLocation y k
location_free I D step y R g k n hg is = subst (IsFreeLocation y) (sym is) ((locations_of y n.placement).each g (omega (arith, n.form.numbers.row_count, same_count y n.placement)))

-- the child's node
pub IsNode-child : (I : Problem) (D : Duals) (step : ℕ) (y x : Placement) (R S : Form) (h g f k : ℕ) → IsNode I D step y R → h < count_of R → g < count_of R → f ≡ get_or (free_facilities y) h 0 → k ≡ get_or (free_locations y) g 0 → x ≡ placing y f k → IsFormOf I D (child_at y h g) S → IsNode I D step x S
IsNode-child I D step y x R S h g f k n hh hg facility location is form =
    let same : x ≡ child_at y h g = is ∙ ap₂ (placing y) facility location in
    subst (λ (z : Placement). IsNode I D step z S) (sym same)
    (record {
      placement = IsPlacement-child y h g n.placement (omega (arith, n.form.numbers.row_count)) (omega (arith, n.form.numbers.row_count, same_count y n.placement));
      size = n.size;
      sound = n.sound;
      form = form;
    })

-- the node that pair duals belong to
pub IsNode-start : (I : Problem) (D : Duals) (step : ℕ) (y x : Placement) (R : Form) → x ≡ y → IsPlacement y → I.size ≡ y.size → AreSound I D step → IsFormOf I D y R → IsNode I D step x R
IsNode-start I D step y x R is placement size sound form =
    subst (λ (z : Placement). IsNode I D step z R) (sym is) (record { placement = placement; size = size; sound = sound; form = form })

-- ---- images

-- the permutation that takes an earlier free number to number k
pub TakesFree-taken : (I : Problem) (y : Placement) (table : Table) (m taken locations : List ℕ) (j k from to : ℕ) → I.size ≡ y.size → Keeps I.size (matrix_of table I) m → locations ≡ m → taken ≡ taken_of table y
    → from ≡ get_or (free_of table y) j 0 → to ≡ get_or (free_of table y) k 0 → get_or locations from 0 ≡ to → ((t : ℕ) → t < length taken → get_or locations (get_or taken t 0) 0 ≡ get_or taken t 0) → TakesFree I y table m j k
TakesFree-taken I y table m taken locations j k from to size keeps is placed from_is to_is takes stays = record {
  keeps = subst (λ (n : ℕ). Keeps n (matrix_of table I) m) size keeps;
  stays = subst (λ (l : List ℕ). (t : ℕ) → t < length (taken_of table y) → get_or l (get_or (taken_of table y) t 0) 0 ≡ get_or (taken_of table y) t 0) is
      (subst (λ (l : List ℕ). (t : ℕ) → t < length l → get_or locations (get_or l t 0) 0 ≡ get_or l t 0) placed stays);
  takes = ap (λ (i : ℕ). get_or m i 0) (sym from_is) ∙ ap (λ (l : List ℕ). get_or l from 0) (sym is) ∙ takes ∙ to_is;
}

-- what is placed is below the size
pub taken-within : (y : Placement) (table : Table) → IsPlacement y → (t : ℕ) → t < length (taken_of table y) → get_or (taken_of table y) t 0 < y.size
taken-within y Flows is t below = is.facilities.within t below
taken-within y Distances is t below = is.places.within t below

-- ---- open children

-- a child that is left open has the value of its form
pub IsOpenAt-child : (I : Problem) (D : Duals) (step : ℕ) (y : Placement) (R S : Form) (h g : ℕ) (child : OpenChild) → IsNode I D step y R → h < count_of R → g < count_of R → child.facility ≡ get_or (free_facilities y) h 0 → child.location ≡ get_or (free_locations y) g 0 → child.value ≡ S.value
    → IsNode I D step (child_at y h g) S → IsNonNegative S → IsOpenAt I D.scale y (child_at y h g) child
IsOpenAt-child I D step y R S h g child n hh hg facility location value next least =
    let is : placing y child.facility child.location ≡ child_at y h g = ap₂ (placing y) facility location in
    record {
      is = is;
      opened = record {
        facility = facility_free I D step y R h child.facility n hh facility;
        location = location_free I D step y R g child.location n hg location;
        least = λ p done.
            let below = value-le I D (child_at y h g) S p next.placement next.sound.fit next.form least (subst (λ (x : Placement). Completes x p) is done) in
            subst (λ (z : ℤ). z ≤ℤ (pos D.scale *ℤ cost_of I p)) (sym value) below;
      };
    }
