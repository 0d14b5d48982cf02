-- Cells that say which places departments may not take.
use Rattle.std.proofs.Common.{◌≡◌, ◌∙◌, ◌↔◌, ℕ, ◌+◌, ◌*◌, ◌<◌, ◌≤◌, Bool, true, false, List, length, arith, ap, get_or, inl, inr, refl, subst, sym}
use Rattle.std.specs.Prelude.{IsTrue, nat_lt, if◌then◌else◌}
use Rattle.std.proofs.lemmas.Bool.{cases_lt, cond-false, cond-true, le-ltb, lt-ltb}
use Rattle.plan_charge.specs.Forbidden.{AreForbidden, is_forbidden}
use Rattle.plan_charge.specs.declared.forbidden.Forbidden.{Forbidden}
use Rattle.plan_table.specs.Trips.{name_at}
use Rattle.plan_file.specs.Charges.{IsBarCell}
use Rattle.plan_file.specs.Choices.{IsBarred, IsRestricted}
use Rattle.plan_file.specs.Filled.{AreFilled}
use Rattle.plan_file.specs.Last.{IsUpToLast}
use Rattle.plan_file.specs.declared.source.Charging.{Charging}
use Rattle.plan_file.proofs.FilledRows.{filled_at}

-- cells that are filled by rows are those of what is forbidden
pub forbidden_made : (charging : Charging) (departments places : List (List ℕ)) (n : ℕ) (f : Forbidden) → f.count ≤ n → n + f.count ≤ 256
    → AreFilled (IsBarCell charging departments places) false n (f.count * n) f.cells.items → AreForbidden n f
forbidden_made charging departments places n f few room filled = record {
  rows = few;
  room = room;
  counted = filled.many;
}

-- a department behind the last that may not take each place may take each
barred_behind : (charging : Charging) (departments places : List (List ℕ)) (f : Forbidden) (i k : ℕ) → IsUpToLast (λ i. IsRestricted charging places (name_at departments i)) (length departments) f.count → f.count ≤ i
    → i < length departments → k < length places → IsBarCell charging departments places i k false
barred_behind charging departments places f i k rows past inside column =
    ((λ on. absurd (cc)), (λ barred. absurd (rows.rest i past inside (k, column, barred))))

-- each cell is as the plan says
pub barred_made : (charging : Charging) (departments places : List (List ℕ)) (n : ℕ) (f : Forbidden) → n ≡ length places
    → IsUpToLast (λ i. IsRestricted charging places (name_at departments i)) (length departments) f.count → AreFilled (IsBarCell charging departments places) false n (f.count * n) f.cells.items
    → (i k : ℕ) → i < length departments → k < length places → IsBarCell charging departments places i k (is_forbidden (length places) f i k)
barred_made charging departments places n f many rows filled = λ i k inside column.
    let wide = subst (λ m. AreFilled (IsBarCell charging departments places) false m (f.count * m) f.cells.items) many filled in
    elim (cases_lt i f.count) [
      | inl row ↦
          subst (IsBarCell charging departments places i k) (sym (cond-true (nat_lt i f.count) _ _ (lt-ltb i f.count row)))
          (filled_at (IsBarCell charging departments places) false (length places) f.count f.cells.items i k wide row column)
      | inr past ↦
          subst (IsBarCell charging departments places i k) (sym (cond-false (nat_lt i f.count) _ _ (le-ltb i f.count past))) (barred_behind charging departments places f i k rows past inside column)
    ]
