-- Costs of a table, as charges.
use Rattle.std.proofs.Common.{◌≡◌, ◌∙◌, ℕ, ◌+◌, ◌-◌, ◌*◌, ◌^◌, ◌/◌, ◌%◌, ◌<◌, ◌≤◌, List, [], length, arith, ap, pos, get_or, subst, sym, ℤ}
use Rattle.qap_cost.specs.Range.{InRange}
use Rattle.plan_charge.specs.Charges.{AreCharges}
use Rattle.plan_charge.specs.declared.charges.Charges.{Charges}
use Rattle.plan_file.specs.Charges.{AreGridCosts, HasRow, IsCostCell}
use Rattle.plan_file.specs.Filled.{AreFilled}
use Rattle.plan_file.specs.Last.{IsUpToLast}
use Rattle.plan_file.proofs.FilledRows.{filled_at}

-- entries that are filled by rows are charges
pub charges_made : (rows columns : List (List ℕ)) (cells : List ℤ) (departments places : List (List ℕ)) (n : ℕ) (c : Charges) → c.count ≤ n → n + c.count ≤ 256 → InRange c.weight
    → AreFilled (IsCostCell rows columns cells departments places) (pos 0) n (c.count * n) c.entries.items → AreCharges n c
charges_made rows columns cells departments places n c few room weight filled = record {
  payers = few;
  room = room;
  counted = filled.many;
  weight = weight;
  ranges = λ q below. (filled.each q below).in_range;
}

-- and they are those of the table
pub costs_made : (departments places : List (List ℕ)) (fraction : ℕ) (rows columns : List (List ℕ)) (scale : ℕ) (cells : List ℤ) (n : ℕ) (c : Charges) → n ≡ length places
    → IsUpToLast (HasRow rows departments) (length departments) c.count → scale ≤ fraction → c.weight ≡ pos (10 ^ (fraction - scale))
    → AreFilled (IsCostCell rows columns cells departments places) (pos 0) n (c.count * n) c.entries.items → AreGridCosts departments places fraction rows columns scale cells c
costs_made departments places fraction rows columns scale cells n c many payers fine weight filled =
    let wide = subst (λ m. AreFilled (IsCostCell rows columns cells departments places) (pos 0) m (c.count * m) c.entries.items) many filled in
    record {
      payers = payers;
      fine = fine;
      weight = weight;
      each = λ i k row column. (filled_at (IsCostCell rows columns cells departments places) (pos 0) (length places) c.count c.entries.items i k wide row column).cost;
    }

-- where no department pays, there are none
pub charges_none : (n : ℕ) (c : Charges) → n + 0 ≤ 256 → c.count ≡ 0 → c.weight ≡ pos 0 → c.entries.items ≡ [] → AreCharges n c
charges_none n c room none free empty =
    let zeroed : c.count * n ≡ 0 * n = ap (λ k. k * n) none in
    let nothing : c.count * n ≡ 0 = omega (arith, zeroed) in
    record {
      payers = omega (arith, none);
      room = omega (arith, none, room);
      counted = ap (λ (l : List ℤ). length l) empty ∙ sym nothing;
      weight = subst InRange (sym free) (omega arith);
      ranges = λ q below. absurd (omega (arith, nothing, below));
    }
