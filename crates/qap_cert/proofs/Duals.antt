-- Numbers that were read, and the duals that they are.
use Rattle.std.proofs.Common.{◌≡◌, ℕ, ◌*◌, ◌-◌, ◌++◌, List, length, map, take, drop, ℤ, refl, sym, ◌∙◌, ap, ap₂, subst, arith, length-take, length-drop, take-append-drop, take_all}
use Rattle.std.specs.Prelude.{codes}
use Rattle.qap_cost.specs.Placement.{Placement}
use Rattle.qap_cost.specs.Range.{AllLimited}
use Rattle.qap_lines.proofs.Held.{held-all_within}
use Rattle.qap_lines.proofs.Limits.{AllLimited-front, AllLimited-back}
use Rattle.qap_lines.proofs.NumberLists.{numbers_text-is}
use Rattle.qap_cert.specs.NodeLine.{HasDuals}
use Rattle.qap_lines.specs.Number.{IsNamed, held}
use Rattle.gilmore_lawler.specs.Closing.{AreDuals}
use Rattle.qap_lines.specs.LineText.{numbers_text}

-- numbers that are in range were read as they are
pub HasDuals-read : (m wanted : ℕ) (line : List ℕ) (first zs : List ℤ) → IsNamed (codes "b") line zs → length zs ≡ 2 * m → AllLimited zs → first ≡ map held (take wanted zs) → HasDuals m wanted line first
HasDuals-read m wanted line first zs named counted within is = record {
  numbers = zs;
  named = named;
  counted = counted;
  limited = within;
  is = is ∙ held-all_within (take wanted zs) (AllLimited-front (take wanted zs) (drop wanted zs) (subst AllLimited (sym (take-append-drop wanted zs)) within));
}

-- the two halves of the numbers are duals, and the line is spelled by them
pub AreDuals-halves : (m : ℕ) (line : List ℕ) (zs u v : List ℤ) → IsNamed (codes "b") line zs → length zs ≡ 2 * m → AllLimited zs → u ≡ take m zs → v ≡ drop m zs
    → AreDuals m u v × (line ≡ codes "b" ++ numbers_text (u ++ v))
AreDuals-halves m line zs u v named counted within u_is v_is =
    let whole : u ++ v ≡ zs = ap₂ (λ a b. a ++ b) u_is v_is ∙ take-append-drop m zs in
    let apart : AllLimited (u ++ v) = subst AllLimited (sym whole) within in
    let rows : length u ≡ m = omega (arith, ap length u_is, length-take m zs, counted) in (
      record {
        rows = rows;
        columns = omega (arith, ap length v_is, length-drop m zs, counted);
        u_range = AllLimited-front u v apart;
        v_range = AllLimited-back u v apart;
      },
      named.is ∙ ap (λ l. codes "b" ++ l) (numbers_text-is named.numbers zs named.spelled within ∙ ap numbers_text (sym whole)),
    )

-- so it is where all are wanted
pub AreDuals-read : (m : ℕ) (line : List ℕ) (first u v : List ℤ) → HasDuals m (2 * m) line first → u ≡ take m first → v ≡ drop m first → AreDuals m u v × (line ≡ codes "b" ++ numbers_text (u ++ v))
AreDuals-read m line first u v h u_is v_is =
    let all : first ≡ h.numbers = h.is ∙ take_all (2 * m) h.numbers (omega (arith, h.counted)) in
    AreDuals-halves m line h.numbers u v h.named h.counted h.limited (u_is ∙ ap (take m) all) (v_is ∙ ap (drop m) all)

-- and where all were read for a node
pub AreDuals-at : (n count : ℕ) (x : Placement) (placed line : List ℕ) (first u v : List ℤ) → n ≡ x.size → placed ≡ x.facilities → count ≡ length placed → HasDuals (n - length placed) (2 * (n - count)) line first
    → u ≡ take (n - count) first → v ≡ drop (n - count) first → AreDuals (x.size - length x.facilities) u v × (line ≡ codes "b" ++ numbers_text (u ++ v))
AreDuals-at n count x placed line first u v size facilities counted h u_is v_is =
    let m = n - length placed in
    let free : n - count ≡ m = omega (arith, counted) in
    let here : m ≡ x.size - length x.facilities = omega (arith, size, ap length facilities) in
    let read : HasDuals m (2 * m) line first = subst (λ (k : ℕ). HasDuals m (2 * k) line first) free h in
    let halves = AreDuals-read m line first u v read (u_is ∙ ap (λ k. take k first) free) (v_is ∙ ap (λ k. drop k first) free) in
    (subst (λ (k : ℕ). AreDuals k u v) here halves.0, halves.1)

-- and whichever are wanted, there are such duals
pub duals_there : (m wanted : ℕ) (line : List ℕ) (first : List ℤ) → HasDuals m wanted line first → (u : List ℤ) × (v : List ℤ) × AreDuals m u v × (line ≡ codes "b" ++ numbers_text (u ++ v))
duals_there m wanted line first h =
    let halves = AreDuals-halves m line h.numbers (take m h.numbers) (drop m h.numbers) h.named h.counted h.limited refl refl in
    (take m h.numbers, drop m h.numbers, halves.0, halves.1)
