use Rattle.std.proofs.Common.{rules, ◌≡◌, ◌+◌, ◌-◌, ◌*◌, ◌<◌, ◌++◌, ◌∷◌, [], ℕ, List, pos, length, get_or, refl, ◌^◌, inl, inr, sym, ◌∙◌, ap, subst, arith}
use Rattle.std.proofs.lemmas.Result.{err_from_is_err_and}
use Rattle.number_list.specs.NumberList.{numbers_held}
use Rattle.gilmore_lawler.specs.Closing.{AreDuals}
use Rattle.qap_lines.specs.LineText.{numbers_text}
use Rattle.qap_lines.specs.Number.{IsNamed}
use Rattle.qap_cost.specs.Range.{AllLimited}
use Rattle.qap_lines.proofs.NumberLists.{IsNamed-unique, AllLimited-one}
use Rattle.qap_proof.specs.NodeLine.{kept_pair_of}
use Rattle.qap_proof.specs.Text.{letter as letter_of}
use Rattle.qap_proof.specs.Tree.{Pair, pair}
use Rattle.qap_proof.proofs.NodeLines.{not_there, first_number, held_first, only_number, split_duals, split_duals_fault, spelled}
use Rattle.qap_proof.proofs.node_line.split_line.Goals as goal

pub returns-in_default : goal.returns-in_default
returns-in_default c =
    let none = rw c.in_default.is at c.in_ok-numbers.ensures in
    λ i zs small named. none (pos (i + 1) ∷ zs) (subst (λ (name : List ℕ). IsNamed name c.args.line.now (pos (i + 1) ∷ zs)) (sym c.letter.ensures) named)

pub returns-in_default-first_from_one : goal.returns-in_default-first_from_one
returns-in_default-first_from_one c =
    let w = 2 * (c.size.result - c.depth.result) in
    let first = c.read_numbers.new.first.items in
    let some = rw c.in-Some.is at c.in_ok-numbers.ensures in
    let none = c.in_default-first_from_one.ensures {u = tt} in
    λ i zs small named.
    let same = IsNamed-unique (letter_of c.args.side) c.args.line.now some.0 (pos (i + 1) ∷ zs) (subst (λ (name : List ℕ). IsNamed name c.args.line.now some.0) c.letter.ensures some.1) named in
    let there = held_first w i some.0 first zs some.4 same (omega (arith, small, c.size.ensures.placement.small)) in
    not_there c.deref.result.now first c.size-2.result c.deref.ensures.value none i (omega (arith, small, c.size-2.ensures.value)) there.0 there.1

pub returns-in_err-judge_number : goal.returns-in_err-judge_number
returns-in_err-judge_number c =
    let w = 2 * (c.size.result - c.depth.result) in
    let first = c.read_numbers.new.first.items in
    let some = rw c.in-Some.is at c.in_ok-numbers.ensures in
    let i = c.in-Some-first_from_one.split in
    let found = c.in-Some-first_from_one.ensures in
    let lent = c.deref.ensures.value in
    let front = first_number w i some.0 first some.4 (omega (arith, ap length lent, found.1)) (sym (ap (λ l. get_or l 0 (pos 0)) lent) ∙ found.2) (omega (arith, found.0, c.size-2.ensures.value, c.size.ensures.placement.small)) in
    let named : IsNamed (letter_of c.args.side) c.args.line.now (pos (i + 1) ∷ front.0) =
    subst (λ (name : List ℕ). IsNamed name c.args.line.now (pos (i + 1) ∷ front.0)) c.letter.ensures (subst (IsNamed c.letter.result.now c.args.line.now) front.1 some.1) in
    let p = err_from_is_err_and c.from_residual-in_err-judge_number.result c.from_residual-in_err-judge_number.ensures.1 in
    rw (p.1, p.2) (inr (i, front.0, omega (arith, found.0, c.size-2.ensures.value), named, inl (c.in_err-judge_number.ensures {u = tt})))

pub returns-then-numbers-eq1 : goal.returns-then-numbers-eq1
returns-then-numbers-eq1 c =
    let w = 2 * (c.size.result - c.depth.result) in
    let first = c.read_numbers.new.first.items in
    let some = rw c.in-Some.is at c.in_ok-numbers.ensures in
    let i = c.in-Some-first_from_one.split in
    let found = c.in-Some-first_from_one.ensures in
    let lent = c.deref.ensures.value in
    let small : i < 2 ^ 16 = omega (arith, found.0, c.size-2.ensures.value, c.size.ensures.placement.small) in
    let front = first_number w i some.0 first some.4 (omega (arith, ap length lent, found.1)) (sym (ap (λ l. get_or l 0 (pos 0)) lent) ∙ found.2) small in
    let none : front.0 ≡ [] = only_number (pos (i + 1)) some.0 front.0 front.1 (omega (arith, some.2, c.if-numbers-eq1.true)) in
    let named : IsNamed (letter_of c.args.side) c.args.line.now some.0 = subst (λ (name : List ℕ). IsNamed name c.args.line.now some.0) c.letter.ensures some.1 in
    let one : some.0 ≡ pos (i + 1) ∷ [] = front.1 ∙ ap (λ l. pos (i + 1) ∷ l) none in
    let judged = c.in_ok-judge_number.ensures in
    (refl, record { some = judged.0; free = judged.1; duals = tt }, spelled (letter_of c.args.side) c.args.line.now some.0 (pos (i + 1) ∷ []) named (subst AllLimited (sym one) (AllLimited-one (pos (i + 1)) (omega arith))) (sym one))

pub returns-in_err-judge_count : goal.returns-in_err-judge_count
returns-in_err-judge_count c =
    let w = 2 * (c.size.result - c.depth.result) in
    let m = c.args.node.now.size - length c.args.node.now.facilities in
    let first = c.read_numbers.new.first.items in
    let some = rw c.in-Some.is at c.in_ok-numbers.ensures in
    let i = c.in-Some-first_from_one.split in
    let found = c.in-Some-first_from_one.ensures in
    let lent = c.deref.ensures.value in
    let small : i < 2 ^ 16 = omega (arith, found.0, c.size-2.ensures.value, c.size.ensures.placement.small) in
    let front = first_number w i some.0 first some.4 (omega (arith, ap length lent, found.1)) (sym (ap (λ l. get_or l 0 (pos 0)) lent) ∙ found.2) small in
    let named : IsNamed (letter_of c.args.side) c.args.line.now (pos (i + 1) ∷ front.0) =
    subst (λ (name : List ℕ). IsNamed name c.args.line.now (pos (i + 1) ∷ front.0)) c.letter.ensures (subst (IsNamed c.letter.result.now c.args.line.now) front.1 some.1) in
    let judged = c.in_ok-judge_number.ensures in
    let wide : w ≡ 2 * m = omega (arith, c.size.ensures.value, c.depth.ensures.value) in
    let count = c.in-Some.numbers.count in
    let bad = split_duals_fault m w i count c.in-Some.numbers.limited c.args.number some.0 front.0 wide small some.2 some.3 front.1 c.if-numbers-eq1.false in
    let p = err_from_is_err_and c.from_residual-in_err-judge_count.result c.from_residual-in_err-judge_count.ensures.1 in
    rw (p.1, p.2) (inr (
      i,
      front.0,
      omega (arith, found.0, c.size-2.ensures.value),
      named,
      inr (
        judged.0,
        judged.1,
        bad.0,
        elim (c.in_err-judge_count.ensures {u = tt}) [
          | inl x ↦ inl (x.0, bad.1.0 (λ e. x.1 e))
          | inr x ↦ let b = bad.1.1 x.1 x.2 in inr (x.0, b.0, b.1)
        ],
      ),
    ))

pub returns : goal.returns
returns c =
    let w = 2 * (c.size.result - c.depth.result) in
    let m = c.args.node.now.size - length c.args.node.now.facilities in
    let first = c.read_numbers.new.first.items in
    let some = rw c.in-Some.is at c.in_ok-numbers.ensures in
    let i = c.in-Some-first_from_one.split in
    let found = c.in-Some-first_from_one.ensures in
    let lent = c.deref.ensures.value in
    let small : i < 2 ^ 16 = omega (arith, found.0, c.size-2.ensures.value, c.size.ensures.placement.small) in
    let front = first_number w i some.0 first some.4 (omega (arith, ap length lent, found.1)) (sym (ap (λ l. get_or l 0 (pos 0)) lent) ∙ found.2) small in
    let named : IsNamed (letter_of c.args.side) c.args.line.now some.0 = subst (λ (name : List ℕ). IsNamed name c.args.line.now some.0) c.letter.ensures some.1 in
    let judged = c.in_ok-judge_number.ensures in
    let counted = c.in_ok-judge_count.ensures in
    let free : c.size.result - c.depth.result ≡ m = omega (arith, c.size.ensures.value, c.depth.ensures.value) in
    let wide : w ≡ 2 * m = omega (arith, free) in
    let parts = split_duals m w i (letter_of c.args.side) c.args.line.now some.0 first front.0 c.split_off-2.new.self.items c.in_ok-v.v.items wide small named (sym some.2 ∙ counted.0) (some.3.0 counted.1) some.4 front.1 (rw (← free) (search rules)) (rw (← free) (search rules)) in
    let kept : kept_pair_of c.kept.result ≡ pair c.split_off-2.new.self.items c.in_ok-v.v.items = c.kept.ensures in
    let duals : AreDuals m (numbers_held c.kept.result.u) (numbers_held c.kept.result.v) = subst (λ (d : Pair). AreDuals m d.u d.v) (sym kept) parts.0 in
    let text = subst (λ (d : Pair). c.args.line.now ≡ letter_of c.args.side ++ numbers_text (pos (i + 1) ∷ d.u ++ d.v)) (sym kept) parts.1 in
    (refl, record { some = judged.0; free = judged.1; duals = duals }, text)
