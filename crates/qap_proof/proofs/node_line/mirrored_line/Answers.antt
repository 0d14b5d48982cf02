use Rattle.std.proofs.Common.{◌≡◌, ◌+◌, ◌∷◌, pos, length, drop, get_or, refl, inl, inr, sym, ◌∙◌, ap, subst, arith}
use Rattle.std.specs.Prelude.{codes}
use Rattle.qap_lines.specs.Number.{IsNamed}
use Rattle.qap_lines.proofs.NumberLists.{IsNamed-unique}
use Rattle.qap_proof.proofs.NodeLines.{first_number, held_first, first_and_others, mirrored_said, no_image, not_there}
use Rattle.qap_proof.proofs.node_line.mirrored_line.Goals as goal

pub returns-in_default : goal.returns-in_default
returns-in_default c =
    let none = rw c.in_default.is at c.in_ok-numbers.ensures in
    λ z zs long named. none (z ∷ zs) named

pub returns-then-numbers-size : goal.returns-then-numbers-size
returns-then-numbers-size c =
    let some = rw c.in-Some.is at c.in_ok-numbers.ensures in
    λ z zs long named.
    c.if-numbers-size.true (some.2 ∙ ap length (IsNamed-unique (codes "m") c.args.line.now some.0 (z ∷ zs) some.1 named) ∙ omega (arith, long, c.size-2.ensures.value))

pub returns-in_default-first_from_one : goal.returns-in_default-first_from_one
returns-in_default-first_from_one c =
    let n = c.size.result in
    let some = rw c.in-Some.is at c.in_ok-numbers.ensures in
    let first = c.read_numbers.new.first.items in
    let front = first_and_others n some.0 (omega (arith, some.2, c.if-numbers-size.false, c.size.ensures.value, c.size-2.ensures.value)) in
    let none = c.in_default-first_from_one.ensures {u = tt} in
    inr (record {
      first = front.0;
      others = front.1;
      counted = front.3 ∙ c.size.ensures.value;
      named = subst (IsNamed (codes "m") c.args.line.now) front.2 some.1;
      fault = λ x duals.
          inl (
            refl,
            λ j less same.
                let there = held_first n j some.0 first front.1 some.4 (front.2 ∙ ap (λ z. z ∷ front.1) same) (omega (arith, less, c.requires)) in
                not_there c.deref.result.now first c.args.earlier c.deref.ensures.value none j less there.0 there.1,
          );
    })

pub returns : goal.returns
returns c =
    let n = c.size.result in
    let some = rw c.in-Some.is at c.in_ok-numbers.ensures in
    let first = c.read_numbers.new.first.items in
    let long : length some.0 ≡ 1 + n = omega (arith, some.2, c.if-numbers-size.false, c.size.ensures.value, c.size-2.ensures.value) in
    let i = c.in-Some-first_from_one.child in
    let found = c.in-Some-first_from_one.ensures in
    let lent = c.deref.ensures.value in
    let front = first_number n i some.0 first some.4 (omega (arith, ap length lent, found.1)) (sym (ap (λ l. get_or l 0 (pos 0)) lent) ∙ found.2) (omega (arith, found.0, c.requires)) in
    let given : c.others.result.now ≡ drop 1 first = c.others.ensures ∙ ap (drop 1) c.deref-2.ensures.value in
    let none = rw c.in-None.is at c.in_ok-image.ensures in
    inr (record {
      first = pos (i + 1);
      others = front.0;
      counted = omega (arith, long, ap length front.1, c.size.ensures.value);
      named = subst (IsNamed (codes "m") c.args.line.now) front.1 some.1;
      fault = λ x duals.
          inr (refl, i, found.0, refl, no_image n some.0 first front.0 (pos (i + 1)) some.4 front.1 long (λ p perm same. none p perm (given ∙ same)));
    })

pub returns-in-Some-2 : goal.returns-in-Some-2
returns-in-Some-2 c =
    let n = c.size.result in
    let some = rw c.in-Some.is at c.in_ok-numbers.ensures in
    let first = c.read_numbers.new.first.items in
    let long : length some.0 ≡ 1 + n = omega (arith, some.2, c.if-numbers-size.false, c.size.ensures.value, c.size-2.ensures.value) in
    let i = c.in-Some-first_from_one.child in
    let found = c.in-Some-first_from_one.ensures in
    let lent = c.deref.ensures.value in
    let front = first_number n i some.0 first some.4 (omega (arith, ap length lent, found.1)) (sym (ap (λ l. get_or l 0 (pos 0)) lent) ∙ found.2) (omega (arith, found.0, c.requires)) in
    let given : c.others.result.now ≡ drop 1 first = c.others.ensures ∙ ap (drop 1) c.deref-2.ensures.value in
    let there = rw c.in-Some-2.is at c.in_ok-image.ensures in
    let said = mirrored_said n i c.args.line.now some.0 first front.0 c.in-Some-2.image (omega (arith, found.0, c.requires)) some.1 long some.4 front.1 there.0 (sym given ∙ there.1) in
    (found.0, record { permutation = said.0.permutation; count = said.0.count ∙ c.size.ensures.value }, said.1)
