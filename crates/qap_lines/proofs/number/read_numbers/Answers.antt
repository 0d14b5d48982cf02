use Rattle.std.proofs.Common.{◌≡◌, ◌≢◌, ◌+◌, [], ◌∷◌, ◌++◌, length, drop, get_or, sym, ap, subst, ◌∙◌, arith, rules}
use Rattle.std.proofs.lemmas.List.{take_rest}
use Rattle.qap_lines.proofs.NumberLists.{HasNoNumbers-named, HasRead-all, HasRead-no_number, HasRead-no_space, HasKept, HasKept-more}
use Rattle.qap_lines.proofs.number.read_numbers.Goals as goal
use Rattle.qap_lines.proofs.number.read_numbers.Goals.{then-count-wanted+in_ok-push, else-count-wanted}

pub returns-then-space-ne32 : goal.returns-then-space-ne32
returns-then-space-ne32 c =
    let text = c.in-Some.text.now in
    let rest = c.loop-space.rest.now in
    let read = c.loop-space.invariant in
    let is : rest ≡ c.in-Some-split_first.space.now ∷ c.in-Some-split_first.after.now = search rules in
    let other : get_or rest 0 0 ≢ 32 = λ e. c.if-space-ne32.true (sym (ap (λ l. get_or l 0 0) is) ∙ e) in
    λ zs. HasNoNumbers-named c.args.name.now c.args.line.now text c.in-Some.ensures zs (HasRead-no_space text rest read.numbers read.read (omega (arith, ap length is)) other zs)

pub returns-in_default-front_number : goal.returns-in_default-front_number
returns-in_default-front_number c =
    let text = c.in-Some.text.now in
    let rest = c.loop-space.rest.now in
    let after = c.in-Some-split_first.after.now in
    let read = c.loop-space.invariant in
    let is : rest ≡ 32 ∷ after = search rules in
    λ zs. HasNoNumbers-named c.args.name.now c.args.line.now text c.in-Some.ensures zs (HasRead-no_number text rest after read.numbers read.read is c.in_default-front_number.ensures zs)

pub loop-space-preserved : goal.loop-space-preserved
loop-space-preserved c =
    let text = c.in-Some.text.now in
    let rest = c.loop-space.rest.now in
    let after = c.in-Some-split_first.after.now in
    let is : rest ≡ 32 ∷ after = search rules in
    let first = c.loop-space.first.items in
    let new = c.if-count-wanted.first.items in
    let numeral = c.in-Some-front_number.numeral in
    let more = HasKept-more text rest after c.args.wanted c.loop-space.count numeral.count numeral.value first new c.loop-space.limited c.still_limited-limited.result c.loop-space.invariant is c.in-Some-front_number.ensures c.still_limited-limited.ensures in
    let kept : HasKept text (drop numeral.count after) c.args.wanted (c.loop-space.count + 1) c.still_limited-limited.result new =
    elim c.if-count-wanted.branch [
      | then-count-wanted+in_ok-push w ↦ let pushed : new ≡ first ++ numeral.value ∷ [] = search rules in more (λ _. pushed) (λ many. absurd (omega arith))
      | else-count-wanted w ↦ let same : new ≡ first = ap (λ v. v.items) w.first-is in more (λ less. absurd (omega arith)) (λ _. same)
    ] in
    subst (λ t. HasKept text t c.args.wanted (c.loop-space.count + 1) c.still_limited-limited.result new) (sym (take_rest after numeral.count)) kept

pub returns : goal.returns
returns c =
    let text = c.in-Some.text.now in
    let rest = c.loop-space.rest.now in
    let read = c.loop-space.invariant in
    let none : length rest ≡ 0 = omega (arith, c.in_default-split_first.ensures.cases) in
    (read.numbers, record { numbers = text; is = c.in-Some.ensures; spelled = HasRead-all text rest read.numbers read.read none }, read.counted, read.judged, read.kept)
