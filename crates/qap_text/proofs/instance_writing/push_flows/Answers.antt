use Rattle.std.proofs.Common.{SFits, ◌≡◌, ◌∙◌, ◌+◌, ◌*◌, ◌/◌, ◌%◌, ◌<◌, ◌++◌, List, [], ◌∷◌, ℕ, ℤ, ap, arith, get_or, length, pos, rules, subst, sym, take}
use Rattle.std.specs.Int.{w64}
use Rattle.std.specs.Fmt.{signed_decimal}
use Rattle.std.proofs.lemmas.Int.{to_z-of_z}
use Rattle.std.proofs.lemmas.List.{take_all}
use Rattle.qap_text.specs.Spelling.{Spells}
use Rattle.qap_text.proofs.Growing.{entry_more}
use Rattle.qap_text.proofs.Numbers.{IsWordOf, written}
use Rattle.qap_text.proofs.instance_writing.push_flows.Goals as goal

pub loop-k-preserved : goal.loop-k-preserved
loop-k-preserved c =
    let I = c.args.instance.now in
    let k = c.loop-k.k in
    let instance = c.size-size.ensures.instance in
    let s = c.size-size.result in
    let size : s ≡ I.size = c.size-size.ensures.value in
    let square : s * s ≡ I.size * I.size = ap (λ (n : ℕ). n * n) size in
    let inside : k < length I.a = omega (arith, instance.a_count) in
    let whole : k / s * s + k % s ≡ k = grind arith in
    let place : k / s * I.size + k % s ≡ k = ap (λ (n : ℕ). k / s * n + k % s) (sym size) ∙ whole in
    let entry : c.a.result ≡ get_or I.a k (pos 0) = c.a.ensures.value ∙ ap (λ (i : ℕ). get_or I.a i (pos 0)) place in
    let range = c.a.ensures.range in
    let fits : SFits w64 c.a.result = search rules in
    let w : IsWordOf (signed_decimal c.a.result) c.a.result = written c.a.result (omega arith) in
    entry_more c.loop-k.text.items c.push_entry.new.text.items (pos I.size ∷ []) I.a k _ c.a.result inside entry w (simp to_z-of_z at c.in_ok-push_entry.ensures) c.loop-k.invariant

pub returns : goal.returns
returns c =
    let I = c.args.instance.now in
    let instance = c.size-size.ensures.instance in
    let s = c.size-size.result in
    let size : s ≡ I.size = c.size-size.ensures.value in
    let square : s * s ≡ I.size * I.size = ap (λ (n : ℕ). n * n) size in
    let all : take c.loop-k.k I.a ≡ I.a = take_all c.loop-k.k I.a (omega (arith, instance.a_count)) in
    subst (λ (l : List ℤ). Spells c.loop-k.text.items 0 ((pos I.size ∷ []) ++ l) (length c.loop-k.text.items)) all c.loop-k.invariant
