-- One list of numbers behind another: both in range, and distinguished by their lengths.
use Rattle.std.proofs.Common.{◌≡◌, ℕ, ◌+◌, ◌-◌, ◌^◌, ◌≤◌, ◌++◌, List, length, take, drop, get_or, ℤ, pos, refl, sym, ◌∙◌, ap, subst, inl, inr, arith, length-append}
use Rattle.std.proofs.lemmas.Bool.{cases_lt}
use Rattle.std.proofs.lemmas.List.{get_or_append_left, get_or-append_right}
use Rattle.std.proofs.Math.Seq.{take-append_seam, drop-append_seam}
use Rattle.std.specs.Prelude.{unsigned_abs}
use Rattle.qap_cost.specs.Range.{AllLimited}

-- two lists in range are so one behind the other
pub AllLimited-append : (xs ys : List ℤ) → AllLimited xs → AllLimited ys → AllLimited (xs ++ ys)
AllLimited-append xs ys h k = record {
  each = λ j below. elim (cases_lt j (length xs)) [
    | inl front ↦ subst (λ (z : ℤ). unsigned_abs z ≤ 10 ^ 24) (sym (get_or_append_left xs ys (pos 0) j front)) (h.each j front)
    | inr back ↦ subst (λ (z : ℤ). unsigned_abs z ≤ 10 ^ 24) (sym (get_or-append_right xs ys (length xs) j (pos 0) refl back)) (k.each (j - length xs) (omega (arith, length-append xs ys)))
  ];
}

-- if they are so together, the first one is
pub AllLimited-front : (xs ys : List ℤ) → AllLimited (xs ++ ys) → AllLimited xs
AllLimited-front xs ys h = record {
  each = λ j below. subst (λ (z : ℤ). unsigned_abs z ≤ 10 ^ 24) (get_or_append_left xs ys (pos 0) j below) (h.each j (omega (arith, length-append xs ys)));
}

-- and so is the second one
pub AllLimited-back : (xs ys : List ℤ) → AllLimited (xs ++ ys) → AllLimited ys
AllLimited-back xs ys h = record {
  each = λ j below.
      let at : get_or (xs ++ ys) (length xs + j) (pos 0) ≡ get_or ys j (pos 0) =
      get_or-append_right xs ys (length xs) (length xs + j) (pos 0) refl (omega arith) ∙ ap (λ k. get_or ys k (pos 0)) (omega arith) in
      subst (λ (z : ℤ). unsigned_abs z ≤ 10 ^ 24) at (h.each (length xs + j) (omega (arith, length-append xs ys)));
}

-- where two lists in a row are the same as two others, and the first ones are equally long, they are the same each
pub same_halves : (u v w x : List ℤ) → length u ≡ length w → u ++ v ≡ w ++ x → (u ≡ w) × (v ≡ x)
same_halves u v w x same e = (
  sym (take-append_seam u v) ∙ ap (take (length u)) e ∙ ap (λ (k : ℕ). take k (w ++ x)) same ∙ take-append_seam w x,
  sym (drop-append_seam u v) ∙ ap (drop (length u)) e ∙ ap (λ (k : ℕ). drop k (w ++ x)) same ∙ drop-append_seam w x,
)
