use Rattle.std.proofs.Common.{◌≡◌, Bool, true, false, List, [], ◌∷◌, Option, Some, None, ap, ◌∙◌, sym, subst, cond, eqb, ltb, arith}
use Rattle.std.specs.Prelude.{not, ◌&&◌, ◌||◌, IfSome, filter, map}
use Rattle.std.specs.List.{sum_by}
use Rattle.std.proofs.lemmas.Bool.{cond-true, cond_both, false≢true}
use Rattle.std.proofs.lemmas.List.Sums.{sum_by-cons}
use Rattle.tuple_match.specs.FieldValue.{FieldValue}
use Rattle.space_txn.specs.Content.{SameItems, gone_of, is_gone, is_kept, kept_of}
use Rattle.space_txn.specs.Finding.{IsUntaken}
use Rattle.space_txn.specs.Marks.{with_mark}
use Rattle.space_txn.specs.declared.mark.Mark.{Mark}

abbrev tuple_of : Mark → List FieldValue
tuple_of m = m.tuple

-- the tuples of two marks, of which each passes a test or doesn't
abbrev picked : Bool → Bool → Mark → Mark → List Mark
picked a b x y = cond a (x ∷ cond b (y ∷ []) []) (cond b (y ∷ []) [])

two_picked : (q : Mark → Bool) (x y : Mark) (a b : Bool) → q x ≡ a → q y ≡ b → filter q (x ∷ y ∷ []) ≡ picked a b x y
two_picked q x y a b is_a is_b = ap (λ c. picked c (q y) x y) is_a ∙ ap (λ c. picked a c x y) is_b

-- another entry's mark stands before or behind
either_order : (m b : Mark) (P : List Mark → Type 0) → m.taken ≡ true → IsUntaken b.entry (m ∷ []) → P (m ∷ b ∷ []) → P (b ∷ m ∷ []) → P (with_mark b (m ∷ []))
either_order m b P taken untaken before behind =
    let U : Option Mark → Type 0 = λ o. IfSome o (λ (x : Mark). x.taken ≡ false) in
    cond_both (ltb m.entry b.entry) (m ∷ b ∷ []) (cond (eqb m.entry b.entry) (b ∷ []) (b ∷ m ∷ [])) P
    (λ less. before)
    (λ more. cond_both (eqb m.entry b.entry) (b ∷ []) (b ∷ m ∷ []) P
    (λ same. absurd (false≢true (sym (subst U (cond-true (eqb m.entry b.entry) (Some m) None same) untaken) ∙ taken)))
    (λ other. behind))

gone_true : (renewed : Mark → Bool) (m : Mark) → m.taken ≡ true → m.permanent ≡ true → is_gone renewed m ≡ true
gone_true renewed m taken permanent = ap (λ t. t && (m.permanent || renewed m)) taken ∙ ap (λ p. p || renewed m) permanent

gone_false : (renewed : Mark → Bool) (m : Mark) → m.taken ≡ false → is_gone renewed m ≡ false
gone_false renewed m taken = ap (λ t. t && (m.permanent || renewed m)) taken

kept_true : (m : Mark) → m.taken ≡ false → m.permanent ≡ true → is_kept m ≡ true
kept_true m taken permanent = ap (λ t. not t && m.permanent) taken ∙ permanent

kept_false : (m : Mark) → m.taken ≡ true → is_kept m ≡ false
kept_false m taken = ap (λ t. not t && m.permanent) taken

same_list : {X : Type 0} (xs ys : List X) → xs ≡ ys → SameItems xs ys
same_list xs ys is f = ap (sum_by f) is

swapped : {X : Type 0} (x y : X) (zs : List X) → zs ≡ y ∷ x ∷ [] → SameItems zs (x ∷ y ∷ [])
swapped x y zs is f =
    let all = ap (sum_by f) is in
    let first = sum_by-cons f y (x ∷ []) in
    let second = sum_by-cons f x [] in
    let third = sum_by-cons f x (y ∷ []) in
    let fourth = sum_by-cons f y [] in
    omega arith

-- a transaction that took two permanent tuples takes both out of the content, and keeps none that it read
pub two_taken : (m b : Mark) (renewed : Mark → Bool) → m.taken ≡ true → m.permanent ≡ true → b.taken ≡ true → b.permanent ≡ true → IsUntaken b.entry (m ∷ [])
    → SameItems (gone_of renewed (with_mark b (m ∷ []))) (m.tuple ∷ b.tuple ∷ []) × SameItems (kept_of (with_mark b (m ∷ []))) []
two_taken m b renewed m_taken m_permanent b_taken b_permanent untaken =
    let gone_m = gone_true renewed m m_taken m_permanent in
    let gone_b = gone_true renewed b b_taken b_permanent in
    let left_m = kept_false m m_taken in
    let left_b = kept_false b b_taken in (
      either_order m b (λ l. SameItems (gone_of renewed l) (m.tuple ∷ b.tuple ∷ [])) m_taken untaken
          (same_list _ _ (ap (map tuple_of) (two_picked (is_gone renewed) m b true true gone_m gone_b)))
          (swapped m.tuple b.tuple _ (ap (map tuple_of) (two_picked (is_gone renewed) b m true true gone_b gone_m))),
      either_order m b (λ l. SameItems (kept_of l) []) m_taken untaken
          (same_list _ _ (ap (map tuple_of) (two_picked is_kept m b false false left_m left_b)))
          (same_list _ _ (ap (map tuple_of) (two_picked is_kept b m false false left_b left_m))),
    )

-- a transaction that took one permanent tuple and read another takes the one out and keeps the other
pub one_taken : (m b : Mark) (renewed : Mark → Bool) → m.taken ≡ true → m.permanent ≡ true → b.taken ≡ false → b.permanent ≡ true → IsUntaken b.entry (m ∷ [])
    → SameItems (gone_of renewed (with_mark b (m ∷ []))) (m.tuple ∷ []) × SameItems (kept_of (with_mark b (m ∷ []))) (b.tuple ∷ [])
one_taken m b renewed m_taken m_permanent b_taken b_permanent untaken =
    let gone_m = gone_true renewed m m_taken m_permanent in
    let gone_b = gone_false renewed b b_taken in
    let left_m = kept_false m m_taken in
    let left_b = kept_true b b_taken b_permanent in (
      either_order m b (λ l. SameItems (gone_of renewed l) (m.tuple ∷ [])) m_taken untaken
          (same_list _ _ (ap (map tuple_of) (two_picked (is_gone renewed) m b true false gone_m gone_b)))
          (same_list _ _ (ap (map tuple_of) (two_picked (is_gone renewed) b m false true gone_b gone_m))),
      either_order m b (λ l. SameItems (kept_of l) (b.tuple ∷ [])) m_taken untaken
          (same_list _ _ (ap (map tuple_of) (two_picked is_kept m b false true left_m left_b)))
          (same_list _ _ (ap (map tuple_of) (two_picked is_kept b m true false left_b left_m))),
    )
