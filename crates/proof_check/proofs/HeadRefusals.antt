-- The lines before the tree: the text determines them.
use Rattle.std.proofs.Common.{◌≡◌, ◌≢◌, ℕ, ◌<◌, ◌++◌, List, [], ◌∷◌, length, drop, get_or, ℤ, pos, sym, ◌∙◌, ap, subst, inl, inr, arith}
use Rattle.std.specs.Prelude.{codes, Option, None, Some, int_lt}
use Rattle.std.specs.Io.KnownBytes.{Consumes}
use Rattle.std.proofs.lemmas.Bool.{cases_lt, cond-true, cond-false}
use Rattle.std.proofs.lemmas.List.{append_cancel_right, length-append, nil_from_length}
use Rattle.std.proofs.lemmas.Int.{ints, by_lt_z}
use Rattle.qap_cost.specs.Placement.{Placement, root_of}
use Rattle.qap_cost.specs.Range.{AllLimited}
use Rattle.qap_lines.proofs.Fronts.{int_lt-no, int_lt-yes, line_front}
use Rattle.qap_lines.proofs.Lines.{IsLine-unique}
use Rattle.qap_lines.proofs.NumberLists.{AllLimited-one, IsLine-line_text, IsNamed-numbers_text, IsNamed-unique}
use Rattle.qap_lines.specs.Line.{HasNoLine, IsLine}
use Rattle.qap_lines.specs.LineText.{line_text, numbers_text}
use Rattle.qap_lines.specs.Number.{IsNamed}
use Rattle.qap_proof.proofs.OneText.{no_line-below, no_line-root, same_roots}
use Rattle.qap_proof.proofs.Roots.{AllLimited-by_turns, root_text-some}
use Rattle.qap_proof.specs.Claim.{IsRoot}
use Rattle.qap_proof.specs.Text.{bound_text, by_turns, root_text}
use Rattle.qap_proof.specs.TextFault.{HasRootLine, IsBelow}
use Rattle.qap_proof.specs.declared.error.ProofError.{ProofError}
use Rattle.proof_check.specs.Acceptance.{IsInterruption}
use Rattle.proof_check.specs.Completeness.{BeginsUnlike, BeginsWithLine, HasBound, HasRoot, IsCurrent}
use Rattle.proof_check.proofs.Passing.{line_known}

-- the placement of these facilities
abbrev placement_of : ℕ → List ℕ → List ℕ → Placement
placement_of n facilities places = record { size = n; facilities = facilities; places = places }

-- known bytes that begin with a line of a name and numbers
pub begins_named : (name : List ℕ) (zs : List ℤ) (old : Option (List ℕ)) (rest : List ℕ) → HasNoLine name → AllLimited zs → old ≡ Some (line_text name zs ++ rest) → BeginsWithLine old (name ++ numbers_text zs) rest
begins_named name zs old rest none limited known = record { text = line_text name zs ++ rest; known = known; first = IsLine-line_text rest name zs none limited }

-- a line that was read is that line
pub named_read : (a b : Option (List ℕ)) (line lent name : List ℕ) (zs : List ℤ) (rest : List ℕ) → Consumes a b (line ++ 10 ∷ []) → HasNoLine line → lent ≡ line → HasNoLine name → AllLimited zs → a ≡ Some (line_text name zs ++ rest) → IsNamed name lent zs
named_read a b line lent name zs rest read whole same none limited known =
    let now = line_known a b line (name ++ numbers_text zs) rest read whole (begins_named name zs a rest none limited known) in
    subst (λ (l : List ℕ). IsNamed name l zs) (sym (same ∙ now.0)) (IsNamed-numbers_text name zs limited)

-- what was read of a known text that begins with such a line
pub one_front : (name : List ℕ) (xs ys : List ℤ) (a b : Option (List ℕ)) (rest : List ℕ) → HasNoLine name → AllLimited xs → AllLimited ys → Consumes a b (line_text name ys) → a ≡ Some (line_text name xs ++ rest) → (xs ≡ ys) × (b ≡ Some rest)
one_front name xs ys a b rest none h k read known = go b (subst (λ (o : Option (List ℕ)). Consumes o b (line_text name ys)) known read)
  where
    go : (b : Option (List ℕ)) → Consumes (Some (line_text name xs ++ rest)) b (line_text name ys) → (xs ≡ ys) × (b ≡ Some rest)
    go None e = absurd e
    go (Some more) e = let same = line_front name xs ys rest more none h k e in (same.0, ap Some (sym same.1))

-- ---- the root

-- a text that has a line whose first byte is another one
first_of : (text line rest : List ℕ) (byte : ℕ) → 10 < byte → IsLine text line rest → get_or text 0 0 ≢ byte → get_or line 0 0 ≢ byte
first_of text [] rest byte high first other at = absurd (omega (arith, high, at))
first_of text (x ∷ xs) rest byte high first other at = other (ap (λ l. get_or l 0 0) first.is ∙ at)

-- there is no line of a root, or there is one
pub data RootCase (n : ℕ) (y : Placement) (line : List ℕ) (old : Option (List ℕ)) (text : List ℕ) : Type 0 where
  without : length y.facilities ≡ 0 → IsCurrent line old text → get_or line 0 0 ≢ 110 → RootCase n y line old text
  with_line : HasRootLine n y → line ++ 10 ∷ [] ≡ root_text y.facilities y.places → old ≡ Some text → RootCase n y line old text

pub root_case : (n : ℕ) (y : Placement) (line : List ℕ) (old : Option (List ℕ)) (text : List ℕ) → HasRoot n y line old text → RootCase n y line old text
root_case n y line old text h =
    elim (cases_lt 0 (length y.facilities)) [
      | inl some ↦
          let is = root_text-some y.facilities y.places some in
          let whole = subst (λ (l : List ℕ). IsLine (l ++ text) line h.current.unread) is h.current.first in
          let same = IsLine-unique (line_text (codes "node") (by_turns y.facilities y.places) ++ text) line h.current.unread (codes "node" ++ numbers_text (by_turns y.facilities y.places)) text whole
          (IsLine-line_text text (codes "node") (by_turns y.facilities y.places) no_line-root (AllLimited-by_turns n y h.root)) in
          with_line (record { root = h.root; some = some }) (ap (λ l. l ++ 10 ∷ []) same.0 ∙ sym is) (h.current.known ∙ ap Some same.1)
      | inr none ↦
          let zero_ : length y.facilities ≡ 0 = omega (arith, none) in
          let is : root_text y.facilities y.places ≡ [] = ap (λ l. root_text l y.places) (nil_from_length y.facilities zero_) in
          let first = subst (λ (l : List ℕ). IsLine (l ++ text) line h.current.unread) is h.current.first in
          without zero_ (record { unread = h.current.unread; known = h.current.known; first = first }) (first_of text line h.current.unread 110 (omega arith) first h.next.other)
    ]

-- the line of a root begins with its word
root_prefix : (n : ℕ) (y : Placement) (line : List ℕ) → HasRootLine n y → line ++ 10 ∷ [] ≡ root_text y.facilities y.places → (rest : List ℕ) × (line ≡ codes "node " ++ rest)
root_prefix n y line h is = go y.facilities y.places h.root.placement.paired h.some is
  where
    go : (fs ks : List ℕ) → length ks ≡ length fs → 0 < length fs → line ++ 10 ∷ [] ≡ root_text fs ks → (rest : List ℕ) × (line ≡ codes "node " ++ rest)
    go [] ks paired some e = absurd (omega (arith, some))
    go (f ∷ fs) [] paired some e = absurd (omega (arith, paired))
    go (f ∷ fs) (k ∷ ks) paired some e = (drop 1 (numbers_text (by_turns (f ∷ fs) (k ∷ ks))), append_cancel_right line (codes "node" ++ numbers_text (by_turns (f ∷ fs) (k ∷ ks))) (10 ∷ []) e)

-- where the line is refused as that of a root, the check was interrupted
pub root_refused : (n : ℕ) (y : Placement) (line lent : List ℕ) (old : Option (List ℕ)) (text : List ℕ) (e : ProofError) → lent ≡ line → (get_or lent 0 0 ≢ 110 → IsInterruption e) → ((x : Placement) → HasRootLine n x → lent ++ 10 ∷ [] ≡ root_text x.facilities x.places → IsInterruption e)
    → HasRoot n y line old text → IsInterruption e
root_refused n y line lent old text e same other refuses h = go (root_case n y line old text h)
  where
    go : RootCase n y line old text → IsInterruption e
    go (without none now first) = other (λ at. first (ap (λ l. get_or l 0 0) (sym same) ∙ at))
    go (with_line root is known) = refuses y root (ap (λ l. l ++ 10 ∷ []) same ∙ is)

one_root : (n : ℕ) (x y : Placement) → IsRoot n x → HasRootLine n y → root_text x.facilities x.places ≡ root_text y.facilities y.places → x ≡ y
one_root n x y root h e =
    elim (cases_lt 0 (length x.facilities)) [
      | inl some ↦
          let is = sym (root_text-some x.facilities x.places some) ∙ e ∙ root_text-some y.facilities y.places h.some in
          let text = ap (λ l. l ++ []) is in
          same_roots n x y root h.root (line_front (codes "node") (by_turns x.facilities x.places) (by_turns y.facilities y.places) [] [] no_line-root (AllLimited-by_turns n x root) (AllLimited-by_turns n y h.root) text).0
      | inr none ↦
          let zero_ : length x.facilities ≡ 0 = omega (arith, none) in
          let nothing : [] ≡ root_text y.facilities y.places = sym (ap (λ l. root_text l x.places) (nil_from_length x.facilities zero_)) ∙ e in
          let some = ap length (nothing ∙ root_text-some y.facilities y.places h.some) in
          absurd (omega (arith, some, length-append (codes "node" ++ numbers_text (by_turns y.facilities y.places)) (10 ∷ [])))
    ]

-- a root that was found is that of the text, and what follows is left
pub root_found : (n : ℕ) (x y : Placement) (line lent : List ℕ) (old : Option (List ℕ)) (text : List ℕ) → lent ≡ line → IsRoot n x → lent ++ 10 ∷ [] ≡ root_text x.facilities x.places → HasRoot n y line old text → (x ≡ y) × (old ≡ Some text)
root_found n x y line lent old text same root is h = go (root_case n y line old text h)
  where
    go : RootCase n y line old text → (x ≡ y) × (old ≡ Some text)
    go (with_line other there known) = (one_root n x y root other (sym is ∙ ap (λ l. l ++ 10 ∷ []) same ∙ there), known)
    go (without none now first) =
        elim (cases_lt 0 (length x.facilities)) [
          | inl some ↦ let at = root_prefix n x line (record { root = root; some = some }) (ap (λ l. l ++ 10 ∷ []) (sym same) ∙ is) in absurd (first (ap (λ l. get_or l 0 0) at.1))
          | inr empty ↦
              let zero_ : length x.facilities ≡ 0 = omega (arith, empty) in
              let nothing : lent ++ 10 ∷ [] ≡ [] = is ∙ ap (λ l. root_text l x.places) (nil_from_length x.facilities zero_) in
              absurd (omega (arith, ap length nothing, length-append lent (10 ∷ [])))
        ]

-- where none was found, the root is empty
pub root_none : (n : ℕ) (y : Placement) (line lent : List ℕ) (old : Option (List ℕ)) (text : List ℕ) → lent ≡ line → ((rest : List ℕ) → lent ≢ codes "node " ++ rest) → HasRoot n y line old text → (root_of n ≡ y) × IsCurrent line old text
root_none n y line lent old text same none h = go (root_case n y line old text h)
  where
    go : RootCase n y line old text → (root_of n ≡ y) × IsCurrent line old text
    go (with_line root is known) = let at = root_prefix n y line root is in absurd (none at.0 (same ∙ at.1))
    go (without zero_ now first) =
        let sizes : n ≡ y.size = sym h.root.size in
        let fs : [] ≡ y.facilities = sym (nil_from_length y.facilities zero_) in
        let ks : [] ≡ y.places = sym (nil_from_length y.places (omega (arith, h.root.placement.paired, zero_))) in
        (λ i. placement_of (sizes i) (fs i) (ks i), now)

-- what follows begins with a line
pub next_line : (byte : ℕ) (old : Option (List ℕ)) (text : List ℕ) (h : BeginsUnlike byte text) → old ≡ Some text → BeginsWithLine old h.line h.rest
next_line byte old text h known = record { text = text; known = known; first = h.first }

-- once that was read, it is current
pub current_next : (byte : ℕ) (a b : Option (List ℕ)) (text line : List ℕ) → BeginsUnlike byte text → a ≡ Some text → Consumes a b (line ++ 10 ∷ []) → HasNoLine line → IsCurrent line b text
current_next byte a b text line h known read whole =
    let now = line_known a b line h.line h.rest read whole (next_line byte a text h known) in
    record { unread = h.rest; known = now.1; first = subst (λ (l : List ℕ). IsLine text l h.rest) (sym now.0) h.first }

-- ---- the bound

-- there is no line of a bound, or there is one
pub data BoundCase (c g : ℤ) (line : List ℕ) (old : Option (List ℕ)) (text : List ℕ) : Type 0 where
  without_bound : g ≡ c → IsCurrent line old text → get_or line 0 0 ≢ 98 → BoundCase c g line old text
  with_bound : IsBelow c g → IsNamed (codes "bound") line (g ∷ []) → old ≡ Some text → BoundCase c g line old text

pub bound_case : (c g : ℤ) (line : List ℕ) (old : Option (List ℕ)) (text : List ℕ) → HasBound c g line old text → BoundCase c g line old text
bound_case c g line old text h =
    by_lt_z g c
    (λ less.
    let is : bound_text c g ≡ line_text (codes "bound") (g ∷ []) = cond-true (int_lt g c) (line_text (codes "bound") (g ∷ [])) [] (int_lt-yes g c less) in
    let limited = AllLimited-one g h.bound.limited in
    let whole = subst (λ (l : List ℕ). IsLine (l ++ text) line h.current.unread) is h.current.first in
    let same = IsLine-unique (line_text (codes "bound") (g ∷ []) ++ text) line h.current.unread (codes "bound" ++ numbers_text (g ∷ [])) text whole (IsLine-line_text text (codes "bound") (g ∷ []) no_line-below limited) in
    with_bound (record { limited = h.bound.limited; less = less }) (subst (λ (l : List ℕ). IsNamed (codes "bound") l (g ∷ [])) (sym same.0) (IsNamed-numbers_text (codes "bound") (g ∷ []) limited)) (h.current.known ∙ ap Some same.1))
    (λ most.
    let at_most = h.bound.at_most in
    let is : bound_text c g ≡ [] = cond-false (int_lt g c) (line_text (codes "bound") (g ∷ [])) [] (int_lt-no g c most) in
    let first = subst (λ (l : List ℕ). IsLine (l ++ text) line h.current.unread) is h.current.first in
    without_bound (omega (arith, ints, at_most, most)) (record { unread = h.current.unread; known = h.current.known; first = first }) (first_of text line h.current.unread 98 (omega arith) first h.next.other))

named_first : (line : List ℕ) (zs : List ℤ) → IsNamed (codes "bound") line zs → get_or line 0 0 ≡ 98
named_first line zs named = ap (λ l. get_or l 0 0) named.is

-- a line that is refused is none of a bound
pub bound_refused : (c g : ℤ) (line lent : List ℕ) (old : Option (List ℕ)) (text : List ℕ) (e : ProofError) → lent ≡ line → ((z : ℤ) → IsBelow c z → IsNamed (codes "bound") lent (z ∷ []) → ⊥) → ((zs : List ℤ) × IsNamed (codes "bound") lent zs) → HasBound c g line old text → IsInterruption e
bound_refused c g line lent old text e same refuses some h = go (bound_case c g line old text h)
  where
    go : BoundCase c g line old text → IsInterruption e
    go (without_bound is now first) = absurd (first (ap (λ l. get_or l 0 0) (sym same) ∙ named_first lent some.0 some.1))
    go (with_bound below named known) = absurd (refuses g below (subst (λ (l : List ℕ). IsNamed (codes "bound") l (g ∷ [])) (sym same) named))

-- a bound that was found is that of the text, and what follows is left
pub bound_found : (c z g : ℤ) (line lent : List ℕ) (old : Option (List ℕ)) (text : List ℕ) → lent ≡ line → IsNamed (codes "bound") lent (z ∷ []) → HasBound c g line old text → (z ≡ g) × (old ≡ Some text)
bound_found c z g line lent old text same found h = go (bound_case c g line old text h)
  where
    go : BoundCase c g line old text → (z ≡ g) × (old ≡ Some text)
    go (without_bound is now first) = absurd (first (ap (λ l. get_or l 0 0) (sym same) ∙ named_first lent (z ∷ []) found))
    go (with_bound below named known) =
        let numbers = IsNamed-unique (codes "bound") line (z ∷ []) (g ∷ []) (subst (λ (l : List ℕ). IsNamed (codes "bound") l (z ∷ [])) same found) named in
        (ap (λ l. get_or l 0 (pos 0)) numbers, known)

-- where none was found, the bound is the cost
pub bound_none : (c g : ℤ) (line lent : List ℕ) (old : Option (List ℕ)) (text : List ℕ) → lent ≡ line → ((z : ℤ) → IsNamed (codes "bound") lent (z ∷ []) → ⊥) → HasBound c g line old text → (c ≡ g) × IsCurrent line old text
bound_none c g line lent old text same none h = go (bound_case c g line old text h)
  where
    go : BoundCase c g line old text → (c ≡ g) × IsCurrent line old text
    go (without_bound is now first) = (sym is, now)
    go (with_bound below named known) = absurd (none g (subst (λ (l : List ℕ). IsNamed (codes "bound") l (g ∷ [])) (sym same) named))
