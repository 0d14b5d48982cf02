-- The lines before the tree.
use Rattle.std.proofs.Common.{◌≡◌, ℕ, ◌<◌, ◌++◌, List, [], ◌∷◌, length, drop, ℤ, refl, sym, ◌∙◌, ap, subst, arith, append_assoc}
use Rattle.std.proofs.lemmas.Bool.{cond-true}
use Rattle.std.specs.Prelude.{codes, int_lt}
use Rattle.qap_cost.specs.Placement.{Placement}
use Rattle.qap_lines.specs.LineText.{line_text, numbers_text}
use Rattle.qap_lines.specs.Number.{IsNamed}
use Rattle.qap_lines.proofs.Fronts.{int_lt-yes}
use Rattle.qap_lines.proofs.NumberLists.{AllLimited-one}
use Rattle.qap_proof.specs.Claim.{IsRoot}
use Rattle.qap_proof.specs.NodeText.{node_text}
use Rattle.qap_proof.specs.Text.{by_turns, root_text, bound_text}
use Rattle.qap_proof.specs.TextFault.{IsBelow}
use Rattle.proof_check.specs.Flow.{Flow, Passes}
use Rattle.proof_check.specs.Walk.{ReadsBehind}
use Rattle.proof_check.proofs.Flows.{Passes-nil, Passes-trans}
use Rattle.proof_check.proofs.Lines.{line_text-named, named-is}

-- nothing is there
pub ReadsBehind-none : (line : List ℕ) (a : Flow) → ReadsBehind line [] line a a
ReadsBehind-none line a = ([], Passes-nil a, refl)

-- the current line is the text, and the next one was read
pub ReadsBehind-line : (before text line : List ℕ) (a b : Flow) → before ++ 10 ∷ [] ≡ text → Passes a b (line ++ 10 ∷ []) → ReadsBehind before text line a b
ReadsBehind-line before text line a b is read =
    (line ++ 10 ∷ [], read, sym (append_assoc before (10 ∷ []) (line ++ 10 ∷ [])) ∙ ap (λ l. l ++ (line ++ 10 ∷ [])) is ∙ sym (append_assoc text line (10 ∷ [])))

turns_line : (facilities places : List ℕ) (line text : List ℕ) → length places ≡ length facilities → text ≡ drop 1 (numbers_text (by_turns facilities places)) → 0 < length text → line ≡ codes "node " ++ text → line ++ 10 ∷ [] ≡ root_text facilities places
turns_line [] places line text paired is some front = absurd (omega (arith, some, ap length is))
turns_line (f ∷ fs) [] line text paired is some front = absurd (omega (arith, paired))
turns_line (f ∷ fs) (k ∷ ks) line text paired is some front =
    line_text-named (codes "node") line (by_turns (f ∷ fs) (k ∷ ks)) (front ∙ ap (λ l. codes "node " ++ l) is)

-- the line of a root that places facilities is that of the head
pub root_line : (n : ℕ) (x : Placement) (line text : List ℕ) → IsRoot n x → text ≡ node_text x → 0 < length text → line ≡ codes "node " ++ text → line ++ 10 ∷ [] ≡ root_text x.facilities x.places
root_line n x line text root is some front = turns_line x.facilities x.places line text root.placement.paired is some front

-- the line of a bound below the cost is that of the head
pub bound_line : (c g : ℤ) (line : List ℕ) → IsBelow c g → IsNamed (codes "bound") line (g ∷ []) → line ++ 10 ∷ [] ≡ bound_text c g
bound_line c g line below named =
    line_text-named (codes "bound") line (g ∷ []) (named-is (codes "bound") line (g ∷ []) named (AllLimited-one g below.limited))
    ∙ sym (cond-true (int_lt g c) (line_text (codes "bound") (g ∷ [])) [] (int_lt-yes g c below.less))

-- all lines of a head, and the one behind it
pub head_read : (a b c d e f g h : Flow) (version size cost perm line root after bound last : List ℕ) → Passes a b version → Passes b c size → Passes c d cost → Passes d e perm → Passes e f (line ++ 10 ∷ [])
    → ReadsBehind line root after f g → ReadsBehind after bound last g h → Passes a h ((version ++ size ++ cost ++ perm ++ root ++ bound) ++ last ++ 10 ∷ [])
head_read a b c d e f g h version size cost perm line root after bound last r1 r2 r3 r4 r5 r6 r7 =
    let end = 10 ∷ [] in
    let X = ((version ++ size) ++ cost) ++ perm in
    let front : Passes a e X = Passes-trans a d e ((version ++ size) ++ cost) perm (Passes-trans a c d (version ++ size) cost (Passes-trans a b c version size r1 r2) r3) r4 in
    let rest = Passes-trans e f h (line ++ end) (r6.0 ++ r7.0) r5 (Passes-trans f g h r6.0 r7.0 r6.1 r7.1) in
    let one : (line ++ end) ++ (r6.0 ++ r7.0) ≡ root ++ ((bound ++ last) ++ end) =
    sym (append_assoc (line ++ end) r6.0 r7.0) ∙ ap (λ l. l ++ r7.0) (append_assoc line end r6.0 ∙ r6.2)
    ∙ append_assoc (root ++ after) end r7.0 ∙ append_assoc root after (10 ∷ r7.0) ∙ ap (λ l. root ++ l) r7.2 in
    let two : X ++ (root ++ ((bound ++ last) ++ end)) ≡ (((X ++ root) ++ bound) ++ last) ++ end =
    sym (append_assoc ((X ++ root) ++ bound) last end ∙ append_assoc (X ++ root) bound (last ++ end) ∙ append_assoc X root (bound ++ (last ++ end))
    ∙ ap (λ l. X ++ (root ++ l)) (sym (append_assoc bound last end))) in
    subst (Passes a h) (ap (λ l. X ++ l) one ∙ two) (Passes-trans a e h X ((line ++ end) ++ (r6.0 ++ r7.0)) front rest)
