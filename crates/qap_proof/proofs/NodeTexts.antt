-- A node's text, and the line of a root.
use Rattle.std.proofs.Common.{◌≡◌, ◌≢◌, ℕ, ◌<◌, ◌++◌, ◌∷◌, [], List, drop, length, ℤ, refl, sym, ◌∙◌, ap, subst, arith}
use Rattle.std.specs.Prelude.{MatchOption, None, Option, Some, codes}
use Rattle.std.proofs.lemmas.List.{append_cancel_left}
use Rattle.qap_cost.specs.Placement.{Placement}
use Rattle.qap_lines.specs.LineText.{numbers_text}
use Rattle.qap_lines.specs.Number.{IsNamed}
use Rattle.qap_lines.proofs.NumberLists.{IsNamed-unique, Spells-numbers_text, numbers_text-is}
use Rattle.qap_proof.proofs.Roots.{AllLimited-by_turns}
use Rattle.qap_proof.specs.Claim.{IsRoot}
use Rattle.qap_proof.specs.NodeText.{node_text}
use Rattle.qap_proof.specs.Text.{by_turns}
use Rattle.qap_proof.specs.TextFault.{HasRootLine}

-- the line of a root has the root's text behind its word and a blank
pub node_text-named : (n : ℕ) (text : List ℕ) (x : Placement) → IsRoot n x → IsNamed (codes "node") (codes "node " ++ text) (by_turns x.facilities x.places) → text ≡ node_text x
node_text-named n text x root named =
    let numbers : 32 ∷ text ≡ named.numbers = append_cancel_left (codes "node") (32 ∷ text) named.numbers named.is in
    ap (drop 1) (numbers ∙ numbers_text-is named.numbers (by_turns x.facilities x.places) named.spelled (AllLimited-by_turns n x root))

behind_blank : (fs ks : List ℕ) → length ks ≡ length fs → 0 < length fs → 32 ∷ drop 1 (numbers_text (by_turns fs ks)) ≡ numbers_text (by_turns fs ks)
behind_blank [] ks paired some = absurd (omega (arith, some))
behind_blank (f ∷ fs) [] paired some = absurd (omega (arith, paired))
behind_blank (f ∷ fs) (k ∷ ks) paired some = refl

-- `node`, a blank and the text of a root that isn't empty are a line of that name with its numbers
pub named-node_text : (n : ℕ) (text : List ℕ) (x : Placement) → IsRoot n x → 0 < length x.facilities → text ≡ node_text x → IsNamed (codes "node") (codes "node " ++ text) (by_turns x.facilities x.places)
named-node_text n text x root some is = record {
  numbers = numbers_text (by_turns x.facilities x.places);
  is = ap (λ (t : List ℕ). codes "node" ++ 32 ∷ t) is ∙ ap (λ (t : List ℕ). codes "node" ++ t) (behind_blank x.facilities x.places root.placement.paired some);
  spelled = Spells-numbers_text (by_turns x.facilities x.places) (AllLimited-by_turns n x root);
}

-- a text that isn't empty is of a node that isn't
some_placed : (fs ks text : List ℕ) → text ≡ drop 1 (numbers_text (by_turns fs ks)) → 0 < length text → 0 < length fs
some_placed [] ks text is some = absurd (omega (arith, some, ap length is))
some_placed (f ∷ fs) ks text is some = omega arith

-- where a root's text isn't empty, the root has a line, which is named `node` and has its numbers
pub text_of_some : (n : ℕ) (text : List ℕ) (x : Placement) → IsRoot n x → 0 < length text → text ≡ node_text x → HasRootLine n x × IsNamed (codes "node") (codes "node " ++ text) (by_turns x.facilities x.places)
text_of_some n text x root some is =
    let placed = some_placed x.facilities x.places text is some in
    (record { root = root; some = placed }, named-node_text n text x root placed is)

-- what is found in the line of a root's word and a text is found in the text
pub found_text : (n : ℕ) (text line : List ℕ) (found : Option Placement) → line ≡ codes "node " ++ text → 0 < length text
    → MatchOption found ((zs : List ℤ) → IsNamed (codes "node") line zs → ⊥) (λ x. HasRootLine n x × IsNamed (codes "node") line (by_turns x.facilities x.places))
    → MatchOption found ((x : Placement) → IsRoot n x → text ≢ node_text x) (λ x. IsRoot n x × (text ≡ node_text x))
found_text n text line None is some none = λ x root same.
    let told = text_of_some n text x root some same in
    none (by_turns x.facilities x.places) (subst (λ (l : List ℕ). IsNamed (codes "node") l (by_turns x.facilities x.places)) (sym is) told.1)
found_text n text line (Some x) is some told =
    (told.0.root, node_text-named n text x told.0.root (subst (λ (l : List ℕ). IsNamed (codes "node") l (by_turns x.facilities x.places)) is told.1))

-- numbers that are those of no root are those of no node
pub no_text : (n : ℕ) (text line : List ℕ) (zs : List ℤ) → line ≡ codes "node " ++ text → 0 < length text → IsNamed (codes "node") line zs → ((x : Placement) → HasRootLine n x → zs ≢ by_turns x.facilities x.places)
    → (x : Placement) → IsRoot n x → text ≢ node_text x
no_text n text line zs is some named none x root same =
    let told = text_of_some n text x root some same in
    none x told.0 (IsNamed-unique (codes "node") line zs (by_turns x.facilities x.places) named (subst (λ (l : List ℕ). IsNamed (codes "node") l (by_turns x.facilities x.places)) (sym is) told.1))
