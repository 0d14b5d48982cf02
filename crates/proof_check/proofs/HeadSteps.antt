-- What is left of a known text of a proof after each line before the tree.
use Rattle.std.proofs.Common.{◌≡◌, ℕ, ◌<◌, ◌≤◌, ◌++◌, List, [], ◌∷◌, length, get_or, ℤ, pos, unsigned_abs, sym, ◌∙◌, ap, subst, inl, inr, arith, append_assoc}
use Rattle.std.specs.Prelude.{codes, false, Option, None, Some, int_lt}
use Rattle.std.specs.Io.KnownBytes.{Consumes}
use Rattle.std.proofs.lemmas.Bool.{cases_lt, cond-true, cond-false}
use Rattle.std.proofs.lemmas.Int.{by_lt_z}
use Rattle.std.proofs.lemmas.List.{nil_from_length}
use Rattle.qap_cost.specs.Bijection.{IsPerm}
use Rattle.qap_cost.specs.Placement.{Placement}
use Rattle.qap_cost.specs.Range.{IsLimited}
use Rattle.qap_io.specs.Number.{from_one}
use Rattle.qap_lines.proofs.Fronts.{int_lt-no, int_lt-yes}
use Rattle.qap_lines.proofs.Locations.{AllLimited-permutation, from_one-injective}
use Rattle.qap_lines.proofs.NumberLists.{AllLimited-one, IsLine-line_text}
use Rattle.qap_lines.specs.Line.{HasNoLine, IsLine}
use Rattle.qap_lines.specs.LineText.{line_text, numbers_text}
use Rattle.qap_proof.proofs.OneText.{no_line-below, no_line-cost, no_line-perm, no_line-root, no_line-size, no_line-version}
use Rattle.qap_proof.proofs.Roots.{AllLimited-by_turns, root_text-some}
use Rattle.qap_proof.specs.Claim.{IsRoot}
use Rattle.qap_proof.specs.Text.{bound_text, by_turns, root_text}
use Rattle.proof_tree.specs.Shape.{HasShape}
use Rattle.proof_tree.specs.Text.{tree_text}
use Rattle.proof_tree.specs.Tree.{Tree}
use Rattle.proof_check.specs.Acceptance.{pair_head_text}
use Rattle.proof_check.specs.Completeness.{BeginsUnlike, BeginsWithLine, HasBound, HasHead, HasRoot, IsCurrent}
use Rattle.proof_check.specs.Walk.{own_of}
use Rattle.proof_check.proofs.HeadRefusals.{one_front}
use Rattle.proof_check.proofs.Passing.{line_known, own_cases, own_needed}
use Rattle.proof_check.proofs.TreeLines.{IsLine-own}

-- from the root on; from the permutation on; and so on
abbrev pub from_root : Placement → ℤ → ℤ → List ℕ → List ℕ
from_root x c g tree = root_text x.facilities x.places ++ (bound_text c g ++ tree)

abbrev pub from_perm : Placement → ℤ → ℤ → List ℕ → List ℕ → List ℕ
from_perm x c g p tree = line_text (codes "perm") (from_one p) ++ from_root x c g tree

abbrev pub from_cost : Placement → ℤ → ℤ → List ℕ → List ℕ → List ℕ
from_cost x c g p tree = line_text (codes "cost") (c ∷ []) ++ from_perm x c g p tree

abbrev pub from_size : Placement → ℤ → ℤ → List ℕ → List ℕ → List ℕ
from_size x c g p tree = line_text (codes "n") (pos (length p) ∷ []) ++ from_cost x c g p tree

-- the whole text
pub in_parts : (x : Placement) (c g : ℤ) (p tree : List ℕ) → pair_head_text x c g p ++ tree ≡ line_text (codes "qapproof") (pos 2 ∷ []) ++ from_size x c g p tree
in_parts x c g p tree =
    let V = line_text (codes "qapproof") (pos 2 ∷ []) in
    let S = line_text (codes "n") (pos (length p) ∷ []) in
    let C = line_text (codes "cost") (c ∷ []) in
    let P = line_text (codes "perm") (from_one p) in
    let R = root_text x.facilities x.places in
    let B = bound_text c g in
    append_assoc ((((V ++ S) ++ C) ++ P) ++ R) B tree ∙ append_assoc (((V ++ S) ++ C) ++ P) R (B ++ tree) ∙ append_assoc ((V ++ S) ++ C) P (R ++ (B ++ tree))
    ∙ append_assoc (V ++ S) C (P ++ (R ++ (B ++ tree))) ∙ append_assoc V S (C ++ (P ++ (R ++ (B ++ tree))))

-- after the first line
pub at_size : (x : Placement) (c g : ℤ) (p : List ℕ) (t : Tree) (a b : Option (List ℕ)) (rest : List ℕ) → HasHead x c g p t a rest → Consumes a b (line_text (codes "qapproof") (pos 2 ∷ [])) → b ≡ Some (from_size x c g p (tree_text t ++ rest))
at_size x c g p t a b rest h read =
    let two = AllLimited-one (pos 2) (omega arith) in
    (one_front (codes "qapproof") (pos 2 ∷ []) (pos 2 ∷ []) a b (from_size x c g p (tree_text t ++ rest)) no_line-version two two read (h.known ∙ ap Some (in_parts x c g p (tree_text t ++ rest)))).1

-- after the second
pub at_cost : (x : Placement) (c g : ℤ) (p tree : List ℕ) (n : ℕ) (a b : Option (List ℕ)) → IsPerm p → n ≤ 256 → a ≡ Some (from_size x c g p tree) → Consumes a b (line_text (codes "n") (pos n ∷ [])) → (length p ≡ n) × (b ≡ Some (from_cost x c g p tree))
at_cost x c g p tree n a b perm small known read =
    let same = one_front (codes "n") (pos (length p) ∷ []) (pos n ∷ []) a b (from_cost x c g p tree) no_line-size (AllLimited-one (pos (length p)) (omega (arith, perm.small))) (AllLimited-one (pos n) (omega (arith, small))) read known in
    (ap (λ l. unsigned_abs (get_or l 0 (pos 0))) same.0, same.1)

-- after the third
pub at_perm : (x : Placement) (c g : ℤ) (p tree : List ℕ) (cost : ℤ) (a b : Option (List ℕ)) → IsLimited c → IsLimited cost → a ≡ Some (from_cost x c g p tree) → Consumes a b (line_text (codes "cost") (cost ∷ [])) → (cost ≡ c) × (b ≡ Some (from_perm x c g p tree))
at_perm x c g p tree cost a b limited limited' known read =
    let same = one_front (codes "cost") (c ∷ []) (cost ∷ []) a b (from_perm x c g p tree) no_line-cost (AllLimited-one c limited) (AllLimited-one cost limited') read known in
    (sym (ap (λ l. get_or l 0 (pos 0)) same.0), same.1)

-- after the fourth
pub at_root : (x : Placement) (c g : ℤ) (p tree q : List ℕ) (a b : Option (List ℕ)) → IsPerm p → IsPerm q → a ≡ Some (from_perm x c g p tree) → Consumes a b (line_text (codes "perm") (from_one q)) → (q ≡ p) × (b ≡ Some (from_root x c g tree))
at_root x c g p tree q a b perm perm' known read =
    let same = one_front (codes "perm") (from_one p) (from_one q) a b (from_root x c g tree) no_line-perm (AllLimited-permutation p perm) (AllLimited-permutation q perm') read known in
    (sym (from_one-injective p q same.0), same.1)

-- a tree begins with its pair duals
pub tree_begins : (t : Tree) (y : Placement) (rest : List ℕ) (byte : ℕ) → byte < 112 → HasShape y false t → BeginsUnlike byte (tree_text t ++ rest)
tree_begins t y rest byte low shape =
    elim (own_cases (own_of t)) [
      | inl none ↦ absurd (own_needed t y none shape)
      | inr some ↦
          let first = IsLine-own t y false some.0 rest shape some.1 in
          record { line = _; rest = _; first = first; other = λ at. let same = ap (λ l. get_or l 0 0) first.is in absurd (omega (arith, low, at, same)) }
    ]

-- what follows the root begins with no root
pub bound_begins : (x : Placement) (c g : ℤ) (p : List ℕ) (t : Tree) (a : Option (List ℕ)) (rest : List ℕ) → HasHead x c g p t a rest → BeginsUnlike 110 (bound_text c g ++ (tree_text t ++ rest))
bound_begins x c g p t a rest h =
    by_lt_z g c
    (λ less.
    let is : bound_text c g ≡ line_text (codes "bound") (g ∷ []) = cond-true (int_lt g c) (line_text (codes "bound") (g ∷ [])) [] (int_lt-yes g c less) in
    subst (λ (l : List ℕ). BeginsUnlike 110 (l ++ (tree_text t ++ rest))) (sym is)
    (record { line = _; rest = _; first = IsLine-line_text (tree_text t ++ rest) (codes "bound") (g ∷ []) no_line-below (AllLimited-one g h.bound.limited); other = λ at. absurd (omega (arith, at)) }))
    (λ most.
    let is : bound_text c g ≡ [] = cond-false (int_lt g c) (line_text (codes "bound") (g ∷ [])) [] (int_lt-no g c most) in
    subst (λ (l : List ℕ). BeginsUnlike 110 (l ++ (tree_text t ++ rest))) (sym is) (tree_begins t x rest 110 (omega arith) h.tree))

-- the line after the permutation
pub root_begins : (x : Placement) (c g : ℤ) (p : List ℕ) (t : Tree) (a b : Option (List ℕ)) (rest : List ℕ) → HasHead x c g p t a rest → b ≡ Some (from_root x c g (tree_text t ++ rest)) → (line after : List ℕ) × BeginsWithLine b line after
root_begins x c g p t a b rest h known =
    let next = bound_begins x c g p t a rest h in
    let text = bound_text c g ++ (tree_text t ++ rest) in
    elim (cases_lt 0 (length x.facilities)) [
      | inl some ↦
          let is = root_text-some x.facilities x.places some in
          (_, _, record { text = _; known = known; first = subst (λ (l : List ℕ). IsLine (l ++ text) (codes "node" ++ numbers_text (by_turns x.facilities x.places)) text) (sym is) (IsLine-line_text text (codes "node") (by_turns x.facilities x.places) no_line-root (AllLimited-by_turns (length p) x h.root)) })
      | inr none ↦
          let is : root_text x.facilities x.places ≡ [] = ap (λ l. root_text l x.places) (nil_from_length x.facilities (omega (arith, none))) in
          (next.line, next.rest, record { text = _; known = known; first = subst (λ (l : List ℕ). IsLine (l ++ text) next.line next.rest) (sym is) next.first })
    ]

abbrev option_or : Option (List ℕ) → List ℕ
option_or None = []
option_or (Some xs) = xs

-- it is current once it was read
pub root_current : (x : Placement) (c g : ℤ) (p : List ℕ) (t : Tree) (a b d : Option (List ℕ)) (rest line : List ℕ) (n : ℕ) → HasHead x c g p t a rest → b ≡ Some (from_root x c g (tree_text t ++ rest)) → Consumes b d (line ++ 10 ∷ []) → HasNoLine line → length p ≡ n
    → HasRoot n x line d (bound_text c g ++ (tree_text t ++ rest))
root_current x c g p t a b d rest line n h known read whole long =
    let begins = root_begins x c g p t a b rest h known in
    let now = line_known b d line begins.0 begins.1 read whole begins.2 in
    let text_is : begins.2.text ≡ from_root x c g (tree_text t ++ rest) = some_is begins.2.text (from_root x c g (tree_text t ++ rest)) (sym begins.2.known ∙ known) in
    record {
      root = subst (λ (k : ℕ). IsRoot k x) long h.root;
      current = record {
        unread = begins.1;
        known = now.1;
        first = subst (λ (l : List ℕ). IsLine (from_root x c g (tree_text t ++ rest)) l begins.1) (sym now.0) (subst (λ (text : List ℕ). IsLine text begins.0 begins.1) text_is begins.2.first);
      };
      next = bound_begins x c g p t a rest h;
    }
  where
    some_is : (xs ys : List ℕ) → Some xs ≡ Some ys → xs ≡ ys
    some_is xs ys e = ap option_or e

-- and then the bound
pub bound_current : (x : Placement) (c g : ℤ) (p : List ℕ) (t : Tree) (a d : Option (List ℕ)) (rest line : List ℕ) → HasHead x c g p t a rest → IsCurrent line d (bound_text c g ++ (tree_text t ++ rest)) → HasBound c g line d (tree_text t ++ rest)
bound_current x c g p t a d rest line h current = record { bound = h.bound; current = current; next = tree_begins t x rest 98 (omega arith) h.tree }

-- what the first four lines state, and that the root follows
pub record IsAtRoot (x : Placement) (c g : ℤ) (p tree : List ℕ) (n : ℕ) (cost : ℤ) (q : List ℕ) (b : Option (List ℕ)) : Type 0 where
  pub size : length p ≡ n
  pub cost_is : cost ≡ c
  pub perm : q ≡ p
  pub known : b ≡ Some (from_root x c g tree)

pub IsAtRoot-read : (x : Placement) (c g : ℤ) (p : List ℕ) (t : Tree) (n : ℕ) (cost : ℤ) (q : List ℕ) (a b d e f : Option (List ℕ)) (rest : List ℕ) → HasHead x c g p t a rest → Consumes a b (line_text (codes "qapproof") (pos 2 ∷ [])) → n ≤ 256 → Consumes b d (line_text (codes "n") (pos n ∷ []))
    → IsLimited cost → Consumes d e (line_text (codes "cost") (cost ∷ [])) → IsPerm q → Consumes e f (line_text (codes "perm") (from_one q)) → IsAtRoot x c g p (tree_text t ++ rest) n cost q f
IsAtRoot-read x c g p t n cost q a b d e f rest h first small second limited third perm fourth =
    let tree = tree_text t ++ rest in
    let sized = at_cost x c g p tree n b d h.permutation small (at_size x c g p t a b rest h first) second in
    let costed = at_perm x c g p tree cost d e h.cost limited sized.1 third in
    let permuted = at_root x c g p tree q e f h.permutation perm costed.1 fourth in
    record { size = sized.0; cost_is = costed.0; perm = permuted.0; known = permuted.1 }
