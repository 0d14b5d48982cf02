-- What stands before the tree of a proof, read line by line.
use Rattle.std.proofs.Common.{◌≡◌, ℕ, ◌+◌, ◌<◌, ◌≤◌, List, [], ◌∷◌, ◌++◌, length, ℤ, pos, inr, sym, ap, subst, ◌∙◌, arith, append_assoc}
use Rattle.std.specs.Prelude.{codes}
use Rattle.qap_cost.specs.Bijection.{IsPerm}
use Rattle.qap_cost.specs.Placement.{Placement}
use Rattle.qap_cost.specs.Range.{IsLimited}
use Rattle.qap_io.specs.Number.{from_one}
use Rattle.qap_lines.specs.LineText.{line_text}
use Rattle.qap_lines.specs.Bound.{IsBoundFor}
use Rattle.qap_proof.specs.Claim.{IsRoot, lines_of_bound}
use Rattle.qap_proof.specs.Head.{HasHead, IsRooted}
use Rattle.qap_proof.specs.Text.{bound_text, root_text, tree_text}
use Rattle.qap_proof.specs.TextFault.{IsFaultFromTree, IsFaultFromBound, IsFaultFromRoot, IsTextFault}
use Rattle.qap_proof.specs.declared.error.ProofError.{ProofError}

-- the lines up to the permutation's, with what is behind each
pub record Front (n : ℕ) (c : ℤ) (p text size cost perm behind : List ℕ) : Type 0 where
  pub some : 0 < n
  pub small : n ≤ 256
  pub limited : IsLimited c
  pub permutation : IsPerm p
  pub sized : length p ≡ n
  pub version_is : text ≡ line_text (codes "qapproof") (pos 1 ∷ []) ++ size
  pub size_is : size ≡ line_text (codes "n") (pos n ∷ []) ++ cost
  pub cost_is : cost ≡ line_text (codes "cost") (c ∷ []) ++ perm
  pub perm_is : perm ≡ line_text (codes "perm") (from_one p) ++ behind

-- a fault behind the permutation's line is one of the text
pub IsTextFault-behind : (n : ℕ) (c : ℤ) (p text size cost perm behind : List ℕ) (e : ProofError) → Front n c p text size cost perm behind → IsFaultFromRoot n c behind e → IsTextFault text e
IsTextFault-behind n c p text size cost perm behind e h fault = inr (record {
  rest = size;
  is = h.version_is;
  holds =
      inr (
        n,
        h.some,
        h.small,
        record {
          rest = cost;
          is = h.size_is;
          holds =
              inr (
                c,
                h.limited,
                record { rest = perm; is = h.cost_is; holds = inr (p, h.permutation, h.sized, record { rest = behind; is = h.perm_is; holds = fault }) },
              );
        },
      );
})

-- the parts of a text, one behind the other
pub in_parts : (a b c d k l t z : List ℕ) → a ++ b ++ c ++ d ++ k ++ l ++ t ++ z ≡ a ++ (b ++ (c ++ (d ++ (k ++ (l ++ (t ++ z))))))
in_parts a b c d k l t z =
    append_assoc (a ++ b ++ c ++ d ++ k ++ l) t z ∙ append_assoc (a ++ b ++ c ++ d ++ k) l (t ++ z) ∙ append_assoc (a ++ b ++ c ++ d) k (l ++ (t ++ z))
    ∙ append_assoc (a ++ b ++ c) d (k ++ (l ++ (t ++ z))) ∙ append_assoc (a ++ b) c (d ++ (k ++ (l ++ (t ++ z)))) ∙ append_assoc a b (c ++ (d ++ (k ++ (l ++ (t ++ z)))))

-- what stands before the tree
pub HasHead-read : (n : ℕ) (c g : ℤ) (p text size cost perm behind : List ℕ) (x : Placement) (at line : ℕ) (lower rest : List ℕ) → Front n c p text size cost perm behind → IsRooted n behind x at lower → IsBoundFor c g
    → line ≡ at + lines_of_bound c g → lower ≡ bound_text c g ++ rest → ((y : Placement) (e : ProofError) → IsFaultFromTree y line rest e → IsFaultFromBound y c at lower e) → HasHead text x c g p line rest
HasHead-read n c g p text size cost perm behind x at line lower rest h rooted bound line_is lower_is lift = record {
  cost = h.limited;
  permutation = h.permutation;
  root = root;
  bound = bound;
  line_is = omega (arith, line_is, rooted.line_is);
  whole = λ t shape rest_is. record {
    proof = record { cost = h.limited; bound = bound; permutation = h.permutation; root = root; tree = shape };
    is =
        h.version_is
        ∙ ap (λ l. line_text (codes "qapproof") (pos 1 ∷ []) ++ l)
        (h.size_is
        ∙ ap (λ (k : ℕ). line_text (codes "n") (pos k ∷ []) ++ cost) (sym h.sized)
        ∙ ap (λ l. line_text (codes "n") (pos (length p) ∷ []) ++ l)
        (h.cost_is
        ∙ ap (λ l. line_text (codes "cost") (c ∷ []) ++ l)
        (h.perm_is
        ∙ ap (λ l. line_text (codes "perm") (from_one p) ++ l)
        (rooted.is ∙ ap (λ l. root_text x.facilities x.places ++ l) (lower_is ∙ ap (λ l. bound_text c g ++ l) rest_is)))))
        ∙ sym (in_parts (line_text (codes "qapproof") (pos 1 ∷ [])) (line_text (codes "n") (pos (length p) ∷ [])) (line_text (codes "cost") (c ∷ [])) (line_text (codes "perm") (from_one p))
        (root_text x.facilities x.places) (bound_text c g) (tree_text t) (codes "end\n"));
  };
  fault = λ e fault. IsTextFault-behind n c p text size cost perm behind e h (rooted.fault c e (lift x e fault));
}
  where
    root : IsRoot (length p) x
    root = subst (λ (k : ℕ). IsRoot k x) (sym h.sized) rooted.root
