-- The two versions: what each lets a split name, and when a bound has a line.
use Rattle.std.proofs.Common.{◌≡◌, ℕ, ◌+◌, ◌<◌, ◌≤◌, List, [], ◌∷◌, ◌++◌, get_or, ℤ, pos, refl, sym, ap, ◌∙◌, arith, unsigned_abs}
use Rattle.std.specs.Prelude.{◌<ℤ◌, ◌≤ℤ◌, int_lt, codes}
use Rattle.std.proofs.lemmas.Bool.{cond-true, cond-false}
use Rattle.qap_cost.specs.Range.{AllLimited}
use Rattle.qap_cert.specs.Shape.{HasShape, AllHaveShape}
use Rattle.qap_lines.specs.LineText.{line_text}
use Rattle.qap_cert.specs.Text.{bound_text}
use Rattle.qap_cert.specs.Tree.{Node, split, bound, Nodes, no_nodes, node}
use Rattle.qap_cert.specs.Version.{version_number, MayName, split_numbers}
use Rattle.qap_cert.specs.declared.version.Version.{Version}
use Rattle.qap_cert.specs.declared.version.Version.TheVariants.{First, Second}
use Rattle.qap_lines.proofs.Fronts.{int_lt-yes, int_lt-no}
use Rattle.qap_lines.proofs.NumberLists.{AllLimited-one}

-- what a split's line says

-- the numbers of a split's line lie within -10^24 to 10^24
pub AllLimited-split_numbers : (w : Version) (n : ℕ) (placed : List ℕ) (f : ℕ) → n ≤ 256 → MayName w n placed f → AllLimited (split_numbers w f)
AllLimited-split_numbers First n placed f small may = record { each = λ j below. absurd (omega arith) }
AllLimited-split_numbers Second n placed f small may = AllLimited-one (pos (f + 1)) (omega (arith, small, may))

-- the numbers of a split's line are those of one facility
pub same_facility : (w : Version) (n : ℕ) (placed : List ℕ) (f g : ℕ) → MayName w n placed f → MayName w n placed g → split_numbers w f ≡ split_numbers w g → f ≡ g
same_facility First n placed f g a b e = a ∙ sym b
same_facility Second n placed f g a b e =
    let more : f + 1 ≡ g + 1 = ap (λ l. unsigned_abs (get_or l 0 (pos 0))) e in omega arith

-- lists of one number each that are the same have the same number
pub same_number : (m n : ℕ) → pos m ∷ [] ≡ pos n ∷ [] → m ≡ n
same_number m n e = ap (λ l. unsigned_abs (get_or l 0 (pos 0))) e

-- no two versions have the same number
pub one_version : (v w : Version) → pos (version_number v) ∷ [] ≡ pos (version_number w) ∷ [] → v ≡ w
one_version First First e = refl
one_version First Second e = absurd (let same : 1 ≡ 2 = same_number 1 2 e in omega (arith, same))
one_version Second First e = absurd (let same : 2 ≡ 1 = same_number 2 1 e in omega (arith, same))
one_version Second Second e = refl

-- a version's number is 1 or 2
pub version_small : (v : Version) → (0 < version_number v) × (version_number v ≤ 2)
version_small First = (omega arith, omega arith)
version_small Second = (omega arith, omega arith)

-- a version's number lies within -10^24 to 10^24
pub version_limited : (v : Version) → AllLimited (pos (version_number v) ∷ [])
version_limited v = AllLimited-one (pos (version_number v)) (omega (arith, (version_small v).1))

-- what has the shape of one version has that of the second
mutual
  pub HasShape-second : (t : Node) (w : Version) (n : ℕ) (placed : List ℕ) → HasShape w n placed t → HasShape Second n placed t
  HasShape-second (split f children) w n placed h = (h.0, h.1, h.1.within, h.3, AllHaveShape-second children w n (placed ++ f ∷ []) h.4)
  HasShape-second (bound u v) w n placed h = h

  -- the same for nodes in a row
  pub AllHaveShape-second : (ts : Nodes) (w : Version) (n : ℕ) (placed : List ℕ) → AllHaveShape w n placed ts → AllHaveShape Second n placed ts
  AllHaveShape-second no_nodes w n placed h = tt
  AllHaveShape-second (node t rest) w n placed h = (HasShape-second t w n placed h.0, AllHaveShape-second rest w n placed h.1)

-- a bound below the cost has a line
pub bound_text-below : (c g : ℤ) → g <ℤ c → bound_text c g ≡ line_text (codes "bound") (g ∷ [])
bound_text-below c g less = cond-true (int_lt g c) (line_text (codes "bound") (g ∷ [])) [] (int_lt-yes g c less)

-- a bound that isn't below the cost has none
pub bound_text-equal : (c g : ℤ) → c ≤ℤ g → bound_text c g ≡ []
bound_text-equal c g most = cond-false (int_lt g c) (line_text (codes "bound") (g ∷ [])) [] (int_lt-no g c most)
