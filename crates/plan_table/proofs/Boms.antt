-- The byte order mark that a text may begin with.
use Rattle.std.proofs.Common.{◌≡◌, ◌≢◌, ◌∙◌, ℕ, List, [], ◌∷◌, ◌++◌, Bool, true, false, cond, refl, ap}
use Rattle.std.specs.Prelude.{◌==◌, ◌&&◌}
use Rattle.std.proofs.lemmas.Bool.{eqb-true}
use Rattle.csv.specs.Reading.{is_bom, strip_bom}

-- the mark
abbrev pub bom : List ℕ
bom = 0xEF ∷ 0xBB ∷ 0xBF ∷ []

-- a text that begins with the mark loses it
pub strip_bom-there : (rest : List ℕ) → strip_bom (bom ++ rest) ≡ rest
unfolding strip_bom
strip_bom-there rest = refl

are_bom : (a b c : ℕ) (x y z : Bool) → (a == 0xEF) ≡ x → (b == 0xBB) ≡ y → (c == 0xBF) ≡ z → (x && y && z) ≡ true → (rest : List ℕ) → a ∷ b ∷ c ∷ rest ≡ bom ++ rest
are_bom a b c true true true is_a is_b is_c all rest =
    let a_is = eqb-true a 0xEF is_a in
    let b_is = eqb-true b 0xBB is_b in
    let c_is = eqb-true c 0xBF is_c in
    ap (λ x. x ∷ b ∷ c ∷ rest) a_is ∙ ap (λ x. 0xEF ∷ x ∷ c ∷ rest) b_is ∙ ap (λ x. 0xEF ∷ 0xBB ∷ x ∷ rest) c_is
are_bom a b c true true false is_a is_b is_c all rest = absurd (cc)
are_bom a b c true false z is_a is_b is_c all rest = absurd (cc)
are_bom a b c false y z is_a is_b is_c all rest = absurd (cc)

not_marked : (marked : Bool) (whole rest : List ℕ) → (marked ≡ true → ⊥) → cond marked rest whole ≡ whole
not_marked true whole rest none = absurd (none refl)
not_marked false whole rest none = refl

-- a text that doesn't stays as it is
pub strip_bom-none : (text : List ℕ) → ((rest : List ℕ) → text ≢ bom ++ rest) → strip_bom text ≡ text
unfolding strip_bom
strip_bom-none [] none = refl
strip_bom-none (a ∷ []) none = refl
strip_bom-none (a ∷ b ∷ []) none = refl
strip_bom-none (a ∷ b ∷ c ∷ rest) none =
    not_marked (is_bom a b c) (a ∷ b ∷ c ∷ rest) rest (λ all. none rest (are_bom a b c (a == 0xEF) (b == 0xBB) (c == 0xBF) refl refl refl all rest))
