use Rattle.std.proofs.Common.{Bool, ◌≡◌, ℕ, zero, suc, ◌<◌, true, false, List, [], ◌∷◌, ◌++◌, length, ap, ◌∙◌, sym, refl, subst, cond, eqb, append-nil, drop_of_length-le, take, take_all, arith}
use Rattle.std.specs.Prelude.{not, ◌||◌, ◌≢◌, All, filter}
use Rattle.std.specs.List.Retain.{RetainsInTurn}
use Rattle.std.proofs.Math.ListN.{set}
use Rattle.std.specs.List.{refill}
use Rattle.std.specs.List.{list_any, HoldsAt, AllWithin}
use Rattle.std.proofs.lemmas.Bool.{cond-true, cond-false, eq-eqb, ne_eqb, false≢true}
use Rattle.std.proofs.lemmas.List.Elements.{All-head, All-tail}
use Rattle.tuple_space.specs.declared.hold.Hold.{Hold}
use Rattle.tuple_space.specs.Holds.{holds_with, holds_without}

-- there is some hold where the list isn't empty
pub some_hold : (holds : List Hold) → list_any (λ (h : Hold). true) holds ≡ not (eqb (length holds) 0)
some_hold [] = refl
some_hold (h ∷ hs) =
    let e : eqb (length (h ∷ hs)) 0 ≡ false = ne_eqb _ _ (λ q. absurd (omega arith)) in
    sym (ap not e)

-- a hold written in the place of its holder's first one
pub with_found : (hold : Hold) (rows : List Hold) (i : ℕ) → i < length rows → HoldsAt (λ h. h.by ≡ hold.by) rows i → AllWithin (λ h. h.by ≢ hold.by) rows 0 i → set rows i hold ≡ holds_with hold rows
with_found hold [] i within here before = absurd (omega arith)
with_found hold (x ∷ xs) zero within here before = sym (cond-true (eqb x.by hold.by) _ _ (eq-eqb _ _ (here x)))
with_found hold (x ∷ xs) (suc i) within here before =
    ap (λ l. x ∷ l) (with_found hold xs i (omega arith) (λ d. here d) (λ k d from to. before (suc k) d (omega arith) (omega arith)))
    ∙ sym (cond-false (eqb x.by hold.by) _ _ (ne_eqb _ _ (before zero x (omega arith) (omega arith))))

-- a hold of a new holder stands behind all others
pub with_none : (hold : Hold) (rows : List Hold) → All (λ h. h.by ≢ hold.by) rows → rows ++ hold ∷ [] ≡ holds_with hold rows
with_none hold [] none = refl
with_none hold (x ∷ xs) none =
    let P : Hold → Type 0 = λ h. h.by ≢ hold.by in
    ap (λ l. x ∷ l) (with_none hold xs (All-tail P x xs none)) ∙ sym (cond-false (eqb x.by hold.by) _ _ (ne_eqb _ _ (All-head P x xs none)))

keep_or : (b : Bool) (h : Hold) (kept : List Hold) (rest : Bool) → list_any (λ (x : Hold). true) kept ≡ rest → list_any (λ (x : Hold). true) (cond (not b) (h ∷ kept) kept) ≡ (not b || rest)
keep_or true h kept rest e = e
keep_or false h kept rest e = refl

-- somebody is left where a holder's holds go, just where somebody else holds
pub any_without : (holder : ℕ) (holds : List Hold) → list_any (λ (h : Hold). true) (holds_without holder holds) ≡ list_any (λ (h : Hold). not (eqb h.by holder)) holds
any_without holder [] = refl
any_without holder (h ∷ hs) = keep_or (eqb h.by holder) h (holds_without holder hs) _ (any_without holder hs)

-- what is left of a test of three parts where the first two answered no
pub last_part : (held live left besides : Bool) → held ≡ true → live ≡ false → left ≡ besides → besides ≡ (not held || (live || left))
last_part true true left besides e f g = absurd (false≢true (sym f))
last_part true false left besides e f g = sym g
last_part false live left besides e f g = absurd (false≢true e)

-- what stays of a list where each call answers by a test, and leaves what it is shown and itself as they are
pub kept_in_turn : {S X : Type 0} (R : S → X → Bool → S → X → Type 0) (test : X → Bool) (s : S) → ((x : X) (b : Bool) (t : S) (y : X) → R s x b t y → (b ≡ test x) × (t ≡ s) × (y ≡ x))
    → (xs ys : List X) → RetainsInTurn R s xs ys → ys ≡ filter test xs
kept_in_turn R test s answers [] ys h = h
kept_in_turn R test s answers (x ∷ xs) ys h =
    let told = answers x h.0 h.1 h.2 h.3 in
    let behind = subst (λ t. RetainsInTurn R t xs h.4) told.1 h.5 in
    h.6 ∙ ap (λ b. cond b (h.2 ∷ h.4) h.4) told.0 ∙ ap (λ y. cond (test x) (y ∷ h.4) h.4) told.2
    ∙ ap (λ l. cond (test x) (x ∷ l) l) (kept_in_turn R test s answers xs h.4 behind)

-- a list of the same length that was written back stands there
pub written_back : {X : Type 0} (xs ws : List X) → length ws ≡ length xs → refill (length xs) xs ws ≡ ws
written_back xs ws long =
    ap (λ l. take (length xs) (ws ++ l)) (drop_of_length-le xs (omega arith)) ∙ ap (take (length xs)) (append-nil ws) ∙ take_all (length xs) ws (omega arith)
