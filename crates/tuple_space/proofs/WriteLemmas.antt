-- Writes taken again, and those that are put out.
use Rattle.std.proofs.Common.{◌≡◌, ◌∙◌, ℕ, zero, suc, ◌+◌, ◌<◌, Bool, true, false, List, [], ◌∷◌, length, get_or, ap, cond, refl, sym, arith}
use Rattle.std.specs.Prelude.{not}
use Rattle.std.proofs.lemmas.List.Sums.{sum_by-cons}
use Rattle.std.proofs.Math.ListN.{set}
use Rattle.tuple_space.specs.declared.write.Write.{Write}
use Rattle.tuple_space.specs.Space.{SpaceValue, put}
use Rattle.tuple_space.specs.Writes.{put_count, put_each, taken_at}

-- the mark of one write set
pub taken_at_place : (place : ℕ) (writes : List Write) (x : Write) → place < length writes → x ≡ get_or writes place x → set writes place (record x { taken = true }) ≡ taken_at place writes
taken_at_place place [] x within is = absurd (omega arith)
taken_at_place zero (y ∷ ys) x within is = ap (λ (z : Write). record z { taken = true } ∷ ys) is
taken_at_place (suc place) (y ∷ ys) x within is = ap (λ l. y ∷ l) (taken_at_place place ys x (omega arith) is)

none_put : (taken : Bool) (w : SpaceValue) (x : Write) (rest : ℕ) → cond {A = ℕ} (not taken) 1 0 + rest ≡ 0 → (cond taken w (put w x.tuple x.lease) ≡ w) × (rest ≡ 0)
none_put true w x rest none = (refl, omega arith)
none_put false w x rest none = absurd (omega arith)

-- where nothing is put out, the space stays
pub put_none : (w : SpaceValue) (writes : List Write) → put_count writes ≡ 0 → put_each w writes ≡ w
put_none w [] none = refl
put_none w (x ∷ xs) none =
    let counted = sum_by-cons (λ (y : Write). cond {A = ℕ} (not y.taken) 1 0) x xs in
    let parts = none_put x.taken w x (put_count xs) (sym counted ∙ none) in
    ap (λ (v : SpaceValue). put_each v xs) parts.0 ∙ put_none w xs parts.1
