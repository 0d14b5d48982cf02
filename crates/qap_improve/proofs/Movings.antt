-- Facilities that keep their locations.
use Rattle.std.proofs.Common.{◌≡◌, ◌∙◌, ℕ, List, Bool, ap, get_or, sym, subst}
use Rattle.qap_improve.specs.Exchange.{exchanging}
use Rattle.qap_improve.specs.Moving.{KeepsOthers, Moves}
use Rattle.qap_improve.specs.Walk.{WalkKeeps}
use Rattle.qap_improve.specs.declared.tabu.Walk.{Walk}
use Rattle.qap_improve.proofs.Exchanges.{exchanging-other}

-- the same permutation keeps all facilities where they are
pub KeepsOthers-same : (may_move : List Bool) (p q : List ℕ) → q ≡ p → KeepsOthers may_move p q
KeepsOthers-same may_move p q same = λ f below fixed. ap (λ (l : List ℕ). get_or l f 0) same

-- an exchange of two that may move leaves the others
pub KeepsOthers-exchanging : (may_move : List Bool) (start p q : List ℕ) (r s : ℕ) → q ≡ exchanging p r s → Moves may_move r → Moves may_move s → KeepsOthers may_move start p → KeepsOthers may_move start q
KeepsOthers-exchanging may_move start p q r s is first second kept =
    λ f below fixed.
    ap (λ (l : List ℕ). get_or l f 0) is
    ∙ exchanging-other p r s f (λ e. fixed (subst (Moves may_move) (sym e) first)) (λ e. fixed (subst (Moves may_move) (sym e) second))
    ∙ kept f below fixed

-- a walk that exchanges two facilities which may move, and keeps its best permutation, moves none that may not
pub WalkKeeps-exchanged : {X : Type 0} (may_move : List Bool) (start : List ℕ) (old new : Walk X) (r s : ℕ) → new.arrangement.locations.items ≡ exchanging old.arrangement.locations.items r s
    → new.best.items ≡ old.best.items → Moves may_move r → Moves may_move s → WalkKeeps may_move start old → WalkKeeps may_move start new
WalkKeeps-exchanged may_move start old new r s here best first second kept = record {
  here = KeepsOthers-exchanging may_move start old.arrangement.locations.items new.arrangement.locations.items r s here first second kept.here;
  best = subst (KeepsOthers may_move start) (sym best) kept.best;
}
