-- Steps on the way through the pairs of facilities.
use Rattle.std.proofs.Common.{◌≡◌, ℕ, ◌+◌, ◌≤◌, Bool, true, false, List, refl, sym, subst, ◌∙◌, arith, inl, inr}
use Rattle.std.specs.Prelude.{◌<ℤ◌, ◌≤ℤ◌, ◌||◌}
use Rattle.std.specs.Bool.{MatchBool}
use Rattle.std.proofs.lemmas.Int.{ints}
use Rattle.std.proofs.lemmas.Bool.{cases_eq}
use Rattle.qap_cost.specs.Instance.{Problem}
use Rattle.qap_cost.specs.Objective.{Permutes, cost_of}
use Rattle.qap_improve.specs.Exchange.{IsLocallyLeast, exchanging}
use Rattle.qap_improve.specs.Round.{HasTried, NoneGainsBelow, NoneGainsWith}

gains : (I : Problem) (P Q R : List ℕ → Type 0) (old mid new : List ℕ) (g h : Bool) → (P new → Q new → R new)
    → MatchBool g (cost_of I mid <ℤ cost_of I old) ((mid ≡ old) × P mid) → MatchBool h (cost_of I new <ℤ cost_of I mid) ((new ≡ mid) × Q new)
    → MatchBool (g || h) (cost_of I new <ℤ cost_of I old) ((new ≡ old) × R new)
gains I P Q R old mid new true true both a b = omega (arith, ints)
gains I P Q R old mid new true false both a b = subst (λ (p : List ℕ). cost_of I p <ℤ cost_of I old) (sym b.0) a
gains I P Q R old mid new false true both a b = subst (λ (p : List ℕ). cost_of I new <ℤ cost_of I p) a.0 b
gains I P Q R old mid new false false both a b = (b.0 ∙ a.0, both (subst P (sym b.0) a.1) b.1)

-- nothing has been tried
pub HasTried-none : (I : Problem) (P : List ℕ → Type 0) (p : List ℕ) → Permutes I p → P p → HasTried I P p p false
HasTried-none I P p h holds = record { permutation = h; gain = (refl, holds) }

-- one thing after another
pub HasTried-more : (I : Problem) (P Q R : List ℕ → Type 0) (old mid new : List ℕ) (g h : Bool) → HasTried I P old mid g → HasTried I Q mid new h → (P new → Q new → R new)
    → HasTried I R old new (g || h)
HasTried-more I P Q R old mid new g h first next both = record {
  permutation = next.permutation;
  gain = gains I P Q R old mid new g h both first.gain next.gain;
}

implied : (I : Problem) (P Q : List ℕ → Type 0) (old new : List ℕ) (g : Bool) → (P new → Q new) → MatchBool g (cost_of I new <ℤ cost_of I old) ((new ≡ old) × P new)
    → MatchBool g (cost_of I new <ℤ cost_of I old) ((new ≡ old) × Q new)
implied I P Q old new true h a = a
implied I P Q old new false h a = (a.0, h a.1)

-- the same with what follows from the property
pub HasTried-implied : (I : Problem) (P Q : List ℕ → Type 0) (old new : List ℕ) (g : Bool) → HasTried I P old new g → (P new → Q new) → HasTried I Q old new g
HasTried-implied I P Q old new g tried h = record {
  permutation = tried.permutation;
  gain = implied I P Q old new g h tried.gain;
}

-- no facility stands between r and r + 1, so that no exchange with one gains
pub NoneGainsWith-none : (I : Problem) (r : ℕ) (p : List ℕ) → NoneGainsWith I r (r + 1) p
NoneGainsWith-none I r p s above below = absurd (omega arith)

-- where exchanging r with m gains nothing either, none of those before m + 1 gains
pub NoneGainsWith-more : (I : Problem) (r m : ℕ) (p : List ℕ) → NoneGainsWith I r m p → cost_of I p ≤ℤ cost_of I (exchanging p r m) → NoneGainsWith I r (m + 1) p
NoneGainsWith-more I r m p before here s above below =
    elim (cases_eq s m) [
      | inl e ↦ subst (λ (k : ℕ). cost_of I p ≤ℤ cost_of I (exchanging p r k)) (sym e) here
      | inr n ↦ before s above (omega arith)
    ]

-- where none before m gains, none before a lesser n does
pub NoneGainsWith-all : (I : Problem) (r m n : ℕ) (p : List ℕ) → n ≤ m → NoneGainsWith I r m p → NoneGainsWith I r n p
NoneGainsWith-all I r m n p less h s above below = h s above (omega arith)

-- there is no first facility below 0
pub NoneGainsBelow-none : (I : Problem) (p : List ℕ) → NoneGainsBelow I 0 p
NoneGainsBelow-none I p r s below above within = absurd (omega arith)

-- where no exchange of facility m with a later one gains, none with a first facility below m + 1 does
pub NoneGainsBelow-more : (I : Problem) (m : ℕ) (p : List ℕ) → NoneGainsBelow I m p → NoneGainsWith I m I.size p → NoneGainsBelow I (m + 1) p
NoneGainsBelow-more I m p before here r s below above within =
    elim (cases_eq r m) [
      | inl e ↦ subst (λ (k : ℕ). cost_of I p ≤ℤ cost_of I (exchanging p k s)) (sym e) (here s (omega arith) within)
      | inr n ↦ before r s (omega arith) above within
    ]

-- where no exchange with any first facility gains, the permutation is locally least
pub IsLocallyLeast-all : (I : Problem) (m : ℕ) (p : List ℕ) → I.size ≤ m → NoneGainsBelow I m p → IsLocallyLeast I p
IsLocallyLeast-all I m p whole h r s above within = h r s (omega arith) above within

-- what a permutation is after rounds that each gained
pub record HasFallen (I : Problem) (old new : List ℕ) : Type 0 where
  pub permutation : Permutes I new
  pub no_dearer : cost_of I new ≤ℤ cost_of I old

-- a try that reports a gain has lowered the cost
pub has_gained : (I : Problem) (P : List ℕ → Type 0) (old new : List ℕ) (g : Bool) → HasTried I P old new g → g ≡ true → cost_of I new <ℤ cost_of I old
has_gained I P old new g tried is = subst (λ (b : Bool). MatchBool b (cost_of I new <ℤ cost_of I old) ((new ≡ old) × P new)) is tried.gain
