-- What is printed about how many nodes the searches of parts evaluate.
use Rattle.std.specs.Prelude.{◌≡◌, ◌==◌, ◌+◌, ℕ, All, Bool, false, true, List, [], ◌∷◌, if◌then◌else◌, length}
use Rattle.qap_proof.specs.declared.missing.MissingPart.{MissingPart}

-- a node of each part is of this size
abbrev pub AreOfSize : ℕ → List MissingPart → Type 0
AreOfSize n ms = All (λ (m : MissingPart). n ≡ m.node.size) ms

-- from a sink from which this holds to a sink by a text on standard output
pub record PrintsLast {S : Type 0} (Prints : S → List ℕ → S → Type 0) (First : S → Type 0) (text : List ℕ) (new : S) : Type 0 where
  pub middle : S
  pub first : First middle
  pub last : Prints middle text new

-- from a sink to a sink by texts on standard output, of which the last is listed first
abbrev pub PrintsTexts : {S : Type 0} → (S → List ℕ → S → Type 0) → List (List ℕ) → S → S → Type 0
PrintsTexts Prints [] old new = new ≡ old
PrintsTexts Prints (text ∷ texts) old new = PrintsLast Prints (PrintsTexts Prints texts old) text new

-- by this many of them
abbrev pub PrintsMany : {S : Type 0} → (S → List ℕ → S → Type 0) → ℕ → S → S → Type 0
PrintsMany Prints count old new = (texts : List (List ℕ)) × (length texts ≡ count) × PrintsTexts Prints texts old new

-- if they are requested, by a text on each part that is left, and one on all of them
abbrev pub PrintsEstimates : {S : Type 0} → (S → List ℕ → S → Type 0) → Bool → ℕ → S → S → Type 0
PrintsEstimates Prints false left old new = new ≡ old
PrintsEstimates Prints true left old new = PrintsMany Prints (if left == 0 then 0 else left + 1) old new
