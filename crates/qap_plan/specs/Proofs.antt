-- The proof of an answer, and its text.
use Rattle.std.specs.Prelude.{◌≡◌, ◌↔◌, ◌⊎◌, ⊤, ℕ, ℤ, List, Some}
use Rattle.qap_cost.specs.Instance.{Problem}
use Rattle.qap_cost.specs.Placement.{Completes, Placement}
use Rattle.qap_proof.specs.Claim.{Claim, IsProof, Proves}
use Rattle.qap_proof.specs.Text.{IsProofText}
use Rattle.proof_spool.specs.Writing.{ShowsProof}
use Rattle.plan_charge.specs.Extended.{extended_list}
use Rattle.plan_charge.specs.Restricted.{Restricts}
use Rattle.plan_charge.specs.declared.charges.Charges.{Charges}
use Rattle.plan_charge.specs.declared.forbidden.Forbidden.{Forbidden}
use Rattle.plan_search.specs.declared.planning.Planned.{Planned}
use Rattle.qap_plan.specs.declared.output.proof_file.AnswerProof.{AnswerProof}
use Rattle.qap_plan.specs.declared.output.proof_file.AnswerProof.TheVariants.{Rows, Pairs, Lost}
use Rattle.qap_plan.specs.declared.output.proof_file.SpooledProof.{SpooledProof}

-- the node y has the completions of the node x
abbrev pub HasSame : Placement → Placement → Type 0
HasSame x y = (q : List ℕ) → Completes x q ↔ Completes y q

-- the node y is the node x
abbrev pub Is : Placement → Placement → Type 0
Is x y = y ≡ x

-- a valid proof over such a root, with this permutation, its cost and this bound
pub record ClaimsFor (I : Problem) (IsRoot : Placement → Type 0) (p : List ℕ) (c g : ℤ) (C : Claim) : Type 0 where
  pub shape : IsProof C
  pub proves : Proves I C
  pub root : IsRoot C.root
  pub permutation : C.permutation ≡ p
  pub cost : C.cost ≡ c
  pub bound : C.bound ≡ g

-- the text is that of such a proof by bounds of Gilmore and Lawler
pub record ShowsRows (I : Problem) (IsRoot : Placement → Type 0) (p : List ℕ) (c g : ℤ) (text : List ℕ) : Type 0 where
  pub proof : Claim
  pub is_text : IsProofText text proof
  pub claims : ClaimsFor I IsRoot p c g proof

-- or with pair duals
pub record ShowsPairs (I : Problem) (IsRoot : Placement → Type 0) (p : List ℕ) (c g : ℤ) (text : List ℕ) : Type 0 where
  pub root : Placement
  pub is_root : IsRoot root
  pub shows : ShowsProof I root p c g text

abbrev pub ShowsFor : Problem → (Placement → Type 0) → List ℕ → ℤ → ℤ → List ℕ → Type 0
ShowsFor I IsRoot p c g text = ShowsRows I IsRoot p c g text ⊎ ShowsPairs I IsRoot p c g text

-- the text is that of such a proof for the larger instance over its node, with the permutation and the extra facilities
pub record ShowsCharged (I : Problem) (x : Placement) (c : Charges) (f : Forbidden) (p : List ℕ) (cost g : ℤ) (text : List ℕ) : Type 0 where
  pub problem : Problem
  pub node : Placement
  pub restricts : Restricts I x c f problem node
  pub shows : ShowsFor problem (HasSame node) (extended_list restricts.charges.count p) cost g text

-- what the text of a proof tells
abbrev pub TellsProof : AnswerProof → List ℕ → Type 0
TellsProof (Rows C) text = IsProofText text C
TellsProof (Pairs s) text = ShowsProof s.instance s.root s.permutation s.cost s.bound text
TellsProof (Lost e) text = ⊥

-- pieces of a proof with pair duals that is to be one over such a root, with this permutation, its cost and this bound
pub record SpoolsFor (I : Problem) (IsRoot : Placement → Type 0) (p : List ℕ) (c g : ℤ) (s : SpooledProof) : Type 0 where
  pub instance : s.instance ≡ I
  pub root : IsRoot s.root
  pub permutation : s.permutation ≡ p
  pub cost : s.cost ≡ c
  pub bound : s.bound ≡ g

-- whatever text the proof has, it is that of a valid one over such a root
abbrev pub MakesFor : Problem → (Placement → Type 0) → List ℕ → ℤ → ℤ → AnswerProof → Type 0
MakesFor I IsRoot p c g a = (text : List ℕ) → TellsProof a text → ShowsFor I IsRoot p c g text

-- or of one for the larger instance over its node
abbrev pub MakesCharged : Problem → Placement → Charges → Forbidden → List ℕ → ℤ → ℤ → AnswerProof → Type 0
MakesCharged I x c f p cost g a = (text : List ℕ) → TellsProof a text → ShowsCharged I x c f p cost g text

-- the proof that a search has found, or the pieces that it has left, over this root
abbrev pub IsLeftBy : Problem → Placement → Planned → Planned → AnswerProof → Type 0
IsLeftBy I root found x (Rows C) = (found.proof ≡ Some C) × (x.bound ≡ found.bound)
IsLeftBy I root found x (Pairs s) = SpoolsFor I (Is root) x.permutation x.cost x.bound s
IsLeftBy I root found x (Lost e) = ⊤
