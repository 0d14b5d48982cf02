-- The answer to a problem with names whose places cost something or are forbidden.
use Rattle.std.specs.Prelude.{◌≡◌, ℕ, IfSome, List, Option, Some, None, nat_lt}
use Rattle.qap_cost.specs.Instance.{Problem}
use Rattle.qap_cost.specs.Objective.{cost_of}
use Rattle.plan_charge.specs.Charges.{charged}
use Rattle.plan_charge.specs.Restricted.{IsCharged}
use Rattle.plan_charge.specs.declared.charges.Charges.{Charges}
use Rattle.plan_charge.specs.declared.forbidden.Forbidden.{Forbidden}
use Rattle.plan_answer.specs.Charged.{IsChargedText}
use Rattle.plan_answer.specs.declared.charged.CostParts.{CostParts}
use Rattle.plan_file.specs.declared.tables.NamedProblem.{NamedProblem}
use Rattle.qap_plan.specs.declared.commands.charged_answer.ChargedAnswer.{ChargedAnswer}

-- the two parts of what a permutation costs
pub record AreParts (I : Problem) (c : Charges) (p : List ℕ) (parts : CostParts) : Type 0 where
  pub flows : parts.flows ≡ cost_of I p
  pub places : parts.places ≡ charged I.size c p

-- they are given if a facility pays
abbrev pub ArePartsIfCharged : Problem → Charges → List ℕ → Option CostParts → Type 0
ArePartsIfCharged I c p None = c.count ≡ 0
ArePartsIfCharged I c p (Some parts) = AreParts I c p parts

-- what a search has found from the requested start, if there is one, the parts of its cost, and the text with both
pub record IsChargedAnswer (P : NamedProblem) (c : Charges) (f : Forbidden) (requested : Option (List ℕ)) (a : ChargedAnswer) : Type 0 where
  pub start : List ℕ
  pub begins : IfSome requested (λ p. start ≡ p)
  pub charged : IsCharged P.instance P.fixed c f start a.planned.permutation a.planned.cost a.planned.bound
  pub parts : ArePartsIfCharged P.instance c a.planned.permutation a.parts
  pub told : IsChargedText P a.planned.permutation a.planned.cost a.planned.bound a.parts (nat_lt 0 f.count) a.text.items
