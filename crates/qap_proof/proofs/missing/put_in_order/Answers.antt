use Rattle.std.proofs.Common.{rules}
use Rattle.std.proofs.lemmas.List.Sorted.{answers_always}
use Rattle.std.proofs.lemmas.Result.{on_ok_weaker}
use Rattle.qap_proof.proofs.MissingParts.{IsHardestFirst-sorted}
use Rattle.qap_proof.specs.declared.missing.MissingPart.{MissingPart}
use Rattle.qap_proof.proofs.missing.put_in_order.Goals as goal

pub returns-clause-ordered : goal.returns-clause-ordered
returns-clause-ordered c =
    on_ok_weaker c.sort_by_key.result
    (λ sorted. IsHardestFirst-sorted c.sort_by_key.new.self.items (sorted (λ (m : MissingPart). m.value) (answers_always _ _ _ (λ f a r g h. search rules))))
    c.sort_by_key.ensures.sorted
