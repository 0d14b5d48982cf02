use Rattle.std.proofs.Common.{◌≡◌, ◌∙◌, List, [], ◌∷◌, ℕ, arith, length, pos, subst, sym}
use Rattle.std.specs.Fmt.{signed_decimal}
use Rattle.std.proofs.lemmas.Result.{IfOk-weaker}
use Rattle.qap_text.specs.Spelling.{Spells}
use Rattle.qap_text.proofs.Growing.{spells_first}
use Rattle.qap_text.proofs.Numbers.{IsWordOf, written}
use Rattle.qap_text.proofs.instance_writing.size_text.Goals as goal

pub returns : goal.returns
returns c =
    let n = c.args.size in
    let w : IsWordOf (signed_decimal (pos n)) (pos n) = written (pos n) (omega arith) in
    let text : c.as_bytes.result.now ≡ signed_decimal (pos n) = c.as_bytes.ensures.value ∙ c.format.ensures.text in
    IfOk-weaker c.from_slice.result _ _ (λ v e. subst (λ (bs : List ℕ). Spells bs 0 (pos n ∷ []) (length bs)) (sym (e ∙ text)) (spells_first (signed_decimal (pos n)) (pos n) w)) c.from_slice.ensures.items
