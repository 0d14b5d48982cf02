use Rattle.std.proofs.Common.{ℕ, List, ◌-◌, [], length, inl, inr, subst, ⊎_elim, arith}
use Rattle.std.proofs.lemmas.Result.{err_from_is_err_and}
use Rattle.qap_cert.proofs.Levels.{BeginsWithTree-only, IsTreeTextFault-only}
use Rattle.qap_cert.proofs.Walks.{map_result, EndsBehindTree-end, IsFaultFromTree-end}
use Rattle.qap_cert.specs.TextFault.{IsTreeTextFault}
use Rattle.qap_cert.specs.Walk.{Any}
use Rattle.qap_cert.proofs.acceptance.skim_to_end.Goals as goal

pub returns-in_err-behind : goal.returns-in_err-behind
returns-in_err-behind c =
    let head = c.args.head.now in
    let e = c.in_err-behind.field-0.0 in
    let p = err_from_is_err_and c.from_residual-in_err-behind.result c.from_residual-in_err-behind.ensures.1 in
    rw (p.1, p.2) (⊎_elim inl (λ fault. inr (inl
    (subst (λ (m : ℕ). IsTreeTextFault head.grammar.version head.grammar.size m [] head.line head.rest.now e) (omega arith)
    (subst (λ (xs : List ℕ). IsTreeTextFault head.grammar.version head.grammar.size (head.grammar.size - length xs) xs head.line head.rest.now e) c.none-placed.ensures
    (IsTreeTextFault-only head.grammar.version head.grammar.size c.none-placed.result head.line head.rest.now e (omega arith) fault)))))
    (c.in_err-behind.ensures {u = tt}))

pub returns : goal.returns
returns c =
    let head = c.args.head.now in
    let behind = c.in_ok-behind.behind in
    let placed = c.none-placed.result in
    let tree = BeginsWithTree-only head.grammar.version head.grammar.size placed head.line head.rest.now behind.rest.now behind.next c.in_ok-behind.ensures in
    map_result _ _ _ _ c.read_end.result
    (λ _ is. EndsBehindTree-end head.grammar.version head.grammar.size placed head.line head.rest.now behind.rest.now behind.next Any c.none-placed.ensures tree is)
    (λ e fault. inr (IsFaultFromTree-end head.grammar.version head.grammar.size placed head.line head.rest.now behind.rest.now behind.next Any e c.none-placed.ensures tree fault))
    c.read_end.ensures
