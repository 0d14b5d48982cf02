use Rattle.std.proofs.Common.{◌≡◌, List, [], ◌∷◌, map, reverse, inl, inr, refl, sym, ◌∙◌, subst, ⊎_elim, rules}
use Rattle.std.specs.Prelude.{Option, None}
use Rattle.std.proofs.lemmas.List.{nil_from_length}
use Rattle.std.proofs.lemmas.Result.{err_from_is_err_and}
use Rattle.qap_cert.proofs.Levels.{IsToldBehind-more, reverse-last}
use Rattle.qap_cert.specs.Levels.{IsFaultAtLevels, IsToldBehind, IsToldOfLevels, OpenSplit, level_of}
use Rattle.qap_cert.specs.declared.error.CertError.{CertError}
use Rattle.qap_cert.proofs.walking.judge_split.Goals as goal

pub returns-in_err-judged : goal.returns-in_err-judged
returns-in_err-judged c =
    let v = c.args.task.now.grammar.version in
    let n = c.args.task.now.grammar.size in
    let e = c.in_err-judged.field-0.0 in
    let p = err_from_is_err_and c.from_residual-in_err-judged.result c.from_residual-in_err-judged.ensures.1 in
    let popped = reverse-last c.loop-innermost.splits.items c.pop.new.self.items c.in-Some.innermost c.in-Some.ensures.items in
    rw (p.1, p.2) (⊎_elim inl (λ fault. inr (c.loop-innermost.invariant.1.fault e
    (subst (λ (splits : List OpenSplit). IsFaultAtLevels v n (map level_of splits) c.loop-innermost.next c.loop-innermost.rest.now e) (sym popped) fault)))
    c.in_err-judged.ensures.judged)

pub returns-in_err-behind : goal.returns-in_err-behind
returns-in_err-behind c =
    let v = c.args.task.now.grammar.version in
    let n = c.args.task.now.grammar.size in
    let I = c.args.task.now.ranked.now in
    let g = c.args.task.now.bound in
    let judged = c.in_ok-judged.judged in
    let outer = reverse c.judge_step.new.splits.items in
    let e = c.in_err-behind.field-0.0 in
    let p = err_from_is_err_and c.from_residual-in_err-behind.result c.from_residual-in_err-behind.ensures.1 in
    let popped = reverse-last c.loop-innermost.splits.items c.pop.new.self.items c.in-Some.innermost c.in-Some.ensures.items in
    let told = IsToldBehind-more v n I g judged.fault (c.args.split ∷ []) (reverse c.loop-innermost.splits.items) outer c.args.line c.loop-innermost.next judged.next c.args.text.now c.loop-innermost.rest.now judged.rest.now
    c.loop-innermost.invariant.1
    (subst (λ (splits : List OpenSplit). IsToldBehind v n I g judged.fault splits c.loop-innermost.next c.loop-innermost.rest.now outer judged.next judged.rest.now) (sym popped) c.in_ok-judged.ensures.judged) in
    rw (p.1, p.2) (⊎_elim inl (λ fault. inr (told.fault e fault)) (c.in_err-behind.ensures {u = tt}))

pub returns-in-Some-fault : goal.returns-in-Some-fault
returns-in-Some-fault c =
    let v = c.args.task.now.grammar.version in
    let n = c.args.task.now.grammar.size in
    let I = c.args.task.now.ranked.now in
    let g = c.args.task.now.bound in
    let judged = c.in_ok-judged.judged in
    let behind = c.in_ok-behind.behind in
    let outer = reverse c.judge_step.new.splits.items in
    let popped = reverse-last c.loop-innermost.splits.items c.pop.new.self.items c.in-Some.innermost c.in-Some.ensures.items in
    let told = IsToldBehind-more v n I g judged.fault (c.args.split ∷ []) (reverse c.loop-innermost.splits.items) outer c.args.line c.loop-innermost.next judged.next c.args.text.now c.loop-innermost.rest.now judged.rest.now
    c.loop-innermost.invariant.1
    (subst (λ (splits : List OpenSplit). IsToldBehind v n I g judged.fault splits c.loop-innermost.next c.loop-innermost.rest.now outer judged.next judged.rest.now) (sym popped) c.in_ok-judged.ensures.judged) in
    told.some c.in-Some-fault.fault c.in-Some-fault.is behind.rest.now behind.next c.in_ok-behind.ensures

pub loop-innermost-preserved : goal.loop-innermost-preserved
loop-innermost-preserved c =
    let v = c.args.task.now.grammar.version in
    let n = c.args.task.now.grammar.size in
    let I = c.args.task.now.ranked.now in
    let g = c.args.task.now.bound in
    let judged = c.in_ok-judged.judged in
    let outer = reverse c.judge_step.new.splits.items in
    let none : judged.fault ≡ None = search rules in
    let popped = reverse-last c.loop-innermost.splits.items c.pop.new.self.items c.in-Some.innermost c.in-Some.ensures.items in
    let told = IsToldBehind-more v n I g judged.fault (c.args.split ∷ []) (reverse c.loop-innermost.splits.items) outer c.args.line c.loop-innermost.next judged.next c.args.text.now c.loop-innermost.rest.now judged.rest.now
    c.loop-innermost.invariant.1
    (subst (λ (splits : List OpenSplit). IsToldBehind v n I g judged.fault splits c.loop-innermost.next c.loop-innermost.rest.now outer judged.next judged.rest.now) (sym popped) c.in_ok-judged.ensures.judged) in (
      c.in_ok-judged.ensures.sizes,
      subst (λ (o : Option CertError). IsToldBehind v n I g o (c.args.split ∷ []) c.args.line c.args.text.now outer judged.next judged.rest.now) none told,
    )

pub returns : goal.returns
returns c =
    let v = c.args.task.now.grammar.version in
    let n = c.args.task.now.grammar.size in
    let I = c.args.task.now.ranked.now in
    let g = c.args.task.now.bound in
    let rest = c.loop-innermost.rest.now in
    let next = c.loop-innermost.next in
    let empty : c.loop-innermost.splits.items ≡ [] = nil_from_length c.loop-innermost.splits.items (sym c.loop-innermost.splits.ok.0 ∙ c.in_default.ensures.cases.0) in
    c.loop-innermost.invariant.1.none refl None rest next
    (subst (λ (splits : List OpenSplit). IsToldOfLevels v n I g None (reverse splits) next rest rest next) (sym empty) (refl, refl))
