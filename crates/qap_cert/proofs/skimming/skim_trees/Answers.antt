use Rattle.std.proofs.Common.{◌≡◌, ℕ, List, [], ◌∷◌, reverse, inl, inr, sym, ◌∙◌, ap, subst, ⊎_elim}
use Rattle.std.proofs.lemmas.List.{nil_from_length}
use Rattle.std.proofs.lemmas.Result.{err_from_is_err_and}
use Rattle.qap_cert.proofs.Levels.{BeginsWithTrees-all, IsFaultBefore-all, LeadsBehind-more, reverse-last}
use Rattle.qap_cert.specs.Levels.{LeadsBehind, IsFaultAtLevels, levels_of}
use Rattle.qap_cert.proofs.skimming.skim_trees.Goals as goal

pub returns-in_err-behind : goal.returns-in_err-behind
returns-in_err-behind c =
    let v = c.args.grammar.version in
    let n = c.args.grammar.size in
    let e = c.in_err-behind.field-0.0 in
    let p = err_from_is_err_and c.from_residual-in_err-behind.result c.from_residual-in_err-behind.ensures.1 in
    let popped = reverse-last c.loop-here.left.items c.pop.new.self.items c.in-Some.here c.in-Some.ensures.items in
    rw (p.1, p.2) (⊎_elim inl (λ fault. inr (IsFaultBefore-all v n c.args.placed.now c.args.count c.args.line c.args.text.now e
    (c.loop-here.invariant.1.fault e (subst (λ (ls : List ℕ). IsFaultAtLevels v n (levels_of c.loop-here.placed ls) c.loop-here.next c.loop-here.rest.now e) (sym popped) fault))))
    c.in_err-behind.ensures.read)

pub loop-here-preserved : goal.loop-here-preserved
loop-here-preserved c =
    let v = c.args.grammar.version in
    let n = c.args.grammar.size in
    let popped = reverse-last c.loop-here.left.items c.pop.new.self.items c.in-Some.here c.in-Some.ensures.items in (
      c.skim_step.ensures.depth,
      LeadsBehind-more v n (levels_of c.args.placed.now (c.args.count ∷ [])) (levels_of c.loop-here.placed (reverse c.loop-here.left.items)) (levels_of c.skim_step.new.placed (reverse c.skim_step.new.left.items))
          c.args.line c.loop-here.next c.in_ok-behind.behind.next c.args.text.now c.loop-here.rest.now c.in_ok-behind.behind.rest.now c.loop-here.invariant.1
          (subst (λ (ls : List ℕ). LeadsBehind v n (levels_of c.loop-here.placed ls) c.loop-here.next c.loop-here.rest.now
          (levels_of c.skim_step.new.placed (reverse c.skim_step.new.left.items)) c.in_ok-behind.behind.next c.in_ok-behind.behind.rest.now) (sym popped) c.in_ok-behind.ensures.read),
    )

pub returns : goal.returns
returns c =
    let empty : c.loop-here.left.items ≡ [] = nil_from_length c.loop-here.left.items (sym c.loop-here.left.ok.0 ∙ c.in_default.ensures.cases.0) in
    BeginsWithTrees-all c.args.grammar.version c.args.grammar.size c.args.placed.now c.args.count (levels_of c.loop-here.placed (reverse c.loop-here.left.items)) c.args.line c.args.text.now c.loop-here.rest.now
    c.loop-here.next (ap (λ (ls : List ℕ). levels_of c.loop-here.placed (reverse ls)) empty) c.loop-here.invariant.1
