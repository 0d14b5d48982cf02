use Rattle.std.proofs.Common.{ℕ, List, ◌∷◌, length, map, reverse, inl, inr, sym, subst, ⊎_elim}
use Rattle.std.proofs.lemmas.Result.{err_from_is_err_and}
use Rattle.qap_cert.proofs.Levels.{LeadsBehind-level, LeadsBehind-more, reverse-last}
use Rattle.qap_cert.specs.Levels.{AreOfSize, IsFaultAtLevels, LeadsBehind, OpenSplit, level_of, placed_behind}
use Rattle.qap_cert.specs.Walk.{Any, BeginsWithTrees, IsFaultBefore}
use Rattle.qap_cert.proofs.walking.skim_splits.Goals as goal

pub returns-in_err-behind : goal.returns-in_err-behind
returns-in_err-behind c =
    let v = c.args.grammar.version in
    let n = c.args.grammar.size in
    let s = c.in-Some.split in
    let e = c.in_err-behind.field-0.0 in
    let p = err_from_is_err_and c.from_residual.result c.from_residual.ensures.1 in
    let popped = reverse-last c.loop-split.splits.items c.pop.new.self.items s c.in-Some.ensures.items in
    rw (p.1, p.2) (⊎_elim inl (λ fault. inr (c.loop-split.invariant.1.fault e
    (subst (λ (splits : List OpenSplit). IsFaultAtLevels v n (map level_of splits) c.loop-split.next c.loop-split.rest.now e) (sym popped)
    (inl (subst (λ (xs : List ℕ). IsFaultBefore v n xs (length s.locations) c.loop-split.next c.loop-split.rest.now e) c.placed-placed.ensures.value
    (subst (λ (ks : List ℕ). IsFaultBefore v n c.placed-placed.result (length ks) c.loop-split.next c.loop-split.rest.now e) c.locations-count.ensures.value fault))))))
    (c.in_err-behind.ensures {u = tt}))

pub loop-split-preserved : goal.loop-split-preserved
loop-split-preserved c =
    let v = c.args.grammar.version in
    let n = c.args.grammar.size in
    let s = c.in-Some.split in
    let behind = c.in_ok-behind.behind in
    let outer = reverse c.pop.new.self.items in
    let popped = reverse-last c.loop-split.splits.items c.pop.new.self.items s c.in-Some.ensures.items in
    let read : BeginsWithTrees v n (placed_behind s) (length s.locations) c.loop-split.next c.loop-split.rest.now behind.rest.now behind.next Any =
    subst (λ (xs : List ℕ). BeginsWithTrees v n xs (length s.locations) c.loop-split.next c.loop-split.rest.now behind.rest.now behind.next Any) c.placed-placed.ensures.value
    (subst (λ (ks : List ℕ). BeginsWithTrees v n c.placed-placed.result (length ks) c.loop-split.next c.loop-split.rest.now behind.rest.now behind.next Any) c.locations-count.ensures.value c.in_ok-behind.ensures) in
    let sizes : AreOfSize n (s ∷ outer) = subst (AreOfSize n) popped c.loop-split.invariant.0 in (
      sizes.1,
      LeadsBehind-more v n (map level_of (reverse c.args.splits.now.items)) (map level_of (reverse c.loop-split.splits.items)) (map level_of outer) c.args.line c.loop-split.next behind.next
          c.args.text.now c.loop-split.rest.now behind.rest.now c.loop-split.invariant.1
          (subst (λ (splits : List OpenSplit). LeadsBehind v n (map level_of splits) c.loop-split.next c.loop-split.rest.now (map level_of outer) behind.next behind.rest.now) (sym popped)
          (LeadsBehind-level v n (placed_behind s) (length s.locations) (map level_of outer) c.loop-split.next c.loop-split.rest.now behind.rest.now behind.next read)),
    )
