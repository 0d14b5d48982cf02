use Rattle.std.proofs.Common.{◌≡◌, ℕ, List, ◌-◌, [], ◌∷◌, length, inl, inr, refl, ap, subst, ⊎_elim, arith}
use Rattle.qap_cost.specs.Placement.{Placement, free_locations, root_of}
use Rattle.qap_cert.proofs.Levels.{IsSplitAt, IsSplitAt-read, IsToldOf-root, IsTreeTextFault-root}
use Rattle.qap_cert.proofs.Walks.{map_result}
use Rattle.qap_cert.specs.Levels.{IsFaultAtLevels, IsSplitOf, IsToldOfLevels, OpenSplit, level_of}
use Rattle.qap_cert.specs.NodeLine.{IsNodeLine}
use Rattle.qap_cert.specs.TextFault.{IsTreeTextFault}
use Rattle.qap_cert.proofs.walking.judge_tree.Goals as goal

pub returns : goal.returns
returns c =
    let v = c.args.task.now.grammar.version in
    let n = c.args.task.now.grammar.size in
    let I = c.args.task.now.ranked.now in
    let g = c.args.task.now.bound in
    let root = root_of n in
    let first = c.in_ok-first.first in
    let next = c.saturating_add-next.result in
    let f = c.in-Some.facility in
    let split = c.in_ok-split.split in
    let whole : OpenSplit = record { node = root; facility = f; locations = free_locations root } in
    let split_is : split ≡ whole = subst (λ (x : Placement). IsSplitOf x f split) c.requires.root c.in_ok-split.ensures.value in
    let named = subst (λ (xs : List ℕ). IsNodeLine v n xs first.bytes.now first.facility) c.none-placed.ensures c.in_ok-first.ensures.1 in
    let count : length (free_locations root) ≡ n - 0 =
    omega (arith, c.in_ok-split.ensures.count, ap (λ (s : OpenSplit). length s.locations) split_is, ap (λ (x : Placement). length x.facilities) c.requires.root, ap (λ (x : Placement). x.size) c.requires.root) in
    let at : IsSplitAt v n [] (f ∷ []) (length (free_locations root)) c.args.line c.args.text.now first.rest.now next f =
    IsSplitAt-read v n [] (f ∷ []) (length (free_locations root)) c.args.line c.args.text.now first.bytes.now first.rest.now next f first.facility c.requires.small c.in_ok-first.ensures.0 named c.in-Some.is refl count
    c.saturating_add-next.ensures in
    map_result _ _ _ _ c.judge_split.result
    (λ r h. IsToldOf-root v n I g r.fault root f c.args.line c.args.text.now first.rest.now next r.rest.now r.next at.some at.free at
    (subst (λ (s : OpenSplit). IsToldOfLevels v n I g r.fault (s ∷ []) next first.rest.now r.rest.now r.next) split_is h))
    (λ e. ⊎_elim inl (λ fault. inr (subst (λ (m : ℕ). IsTreeTextFault v n m [] c.args.line c.args.text.now e) (omega arith)
    (IsTreeTextFault-root v n root f (length (free_locations root)) c.args.line c.args.text.now first.rest.now next e at
    (subst (λ (s : OpenSplit). IsFaultAtLevels v n (level_of s ∷ []) next first.rest.now e) split_is fault)))))
    c.judge_split.ensures
