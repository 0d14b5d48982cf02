use Rattle.std.proofs.Common.{◌≡◌, ℕ, ◌-◌, ◌+◌, ◌≤◌, ◌++◌, [], ◌∷◌, List, length, inl, inr, sym, ap, ◌∙◌, subst, refl, arith, rules, ⊎_elim, append_assoc, length-append}
use Rattle.std.specs.Prelude.{codes}
use Rattle.std.proofs.lemmas.Result.{err_from_is_err_and}
use Rattle.qap_lines.proofs.NumberLists.{line_text-is}
use Rattle.qap_cert.proofs.Readings.{HaveRead-more, IsTreeTextFault-among}
use Rattle.qap_cert.proofs.Trees.{node_of-Split, line_after-more}
use Rattle.qap_cert.proofs.Versions.{AllLimited-split_numbers}
use Rattle.qap_cert.proofs.Walks.{split_of}
use Rattle.qap_lines.specs.Line.{line_after}
use Rattle.qap_cert.specs.Shape.{AllHaveShape}
use Rattle.qap_lines.specs.LineText.{line_text}
use Rattle.qap_cert.specs.Text.{trees_text}
use Rattle.qap_cert.specs.TextFault.{IsTreeTextFault}
use Rattle.qap_cert.specs.Tree.{nodes_of, nodes_count}
use Rattle.qap_cert.specs.Version.{split_numbers}
use Rattle.qap_cert.specs.declared.tree.Tree.TheViews.{Split}
use Rattle.qap_cert.proofs.tree_reader.+reading.Goals as goal

pub read_children-loop-preserved : goal.read_children-loop-preserved
read_children-loop-preserved t c =
    let pushed : c.push.new.self.items ≡ c.loop.trees.items ++ c.in_ok-child.child.tree ∷ [] = search rules in
    let read = c.in_ok-child.ensures in
    HaveRead-more c.args.grammar.version c.args.grammar.size c.args.placed.now c.args.line c.args.text.now c.loop.trees.items c.push.new.self.items c.in_ok-child.child.tree c.loop.counter
    c.loop.rest.now c.loop.next c.in_ok-child.child.rest.now c.in_ok-child.child.next c.loop.invariant read.0 read.1 read.2 pushed

pub read_children-returns-in_err-child : goal.read_children-returns-in_err-child
read_children-returns-in_err-child t c =
    let v = c.args.grammar.version in
    let n = c.args.grammar.size in
    let placed = c.args.placed.now in
    let h = c.loop.invariant in
    let e = c.in_err-child.field-0.0 in
    let p = err_from_is_err_and c.from_residual-in_err-child.result c.from_residual-in_err-child.ensures.1 in
    let few : c.loop.counter + length placed ≤ n = omega (arith, c.loop-test.true, c.loop.auto.counter-end, c.count.ensures.value, c.requires.depth) in
    rw (p.1, p.2) (⊎_elim inl (λ fault. inr (
      nodes_of c.loop.trees.items,
      c.loop.rest.now,
      h.is,
      h.shapes,
      omega (arith, h.counted, few),
      subst (λ (k : ℕ). IsTreeTextFault v n (n - length placed) placed k c.loop.rest.now e) h.next_is fault,
    ))
    (c.in_err-child.ensures {u = tt}))

pub read_tree-returns-in_err-read : goal.read_tree-returns-in_err-read
read_tree-returns-in_err-read t c =
    let v = c.args.grammar.version in
    let n = c.args.grammar.size in
    let placed = c.args.placed.now in
    let f = c.in-Some.facility in
    let first = c.in_ok-first.first in
    let named = split_of c.args.grammar.version c.args.grammar.size c.args.placed.now first.bytes.now first.facility f c.in_ok-first.ensures.1 c.in-Some.is in
    let text : c.args.text.now ≡ line_text (codes "s") (split_numbers v f) ++ first.rest.now =
    line_text-is c.args.text.now first.bytes.now first.rest.now (codes "s") (split_numbers v f) c.in_ok-first.ensures.0 named.0.named
    (AllLimited-split_numbers v n placed f c.requires.small named.0.allowed) in
    let p = err_from_is_err_and c.from_residual-in_err-read.result c.from_residual-in_err-read.ensures.1 in
    rw (p.1, p.2) (⊎_elim inl (λ fault. inr (IsTreeTextFault-among v n placed c.with-inner.result c.args.line c.saturating_add-next.result c.args.text.now first.rest.now f c.in_err-read.field-0.0
    named.1 c.with-inner.ensures text named.0.allowed named.2 c.saturating_add-next.ensures fault))
    (c.in_err-read.ensures {u = tt}))

pub read_tree-returns : goal.read_tree-returns
read_tree-returns t c =
    let v = c.args.grammar.version in
    let n = c.args.grammar.size in
    let placed = c.args.placed.now in
    let f = c.in-Some.facility in
    let first = c.in_ok-first.first in
    let named = split_of c.args.grammar.version c.args.grammar.size c.args.placed.now first.bytes.now first.facility f c.in_ok-first.ensures.1 c.in-Some.is in
    let trees = c.in_ok-read.read.trees in
    let read = c.in_ok-read.ensures in
    let inner = c.with-inner.ensures in
    let text : c.args.text.now ≡ line_text (codes "s") (split_numbers v f) ++ first.rest.now =
    line_text-is c.args.text.now first.bytes.now first.rest.now (codes "s") (split_numbers v f) c.in_ok-first.ensures.0 named.0.named
    (AllLimited-split_numbers v n placed f c.requires.small named.0.allowed) in
    rw (node_of-Split (Split f trees) f trees refl) (
      (
        named.1,
        named.2,
        named.0.allowed,
        omega (arith, read.1, ap length inner, length-append placed (f ∷ []), named.1),
        subst (λ (xs : List ℕ). AllHaveShape v n xs (nodes_of trees.items)) inner read.0,
      ),
      text ∙ ap (λ l. line_text (codes "s") (split_numbers v f) ++ l) read.2
          ∙ sym (append_assoc (line_text (codes "s") (split_numbers v f)) (trees_text v (nodes_of trees.items)) c.in_ok-read.read.rest.now),
      read.3 ∙ ap (λ (k : ℕ). line_after k (nodes_count (nodes_of trees.items))) c.saturating_add-next.ensures
          ∙ line_after-more c.args.line 1 (nodes_count (nodes_of trees.items)),
    )
