use Rattle.std.proofs.Common.{All, ◌≡◌, ◌∙◌, List, ℕ, sym, subst}
use Rattle.qap_cost.specs.Instance.{Problem}
use Rattle.qap_proof.proofs.MissingParts.{IsSized, ListsMissing-moved, enough, leaves_sized}
use Rattle.qap_proof.specs.Cover.{AreLeaves}
use Rattle.qap_proof.specs.Missing.{ListsMissing}
use Rattle.qap_proof.specs.Tree.{whole}
use Rattle.qap_proof.specs.declared.leaf.Leaf.{Leaf}
use Rattle.qap_proof.proofs.missing.missing_parts.Goals as goal

pub short_leaves-requires : goal.short_leaves-requires
short_leaves-requires c =
    let C = c.args.proof.now in
    subst (λ (ls : List Leaf). All (IsSized C.root.size) ls) (sym c.deref.ensures.value) (leaves_sized C.tree c.in_ok-ranked.ranked (whole C.root) c.in_ok-leaves.leaves.items c.in_ok-leaves.ensures)

pub returns-clause-missing : goal.returns-clause-missing
returns-clause-missing c =
    let I = c.args.instance.now in
    let C = c.args.proof.now in
    let ls = c.in_ok-leaves.leaves.items in
    let size : C.root.size ≡ I.size = c.proof_law.ensures.root.size ∙ c.requires.same_size in
    let listed : ListsMissing I.size C.cost ls c.in_ok-parts.parts.items =
    subst (λ (n : ℕ). ListsMissing n C.cost ls c.in_ok-parts.parts.items) size
    (subst (λ (xs : List Leaf). ListsMissing C.root.size C.cost xs c.in_ok-parts.parts.items) c.deref.ensures.value c.in_ok-parts.ensures) in
    record {
      leaves = ls;
      are = subst (λ (J : Problem). AreLeaves J (whole C.root) C.tree ls) c.in_ok-ranked.ensures.value c.in_ok-leaves.ensures;
      lists = ListsMissing-moved I.size C.cost ls c.in_ok-parts.parts.items c.put_in_order.new.parts.items c.in_ok-put_in_order.ensures.moved listed;
      hardest_first = c.in_ok-put_in_order.ensures.ordered;
    }

pub returns-clause-enough : goal.returns-clause-enough
returns-clause-enough c = enough c.args.instance.now c.args.proof.now c.put_in_order.new.parts.items c.proof_law.ensures c.requires (returns-clause-missing c)
