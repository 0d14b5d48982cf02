use Rattle.std.proofs.Common.{◌≡◌, inl, inr, of_z, rules, subst, sym, to_z}
use Rattle.std.specs.Int.{w128}
use Rattle.std.specs.Prelude.{ℤ}
use Rattle.qap_proof.specs.Claim.{IsProof, claim_of}
use Rattle.qap_proof.specs.Memory.{node_of}
use Rattle.tree_search.proofs.one_leaf.made.Goals as goal

pub out_of_memory-requires : goal.out_of_memory-requires
out_of_memory-requires c =
    let root = c.args.root in
    let perm = c.args.permutation in
    let tree = node_of c.args.tree in
    let cost : to_z w128 (of_z w128 c.args.cost) ≡ c.args.cost = search rules in
    let bound : to_z w128 (of_z w128 c.args.bound) ≡ c.args.bound = search rules in
    let first = subst (λ (z : ℤ). IsProof (claim_of root z c.args.bound perm tree)) (sym cost) c.requires in
    let shape = subst (λ (z : ℤ). IsProof (claim_of root (to_z w128 (of_z w128 c.args.cost)) z perm tree)) (sym bound) first in
    elim c.in-Err.ensures.0 [
      | inl is ↦ is
      | inr fault ↦ absurd (c.fault_law.ensures.proof _ _ fault shape)
    ]
