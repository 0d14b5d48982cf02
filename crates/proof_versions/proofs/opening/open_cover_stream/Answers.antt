use Rattle.std.proofs.Common.{inr, ◌∙◌, ◌≡◌, ℤ, ap, inl, of_z, refl, rules, subst, sym, to_z}
use Rattle.std.proofs.lemmas.Result.{err_from_is_err_and}
use Rattle.std.specs.Int.{w128}
use Rattle.qap_proof.specs.Cover.{IsCovering, cover_of}
use Rattle.proof_versions.proofs.Streams.{IsCovering-read, StreamOpens-read}
use Rattle.proof_versions.proofs.opening.open_cover_stream.Goals as goal

pub from_leaves-requires : goal.from_leaves-requires
from_leaves-requires g c =
    let I = c.args.instance.now in
    let s = c.in_ok-checked.checked in
    let cost_is : to_z w128 (of_z w128 s.cost) ≡ s.cost = search rules in
    subst (λ (z : ℤ). IsCovering (cover_of I s.root z s.leaves.items)) (sym cost_is) (IsCovering-read I (g.R.Read.remaining c.args.reader.now) s.root s.cost s.bound s.leaves.items c.in_ok-checked.ensures.leaves)

pub returns-in_err-checked-clause-refused : goal.returns-in_err-checked-clause-refused
returns-in_err-checked-clause-refused g c =
    let e = err_from_is_err_and c.from_residual.result c.from_residual.ensures.1 in
    rw (e.1, e.2) ((c.in_err-checked.ensures {u = tt}).fault)

pub returns-in_err-cover-clause-refused : goal.returns-in_err-cover-clause-refused
returns-in_err-cover-clause-refused g c =
    let e = err_from_is_err_and c.from_residual-in_err-cover.result c.from_residual-in_err-cover.ensures.1 in
    rw (e.1, e.2) (λ text known. inr (inr (inl refl)))

pub returns-clause-opened : goal.returns-clause-opened
returns-clause-opened g c =
    let I = c.args.instance.now in
    let s = c.in_ok-checked.checked in
    let cost_is : to_z w128 (of_z w128 s.cost) ≡ s.cost = search rules in
    StreamOpens-read I (g.R.Read.remaining c.args.reader.now) s.root s.cost s.bound s.leaves.items c.in_ok-cover.cover c.in_ok-checked.ensures.leaves
    (c.in_ok-cover.ensures ∙ ap (λ (z : ℤ). cover_of I s.root z s.leaves.items) cost_is)
