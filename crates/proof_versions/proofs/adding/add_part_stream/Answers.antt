use Rattle.std.proofs.Common.{◌≡◌, ℤ, of_z, refl, rules, subst, sym, to_z}
use Rattle.std.proofs.lemmas.Result.{err_from_is_err_and}
use Rattle.std.specs.Int.{w128}
use Rattle.qap_cost.specs.Instance.{Problem}
use Rattle.qap_proof.specs.Cover.{Establishes, IsAdmitted}
use Rattle.proof_versions.specs.Streams.{StreamRefuses}
use Rattle.proof_versions.proofs.Verdicts.{Establishes-pairs, HasPairPart-admitted}
use Rattle.proof_versions.proofs.adding.add_part_stream.Goals as goal

pub admit-requires : goal.admit-requires
admit-requires g c =
    let I = c.instance.result.now in
    let part = c.in_ok-stated.stated in
    let proves = c.in_ok-stated.ensures.proves in
    let cost_is : to_z w128 (of_z w128 part.cost) ≡ part.cost = search rules in
    let bound_is : to_z w128 (of_z w128 part.bound) ≡ part.bound = search rules in
    subst (λ (J : Problem). Establishes J part.root (to_z w128 (of_z w128 part.cost)) (to_z w128 (of_z w128 part.bound))) c.instance.ensures
    (subst (λ (z : ℤ). Establishes I part.root z (to_z w128 (of_z w128 part.bound))) (sym cost_is)
    (subst (Establishes I part.root part.cost) (sym bound_is)
    (Establishes-pairs I proves.text part.root part.cost part.bound proves.proves)))

pub returns : goal.returns
returns g c =
    let old = c.args.cover.now in
    let new = c.admit.new.self in
    let part = c.in_ok-stated.stated in
    let proves = c.in_ok-stated.ensures.proves in
    let cost_is : to_z w128 (of_z w128 part.cost) ≡ part.cost = search rules in
    let bound_is : to_z w128 (of_z w128 part.bound) ≡ part.bound = search rules in
    record {
      text = proves.text;
      whole = proves.whole;
      version = proves.version;
      part = HasPairPart-admitted c.instance.result.now old new proves.text part.root part.cost part.bound c.instance.ensures proves.proves
          (subst (λ (z : ℤ). IsAdmitted part.root z part.bound old new) cost_is
          (subst (λ (z : ℤ). IsAdmitted part.root (to_z w128 (of_z w128 part.cost)) z old new) bound_is c.admit.ensures));
    }

pub returns-in_err-stated : goal.returns-in_err-stated
returns-in_err-stated g c =
    let e = err_from_is_err_and c.from_residual.result c.from_residual.ensures.1 in
    let known = g.R.Read.remaining c.args.reader.now in
    let refused = subst (λ (J : Problem). StreamRefuses J known c.in_err-stated.field-0.0) c.instance.ensures (c.in_err-stated.ensures {u = tt}).refused in
    rw (e.1, e.2) (refused, refl)
