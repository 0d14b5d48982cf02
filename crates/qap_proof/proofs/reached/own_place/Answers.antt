use Rattle.std.proofs.Common.{◌≡◌, ℕ, ◌<◌, List, length, sym, subst}
use Rattle.std.specs.Prelude.{slice_index}
use Rattle.qap_proof.specs.Tree.{IsFreeOn}
use Rattle.qap_proof.specs.declared.side.Side.{Side}
use Rattle.qap_proof.proofs.reached.own_place.Goals as goal

pub place_of-requires : goal.place_of-requires
place_of-requires c =
    let free = subst (λ (s : Side). IsFreeOn s c.args.node.now c.args.number) c.in-Facility.is c.requires in
    subst (λ (l : List ℕ). (i : ℕ) × (i < length l) × (slice_index l i ≡ c.args.number)) (sym c.deref.ensures.value) (c.in_ok-free_facilities-in-Facility.ensures.free.all c.args.number free)

pub place_of-requires-in-Location : goal.place_of-requires-in-Location
place_of-requires-in-Location c =
    let free = subst (λ (s : Side). IsFreeOn s c.args.node.now c.args.number) c.in-Location.is c.requires in
    subst (λ (l : List ℕ). (i : ℕ) × (i < length l) × (slice_index l i ≡ c.args.number)) (sym c.deref-in-Location.ensures.value) (c.in_ok-free_locations-in-Location.ensures.free.all c.args.number free)
