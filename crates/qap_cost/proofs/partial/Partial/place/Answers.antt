use Rattle.std.proofs.Common.{◌≡◌, ◌++◌, ◌∷◌, [], ap, ap₂, ◌∙◌, subst, sym, List, ℕ}
use Rattle.qap_cost.specs.Placement.{Placement, IsPlacement, placing}
use Rattle.qap_cost.proofs.Placements.{IsPlacement-placing}
use Rattle.qap_cost.proofs.partial.Partial.place.Goals as goal

abbrev made_of : ℕ → List ℕ → List ℕ → Placement
made_of n f p = record { size = n; facilities = f; places = p }

pub invariant_of-result : goal.invariant_of-result
invariant_of-result c =
    let x = c.args.self.now in
    let h : IsPlacement x = subst IsPlacement c.self.view_is c.self.invariant in
    let is = c.self.view_is in
    let facilities : x.facilities ++ c.args.f ∷ [] ≡ c.in_ok-facilities.facilities.items =
    ap (λ (l : List ℕ). l ++ c.args.f ∷ []) (sym (c.deref.ensures.value ∙ ap (λ (y : Placement). y.facilities) is)) ∙ sym c.in_ok-facilities.ensures in
    let places : x.places ++ c.args.k ∷ [] ≡ c.in_ok-places.places.items =
    ap (λ (l : List ℕ). l ++ c.args.k ∷ []) (sym (c.deref-2.ensures.value ∙ ap (λ (y : Placement). y.places) is)) ∙ sym c.in_ok-places.ensures in
    let made : placing x c.args.f c.args.k ≡ made_of c.self.inside.size c.in_ok-facilities.facilities.items c.in_ok-places.places.items =
    ap (λ (n : ℕ). made_of n (x.facilities ++ c.args.f ∷ []) (x.places ++ c.args.k ∷ [])) (sym (ap (λ (y : Placement). y.size) is))
    ∙ ap₂ (made_of c.self.inside.size) facilities places in
    subst IsPlacement made (IsPlacement-placing x c.args.f c.args.k h c.requires.facility c.requires.location)
