-- The permutation that a node which places all facilities is.
use Rattle.std.proofs.Common.{◌≡◌, ℕ, ◌<◌, List, length, get_or, sym, ◌∙◌, ap, subst, arith}
use Rattle.std.proofs.lemmas.List.{ext_get_or}
use Rattle.qap_cost.specs.Bijection.{IsBijection, IsPerm}
use Rattle.qap_cost.specs.Placement.{Placement, IsPlacement, Completes}
use Rattle.qap_cost.proofs.Bijections.{each_reached}
use Rattle.qap_cost.proofs.Nodes.{whole_completed}

-- a list that has each facility's location at its place completes the node
pub whole_is : (x : Placement) (ps : List ℕ) → IsPlacement x → length x.facilities ≡ x.size → length ps ≡ x.size → ((t : ℕ) → t < length x.facilities → get_or ps (get_or x.facilities t 0) 0 ≡ get_or x.places t 0) → Completes x ps
whole_is x ps h all long agrees =
    let F = x.facilities in
    let bijection : IsBijection F = record { within = λ i below. omega (arith, h.facilities.within i below); distinct = h.facilities.distinct } in
    let q = whole_completed x h all in
    let at : (i : ℕ) → i < length q.0 → get_or q.0 i 0 ≡ get_or ps i 0 =
    λ i below.
    let r = each_reached F i bijection (omega (arith, q.1.same_size, all)) in
    ap (λ (j : ℕ). get_or q.0 j 0) (sym r.2) ∙ q.1.agrees r.0 r.1 ∙ sym (agrees r.0 r.1) ∙ ap (λ (j : ℕ). get_or ps j 0) r.2 in
    subst (Completes x) (ext_get_or 0 q.0 ps (q.1.same_size ∙ sym long) at) q.1

-- what completes a node is a permutation
pub IsPerm-completed : (x : Placement) (p : List ℕ) → IsPlacement x → Completes x p → IsPerm p
IsPerm-completed x p h done = record { bijection = done.bijection; positive = omega (arith, done.same_size, h.positive); small = omega (arith, done.same_size, h.small) }

-- the same of a node whose parts are given
pub completed_by : (x : Placement) (size : ℕ) (F G fs gs ps : List ℕ) → record { size = size; facilities = F; places = G } ≡ x → fs ≡ F → gs ≡ G → IsPlacement (record { size = size; facilities = F; places = G })
    → length x.facilities ≡ x.size → length ps ≡ size → ((t : ℕ) → t < length fs → get_or ps (get_or fs t 0) 0 ≡ get_or gs t 0) → Completes x ps
completed_by x size F G fs gs ps is f g h all long agrees =
    let y : Placement = record { size = size; facilities = F; places = G } in
    subst (λ (z : Placement). Completes z ps) is
    (whole_is y ps h (subst (λ (z : Placement). length z.facilities ≡ z.size) (sym is) all) long
    (λ t below. subst (λ (k : List ℕ). get_or ps (get_or F t 0) 0 ≡ get_or k t 0) g (subst (λ (k : List ℕ). get_or ps (get_or k t 0) 0 ≡ get_or gs t 0) f (agrees t (omega (arith, ap length f))))))
