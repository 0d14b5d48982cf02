-- What the exchange of two facilities does to the difference of two others.
use Rattle.std.proofs.Common.{◌≡◌, ◌≢◌, ℕ, ◌<◌, List, length, get_or, sym, ◌∙◌, ap, ap₂, arith}
use Rattle.std.specs.Prelude.{ℤ, ◌+ℤ◌, ◌-ℤ◌, ◌*ℤ◌}
use Rattle.std.proofs.lemmas.Int.{ints}
use Rattle.qap_cost.specs.Sum.{sum_to}
use Rattle.qap_cost.proofs.Sums.{sum_to-same}
use Rattle.qap_cost.specs.Instance.{Problem, entry}
use Rattle.qap_cost.specs.Objective.{cost_of}
use Rattle.qap_improve.specs.Difference.{flow, distance, change_with, change_between}
use Rattle.qap_improve.specs.Exchange.{exchanging}
use Rattle.qap_improve.specs.Table.{IsContrast, IsDifference, change_of_difference}
use Rattle.qap_improve.specs.declared.contrast.Contrast.{Contrast}
use Rattle.qap_improve.proofs.DoubleSums.{crossed_products, outside, outside-same, sum_to-apart}
use Rattle.qap_improve.proofs.Exchanges.{cost_of-exchanging, exchanging-first, exchanging-second, exchanging-other, length-exchanging}

-- what exchanging r and s changes the cost by, in parts
abbrev difference : Problem → List ℕ → ℕ → ℕ → ℤ
difference I p r s = ((sum_to (change_with I p r s) I.size -ℤ change_with I p r s r) -ℤ change_with I p r s s) +ℤ change_between I p r s

regrouped : (xa yb xb ya c za wb zb wa e : ℤ) → xa +ℤ yb ≡ (xb +ℤ ya) +ℤ c → za +ℤ wb ≡ (zb +ℤ wa) +ℤ e
    → (xa +ℤ za) +ℤ (yb +ℤ wb) ≡ ((xb +ℤ zb) +ℤ (ya +ℤ wa)) +ℤ (c +ℤ e)
regrouped xa yb xb ya c za wb zb wa e h i = omega (arith, ints)

-- two pairs of products with each other's factor
both_crossed : (x y a b z w d e : ℤ)
    → (x *ℤ a +ℤ z *ℤ d) +ℤ (y *ℤ b +ℤ w *ℤ e) ≡ ((x *ℤ b +ℤ z *ℤ e) +ℤ (y *ℤ a +ℤ w *ℤ d)) +ℤ ((x -ℤ y) *ℤ (a -ℤ b) +ℤ (z -ℤ w) *ℤ (d -ℤ e))
both_crossed x y a b z w d e =
    regrouped (x *ℤ a) (y *ℤ b) (x *ℤ b) (y *ℤ a) ((x -ℤ y) *ℤ (a -ℤ b)) (z *ℤ d) (w *ℤ e) (z *ℤ e) (w *ℤ d) ((z -ℤ w) *ℤ (d -ℤ e))
    (crossed_products x y a b) (crossed_products z w d e)

-- four numbers and their differences either way
square : (x y a b c d : ℤ) → x ≡ a -ℤ b → y ≡ c -ℤ d → x -ℤ y ≡ (a -ℤ c) -ℤ (b -ℤ d)
square x y a b c d h i = omega (arith, ints)

changed : (f g o fu fv gu gv c : ℤ) → f ≡ (o +ℤ fu) +ℤ fv → g ≡ (o +ℤ gu) +ℤ gv → gu +ℤ gv ≡ (fu +ℤ fv) +ℤ c → g ≡ f +ℤ c
changed f g o fu fv gu gv c h i j = omega (arith, ints)

moved : (f g c fr gr fs gs fb gb : ℤ) → g ≡ f +ℤ c → gr ≡ fr → gs ≡ fs → gb ≡ fb
    → ((g -ℤ gr) -ℤ gs) +ℤ gb ≡ (((f -ℤ fr) -ℤ fs) +ℤ fb) +ℤ c
moved f g c fr gr fs gs fb gb h i j k = omega (arith, ints)

told : (p q d x c y e : ℤ) → p +ℤ d ≡ e → p +ℤ x ≡ e → y ≡ d +ℤ c → q +ℤ (x +ℤ c) ≡ q +ℤ y
told p q d x c y e h i j = omega (arith, ints)

-- what the exchange of u and v changes the difference of r and s by
difference-updated : (I : Problem) (q : List ℕ) (u v r s : ℕ) (x y : Contrast) → u ≢ v → u < I.size → v < I.size → length q ≡ I.size
    → r ≢ u → r ≢ v → s ≢ u → s ≢ v → IsContrast I q u v r x → IsContrast I q u v s y
    → difference I q r s ≡ difference I (exchanging q u v) r s +ℤ change_of_difference x y
difference-updated I q u v r s x y apart hu hv size ru rv su sv hx hy =
    let p = exchanging q u v in
    let n = I.size in
    let at : (i j k l : ℕ) → get_or p i 0 ≡ get_or q k 0 → get_or p j 0 ≡ get_or q l 0 → distance I p i j ≡ distance I q k l =
    λ i j k l row column. ap₂ (entry n I.b) row column in
    let first : get_or p u 0 ≡ get_or q v 0 = exchanging-first q u v apart (omega arith) in
    let second : get_or p v 0 ≡ get_or q u 0 = exchanging-second q u v (omega arith) in
    let at_r = exchanging-other q u v r ru rv in
    let at_s = exchanging-other q u v s su sv in
    let with : (k l : ℕ) → get_or p k 0 ≡ get_or q l 0
    → change_with I p r s k ≡ (flow I k r -ℤ flow I k s) *ℤ (distance I q l s -ℤ distance I q l r) +ℤ (flow I r k -ℤ flow I s k) *ℤ (distance I q s l -ℤ distance I q r l) =
    λ k l is.
    ap₂ (λ (d e : ℤ). (flow I k r -ℤ flow I k s) *ℤ d +ℤ (flow I r k -ℤ flow I s k) *ℤ e)
    (ap₂ ◌-ℤ◌ (at k s l s is at_s) (at k r l r is at_r))
    (ap₂ ◌-ℤ◌ (at s k s l at_s is) (at r k r l at_r is)) in
    let other : (k : ℕ) → k ≢ u → k ≢ v → change_with I p r s k ≡ change_with I q r s k =
    λ k ku kv. with k k (exchanging-other q u v k ku kv) in
    let between : change_between I p r s ≡ change_between I q r s =
    ap₂ (λ (d e : ℤ). (flow I r r -ℤ flow I s s) *ℤ d +ℤ (flow I r s -ℤ flow I s r) *ℤ e)
    (ap₂ ◌-ℤ◌ (at s s s s at_s at_s) (at r r r r at_r at_r))
    (ap₂ ◌-ℤ◌ (at s r s r at_s at_r) (at r s r s at_r at_s)) in
    let a = distance I q u s -ℤ distance I q u r in
    let b = distance I q v s -ℤ distance I q v r in
    let d = distance I q s u -ℤ distance I q r u in
    let e = distance I q s v -ℤ distance I q r v in
    let fu = flow I u r -ℤ flow I u s in
    let fv = flow I v r -ℤ flow I v s in
    let gu = flow I r u -ℤ flow I s u in
    let gv = flow I r v -ℤ flow I s v in
    let by : change_of_difference x y ≡ (fu -ℤ fv) *ℤ (a -ℤ b) +ℤ (gu -ℤ gv) *ℤ (d -ℤ e) =
    ap₂ ◌+ℤ◌
    (ap₂ ◌*ℤ◌ (square x.flow y.flow (flow I u r) (flow I v r) (flow I u s) (flow I v s) hx.flows hy.flows) (square y.distance x.distance (distance I q u s) (distance I q v s) (distance I q u r) (distance I q v r) hy.distances hx.distances))
    (ap₂ ◌*ℤ◌ (square x.flow_back y.flow_back (flow I r u) (flow I r v) (flow I s u) (flow I s v) hx.flows_back hy.flows_back) (square y.distance_back x.distance_back (distance I q s u) (distance I q s v) (distance I q r u) (distance I q r v) hy.distances_back hx.distances_back)) in
    let both : change_with I q r s u +ℤ change_with I q r s v ≡ (change_with I p r s u +ℤ change_with I p r s v) +ℤ change_of_difference x y =
    both_crossed fu fv a b gu gv d e
    ∙ ap₂ ◌+ℤ◌ (ap₂ ◌+ℤ◌ (sym (with u v first)) (sym (with v u second))) (sym by) in
    let sums : sum_to (change_with I q r s) n ≡ sum_to (change_with I p r s) n +ℤ change_of_difference x y =
    changed _ _ (sum_to (outside u v (change_with I p r s)) n) _ _ _ _ _
    (sum_to-apart (change_with I p r s) u v n apart hu hv)
    (sum_to-apart (change_with I q r s) u v n apart hu hv
    ∙ ap (λ (t : ℤ). (t +ℤ change_with I q r s u) +ℤ change_with I q r s v)
    (sum_to-same (outside u v (change_with I q r s)) (outside u v (change_with I p r s)) n (λ k below.
    outside-same u v (change_with I q r s) (change_with I p r s) k (λ ku kv. sym (other k ku kv)))))
    both in
    moved (sum_to (change_with I p r s) n) (sum_to (change_with I q r s) n) (change_of_difference x y) _ _ _ _ _ _
    sums (sym (other r ru rv)) (sym (other s su sv)) (sym between)

-- so a difference is brought up to an exchange of two others
pub IsDifference-updated : (I : Problem) (q : List ℕ) (u v r s : ℕ) (x y : Contrast) (old : ℤ) → u ≢ v → u < I.size → v < I.size → length q ≡ I.size
    → r ≢ s → r < I.size → s < I.size → r ≢ u → r ≢ v → s ≢ u → s ≢ v → IsContrast I q u v r x → IsContrast I q u v s y
    → IsDifference I (exchanging q u v) r s old → IsDifference I q r s (old +ℤ change_of_difference x y)
IsDifference-updated I q u v r s x y old apart hu hv size rs hr hs ru rv su sv hx hy is =
    let p = exchanging q u v in
    told (cost_of I p) (cost_of I q) (difference I p r s) old (change_of_difference x y) (difference I q r s) (cost_of I (exchanging p r s))
    (cost_of-exchanging I p r s rs hr hs (length-exchanging q u v ∙ size)) is
    (difference-updated I q u v r s x y apart hu hv size ru rv su sv hx hy)
    ∙ cost_of-exchanging I q r s rs hr hs size
