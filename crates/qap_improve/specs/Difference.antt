-- The cost change when two facilities exchange their locations, in parts (Burkard and Rendl 1984).
use Rattle.std.specs.Prelude.{ℕ, List, ℤ, ◌+ℤ◌, ◌-ℤ◌, ◌*ℤ◌, slice_index}
use Rattle.qap_cost.specs.Instance.{Problem, entry}

-- the flow from facility i to facility j
abbrev pub flow : Problem → ℕ → ℕ → ℤ
flow I i j = entry I.size I.a i j

-- the distance from the location of facility i to that of facility j
abbrev pub distance : Problem → List ℕ → ℕ → ℕ → ℤ
distance I p i j = entry I.size I.b (slice_index p i) (slice_index p j)

-- the change of the cost between another facility k and both
abbrev pub change_with : Problem → List ℕ → ℕ → ℕ → ℕ → ℤ
change_with I p r s k =
    (flow I k r -ℤ flow I k s) *ℤ (distance I p k s -ℤ distance I p k r)
    +ℤ (flow I r k -ℤ flow I s k) *ℤ (distance I p s k -ℤ distance I p r k)

-- the change of the cost of both, with themselves and each other
abbrev pub change_between : Problem → List ℕ → ℕ → ℕ → ℤ
change_between I p r s =
    (flow I r r -ℤ flow I s s) *ℤ (distance I p s s -ℤ distance I p r r)
    +ℤ (flow I r s -ℤ flow I s r) *ℤ (distance I p s r -ℤ distance I p r s)
