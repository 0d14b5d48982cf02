-- What the tables of an arrangement tell of an exchange, and how they follow one.
use Rattle.std.proofs.Common.{◌≡◌, ◌≢◌, ℕ, ◌+◌, ◌*◌, ◌<◌, ◌≤◌, List, length, get_or, sym, subst, ◌∙◌, ap, ap₂, arith}
use Rattle.std.specs.Prelude.{ℤ, ◌+ℤ◌, ◌-ℤ◌, ◌*ℤ◌, unsigned_abs}
use Rattle.std.proofs.lemmas.Nat.{mul-add-lt}
use Rattle.qap_cost.specs.Instance.{IsInstance, Problem, entry}
use Rattle.qap_cost.specs.Objective.{Permutes, cost_of}
use Rattle.qap_cost.specs.Row.{IsRow}
use Rattle.qap_cost.proofs.Sums.{sum_to-same}
use Rattle.qap_improve.specs.Arrangement.{AreExchanged, HasEntriesWithin, IsTable, content}
use Rattle.qap_improve.specs.Difference.{distance, change_between, change_with}
use Rattle.qap_improve.specs.Exchange.{exchanging, partner}
use Rattle.qap_improve.specs.Rows.{AreRowsOf, AreRowsWithin, IsRowWithin, change_by_rows, crossed, crossed_with}
use Rattle.qap_improve.specs.declared.rows.Rows.{Rows}
use Rattle.qap_improve.specs.declared.facility_table.Content.{Content}
use Rattle.qap_improve.specs.declared.facility_table.Content.TheVariants.{Flows, FlowsBack, Distances, DistancesBack}
use Rattle.qap_improve.proofs.Exchanges.{cost_of-exchanging, exchanging-at, partner-below}

-- the entries of an instance lie in their range
pub entries-within : (I : Problem) → IsInstance I → HasEntriesWithin 1000000000 I
entries-within I is = record {
  flows = λ i j hi hj. is.a_range (i * I.size + j) (mul-add-lt i I.size j I.size hi hj);
  distances = λ i j hi hj. is.b_range (i * I.size + j) (mul-add-lt i I.size j I.size hi hj);
}

-- a distance between two facilities' locations is no further from 0 than the entries
pub distance-within : (l : ℕ) (I : Problem) (p : List ℕ) (i j : ℕ) → HasEntriesWithin l I → Permutes I p → i < I.size → j < I.size → unsigned_abs (distance I p i j) ≤ l
distance-within l I p i j h perm hi hj =
    let size = perm.same_size in
    let row = perm.bijection.within i (omega arith) in
    let column = perm.bijection.within j (omega arith) in
    h.distances (get_or p i 0) (get_or p j 0) (omega arith) (omega arith)

content-within : (l : ℕ) (I : Problem) (p : List ℕ) (kind : Content) (i j : ℕ) → HasEntriesWithin l I → Permutes I p → i < I.size → j < I.size → unsigned_abs (content I p kind i j) ≤ l
content-within l I p Flows i j h perm hi hj = h.flows i j hi hj
content-within l I p FlowsBack i j h perm hi hj = h.flows j i hj hi
content-within l I p Distances i j h perm hi hj = distance-within l I p i j h perm hi hj
content-within l I p DistancesBack i j h perm hi hj = distance-within l I p j i h perm hj hi

row-within : (l n i : ℕ) (f : ℕ → ℕ → ℤ) (table row : List ℤ) → i < n → IsTable n f table → IsRow n table i row → ((j : ℕ) → j < n → unsigned_abs (f i j) ≤ l) → IsRowWithin l n row
row-within l n i f table row hi t r small = record {
  count = r.count;
  within = record {
    each = λ j below.
        let count = r.count in
        let inside : j < n = omega arith in
        subst (λ (x : ℤ). unsigned_abs x ≤ l) (sym (r.entries j inside ∙ t.each i j hi inside)) (small j inside);
  };
}

-- the rows of a table of flows and one of distances lie within the limit of the entries
pub rows-within : (l : ℕ) (I : Problem) (p : List ℕ) (fk dk : Content) (flows distances : List ℤ) (r s : ℕ) (x : Rows) → HasEntriesWithin l I → Permutes I p → r < I.size → s < I.size
    → IsTable I.size (content I p fk) flows → IsTable I.size (content I p dk) distances → AreRowsOf I.size flows distances r s x → AreRowsWithin l I.size x
rows-within l I p fk dk flows distances r s x h perm hr hs ft dt rows = record {
  size = rows.size;
  flow_first = row-within l I.size r (content I p fk) flows x.flow_first.now hr ft rows.flow_first (λ j hj. content-within l I p fk r j h perm hr hj);
  flow_second = row-within l I.size s (content I p fk) flows x.flow_second.now hs ft rows.flow_second (λ j hj. content-within l I p fk s j h perm hs hj);
  distance_first = row-within l I.size r (content I p dk) distances x.distance_first.now hr dt rows.distance_first (λ j hj. content-within l I p dk r j h perm hr hj);
  distance_second = row-within l I.size s (content I p dk) distances x.distance_second.now hs dt rows.distance_second (λ j hj. content-within l I p dk s j h perm hs hj);
}

-- what the rows say
crossed-is : (n r s i j : ℕ) (f d : ℕ → ℕ → ℤ) (flows distances : List ℤ) (x : Rows) → r < n → s < n → i < n → j < n → IsTable n f flows → IsTable n d distances
    → AreRowsOf n flows distances r s x → crossed x i j ≡ (f r i -ℤ f s j) *ℤ (d s j -ℤ d r i)
crossed-is n r s i j f d flows distances x hr hs hi hj ft dt rows =
    ap₂ ◌*ℤ◌
    (ap₂ ◌-ℤ◌ (rows.flow_first.entries i hi ∙ ft.each r i hr hi) (rows.flow_second.entries j hj ∙ ft.each s j hs hj))
    (ap₂ ◌-ℤ◌ (rows.distance_second.entries j hj ∙ dt.each s j hs hj) (rows.distance_first.entries i hi ∙ dt.each r i hr hi))

-- what is read off the rows r and s of the four tables is what the exchange of r and s changes the cost by
pub change_by_rows-is : (I : Problem) (p : List ℕ) (flows flows_back distances distances_back : List ℤ) (r s : ℕ) (there back : Rows) → length p ≡ I.size → r ≢ s → r < I.size → s < I.size
    → IsTable I.size (content I p Flows) flows → IsTable I.size (content I p FlowsBack) flows_back
    → IsTable I.size (content I p Distances) distances → IsTable I.size (content I p DistancesBack) distances_back
    → AreRowsOf I.size flows distances r s there → AreRowsOf I.size flows_back distances_back r s back
    → cost_of I p +ℤ change_by_rows I.size there back r s ≡ cost_of I (exchanging p r s)
change_by_rows-is I p flows flows_back distances distances_back r s there back size apart hr hs ft fb dt db rows rows_back =
    let n = I.size in
    let with : (k : ℕ) → k < n → crossed_with there back k ≡ change_with I p r s k =
    λ k hk.
    ap₂ ◌+ℤ◌ (crossed-is n r s k k (content I p FlowsBack) (content I p DistancesBack) flows_back distances_back back hr hs hk hk fb db rows_back)
    (crossed-is n r s k k (content I p Flows) (content I p Distances) flows distances there hr hs hk hk ft dt rows) in
    let between : crossed there r s +ℤ crossed there s r ≡ change_between I p r s =
    ap₂ ◌+ℤ◌ (crossed-is n r s r s (content I p Flows) (content I p Distances) flows distances there hr hs hr hs ft dt rows)
    (crossed-is n r s s r (content I p Flows) (content I p Distances) flows distances there hr hs hs hr ft dt rows) in
    ap (λ (x : ℤ). cost_of I p +ℤ x)
    (ap₂ ◌+ℤ◌ (ap₂ ◌-ℤ◌ (ap₂ ◌-ℤ◌ (sum_to-same (crossed_with there back) (change_with I p r s) n with) (with r hr)) (with s hs)) between)
    ∙ cost_of-exchanging I p r s apart hr hs size

-- a table whose content is known by other words
pub IsTable-same : (n : ℕ) (f g : ℕ → ℕ → ℤ) (table : List ℤ) → ((i j : ℕ) → f i j ≡ g i j) → IsTable n f table → IsTable n g table
IsTable-same n f g table same h = record { count = h.count; each = λ i j hi hj. h.each i j hi hj ∙ same i j }

distance-exchanged : (I : Problem) (p : List ℕ) (r s i j : ℕ) → length p ≡ I.size → r ≢ s → r < I.size → s < I.size → distance I p (partner r s i) (partner r s j) ≡ distance I (exchanging p r s) i j
distance-exchanged I p r s i j size apart hr hs =
    sym (ap₂ (entry I.size I.b) (exchanging-at p r s i apart (omega arith) (omega arith)) (exchanging-at p r s j apart (omega arith) (omega arith)))

-- the tables of distances follow an exchange
pub distances-exchanged : (I : Problem) (p : List ℕ) (r s : ℕ) (old new : List ℤ) → length p ≡ I.size → r ≢ s → r < I.size → s < I.size
    → IsTable I.size (content I p Distances) old → AreExchanged I.size r s old new → IsTable I.size (content I (exchanging p r s) Distances) new
distances-exchanged I p r s old new size apart hr hs t e = record {
  count = e.count;
  each = λ i j hi hj.
      e.each i j hi hj ∙ t.each (partner r s i) (partner r s j) (partner-below r s i I.size hr hs hi) (partner-below r s j I.size hr hs hj)
      ∙ distance-exchanged I p r s i j size apart hr hs;
}

-- with rows and columns exchanged, the table of distances back is that of the exchanged locations
pub distances_back-exchanged : (I : Problem) (p : List ℕ) (r s : ℕ) (old new : List ℤ) → length p ≡ I.size → r ≢ s → r < I.size → s < I.size
    → IsTable I.size (content I p DistancesBack) old → AreExchanged I.size r s old new → IsTable I.size (content I (exchanging p r s) DistancesBack) new
distances_back-exchanged I p r s old new size apart hr hs t e = record {
  count = e.count;
  each = λ i j hi hj.
      e.each i j hi hj ∙ t.each (partner r s i) (partner r s j) (partner-below r s i I.size hr hs hi) (partner-below r s j I.size hr hs hj)
      ∙ distance-exchanged I p r s j i size apart hr hs;
}

-- rows of tables that are known by other words
pub AreRowsOf-same : (n m : ℕ) (flows told_flows distances told_distances : List ℤ) (r s : ℕ) (x : Rows) → n ≡ m → told_flows ≡ flows → told_distances ≡ distances
    → AreRowsOf n told_flows told_distances r s x → AreRowsOf m flows distances r s x
AreRowsOf-same n m flows told_flows distances told_distances r s x size f d rows =
    subst (λ (k : ℕ). AreRowsOf k flows distances r s x) size
    (subst (λ (t : List ℤ). AreRowsOf n t distances r s x) f
    (subst (λ (t : List ℤ). AreRowsOf n told_flows t r s x) d rows))
