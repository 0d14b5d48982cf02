-- The products of the rows of factors are the reduced matrix.
use Rattle.std.proofs.Common.{◌≡◌, ℕ, zero, suc, ◌++◌, [], refl, ◌+◌, ◌-◌, ◌*◌, ◌/◌, ◌%◌, ◌<◌, ◌≤◌, sym, ◌∙◌, ap, ap₂, subst, arith, List, length, get_or}
use Rattle.std.specs.Prelude.{ℤ, pos, ◌+ℤ◌, ◌≤ℤ◌, ◌↔◌, Bool, IsTrue, unsigned_abs, Option, Some, MatchOption}
use Rattle.std.specs.List.Sorted.{IsStrictlyIncreasing}
use Rattle.std.proofs.lemmas.List.FromFn.{get_or-map-range_with_len, length-map-range_with_len}
use Rattle.std.proofs.lemmas.Nat.{mod_below}
use Rattle.std.proofs.Math.Nat.{div-add-mod, mul_comm}
use Rattle.qap_cost.specs.Instance.{Problem, IsInstance}
use Rattle.qap_cost.specs.Range.{AllInRange, AllWithin}
use Rattle.qap_cost.specs.Matrix.{Square, IsMatrix}
use Rattle.qap_cost.specs.Bijection.{AreDifferent}
use Rattle.qap_cost.specs.Placement.{Placement, IsPlacement, ListsFree, free_below, free_facilities, free_locations}
use Rattle.qap_cost.proofs.Placements.{ListsFree-free_below}
use Rattle.gilmore_lawler.specs.declared.side.Side.TheVariants.{Flow, Distance}
use Rattle.gilmore_lawler.specs.FlowRows.{HasFlowRows, HasDistanceRows}
use Rattle.gilmore_lawler.specs.Duals.{ProductsFit, TellsFit}
use Rattle.gilmore_lawler.specs.ReducedMatrix.{IsReducedEntry, IsReduced}
use Rattle.gilmore_lawler.specs.Table.{segment, dot, AllBelow, IsTable, IsFactorRow, IsProductRow, product_row}
use Rattle.gilmore_lawler.proofs.Dots.{dot-bound, IsReducedEntry-from_rows}
use Rattle.gilmore_lawler.proofs.OneMatrix.{positive_root, row_below}
use Rattle.gilmore_lawler.proofs.Tables.{get_or-segment, length-segment, AllWithin-segment, AllInRange-matrix, IsTable-none, IsTable-more}

-- a node's placed facilities and places, and its free ones, are below its size
pub AllBelow-different : (n : ℕ) (xs : List ℕ) → AreDifferent n xs → AllBelow n xs
AllBelow-different n xs h = record { each = h.within }

-- the numbers of a list of the free ones are below n
pub AllBelow-listed : (n : ℕ) (taken free : List ℕ) → ListsFree n taken free → AllBelow n free
AllBelow-listed n taken free h = record { each = λ j below. (h.each j below).within }

-- the free ones rise
pub IsStrictlyIncreasing-listed : (n : ℕ) (taken free : List ℕ) → ListsFree n taken free → IsStrictlyIncreasing free
IsStrictlyIncreasing-listed n taken free h = λ k below. h.ascending k (k + 1) (omega arith) below

-- the tables of a node and their products
pub record HasProducts (I : Problem) (x : Placement) (a b entries : List ℤ) : Type 0 where
  pub a_rows : IsTable (2 * length x.facilities + length (free_facilities x)) (length (free_facilities x)) (IsFactorRow I Flow x.facilities (free_facilities x)) a
  pub b_rows : IsTable (2 * length x.places + length (free_locations x)) (length (free_locations x)) (IsFactorRow I Distance x.places (free_locations x)) b
  pub a_range : AllInRange a
  pub b_range : AllInRange b
  pub products : IsTable (x.size - length x.facilities) (x.size - length x.facilities) (IsProductRow (x.size + length x.facilities) (x.size - length x.facilities) a b) entries

-- an entry of the products
entry_is : (I : Problem) (x : Placement) (a b entries : List ℤ) (r c : ℕ) → HasProducts I x a b entries → r < x.size - length x.facilities → c < x.size - length x.facilities → get_or entries (r * (x.size - length x.facilities) + c) (pos 0) ≡ dot (segment (x.size + length x.facilities) a r) (segment (x.size + length x.facilities) b c)
entry_is I x a b entries r c h hr hc =
    let m = x.size - length x.facilities in
    let w = x.size + length x.facilities in
    sym (get_or-segment m r c entries hc)
    ∙ ap (λ xs. get_or xs c (pos 0)) (h.products.rows r hr)
    ∙ get_or-map-range_with_len (λ k. dot (segment w a r) (segment w b k)) 0 m c c (pos 0) hc (omega arith)

-- the products of the rows of the two tables of a node are its reduced matrix
pub IsReduced-from_products : (I : Problem) (x : Placement) (a b entries : List ℤ) → IsPlacement x → HasProducts I x a b entries → IsReduced I x (record { size = x.size - length x.facilities; entries = entries })
IsReduced-from_products I x a b entries node h =
    let d = length x.facilities in
    let m = x.size - d in
    let w = x.size + d in
    let rows = (ListsFree-free_below x.size x.facilities node.facilities).count in
    let columns = (ListsFree-free_below x.size x.places node.places).count in
    let free_count : length (free_facilities x) ≡ m = omega (arith, rows) in
    let a_width : 2 * d + length (free_facilities x) ≡ w = omega (arith, rows) in
    let b_width : 2 * length x.places + length (free_locations x) ≡ w = omega (arith, columns, node.paired) in
    record {
      size = sym free_count;
      entries = λ r c hr hc.
          let ra : IsFactorRow I Flow x.facilities (free_facilities x) r (segment w a r) =
          subst (λ (k : ℕ). IsFactorRow I Flow x.facilities (free_facilities x) r (segment k a r)) a_width (h.a_rows.rows r (omega (arith, free_count))) in
          let rb : IsFactorRow I Distance x.places (free_locations x) c (segment w b c) =
          subst (λ (k : ℕ). IsFactorRow I Distance x.places (free_locations x) c (segment k b c)) b_width (h.b_rows.rows c (omega (arith, columns, node.paired))) in
          subst (IsReducedEntry I x r c) (sym (entry_is I x a b entries r c h hr hc))
          (IsReducedEntry-from_rows I x r c (segment w a r) (segment w b c) node.paired (omega (arith, columns, rows, node.paired)) (omega (arith, free_count)) (omega (arith, free_count)) ra rb);
    }

-- the entries of that matrix are no further from 0 than 512 * 10^18
pub AllWithin-from_products : (I : Problem) (x : Placement) (a b entries : List ℤ) → IsPlacement x → HasProducts I x a b entries → AllWithin 512000000000000000000 entries
AllWithin-from_products I x a b entries node h =
    let d = length x.facilities in
    let m = x.size - d in
    let w = x.size + d in
    let rows = (ListsFree-free_below x.size x.facilities node.facilities).count in
    let columns = (ListsFree-free_below x.size x.places node.places).count in
    let a_size : length a ≡ m * w = h.a_rows.size ∙ ap₂ ◌*◌ (omega (arith, rows)) (omega (arith, rows)) in
    let b_size : length b ≡ m * w = h.b_rows.size ∙ ap₂ ◌*◌ (omega (arith, columns, node.paired)) (omega (arith, columns, node.paired)) in
    record {
      each = λ k below.
          let inside : k < m * m = omega (arith, h.products.size) in
          let r = k / m in
          let c = k % m in
          let at : r * m + c ≡ k = omega (arith, div-add-mod k m, mul_comm m r) in
          let hr : r < m = row_below m r c k inside at in
          let hc : c < m = mod_below k m (positive_root m k inside) in
          let a_count = length-segment w m r a hr a_size in
          let b_count = length-segment w m c b hc b_size in
          let bound = dot-bound (segment w a r) (segment w b c)
          (AllWithin-segment _ w m r a hr a_size h.a_range)
          (AllWithin-segment _ w m c b hc b_size h.b_range)
          (omega (arith, a_count, b_count)) in
          let is : get_or entries k (pos 0) ≡ dot (segment w a r) (segment w b c) =
          ap (λ j. get_or entries j (pos 0)) (sym at) ∙ entry_is I x a b entries r c h hr hc in
          subst (λ (z : ℤ). unsigned_abs z ≤ 512000000000000000000) (sym is) (omega (arith, bound, a_count, rows, node.small));
    }

-- the same, from what the calls of `reduced` say
pub HasProducts-from_calls : (I : Problem) (x : Placement) (n d : ℕ) (placed facilities places locations : List ℕ) (a b a' b' entries : List ℤ) → n ≡ x.size → d ≡ length x.facilities → placed ≡ x.facilities → facilities ≡ free_facilities x → places ≡ x.places → locations ≡ free_locations x → IsTable (2 * length placed + length facilities) (length facilities) (IsFactorRow I Flow placed facilities) a → AllInRange a → IsTable (2 * length places + length locations) (length locations) (IsFactorRow I Distance places locations) b → AllInRange b → a' ≡ a → b' ≡ b → IsTable (n - d) (n - d) (IsProductRow (n + d) (n - d) a' b') entries → HasProducts I x a b entries
HasProducts-from_calls I x n d placed facilities places locations a b a' b' entries en ed ep ef eg el ta ra tb rb ea eb te =
    let A : List ℕ → List ℕ → Type 0 = λ ps fs. IsTable (2 * length ps + length fs) (length fs) (IsFactorRow I Flow ps fs) a in
    let B : List ℕ → List ℕ → Type 0 = λ gs ls. IsTable (2 * length gs + length ls) (length ls) (IsFactorRow I Distance gs ls) b in
    let m = length x.facilities in
    record {
      a_rows = subst (λ (fs : List ℕ). A x.facilities fs) ef (subst (λ (ps : List ℕ). A ps facilities) ep ta);
      b_rows = subst (λ (ls : List ℕ). B x.places ls) el (subst (λ (gs : List ℕ). B gs locations) eg tb);
      a_range = ra;
      b_range = rb;
      products =
          subst (λ (ys : List ℤ). IsTable (x.size - m) (x.size - m) (IsProductRow (x.size + m) (x.size - m) a ys) entries) eb
          (subst (λ (xs : List ℤ). IsTable (x.size - m) (x.size - m) (IsProductRow (x.size + m) (x.size - m) xs b') entries) ea
          (subst (λ (k : ℕ). IsTable (x.size - k) (x.size - k) (IsProductRow (x.size + k) (x.size - k) a' b') entries) ed
          (subst (λ (l : ℕ). IsTable (l - d) (l - d) (IsProductRow (l + d) (l - d) a' b') entries) en te)));
    }

-- the same numbers are below the same bound
pub AllBelow-along : (n m : ℕ) (xs ys : List ℕ) → n ≡ m → xs ≡ ys → AllBelow m ys → AllBelow n xs
AllBelow-along n m xs ys e f h =
    subst (λ (k : ℕ). AllBelow k xs) (sym e) (subst (AllBelow m) (sym f) h)

-- the matrix that was made of this many rows
pub made_is : (o : Option Square) (n d n' d' : ℕ) (entries : List ℤ) (M : Square) → MatchOption o (IsMatrix (record { size = n - d; entries = entries }) → ⊥) (λ N. (N ≡ record { size = n - d; entries = entries }) × IsMatrix (record { size = n - d; entries = entries })) → o ≡ Some M → n ≡ n' → d ≡ d' → M ≡ record { size = n' - d'; entries = entries }
made_is o n d n' d' entries M h e en ed =
    let made : Square = record { size = n - d; entries = entries } in
    let is = subst (λ (p : Option Square). MatchOption p (IsMatrix made → ⊥) (λ N. (N ≡ made) × IsMatrix made)) e h in
    is.0 ∙ ap₂ (λ (k l : ℕ). let N : Square = record { size = k - l; entries = entries } in N) en ed

-- how many numbers the rows of the flows have
pub length-flow_rows : (I : Problem) (x : Placement) (n d : ℕ) (a : List ℤ) → IsPlacement x → I.size ≡ x.size → n ≡ I.size → d ≡ length x.facilities → HasFlowRows (record { instance = I; facilities = x.facilities }) a → length a ≡ (n - d) * (n + d)
length-flow_rows I x n d a node same en ed h =
    let free = length (free_below I.size x.facilities) in
    let count : free + length x.facilities ≡ x.size = subst (λ (k : ℕ). length (free_below k x.facilities) + length x.facilities ≡ x.size) (sym same) (ListsFree-free_below x.size x.facilities node.facilities).count in
    h.table.size ∙ ap₂ ◌*◌ (omega (arith, count, same, en, ed)) (omega (arith, count, same, en, ed))

-- the rows of the n - d free locations have n + d numbers each
pub length-distance_rows : (I : Problem) (x : Placement) (n d : ℕ) (b : List ℤ) → IsPlacement x → I.size ≡ x.size → n ≡ I.size → d ≡ length x.facilities → HasDistanceRows I x.places b → length b ≡ (n - d) * (n + d)
length-distance_rows I x n d b node same en ed h =
    let free = length (free_below I.size x.places) in
    let count : free + length x.places ≡ x.size = subst (λ (k : ℕ). length (free_below k x.places) + length x.places ≡ x.size) (sym same) (ListsFree-free_below x.size x.places node.places).count in
    h.table.size ∙ ap₂ ◌*◌ (omega (arith, count, same, en, ed, node.paired)) (omega (arith, count, same, en, ed, node.paired))

-- the products of two tables
pub products_of : (w m : ℕ) (a b : List ℤ) (r : ℕ) → (entries : List ℤ) × IsTable m r (IsProductRow w m a b) entries
products_of w m a b zero = ([], IsTable-none m (IsProductRow w m a b))
products_of w m a b (suc r) =
    let before = products_of w m a b r in
    let row = product_row w m (segment w a r) b in
    let e : r + 1 ≡ suc r = omega arith in (
      before.0 ++ row,
      subst (λ (k : ℕ). IsTable m k (IsProductRow w m a b) (before.0 ++ row)) e
          (IsTable-more m r (IsProductRow w m a b) before.0 row before.1 (length-map-range_with_len (λ k. dot (segment w a r) (segment w b k)) 0 m) refl),
    )

-- the products fit if and only if the duals fit the matrix that they are
pub TellsFit-from_products : (I : Problem) (x : Placement) (a b u v : List ℤ) (fit : Bool) → IsPlacement x → I.size ≡ x.size → IsInstance I → HasFlowRows (record { instance = I; facilities = x.facilities }) a → HasDistanceRows I x.places b → length u ≡ x.size - length x.facilities → length v ≡ x.size - length x.facilities
    → (IsTrue fit ↔ ProductsFit (x.size + length x.facilities) a b u v) → TellsFit I x u v fit
TellsFit-from_products I x a b u v fit node same instance flows distances u_count v_count told =
    let m = x.size - length x.facilities in
    let w = x.size + length x.facilities in
    let made = products_of w m a b m in
    let h : HasProducts I x a b made.0 =
    HasProducts-from_calls I x x.size (length x.facilities) x.facilities (free_below I.size x.facilities) x.places (free_below I.size x.places) a b a b made.0
    refl refl refl (ap (λ (n : ℕ). free_below n x.facilities) same) refl (ap (λ (n : ℕ). free_below n x.places) same)
    flows.table (flows.range _ (AllInRange-matrix I Flow instance)) distances.table (distances.range _ (AllInRange-matrix I Distance instance)) refl refl made.1 in
    let M : Square = record { size = m; entries = made.0 } in
    record {
      matrix = M;
      square = record { small = omega (arith, node.small); count = made.1.size };
      reduced = IsReduced-from_products I x a b made.0 node h;
      tells = (
        λ yes_it_is. record {
          u_count = u_count;
          v_count = v_count;
          below = λ i k hi hk.
              subst (λ (z : ℤ). (get_or u i (pos 0) +ℤ get_or v k (pos 0)) ≤ℤ z) (sym (entry_is I x a b made.0 i k h hi hk))
              ((told.0 yes_it_is).below i k (omega (arith, u_count)) (omega (arith, v_count)));
        },
        λ fits. told.1 (record {
          below = λ i k hi hk.
              let ri : i < m = omega (arith, u_count) in
              let rk : k < m = omega (arith, v_count) in
              subst (λ (z : ℤ). (get_or u i (pos 0) +ℤ get_or v k (pos 0)) ≤ℤ z) (entry_is I x a b made.0 i k h ri rk) (fits.below i k ri rk);
        }),
      );
    }
