-- What is left of a text that begins with that of a valid tree, once its lines have been read.
use Rattle.std.proofs.Common.{◌≡◌, ◌≢◌, ℕ, ◌≤◌, ◌++◌, List, [], ◌∷◌, get_or, ℤ, pos, unsigned_abs, refl, sym, ◌∙◌, ap, subst, inl, inr, arith, append_assoc}
use Rattle.std.specs.Prelude.{codes, Bool, true, false, Option, None, Some, Result, Ok, Err, ◌⊎◌}
use Rattle.std.specs.Io.KnownBytes.{Consumes}
use Rattle.std.proofs.lemmas.Bool.{false≢true}
use Rattle.qap_cost.specs.Instance.{Problem}
use Rattle.qap_cost.specs.Placement.{Placement, IsPlacement}
use Rattle.qap_lines.proofs.Lines.{IsLine-unique}
use Rattle.qap_lines.proofs.NumberLists.{AllLimited-one, IsNamed-numbers_text, IsNamed-unique}
use Rattle.qap_lines.specs.Line.{HasNoLine, IsLine}
use Rattle.qap_lines.specs.LineText.{numbers_text}
use Rattle.qap_lines.specs.Number.{IsNamed}
use Rattle.pair_duals.specs.PairDuals.{Duals, Fit}
use Rattle.pair_duals.specs.Reduced.{Form, IsStart}
use Rattle.qap_proof.specs.Shape.{free_count}
use Rattle.qap_proof.specs.declared.error.ProofError.{ProofError}
use Rattle.qap_proof.specs.declared.side.Side.TheVariants.{Facility, Location}
use Rattle.proof_tree.specs.Shape.{ArePairRows, HasShape, MayBePairRows}
use Rattle.proof_tree.specs.Text.{rows_text, tree_text}
use Rattle.proof_tree.specs.Tree.{PairRows, Tree, leaf, split}
use Rattle.proof_tree.specs.Valid.{AreListed, Begins, IsLined, Under, Valid, under}
use Rattle.proof_check.specs.Completeness.{BeginsLined, BeginsOwn, BeginsTree, BeginsWithLine, BeginsWithRows, Finds, HasOwn, IsCurrent, Leaves}
use Rattle.proof_check.specs.Rows.{rows_of}
use Rattle.proof_check.specs.Walk.{own_of}
use Rattle.proof_check.proofs.OneDuals.{one_duals}
use Rattle.proof_check.proofs.SameForms.{IsLine-same, one_start}
use Rattle.proof_check.proofs.TreeLines.{ArePairRows-own, HasShape-bare, IsLine-bare, IsLine-own, bare, bare-none, bare_line, below_text}
use Rattle.proof_check.proofs.TreeWalks.{duals_without}

-- a call that leaves the rest of what has a property leaves that of what has a stronger one
pub Leaves-weaker : {T : Type 0} (P Q : List ℕ → Type 0) (new : Option (List ℕ)) (r : Result T ProofError) → ((rest : List ℕ) → P rest → Q rest) → Leaves Q new r → Leaves P new r
Leaves-weaker P Q new (Ok x) f h = λ rest p. h rest (f rest p)
Leaves-weaker P Q new (Err e) f h = (h.0, λ rest p. h.1 rest (f rest p))

-- a fault of what is proved is one of what is proved besides
pub Finds-stronger : (S T : Type 0) (P Q : List ℕ → Type 0) (e : ProofError) → (S → T) → ((rest : List ℕ) → Q rest → P rest) → Finds S P e → Finds T Q e
Finds-stronger S T P Q e f g h = record { kind = h.kind; skimmed = f h.skimmed; refused = λ rest q. h.refused rest (g rest q) }

-- a line that was read is the first line of the known text
pub line_read : (text line l rest : List ℕ) (new : Option (List ℕ)) → Consumes (Some text) new (line ++ 10 ∷ []) → HasNoLine line → IsLine text l rest → (line ≡ l) × (new ≡ Some rest)
line_read text line l rest None read whole first = absurd read
line_read text line l rest (Some ys) read whole first =
    let same = IsLine-unique text line ys l rest (record { is = read ∙ append_assoc line (10 ∷ []) ys; first = whole }) first in
    (same.0, ap Some same.1)

-- the same where the bytes are those of a reader
pub line_known : (a b : Option (List ℕ)) (line l rest : List ℕ) → Consumes a b (line ++ 10 ∷ []) → HasNoLine line → BeginsWithLine a l rest → (line ≡ l) × (b ≡ Some rest)
line_known a b line l rest read whole h = line_read h.text line l rest b (subst (λ (o : Option (List ℕ)). Consumes o b (line ++ 10 ∷ [])) h.known read) whole h.first

-- ---- which kind of tree

pub own_cases : (o : Option PairRows) → (o ≡ None) ⊎ ((P : PairRows) × (o ≡ Some P))
own_cases None = inl refl
own_cases (Some P) = inr (P, refl)

pub bare_high : (t : Tree) → 115 ≤ get_or (bare_line t) 0 0
bare_high (leaf d) = omega arith
bare_high (split d Facility number ts) = omega arith
bare_high (split d Location number ts) = omega arith

-- the current line of a tree without pair duals of its own, and what follows it
pub bare_parts : (t : Tree) (y : Placement) (above : Bool) (line : List ℕ) (old : Option (List ℕ)) (rest : List ℕ) → IsPlacement y → HasShape y above t → own_of t ≡ None → IsCurrent line old (tree_text t ++ rest)
    → (line ≡ bare_line t) × (old ≡ Some (below_text t ++ rest))
bare_parts t y above line old rest is shape none now =
    let same = IsLine-unique (tree_text t ++ rest) line now.unread (bare_line t) (below_text t ++ rest) now.first (IsLine-bare t y above rest is shape none) in
    (same.0, now.known ∙ ap Some same.1)

-- the same for one with pair duals of its own
pub own_parts : (t : Tree) (y : Placement) (above : Bool) (P : PairRows) (line : List ℕ) (old : Option (List ℕ)) (rest : List ℕ) → HasShape y above t → own_of t ≡ Some P → IsCurrent line old (tree_text t ++ rest)
    → (line ≡ codes "p" ++ numbers_text (pos P.scale ∷ [])) × (old ≡ Some (rows_text P.rows ++ (tree_text (bare t) ++ rest)))
own_parts t y above P line old rest shape own now =
    let same = IsLine-unique (tree_text t ++ rest) line now.unread (codes "p" ++ numbers_text (pos P.scale ∷ [])) (rows_text P.rows ++ (tree_text (bare t) ++ rest)) now.first (IsLine-own t y above P rest shape own) in
    (same.0, now.known ∙ ap Some same.1)

-- a tree whose line begins with a `p` has its own pair duals
pub BeginsOwn-first : (P : Tree → Type 0) (y : Placement) (above : Bool) (line : List ℕ) (old : Option (List ℕ)) (rest : List ℕ) → IsPlacement y → get_or line 0 0 ≡ 112 → BeginsTree y above P line old rest → BeginsOwn y P line old rest
BeginsOwn-first P y above line old rest is first h =
    elim (own_cases (own_of h.tree)) [
      | inl none ↦
          let high = bare_high h.tree in
          let same = ap (λ l. get_or l 0 0) (bare_parts h.tree y above line old rest is h.shape none h.current).0 in
          absurd (omega (arith, high, same, first))
      | inr some ↦ record { above = above; has = h; rows = some.0; own = some.1 }
    ]

-- a tree whose line does not has none
pub BeginsLined-first : (P : Tree → Type 0) (y : Placement) (line : List ℕ) (old : Option (List ℕ)) (rest : List ℕ) → get_or line 0 0 ≢ 112 → BeginsTree y true P line old rest → BeginsLined y P line old rest
BeginsLined-first P y line old rest other h =
    elim (own_cases (own_of h.tree)) [
      | inl none ↦ record { has = h; bare = none }
      | inr some ↦ absurd (other (ap (λ l. get_or l 0 0) (own_parts h.tree y true some.0 line old rest h.shape some.1 h.current).0))
    ]

no_bool : false ≡ true → ⊥
no_bool e = false≢true e

-- nothing comes from above a root, so its tree has its own
pub own_needed : (t : Tree) (y : Placement) → own_of t ≡ None → HasShape y false t → ⊥
own_needed (leaf d) y none shape = no_bool (subst (λ o. MayBePairRows false (free_count y) o) none shape.own)
own_needed (split d side number ts) y none shape = no_bool (subst (λ o. MayBePairRows false (free_count y) o) none shape.0.own)

-- so its first line begins with a `p`
pub root_first : (P : Tree → Type 0) (y : Placement) (line : List ℕ) (old : Option (List ℕ)) (rest : List ℕ) → BeginsTree y false P line old rest → get_or line 0 0 ≡ 112
root_first P y line old rest h =
    elim (own_cases (own_of h.tree)) [
      | inl none ↦ absurd (own_needed h.tree y none h.shape)
      | inr some ↦ ap (λ l. get_or l 0 0) (own_parts h.tree y false some.0 line old rest h.shape some.1 h.current).0
    ]

-- ---- pair duals of its own

-- its scale is that of its line
pub own_scale : (P : Tree → Type 0) (y : Placement) (line : List ℕ) (old : Option (List ℕ)) (rest : List ℕ) (h : BeginsOwn y P line old rest) → IsNamed (codes "p") line (pos h.rows.scale ∷ [])
own_scale P y line old rest h =
    let rows = ArePairRows-own h.has.tree y h.above h.rows h.has.shape h.own in
    subst (λ (l : List ℕ). IsNamed (codes "p") l (pos h.rows.scale ∷ [])) (sym (own_parts h.has.tree y h.above h.rows line old rest h.has.shape h.own h.has.current).0)
    (IsNamed-numbers_text (codes "p") (pos h.rows.scale ∷ []) (AllLimited-one (pos h.rows.scale) (omega (arith, rows.scale))))

-- its rows follow
pub own_rows : (P : Tree → Type 0) (y : Placement) (line : List ℕ) (old : Option (List ℕ)) (rest : List ℕ) (h : BeginsOwn y P line old rest) → BeginsWithRows (free_count y) h.rows.rows old (tree_text (bare h.has.tree) ++ rest)
own_rows P y line old rest h =
    let rows = ArePairRows-own h.has.tree y h.above h.rows h.has.shape h.own in
    record { count = rows.count; each = rows.each; known = (own_parts h.has.tree y h.above h.rows line old rest h.has.shape h.own h.has.current).1 }

begins_own : (I : Problem) (y : Placement) (above : Option Under) (P : PairRows) (D : Duals) (R : Form) → Begins I y above (Some P) D R → AreListed y P D × Fit I D × IsStart I D y R
begins_own I y None P D R h = h
begins_own I y (Some above) P D R h = h

-- its pair duals fit, and its line starts from them
pub record Starts (I : Problem) (y : Placement) (P : PairRows) : Type 0 where
  pub duals : Duals
  pub listed : AreListed y P duals
  pub fit : Fit I duals

valid_starts : (t : Tree) (I : Problem) (step : ℕ) (bound : ℤ) (y : Placement) (above : Option Under) (P : PairRows) → own_of t ≡ Some P → Valid I step bound y above t → Starts I y P
valid_starts (leaf d) I step bound y above P own h =
    let b = begins_own I y above P h.0.duals h.1.start (subst (λ (o : Option PairRows). Begins I y above o h.0.duals h.1.start) own h.1.begins) in
    record { duals = h.0.duals; listed = b.0; fit = b.1 }
valid_starts (split d side number ts) I step bound y above P own h =
    let b = begins_own I y above P h.0.duals h.2.start (subst (λ (o : Option PairRows). Begins I y above o h.0.duals h.2.start) own h.2.begins) in
    record { duals = h.0.duals; listed = b.0; fit = b.1 }

-- so they exist
pub own_fits : (I : Problem) (step : ℕ) (bound : ℤ) (y : Placement) (above : Option Under) (line : List ℕ) (old : Option (List ℕ)) (rest : List ℕ) (h : HasOwn I step bound y above line old rest) → Starts I y h.rows
own_fits I step bound y above line old rest h = valid_starts h.has.tree I step bound y above h.rows h.own h.has.holds

lined_own : (I : Problem) (y : Placement) (above : Option Under) (P : PairRows) (D : Duals) (R : Form) (u : List ℤ) (o : Option PairRows) (now : Under) → IsPlacement y → o ≡ Some P → AreListed y P D → IsStart I D y R
    → IsLined I y above (record { own = o; u = u }) now → IsLined I y (Some (under D R)) (duals_without u) now
lined_own I y above P D R u o now is own listed start h =
    let b = begins_own I y above P now.duals h.start (subst (λ (o : Option PairRows). Begins I y above o now.duals h.start) own h.begins) in
    let same : now.duals ≡ D = one_duals y P now.duals D b.0 listed in
    let start_is : IsStart I D y h.start = subst (λ (E : Duals). IsStart I E y h.start) same b.2 in
    record {
      start = R;
      v = h.v;
      begins = (same, refl);
      line = IsLine-same h.start R now.form u h.v (one_start I D y h.start R is listed.of start_is start) h.line;
    }

-- under its own pair duals, a tree without them is valid
pub Valid-bare : (t : Tree) (I : Problem) (step : ℕ) (bound : ℤ) (y : Placement) (above : Option Under) (P : PairRows) (D : Duals) (R : Form) → IsPlacement y → own_of t ≡ Some P → AreListed y P D → IsStart I D y R
    → Valid I step bound y above t → Valid I step bound y (Some (under D R)) (bare t)
Valid-bare (leaf d) I step bound y above P D R is own listed start h = (h.0, lined_own I y above P D R d.u d.own h.0 is own listed start h.1, h.2)
Valid-bare (split d side number ts) I step bound y above P D R is own listed start h = (h.0, h.1, lined_own I y above P D R d.u d.own h.0 is own listed start h.2, h.3, h.4, h.5)

-- the line after the rows is that of the tree without its own pair duals
pub own_next : (P : Tree → Type 0) (y : Placement) (line : List ℕ) (old new : Option (List ℕ)) (rest : List ℕ) (h : BeginsOwn y P line old rest) → IsPlacement y → new ≡ Some (tree_text (bare h.has.tree) ++ rest)
    → BeginsWithLine new (bare_line (bare h.has.tree)) (below_text (bare h.has.tree) ++ rest)
own_next P y line old new rest h is known = record {
  text = tree_text (bare h.has.tree) ++ rest;
  known = known;
  first = IsLine-bare (bare h.has.tree) y true rest is (HasShape-bare h.has.tree y h.above h.has.shape) (bare-none h.has.tree);
}

-- from there on it is the tree without them
pub own_lined : (P Q : Tree → Type 0) (y : Placement) (line next : List ℕ) (old new last : Option (List ℕ)) (rest : List ℕ) (h : BeginsOwn y P line old rest) → IsPlacement y → Q (bare h.has.tree) → new ≡ Some (tree_text (bare h.has.tree) ++ rest) → Consumes new last (next ++ 10 ∷ []) → HasNoLine next
    → BeginsLined y Q next last rest
own_lined P Q y line next old new last rest h is holds known read whole =
    let begins = own_next P y line old new rest h is known in
    let first = IsLine-bare (bare h.has.tree) y true rest is (HasShape-bare h.has.tree y h.above h.has.shape) (bare-none h.has.tree) in
    let now = line_known new last next (bare_line (bare h.has.tree)) (below_text (bare h.has.tree) ++ rest) read whole begins in
    record {
      has = record {
        tree = bare h.has.tree;
        current = record { unread = below_text (bare h.has.tree) ++ rest; known = now.1; first = subst (λ (l : List ℕ). IsLine (tree_text (bare h.has.tree) ++ rest) l (below_text (bare h.has.tree) ++ rest)) (sym now.0) first };
        shape = HasShape-bare h.has.tree y h.above h.has.shape;
        holds = holds;
      };
      bare = bare-none h.has.tree;
    }

-- where the tree is valid, that is so by these pair duals and the form from them alone
pub own_valid : (I : Problem) (step : ℕ) (bound : ℤ) (y : Placement) (above : Option Under) (D : Duals) (R : Form) (line : List ℕ) (old : Option (List ℕ)) (rest : List ℕ) (h : HasOwn I step bound y above line old rest) → IsPlacement y → AreListed y h.rows D → IsStart I D y R
    → Valid I step bound y (Some (under D R)) (bare h.has.tree)
own_valid I step bound y above D R line old rest h is listed start = Valid-bare h.has.tree I step bound y above h.rows D R is h.own listed start h.has.holds

-- the shape of its pair duals
pub own_shape : (P : Tree → Type 0) (y : Placement) (line : List ℕ) (old : Option (List ℕ)) (rest : List ℕ) (h : BeginsOwn y P line old rest) → ArePairRows (free_count y) h.rows
own_shape P y line old rest h = ArePairRows-own h.has.tree y h.above h.rows h.has.shape h.own

-- the scale and the rows that were read are its own
pub own_rows_are : (P : Tree → Type 0) (y : Placement) (line lent : List ℕ) (old new : Option (List ℕ)) (rest : List ℕ) (scale m : ℕ) (rows : List (List ℤ)) (h : BeginsOwn y P line old rest) → lent ≡ line → IsNamed (codes "p") lent (pos scale ∷ []) → m ≡ free_count y
    → ((wanted : List (List ℤ)) (others : List ℕ) → BeginsWithRows m wanted old others → (rows ≡ wanted) × (new ≡ Some others)) → (h.rows ≡ rows_of scale rows) × (new ≡ Some (tree_text (bare h.has.tree) ++ rest))
own_rows_are P y line lent old new rest scale m rows h same named count passed =
    let begins = subst (λ (k : ℕ). BeginsWithRows k h.rows.rows old (tree_text (bare h.has.tree) ++ rest)) (sym count) (own_rows P y line old rest h) in
    let read = passed h.rows.rows (tree_text (bare h.has.tree) ++ rest) begins in
    let numbers = IsNamed-unique (codes "p") line (pos h.rows.scale ∷ []) (pos scale ∷ []) (own_scale P y line old rest h) (subst (λ (l : List ℕ). IsNamed (codes "p") l (pos scale ∷ [])) same named) in
    let scales : h.rows.scale ≡ scale = ap (λ l. unsigned_abs (get_or l 0 (pos 0))) numbers in
    (λ i. rows_of (scales i) (sym read.0 i), read.1)
