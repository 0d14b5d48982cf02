-- Levels that are kept, of which one is made again.
use Rattle.std.proofs.Common.{◌≡◌, ℕ, ◌-◌, ◌<◌, ◌++◌, ◌∙◌, sym, ap, subst, arith, List, take, drop, set, length, get_or}
use Rattle.std.specs.Prelude.{Result, Ok, Err, OnOk}
use Rattle.std.specs.List.{All}
use Rattle.std.proofs.lemmas.List.{length-append, length-set, get_or-append_right, get_or-set_same}
use Rattle.std.proofs.lemmas.List.Elements.{All-append, All-drop, All-set, All-take}
use Rattle.qap_cost.specs.Instance.{Problem}
use Rattle.qap_cost.specs.Placement.{Placement}
use Rattle.gilmore_lawler.specs.FlowRows.{HasDistanceRows, HasFlowRows}
use Rattle.gilmore_lawler.specs.Levels.{HasLevel, KeepsRows}
use Rattle.gilmore_lawler.specs.declared.levels.Level.{Level}

-- what follows from two things that hold where a call ends well
pub on_ok_both : {T E A B C : Type 0} (r : Result T E) → (A → B → C) → OnOk r A → OnOk r B → OnOk r C
on_ok_both (Ok x) f a b = f a b
on_ok_both (Err e) f a b = tt

-- it stands behind those above it
level_there : (above below : List Level) (own d : Level) (k : ℕ) → length above ≡ k → 0 < length below → get_or (above ++ set below 0 own) k d ≡ own
level_there above below own d k at some =
    let first : k - k ≡ 0 = omega arith in
    get_or-append_right above (set below 0 own) k k d at (omega arith)
    ∙ ap (λ (j : ℕ). get_or (set below 0 own) j d) first
    ∙ get_or-set_same below 0 own d some

-- with its own rows put at the level of its depth, the levels have the node's rows
pub HasLevel-made : (I : Problem) (x : Placement) (above below : List Level) (own : Level) → length above ≡ length x.places → 0 < length below → HasFlowRows (record { instance = I; facilities = x.facilities }) own.flows.rows.items
    → HasDistanceRows I x.places own.distances.known.rows.items → HasLevel I x (above ++ set below 0 own)
HasLevel-made I x above below own at some flows distances = record {
  deep = omega (arith, length-append above (set below 0 own), length-set below 0 own);
  flows = λ d. subst (λ (level : Level). HasFlowRows (record { instance = I; facilities = x.facilities }) level.flows.rows.items) (sym (level_there above below own d (length x.places) at some)) flows;
  distances = λ d. subst (λ (level : Level). HasDistanceRows I x.places level.distances.known.rows.items) (sym (level_there above below own d (length x.places) at some)) distances;
}

-- the others keep their rows
pub KeepsRows-made : (I : Problem) (levels above below : List Level) (own : Level) (k : ℕ) → above ≡ take k levels → below ≡ drop k levels → All (KeepsRows I) levels → KeepsRows I own → All (KeepsRows I) (above ++ set below 0 own)
KeepsRows-made I levels above below own k front back all here =
    All-append (KeepsRows I) above (set below 0 own)
    (subst (All (KeepsRows I)) (sym front) (All-take (KeepsRows I) k levels all))
    (All-set (KeepsRows I) below 0 own here (subst (All (KeepsRows I)) (sym back) (All-drop (KeepsRows I) k levels all)))

-- the level that is made had rows of its own before
pub KeepsRows-before : (I : Problem) (levels below : List Level) (d : Level) (k : ℕ) → below ≡ drop k levels → All (KeepsRows I) levels → 0 < length below → KeepsRows I (get_or below 0 d)
KeepsRows-before I levels below d k back all some = subst (All (KeepsRows I)) (sym back) (All-drop (KeepsRows I) k levels all) 0 d some
