use Rattle.std.proofs.Common.{◌≡◌, ◌==◌, ◌++◌, ◌∙◌, Bool, Global, List, [], ℕ, ap, map, refl, string_bytes, subst}
use Rattle.std.specs.List.{list_any}
use Rattle.std.specs.Prelude.{Option, Some, None, String, is_some, slice_index_or, unwrap_or}
use Rattle.std.specs.Option.{option_map}
use Rattle.plan_picture.specs.Arrows.{centre_of}
use Rattle.plan_picture.specs.Drawing.{department_at, department_style, place_style, style_of}
use Rattle.plan_picture.specs.Marks.{box_mark}
use Rattle.plan_picture.specs.Naming.{AreNames}
use Rattle.plan_picture.specs.declared.layout.Centre.{Centre}
use Rattle.plan_picture.proofs.boxes.place_text.Goals as goal

is_some_map : {A B : Type 0} (f : A → B) (o : Option A) → is_some o ≡ is_some (option_map f o)
is_some_map f None = refl
is_some_map f (Some x) = refl

-- the same names in the same styles
same_names : (centre : Centre) (a a' s s' b b' t t' text : List ℕ) → a ≡ a' → s ≡ s' → b ≡ b' → t ≡ t' → AreNames centre a s b t text → AreNames centre a' s' b' t' text
same_names centre a a' s s' b b' t t' text e f g h n =
    subst
    (λ (x : List ℕ). AreNames centre x s' b' t' text)
    e
    (subst
    (λ (x : List ℕ). AreNames centre a x b' t' text)
    f
    (subst (λ (x : List ℕ). AreNames centre a s x t' text) g (subst (λ (x : List ℕ). AreNames centre a s b x text) h n)))

pub returns : goal.returns
returns c =
    let P = c.args.problem.now in
    let k = c.args.k in
    let centre = centre_of c.args.centres.now k in
    let names = map string_bytes P.departments.items in
    let department : Option (List ℕ) = department_at names c.args.permutation.now k in
    let dept : option_map (λ name. name.now) c.department_at-department.result ≡ department = cc (c.department_at-department.ensures, c.deref.ensures.value, c.locations.ensures.value) in
    let among : c.is_among.result ≡ list_any (λ (l : ℕ). k == l) P.fixed.places = c.is_among.ensures ∙ ap (list_any (λ (l : ℕ). k == l)) c.places.ensures.value in
    let taken : c.is_some.result ≡ is_some department = c.is_some.ensures ∙ is_some_map _ _ ∙ ap is_some dept in
    let drawn = style_of (list_any (λ (l : ℕ). k == l) P.fixed.places) (is_some department) in
    let style : c.style_of-style.result.now ≡ drawn = c.style_of-style.ensures ∙ ap (λ (b : Bool). style_of b c.is_some.result) among ∙ ap (style_of (list_any (λ (l : ℕ). k == l) P.fixed.places)) taken in
    let box : c.into_bytes-text.result.items ≡ box_mark centre c.args.size drawn = rw c.into_bytes-text.ensures.value (c.in_ok-box_line.ensures ∙ ap (box_mark centre c.args.size) style) in
    let first : c.name_or_none.result.now ≡ unwrap_or department [] = c.name_or_none.ensures ∙ ap (λ (o : Option (List ℕ)). unwrap_or o []) dept in
    let place : c.name_of.result.now ≡ slice_index_or (map string_bytes P.places.items) k [] = c.name_of.ensures ∙ ap (λ (ns : List (String Global)). slice_index_or (map string_bytes ns) k []) c.deref-2.ensures.value in
    let text = c.in_ok-names_text.field-0.items in
    record {
      names = text;
      named = same_names centre _ _ _ _ _ _ _ _ text first c.department_style.ensures place c.place_style.ensures c.in_ok-names_text.ensures;
      is =
          c.in_ok-extend_from_slice.ensures.items
          ∙ ap (λ (t : List ℕ). t ++ c.deref-3.result.now) box
          ∙ ap (λ (bs : List ℕ). box_mark centre c.args.size drawn ++ bs) c.deref-3.ensures.value;
    }
