-- Tidied records, one field or one record more at the end.
use Rattle.std.proofs.Common.{◌≡◌, ◌∙◌, ℕ, ◌+◌, ◌<◌, List, [], ◌∷◌, ◌++◌, length, take, get_or, refl, sym, ap, append_assoc}
use Rattle.std.proofs.lemmas.List.{append-nil, take_more}
use Rattle.plan_table.specs.Tidy.{before_filled, filled_front, tidied, tidied_record, unless_empty}

-- an empty field more at the end changes nothing
pub filled_front-empty : (fs : List (List ℕ)) → filled_front (fs ++ [] ∷ []) ≡ filled_front fs
filled_front-empty [] = refl
filled_front-empty (f ∷ fs) = ap (before_filled f) (filled_front-empty fs)

before_more : (f : List ℕ) (fs : List (List ℕ)) (last : List ℕ) → before_filled f (fs ++ last ∷ []) ≡ f ∷ fs ++ last ∷ []
before_more [] [] last = refl
before_more [] (g ∷ gs) last = refl
before_more (b ∷ bs) fs last = refl

-- one that isn't empty keeps all before it
pub filled_front-filled : (fs : List (List ℕ)) (b : ℕ) (bs : List ℕ) → filled_front (fs ++ (b ∷ bs) ∷ []) ≡ fs ++ (b ∷ bs) ∷ []
filled_front-filled [] b bs = refl
filled_front-filled (f ∷ fs) b bs =
    ap (before_filled f) (filled_front-filled fs b bs) ∙ before_more f fs (b ∷ bs)

-- one record more at the end is tidied, and left out where nothing of it is left
pub tidied-more : (rs : List (List (List ℕ))) (r : List (List ℕ)) → tidied (rs ++ r ∷ []) ≡ tidied rs ++ unless_empty (tidied_record r)
tidied-more [] r = append-nil (unless_empty (tidied_record r))
tidied-more (q ∷ rs) r =
    ap (λ l. unless_empty (tidied_record q) ++ l) (tidied-more rs r)
    ∙ sym (append_assoc (unless_empty (tidied_record q)) (tidied rs) (unless_empty (tidied_record r)))

keeps_last : (fs : List (List ℕ)) (last : List ℕ) → (last ≡ [] → ⊥) → filled_front (fs ++ last ∷ []) ≡ fs ++ last ∷ []
keeps_last fs [] some = absurd (some refl)
keeps_last fs (b ∷ bs) some = filled_front-filled fs b bs

drops_last : (fs : List (List ℕ)) (last : List ℕ) → last ≡ [] → filled_front (fs ++ last ∷ []) ≡ filled_front fs
drops_last fs [] none = filled_front-empty fs
drops_last fs (b ∷ bs) none = absurd (cc)

-- a field that isn't empty ends what is filled so far
pub filled_on : (fields : List (List ℕ)) (i : ℕ) → i < length fields → (get_or fields i [] ≡ [] → ⊥) → take (i + 1) fields ≡ filled_front (take (i + 1) fields)
filled_on fields i there some =
    let more = take_more fields i [] there in
    more ∙ sym (keeps_last (take i fields) (get_or fields i []) some) ∙ ap filled_front (sym more)

-- one that is empty leaves it
pub filled_off : (fields : List (List ℕ)) (i filled : ℕ) → i < length fields → get_or fields i [] ≡ [] → take filled fields ≡ filled_front (take i fields) → take filled fields ≡ filled_front (take (i + 1) fields)
filled_off fields i filled there none so_far =
    so_far ∙ sym (drops_last (take i fields) (get_or fields i []) none) ∙ ap filled_front (sym (take_more fields i [] there))
