use Rattle.std.proofs.Common.{◌≡◌, ◌++◌, ◌∙◌, List, [], ◌∷◌, ℕ, ap, map, rules, sym, append_assoc}
use Rattle.std.specs.List.{concat}
use Rattle.std.proofs.lemmas.List.{append-nil, map-append}
use Rattle.std.proofs.lemmas.List.Folds.{concat-append}
use Rattle.plan_picture.proofs.wrapping.wrapped.Goals as goal

-- with the first line of the rest, the lines and what then is left are the whole text again
line_moved : {A : Type 0} (f : A → List ℕ) (xs ys : List A) (x : A) (rest more text : List ℕ) → ys ≡ xs ++ x ∷ [] → rest ≡ f x ++ more → concat (map f xs) ++ rest ≡ text → concat (map f ys) ++ more ≡ text
line_moved f xs ys x rest more text e g h =
    ap (λ zs. concat (map f zs) ++ more) e
    ∙ ap (λ zs. concat zs ++ more) (map-append f xs (x ∷ []))
    ∙ ap (λ bs. bs ++ more) (concat-append (map f xs) (f x ∷ []))
    ∙ append_assoc (concat (map f xs)) (f x ++ []) more
    ∙ ap (λ bs. concat (map f xs) ++ (bs ++ more)) (append-nil (f x))
    ∙ sym (ap (λ bs. concat (map f xs) ++ bs) g)
    ∙ h

pub loop-line-preserved : goal.loop-line-preserved
loop-line-preserved c =
    let split : c.loop-line.rest.now ≡ c.in-Some.line.now ++ c.in-Some.more.now = search rules in
    (search rules, line_moved (λ line. line.now) _ _ _ _ _ _ c.in_ok-push.ensures.items split c.loop-line.invariant.1)
