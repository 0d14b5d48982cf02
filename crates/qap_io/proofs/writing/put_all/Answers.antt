use Rattle.std.proofs.Common.{◌≡◌, ℕ, ◌+◌, ◌<◌, ◌++◌, ◌∷◌, [], List, length, map, take, drop, get_or, Result, Ok, Err, sym, ap, subst, ◌∙◌, append-nil, take-append-drop, arith}
use Rattle.std.specs.Prelude.{OnErr}
use Rattle.std.specs.List.{concat}
use Rattle.std.specs.Io.KnownBytes.{Appends}
use Rattle.std.proofs.KnownBytes.{Appends-trans}
use Rattle.std.proofs.lemmas.List.{get_or-map, length-map, take_more}
use Rattle.std.proofs.lemmas.List.Folds.{concat-append}
use Rattle.qap_io.specs.Writing.{AppendsBeginning, AppendsBeginning-after, AppendsBeginning-longer}
use Rattle.qap_io.proofs.writing.put_all.Goals as goal

-- one text more
concat-more : (texts : List (List ℕ)) (i : ℕ) → i < length texts → concat (take (i + 1) texts) ≡ concat (take i texts) ++ get_or texts i []
concat-more texts i inside =
    ap concat (take_more texts i [] inside) ∙ concat-append (take i texts) (get_or texts i [] ∷ []) ∙ ap (λ l. concat (take i texts) ++ l) (append-nil (get_or texts i []))

concat-split : (texts : List (List ℕ)) (i : ℕ) → concat texts ≡ concat (take i texts) ++ concat (drop i texts)
concat-split texts i = ap concat (sym (take-append-drop i texts)) ∙ concat-append (take i texts) (drop i texts)

OnErr-from : {S E : Type 0} (r : Result S E) (P : Type 0) → P → OnErr r P
OnErr-from (Ok x) P h = tt
OnErr-from (Err e) P h = h

pub returns-in_err-put-clause-beginning : goal.returns-in_err-put-clause-beginning
returns-in_err-put-clause-beginning g c =
    let texts = map (λ t. t.now) c.args.texts.now in
    let i = c.loop-i.i in
    let inside : i < length texts = omega (arith, length-map c.args.texts.now (λ t. t.now), c.loop-i-test.true) in
    let here = get_or-map (λ t. t.now) c.args.texts.now i _ [] c.loop-i-test.true in
    let whole = concat-split texts (i + 1) ∙ ap (λ l. l ++ concat (drop (i + 1) texts)) (concat-more texts i inside ∙ ap (λ l. concat (take i texts) ++ l) here) in
    let after = AppendsBeginning-after _ _ _ _ _ c.loop-i.invariant.bytes c.in_err-put.ensures.beginning in
    OnErr-from c.from_residual.result _ (subst (AppendsBeginning _ _) (sym whole) (AppendsBeginning-longer _ _ _ (concat (drop (i + 1) texts)) after))

pub loop-i-preserved : goal.loop-i-preserved
loop-i-preserved g c =
    let texts = map (λ t. t.now) c.args.texts.now in
    let i = c.loop-i.i in
    let inside : i < length texts = omega (arith, length-map c.args.texts.now (λ t. t.now), c.loop-i-test.true) in
    let here = get_or-map (λ t. t.now) c.args.texts.now i _ [] c.loop-i-test.true in
    record {
      bytes = subst (Appends _ _) (sym (concat-more texts i inside ∙ ap (λ l. concat (take i texts) ++ l) here))
          (Appends-trans _ _ _ _ _ c.loop-i.invariant.bytes c.in_ok-put.ensures.whole);
      kept = cc (c.in_ok-put.ensures.count, c.loop-i.invariant.kept);
    }
