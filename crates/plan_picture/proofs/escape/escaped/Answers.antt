use Rattle.std.proofs.Common.{◌≡◌, ◌<◌, ◌+◌, ◌++◌, ◌∙◌, ℕ, List, ap, arith, drop, get_or, length, sym, append_assoc}
use Rattle.std.specs.Str.{chars}
use Rattle.std.proofs.lemmas.Iterator.{YieldsList-from_chars}
use Rattle.std.proofs.lemmas.Iterator.Consumers.{YieldsList-end, YieldsList-turn}
use Rattle.std.proofs.lemmas.List.{append-nil, at_drop_all, at_drop_more, length_push}
use Rattle.plan_picture.specs.Escaping.{escaped_char, escaped_chars}
use Rattle.plan_picture.proofs.escape.escaped.Goals as goal

escaped_at : (cs : List ℕ) (n c : ℕ) → (n < length cs) × (c ≡ get_or cs n c) → escaped_chars (drop n cs) ≡ escaped_char c ++ escaped_chars (drop (n + 1) cs)
escaped_at cs n c h =
    at_drop_more escaped_chars cs n c h.0
    ∙ ap (λ (x : ℕ). escaped_char x ++ escaped_chars (drop (n + 1) cs)) (sym h.1)

pub loop-letter-preserved : goal.loop-letter-preserved
loop-letter-preserved c =
    let t = YieldsList-turn (YieldsList-from_chars c.args.text.now c.utf8.text cc) c.loop-letter.yielded _ c.loop-letter.yielded_by _ _ c.in-Some.letter c.in-Some.is c.next.ensures.steps in
    let rest = escaped_at _ _ _ t in
    let n = length_push c.loop-letter.yielded c.in-Some.letter in
    rw (n, c.in_ok-push_letter.ensures, append_assoc)
    (ap (λ (bs : List ℕ). c.loop-letter.all.items ++ bs) (sym rest) ∙ c.loop-letter.invariant)

pub returns : goal.returns
returns c =
    let t = YieldsList-end (YieldsList-from_chars c.args.text.now c.utf8.text cc) c.loop-letter.yielded _ c.loop-letter.yielded_by _ _ c.in-None.is c.next.ensures.steps in
    let e = at_drop_all escaped_chars (chars c.args.text.now) (length c.loop-letter.yielded) (omega (arith, t.1)) in
    sym (append-nil _) ∙ ap (λ (bs : List ℕ). c.loop-letter.all.items ++ bs) (sym e) ∙ c.loop-letter.invariant
