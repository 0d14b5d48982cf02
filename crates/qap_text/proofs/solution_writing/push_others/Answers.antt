use Rattle.std.proofs.Common.{◌≡◌, ℕ, ◌+◌, ◌<◌, List, [], ◌∷◌, ◌++◌, length, take, get_or, refl, sym, ap, ◌∙◌, append_assoc, append-nil, rules}
use Rattle.std.specs.Fmt.{decimal}
use Rattle.std.proofs.lemmas.List.{take_more}
use Rattle.qap_text.specs.WrittenSolution.{behind_spaces}
use Rattle.qap_text.proofs.solution_writing.push_others.Goals as goal

behind_spaces-append : (p q : List ℕ) → behind_spaces (p ++ q) ≡ behind_spaces p ++ behind_spaces q
behind_spaces-append [] q = refl
behind_spaces-append (k ∷ p) q =
    ap (λ l. 32 ∷ decimal (k + 1) ++ l) (behind_spaces-append p q) ∙ sym (append_assoc (32 ∷ decimal (k + 1)) (behind_spaces p) (behind_spaces q))

-- one location more
behind_spaces-more : (p : List ℕ) (i : ℕ) → i < length p → behind_spaces (take (i + 1) p) ≡ behind_spaces (take i p) ++ 32 ∷ decimal (get_or p i 0 + 1)
behind_spaces-more p i inside =
    let k = get_or p i 0 in
    ap behind_spaces (take_more p i 0 inside) ∙ behind_spaces-append (take i p) (k ∷ [])
    ∙ ap (λ l. behind_spaces (take i p) ++ 32 ∷ l) (append-nil (decimal (k + 1)))

pushed : (text front now new digits : List ℕ) → now ≡ text ++ front → new ≡ (now ++ 32 ∷ []) ++ digits → new ≡ text ++ (front ++ 32 ∷ digits)
pushed text front now new digits is also =
    also ∙ ap (λ l. (l ++ 32 ∷ []) ++ digits) is ∙ append_assoc (text ++ front) (32 ∷ []) digits ∙ append_assoc text front (32 ∷ digits)

pub loop-location-preserved : goal.loop-location-preserved
loop-location-preserved c =
    let text = c.args.text.now.items in
    let p = c.args.locations.now in
    let i = c.loop-location.location-index in
    let now = c.loop-location.text.items in
    let space : c.push.new.self.items ≡ now ++ 32 ∷ [] = search rules in
    let digits = decimal (get_or p i 0 + 1) in
    let new : c.push_location.new.text.items ≡ (now ++ 32 ∷ []) ++ digits = c.in_ok-push_location.ensures ∙ ap (λ l. l ++ digits) space in
    pushed text (behind_spaces (take i p)) now c.push_location.new.text.items digits c.loop-location.invariant new
    ∙ ap (λ l. text ++ l) (sym (behind_spaces-more p i c.loop-location-test.true))
