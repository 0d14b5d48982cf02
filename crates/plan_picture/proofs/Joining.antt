-- Texts that are concatenated.
use Rattle.std.proofs.Common.{◌≡◌, ◌∙◌, ℕ, ◌+◌, List, ◌++◌, ap, add-one, append_assoc}
use Rattle.plan_picture.specs.Joining.{IsJoinedTo, joined_to}

-- with the next text behind it, a text has one more of them behind its start
pub one_more : (f : ℕ → List ℕ) (n : ℕ) (start text new : List ℕ) → text ≡ start ++ joined_to f n → new ≡ text ++ f n → new ≡ start ++ joined_to f (n + 1)
one_more f n start text new e g = rw add-one (g ∙ ap (λ (t : List ℕ). t ++ f n) e ∙ append_assoc start (joined_to f n) (f n))

-- three texts concatenated are behind the start in that order
pub three_parts : (start a b d first second third : List ℕ) → first ≡ start ++ a → second ≡ first ++ b → third ≡ second ++ d → third ≡ start ++ (a ++ b ++ d)
three_parts start a b d first second third e f g =
    g ∙ ap (λ (t : List ℕ). t ++ d) (f ∙ ap (λ (t : List ℕ). t ++ b) e) ∙ simp append_assoc

-- with a text that has the next property behind them, there is one more
pub joined_more : (M : ℕ → List ℕ → Type 0) (n : ℕ) (text last new : List ℕ) → IsJoinedTo M n text → M n last → new ≡ text ++ last → IsJoinedTo M (n + 1) new
joined_more M n text last new before is e = rw add-one (text, last, before, is, e)

-- equal texts, concatenated with equal ones
pub both : (a b s t : List ℕ) → a ≡ b → s ≡ t → a ++ s ≡ b ++ t
both a b s t e f = ap (λ (x : List ℕ). x ++ s) e ∙ ap (λ (x : List ℕ). b ++ x) f

-- equal texts behind the same one
pub behind : (a s t : List ℕ) → s ≡ t → a ++ s ≡ a ++ t
behind a s t e = ap (λ (x : List ℕ). a ++ x) e
