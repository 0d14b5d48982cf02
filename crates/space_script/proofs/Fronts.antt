-- The front of a line answers for the whole line.
use Rattle.std.proofs.Common.{◌≡◌, ℕ, suc, zero, ◌<◌, ◌+◌, false, List, [], ◌∷◌, ◌++◌, length, take, inl, inr, refl, ap, subst, arith}
use Rattle.std.proofs.lemmas.Bool.{cases_lt}
use Rattle.std.proofs.lemmas.List.{take_all, length-take-le}
use Rattle.std.proofs.lemmas.List.Elements.{All-append}
use Rattle.space_script.specs.Command.{longest_line}
use Rattle.space_script.specs.Feeding.{HasNoLineFeed, front_of}
use Rattle.space_script.specs.Run.{Answers, is_line_feed}
use Rattle.space_script.specs.Session.{SessionValue}
use Rattle.space_script.proofs.Lines.{long_line}

take-front : (n : ℕ) (xs ys : List ℕ) → take n (take n xs ++ ys) ≡ take n (xs ++ ys)
take-front zero xs ys = refl
take-front (suc n) [] ys = refl
take-front (suc n) (x ∷ xs) ys = ap (λ l. x ∷ l) (take-front n xs ys)

-- with more behind it, the front of a line has the same front as the line
pub front_more : (line more : List ℕ) → front_of (front_of line ++ more) ≡ front_of (line ++ more)
front_more line more = take-front (longest_line + 1) line more

long_answer : (line other reply : List ℕ) (old new : SessionValue) → longest_line < length line → longest_line < length other
    → Answers old other reply new → Answers old line reply new
long_answer line other reply old new long far (inl blank) = absurd (omega (arith, far, blank.0.short))
long_answer line other reply old new long far (inr (inl obeys)) = absurd (omega (arith, far, obeys.asked.short))
long_answer line other reply old new long far (inr (inr bad)) = inr (inr (long_line line long, bad.1, bad.2))

-- an answer to the front of a line is one to the line
pub front_answers : (line reply : List ℕ) (old new : SessionValue) → Answers old (front_of line) reply new → Answers old line reply new
front_answers line reply old new answer = elim (cases_lt longest_line (length line)) [
  | inl long ↦
      let whole : length (front_of line) ≡ longest_line + 1 = length-take-le (longest_line + 1) line (omega arith) in
      long_answer line (front_of line) reply old new long (omega arith) answer
  | inr short ↦ subst (λ l. Answers old l reply new) (take_all (longest_line + 1) line (omega arith)) answer
]

-- text without a line feed, and more such text behind it
pub unended_more : (line more : List ℕ) → HasNoLineFeed line → HasNoLineFeed more → HasNoLineFeed (line ++ more)
unended_more line more left right = All-append (λ byte. is_line_feed byte ≡ false) line more left right
