-- A line asks for one thing at most.
use Rattle.std.proofs.Common.{◌≡◌, ◌<◌, ℕ, ◌==◌, List, [], ◌∷◌, length, drop, Option, Some, None, refl, sym, ap, subst, ◌∙◌, arith, slice_index, if◌then◌else◌}
use Rattle.tuple_match.specs.FieldValue.{FieldValue}
use Rattle.tuple_match.specs.PatternValue.{PatternValue}
use Rattle.tuple_space.specs.declared.lease.Lease.{Lease}
use Rattle.tuple_space.specs.declared.lease.Lease.TheVariants.{Forever, Ms}
use Rattle.space_script.specs.declared.command.Command.{Command}
use Rattle.space_script.specs.declared.command.Command.TheVariants.{Out, Inp, Rdp, Begin, Renew, Commit, Abort, Advance}
use Rattle.space_script.specs.declared.verb.Verb.{Verb}
use Rattle.space_script.specs.declared.verb.Verb.TheVariants.{Out as OutVerb, Inp as InpVerb, Rdp as RdpVerb, Begin as BeginVerb, Renew as RenewVerb, Commit as CommitVerb, Abort as AbortVerb, Advance as AdvanceVerb}
use Rattle.space_script.specs.Command.{IsUnder, IsLeaseWord, verb_word, IsOffer, IsOneCount, AreTwoCounts, IsQuestion, Follows, IsCommand, IsBlankLine, IsCommandLine}
use Rattle.space_script.specs.Field.{AreTupleWords, AreTemplateWords}
use Rattle.space_script.specs.Number.{IsCount}
use Rattle.space_script.proofs.Numerals.{first_digit}
use Rattle.space_script.proofs.OneField.{one_tuple, one_template}

one_count : (word : List ℕ) (m n : ℕ) → IsCount word m → IsCount word n → m ≡ n
one_count word m n left right = sym left.numeral.value ∙ right.numeral.value

-- a count begins with a digit
count_start : (word : List ℕ) (n : ℕ) → IsCount word n → slice_index word 0 < 58
count_start word n count = omega (arith, (first_digit word count.numeral.some count.numeral.digits).1)

dash_no_count : (word : List ℕ) (n : ℕ) → word ≡ 45 ∷ [] → IsCount word n → ⊥
dash_no_count word n dash count = omega (arith, (first_digit word count.numeral.some count.numeral.digits).0, ap (λ l. slice_index l 0) dash)

one_under : (word : List ℕ) (x y : Option ℕ) → IsUnder word x → IsUnder word y → x ≡ y
one_under word None None left right = refl
one_under word None (Some n) left right = absurd (dash_no_count word n left right)
one_under word (Some m) None left right = absurd (dash_no_count word m right left)
one_under word (Some m) (Some n) left right = ap Some (one_count word m n left right)

one_lease : (word : List ℕ) (x y : Lease) → IsLeaseWord word x → IsLeaseWord word y → x ≡ y
one_lease word Forever Forever left right = refl
one_lease word Forever (Ms n) left right = absurd (omega (arith, ap (λ l. slice_index l 0) left, count_start word n right))
one_lease word (Ms m) Forever left right = absurd (omega (arith, ap (λ l. slice_index l 0) right, count_start word m left))
one_lease word (Ms m) (Ms n) left right = ap Ms (one_count word m n left right)

head : List (List ℕ) → List ℕ
head [] = []
head (x ∷ xs) = x

same_head : {x y : List ℕ} (xs ys : List (List ℕ)) → x ∷ xs ≡ y ∷ ys → x ≡ y
unfolding head
same_head xs ys same = ap head same

one_single : (words : List (List ℕ)) (m n : ℕ) → IsOneCount words m → IsOneCount words n → m ≡ n
one_single words m n left right =
    one_count right.word m n (subst (λ w. IsCount w m) (same_head [] [] (sym left.is ∙ right.is)) left.count) right.count

-- the verb that a first word stands for
verb_of : List ℕ → Verb
verb_of w =
    if slice_index w 0 == 111 then OutVerb
    else if slice_index w 0 == 105 then InpVerb
    else if slice_index w 0 == 98 then BeginVerb
    else if slice_index w 0 == 99 then CommitVerb
    else if slice_index w 1 == 100 then (if slice_index w 0 == 114 then RdpVerb else AdvanceVerb)
    else if slice_index w 1 == 98 then AbortVerb
    else RenewVerb

verb_of-verb_word : (verb : Verb) → verb_of (verb_word verb) ≡ verb
unfolding verb_of
verb_of-verb_word OutVerb = refl
verb_of-verb_word InpVerb = refl
verb_of-verb_word RdpVerb = refl
verb_of-verb_word BeginVerb = refl
verb_of-verb_word RenewVerb = refl
verb_of-verb_word CommitVerb = refl
verb_of-verb_word AbortVerb = refl
verb_of-verb_word AdvanceVerb = refl

one_verb : (v w : Verb) → verb_word v ≡ verb_word w → v ≡ w
one_verb v w same = sym (verb_of-verb_word v) ∙ ap verb_of same ∙ verb_of-verb_word w

one_question : (words : List (List ℕ)) (u v : Option ℕ) (s t : List PatternValue) → IsQuestion words u s → IsQuestion words v t → (u ≡ v) × (s ≡ t)
one_question words u v s t left right =
    let same = sym left.is ∙ right.is in (
      one_under right.first u v (subst (λ w. IsUnder w u) (same_head left.rest right.rest same) left.transaction) right.transaction,
      one_template right.rest s t (subst (λ l. AreTemplateWords l s) (ap (drop 1) same) left.patterns) right.patterns,
    )

one_offer : (words : List (List ℕ)) (u v : Option ℕ) (l m : Lease) (s t : List FieldValue) → IsOffer words u l s → IsOffer words v m t
    → (u ≡ v) × (l ≡ m) × (s ≡ t)
one_offer words u v l m s t left right =
    let same = sym left.is ∙ right.is in
    let others = ap (drop 1) same in (
      one_under right.first u v (subst (λ w. IsUnder w u) (same_head (left.second ∷ left.rest) (right.second ∷ right.rest) same) left.transaction) right.transaction,
      one_lease right.second l m (subst (λ w. IsLeaseWord w l) (same_head left.rest right.rest others) left.leased) right.leased,
      one_tuple right.rest s t (subst (λ r. AreTupleWords r s) (ap (drop 1) others) left.fields) right.fields,
    )

one_renewal : (words : List (List ℕ)) (a b m n : ℕ) → AreTwoCounts words a m → AreTwoCounts words b n → (a ≡ b) × (m ≡ n)
one_renewal words a b m n left right =
    let same = sym left.is ∙ right.is in (
      one_count right.first a b (subst (λ w. IsCount w a) (same_head left.rest right.rest same) left.count) right.count,
      one_single right.rest m n (subst (λ r. IsOneCount r m) (ap (drop 1) same) left.last) right.last,
    )

one_follower : (verb : Verb) (words : List (List ℕ)) (c d : Command) → Follows verb words c → Follows verb words d → c ≡ d
one_follower OutVerb words (Out u l s) (Out v m t) left right =
    let same = one_offer words u v l m s t left right in
    ap (λ x. Out x l s) same.0 ∙ ap (λ x. Out v x s) same.1 ∙ ap (λ x. Out v m x) same.2
one_follower OutVerb words (Out u l s) _ left right = absurd right
one_follower OutVerb words _ d left right = absurd left
one_follower InpVerb words (Inp u s) (Inp v t) left right =
    let same = one_question words u v s t left right in ap (λ x. Inp x s) same.0 ∙ ap (λ x. Inp v x) same.1
one_follower InpVerb words (Inp u s) _ left right = absurd right
one_follower InpVerb words _ d left right = absurd left
one_follower RdpVerb words (Rdp u s) (Rdp v t) left right =
    let same = one_question words u v s t left right in ap (λ x. Rdp x s) same.0 ∙ ap (λ x. Rdp v x) same.1
one_follower RdpVerb words (Rdp u s) _ left right = absurd right
one_follower RdpVerb words _ d left right = absurd left
one_follower RenewVerb words (Renew a m) (Renew b n) left right =
    let same = one_renewal words a b m n left right in ap (λ x. Renew x m) same.0 ∙ ap (λ x. Renew b x) same.1
one_follower RenewVerb words (Renew a m) _ left right = absurd right
one_follower RenewVerb words _ d left right = absurd left
one_follower BeginVerb words (Begin m) (Begin n) left right = ap Begin (one_single words m n left right)
one_follower BeginVerb words (Begin m) _ left right = absurd right
one_follower BeginVerb words _ d left right = absurd left
one_follower CommitVerb words (Commit m) (Commit n) left right = ap Commit (one_single words m n left right)
one_follower CommitVerb words (Commit m) _ left right = absurd right
one_follower CommitVerb words _ d left right = absurd left
one_follower AbortVerb words (Abort m) (Abort n) left right = ap Abort (one_single words m n left right)
one_follower AbortVerb words (Abort m) _ left right = absurd right
one_follower AbortVerb words _ d left right = absurd left
one_follower AdvanceVerb words (Advance m) (Advance n) left right = ap Advance (one_single words m n left right)
one_follower AdvanceVerb words (Advance m) _ left right = absurd right
one_follower AdvanceVerb words _ d left right = absurd left

one_command : (words : List (List ℕ)) (c d : Command) → IsCommand words c → IsCommand words d → c ≡ d
one_command words c d left right =
    let same = sym left.is ∙ right.is in
    let verb = one_verb left.verb right.verb (same_head left.rest right.rest same) in
    one_follower right.verb right.rest c d
    (subst (λ v. Follows v right.rest c) verb (subst (λ r. Follows left.verb r c) (ap (drop 1) same) left.follows)) right.follows

-- a line asks for one command at most
pub one_command_line : (line : List ℕ) (c d : Command) → IsCommandLine line c → IsCommandLine line d → c ≡ d
one_command_line line c d left right = one_command _ c d left.spelled right.spelled

-- a line without words asks for nothing
pub blank_no_command : (line : List ℕ) (c : Command) → IsBlankLine line → IsCommandLine line c → ⊥
blank_no_command line c blank asked = omega (arith, ap length (sym blank.none ∙ asked.spelled.is))
