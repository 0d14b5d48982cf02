use Rattle.std.proofs.Common.{◌≡◌, ℕ, ◌+◌, ◌==◌, true, ◌++◌, Option, Some, arith, ap, sym, subst}
use Rattle.space_txn.specs.Content.{ChangesContent, KeepsContent, added_of, content_of, gone_of, is_made_permanent, kept_of}
use Rattle.space_txn.specs.Txn.{TxnValue}
use Rattle.space_txn.specs.World.{World}
use Rattle.shared_space.specs.Law.{Content, IsKept, IsUnordered, MayCommit}
use Rattle.shared_space.specs.Limit.{IsLimited}
use Rattle.shared_space.specs.Place.{Place}

-- a step that keeps the content keeps it lawful
pub stays_lawful : (lawful : Content → ℕ → Type 0) → IsUnordered lawful → (old new : World) → KeepsContent old new → lawful (content_of old) old.commits → lawful (content_of new) new.commits
stays_lawful lawful unordered old new h law =
    let same = unordered (content_of old) (content_of new) old.commits (λ f. sym (h.same f)) law in
    subst (lawful (content_of new)) (sym h.counted) same

-- and so does a commit that is allowed
pub commit_lawful : (lawful : Content → ℕ → Type 0) (allowed : Content → Content → Content → Type 0) → IsUnordered lawful → IsKept lawful allowed → (old new : World) (t : TxnValue)
    → ChangesContent old new t → MayCommit allowed t → lawful (content_of old) old.commits → lawful (content_of new) new.commits
commit_lawful lawful allowed unordered keeps old new t h may law =
    let gone = gone_of (is_made_permanent old) t.marks in
    let kept = kept_of t.marks in
    let added = added_of t.writes in
    let before = unordered (content_of old) (gone ++ (kept ++ h.rest)) old.commits h.before law in
    let after = keeps gone kept added h.rest old.commits (may (is_made_permanent old)) before in
    let same = unordered (added ++ (kept ++ h.rest)) (content_of new) (old.commits + 1) (λ f. sym (h.after f)) after in
    subst (lawful (content_of new)) (sym h.counted) same

-- under a limit of 0 a space is closed
pub closed_at_0 : (limit : Option ℕ) (p : Place) → limit ≡ Some 0 → IsLimited limit p → p.closed ≡ true
closed_at_0 limit p is h =
    let at_0 : IsLimited (Some 0) p = subst (λ (l : Option ℕ). IsLimited l p) is h in
    let none : p.world.commits ≡ 0 = omega (arith, at_0.within) in
    at_0.closed (ap (λ (n : ℕ). n == 0) none)
