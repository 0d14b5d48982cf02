-- A reader or a writer whose failed calls are counted, and that knows whether all that was written has been flushed.
use Rattle.std.specs.Prelude.{◌≡◌, ℕ, ◌+◌, ◌-◌, ◌^◌, ◌<◌, ◌==◌, ◌&&◌, nat_lt, min, Bool, true, false, List, length}
use Rattle.std.specs.declared.result.Result.{Result}
use Rattle.std.specs.declared.result.Result.TheVariants.{Ok, Err}

-- a reader or a writer, how many of its calls have failed, and whether no write came after the last flush that succeeded
pub record CountedDevice (T : Type 0) : Type 0 where
  pub inner : T
  pub failures : ℕ
  pub flushed : Bool

-- `u64::MAX`, at which the count saturates
abbrev pub last_count : ℕ
last_count = 2 ^ 64 - 1

-- the count after one more call, which may have failed
abbrev pub count_after : Bool → ℕ → ℕ
count_after true n = min (n + 1) last_count
count_after false n = n

-- one call was counted between the two states: one more failure if it failed, else none
abbrev pub CountsCall : {T : Type 0} → Bool → CountedDevice T → CountedDevice T → Type 0
CountsCall failed old new = new.failures ≡ count_after failed old.failures

-- a write failed: with an error, or because it accepted no bytes of a nonempty text
abbrev pub is_failed_write : {E : Type 0} → Result ℕ E → List ℕ → Bool
is_failed_write (Ok taken) text = (taken == 0) && nat_lt 0 (length text)
is_failed_write (Err e) text = true

-- whether all is flushed after a flush: if it succeeded, or all was flushed before it
abbrev pub flushed_after : {T E : Type 0} → Result T E → Bool → Bool
flushed_after (Ok done) before = true
flushed_after (Err e) before = before

-- a call failed between the two states: the count rose, or is saturated
abbrev pub FailedBetween : {T : Type 0} → CountedDevice T → CountedDevice T → Type 0
FailedBetween old new = new.failures < last_count → old.failures < new.failures
