-- How the steps of a run end.
use Rattle.std.proofs.Common.{◌≡◌, ◌∙◌, ◌≤◌, ◌⊎◌, arith, inl, inr, refl, subst, sym}
use Rattle.qap_io.specs.declared.status.Status.{Status}
use Rattle.qap_io.specs.declared.status.Status.TheVariants.{Done, Refused, Usage, OutOfMemory, Unfinished, Stopped}
use Rattle.plan_files.specs.Outputs.{EndsWith, IsSuccess, severity}

-- a step that did not fail was done, and what it does holds
pub done_of : (s : Status) (Holds : Type 0) → EndsWith s Holds → IsSuccess s → Holds
done_of Done Holds h success = h
done_of Stopped Holds h success = absurd (omega arith)
done_of Unfinished Holds h success = absurd (omega arith)
done_of Refused Holds h success = absurd (omega arith)
done_of Usage Holds h success = absurd (omega arith)
done_of OutOfMemory Holds h success = absurd (omega arith)

-- a step that does one thing does what follows from it
pub ends_weaker : (s : Status) (Holds Follows : Type 0) → (Holds → Follows) → EndsWith s Holds → EndsWith s Follows
ends_weaker Done Holds Follows f h = f h
ends_weaker Stopped Holds Follows f h = h
ends_weaker Unfinished Holds Follows f h = h
ends_weaker Refused Holds Follows f h = h
ends_weaker Usage Holds Follows f h = h
ends_weaker OutOfMemory Holds Follows f h = h

-- then that is how it ended
pub is_done : (s : Status) (Holds : Type 0) → EndsWith s Holds → IsSuccess s → s ≡ Done
is_done Done Holds h success = refl
is_done Stopped Holds h success = absurd (omega arith)
is_done Unfinished Holds h success = absurd (omega arith)
is_done Refused Holds h success = absurd (omega arith)
is_done Usage Holds h success = absurd (omega arith)
is_done OutOfMemory Holds h success = absurd (omega arith)

-- the graver of two steps that were done is done
pub both_done : (s t worst : Status) → (worst ≡ s) ⊎ (worst ≡ t) → s ≡ Done → t ≡ Done → worst ≡ Done
both_done s t worst (inl is) first second = is ∙ first
both_done s t worst (inr is) first second = is ∙ second

none_graver : (s : Status) → severity s ≤ severity Done → s ≡ Done
none_graver Done less = refl
none_graver Stopped less = absurd (omega arith)
none_graver Unfinished less = absurd (omega arith)
none_graver Refused less = absurd (omega arith)
none_graver Usage less = absurd (omega arith)
none_graver OutOfMemory less = absurd (omega arith)

-- the graver of an end and of a step that was done is that end
pub ends_so : (ends step worst : Status) → (worst ≡ ends) ⊎ (worst ≡ step) → severity ends ≤ severity worst → step ≡ Done → worst ≡ ends
ends_so ends step worst (inl is) less done = is
ends_so ends step worst (inr is) less done =
    let all = is ∙ done in
    all ∙ sym (none_graver ends (subst (λ s. severity ends ≤ severity s) all less))
