-- The refusals that report faults of texts.
use Rattle.std.specs.Prelude.{codes}
use Rattle.qap_io.specs.Refusal.{RefusalText, memory_refusal, device_refusal, refused, refused_at}
use Rattle.qap_text.specs.declared.error.TextError.{TextError}
use Rattle.qap_text.specs.declared.error.TextError.TheVariants.{Empty, NotANumber, SizeZero, SizeTooLarge, EntryRange, CountDiffers, SizeDiffers, NotPermutation, ValueRange, InputTooLong, OutOfMemory, Device}

-- each fault of a text as its refusal: a number, a name, and a place if it has one
abbrev pub text_refusal : TextError → RefusalText
text_refusal Empty = refused 1 (codes "Empty")
text_refusal (NotANumber place) = refused_at 2 (codes "NotANumber") place
text_refusal (SizeZero place) = refused_at 3 (codes "SizeZero") place
text_refusal (SizeTooLarge place) = refused_at 4 (codes "SizeTooLarge") place
text_refusal (EntryRange place) = refused_at 5 (codes "EntryRange") place
text_refusal CountDiffers = refused 6 (codes "CountDiffers")
text_refusal (SizeDiffers place) = refused_at 8 (codes "SizeDiffers") place
text_refusal (NotPermutation place) = refused_at 9 (codes "NotPermutation") place
text_refusal (ValueRange place) = refused_at 10 (codes "ValueRange") place
text_refusal InputTooLong = refused 24 (codes "InputTooLong")
text_refusal OutOfMemory = memory_refusal
text_refusal Device = device_refusal
