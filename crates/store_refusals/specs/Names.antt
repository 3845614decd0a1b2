-- The names of refusals, as they are printed.
use Rattle.std.specs.Prelude.{ℕ, List, codes}
use Rattle.journal_model.specs.declared.cause.Cause.{Cause}
use Rattle.store_refusals.specs.declared.refusal.Refusal.{Refusal}
use Rattle.store_refusals.specs.declared.refusal.Refusal.TheVariants as refusal

abbrev pub cause_name : Cause → List ℕ
cause_name Cause.ObjectBusy = codes "S1"
cause_name Cause.EmptyName = codes "S2"
cause_name Cause.IdUsed = codes "S3"
cause_name Cause.UnknownInvocation = codes "S4"
cause_name Cause.InvocationClosed = codes "S5"
cause_name Cause.CompletionNotOpen = codes "S6"
cause_name Cause.WrongKind = codes "S7"
cause_name Cause.ReservedSignal = codes "S8"
cause_name Cause.AttemptNotLive = codes "S9"
cause_name Cause.UnsupportedVersion = codes "S10"
cause_name Cause.BrokenPayload = codes "S11"
cause_name Cause.NestedTooDeep = codes "S12"
cause_name Cause.FrameNotAccepted = codes "S13"
cause_name Cause.BadCompletion = codes "S14"
cause_name Cause.InputNotClosed = codes "S15"
cause_name Cause.InputRemains = codes "S16"
cause_name Cause.InputAlreadyClosed = codes "S17"
cause_name Cause.KeyNotText = codes "S18"
cause_name Cause.RunNotOpen = codes "S22"
cause_name Cause.NumbersUsedUp = codes "S23"
cause_name Cause.PayloadTooLong = codes "S24"

abbrev pub refusal_name_of : Refusal → List ℕ
refusal_name_of (refusal.Cause cause) = cause_name cause
refusal_name_of (refusal.StatementRefused cause) = codes "S19"
refusal_name_of refusal.OutOfMemory = codes "S20"
refusal_name_of refusal.ForeignRow = codes "S21"
