-- The refusals of calls, and what their errors tell.
use Rattle.std.specs.Prelude.{ℕ, List, codes}
use Rattle.journal_model.specs.Refusal.{Refusal}
use Rattle.protocol_types.specs.declared.version.Version.{Version}
use Rattle.protocol_types.specs.declared.feature.Feature.TheVariants as features
use Rattle.protocol_types.specs.Feature.{first_version}
use Rattle.protocol_errors.specs.Code.{internal, unsupported_feature}
use Rattle.protocol_errors.specs.FixedErrors.{fixed_code, fixed_text}
use Rattle.protocol_errors.specs.Texts.{feature_text, out_of_bounds_text}
use Rattle.protocol_errors.specs.declared.fixed.FixedError.TheVariants as fixed
use Rattle.vm_refusals.specs.declared.refusal.CallRefusal.{CallRefusal}
use Rattle.vm_refusals.specs.declared.refusal_error.RefusalError.{RefusalError}

-- the refusal that the definition of a run has
abbrev pub refusal_meant : CallRefusal → Refusal
refusal_meant CallRefusal.EmptyIdempotencyKey = Refusal.EmptyIdempotencyKey
refusal_meant CallRefusal.EmptyScope = Refusal.EmptyScope
refusal_meant CallRefusal.EmptyLimitKey = Refusal.EmptyLimitKey
-- what the version lacks
refusal_meant CallRefusal.UnsupportedScope = Refusal.UnsupportedScope
refusal_meant CallRefusal.UnsupportedLimitKey = Refusal.UnsupportedLimitKey
refusal_meant CallRefusal.UnsupportedFailureMetadata = Refusal.UnsupportedFailureMetadata
refusal_meant CallRefusal.UnsupportedAtLeast = Refusal.UnsupportedAtLeast
-- what a suspension cannot tell
refusal_meant CallRefusal.AwaitTooDeep = Refusal.AwaitTooDeep
-- what the arguments pass
refusal_meant CallRefusal.OutOfBoundsDuration = Refusal.OutOfBoundsDuration

-- what needs a later version is not supported; the rest is an error of the caller
abbrev pub refusal_code : CallRefusal → ℕ
refusal_code CallRefusal.EmptyIdempotencyKey = fixed_code fixed.EmptyIdempotencyKey
refusal_code CallRefusal.EmptyScope = fixed_code fixed.EmptyScope
refusal_code CallRefusal.EmptyLimitKey = fixed_code fixed.EmptyLimitKey
-- what the version lacks
refusal_code CallRefusal.UnsupportedScope = unsupported_feature
refusal_code CallRefusal.UnsupportedLimitKey = unsupported_feature
refusal_code CallRefusal.UnsupportedFailureMetadata = unsupported_feature
refusal_code CallRefusal.UnsupportedAtLeast = unsupported_feature
refusal_code CallRefusal.AwaitTooDeep = unsupported_feature
-- what the arguments pass
refusal_code CallRefusal.OutOfBoundsDuration = internal

-- ---- what the errors print

abbrev pub text_of_refusal : CallRefusal → Version → List ℕ → List ℕ
text_of_refusal CallRefusal.EmptyIdempotencyKey version event = fixed_text fixed.EmptyIdempotencyKey
text_of_refusal CallRefusal.EmptyScope version event = fixed_text fixed.EmptyScope
text_of_refusal CallRefusal.EmptyLimitKey version event = fixed_text fixed.EmptyLimitKey
text_of_refusal CallRefusal.UnsupportedScope version event = feature_text (codes "scope") version (first_version features.Scope)
text_of_refusal CallRefusal.UnsupportedLimitKey version event = feature_text (codes "limit key") version (first_version features.Scope)
text_of_refusal CallRefusal.UnsupportedFailureMetadata version event = feature_text (codes "terminal error metadata") version (first_version features.FailureMetadata)
text_of_refusal CallRefusal.UnsupportedAtLeast version event = feature_text (codes "at least") version (first_version features.AtLeast)
text_of_refusal CallRefusal.AwaitTooDeep version event = codes "what is awaited is nested too deep to be told"
text_of_refusal CallRefusal.OutOfBoundsDuration version event = out_of_bounds_text event

abbrev pub refusal_text : RefusalError → List ℕ
refusal_text error = text_of_refusal error.refusal error.version error.event.now
