-- Why an ephemeral read is not made, and what the errors print.
use Rattle.std.specs.Prelude.{ℕ, Bool, List, codes}
use Rattle.protocol_errors.specs.Code.{internal, unsupported_feature}
use Rattle.protocol_errors.specs.Texts.{feature_text, unanswered_read_text}
use Rattle.protocol_types.specs.Version.{version_number}
use Rattle.protocol_types.specs.declared.version.Version.{Version}
use Rattle.protocol_types.specs.declared.feature.Feature.TheVariants as features
use Rattle.protocol_types.specs.Feature.{first_version, lacks_feature}
use Rattle.vm_feeding.specs.declared.refusal.ReadRefusal.{ReadRefusal}
use Rattle.vm_feeding.specs.declared.refusal.ReadRefusal.TheVariants.{Unsupported, InputClosed}

-- whether the version is one before ephemeral reads
abbrev pub lacks_reads : Version → Bool
lacks_reads version = lacks_feature (version_number version) features.EphemeralState

abbrev pub refusal_code : ReadRefusal → ℕ
refusal_code (Unsupported version) = unsupported_feature
refusal_code (InputClosed error) = internal

abbrev pub refusal_text : ReadRefusal → List ℕ
refusal_text (Unsupported version) = feature_text (codes "ephemeral state get") version (first_version features.EphemeralState)
refusal_text (InputClosed error) = unanswered_read_text error.key
