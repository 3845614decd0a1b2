-- What versions of the protocol brought.
use Rattle.std.specs.Prelude.{ℕ, nat_le, nat_lt, Bool}
use Rattle.protocol_types.specs.declared.version.Version.{Version}
use Rattle.protocol_types.specs.declared.version.Version.TheVariants.{V6, V7, V8, V9}
use Rattle.protocol_types.specs.declared.feature.Feature.{Feature}
use Rattle.protocol_types.specs.declared.feature.Feature.TheVariants.{RandomSeed, FailureMetadata, AwaitTree, ErrorBehavior, Acknowledgement, Scope, EphemeralState, AtLeast}
use Rattle.protocol_types.specs.Version.{version_number}

abbrev pub first_version : Feature → Version
first_version RandomSeed = V6
first_version FailureMetadata = V6
first_version AwaitTree = V7
first_version ErrorBehavior = V7
first_version Acknowledgement = V7
first_version Scope = V7
first_version EphemeralState = V8
first_version AtLeast = V9

-- whether the version with this number has it, and whether it is one before it
abbrev pub has_feature : ℕ → Feature → Bool
has_feature number feature = nat_le (version_number (first_version feature)) number

abbrev pub lacks_feature : ℕ → Feature → Bool
lacks_feature number feature = nat_lt number (version_number (first_version feature))
