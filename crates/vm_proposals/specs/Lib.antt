pub mod RunRegistration
pub mod RunFailureCauses
pub mod RunCallEffects
pub mod ProposalEffects
