mod Inputs
mod Called
mod Texts
mod Keeping
mod TakenMessages
mod Cuts
mod ReadSteps
