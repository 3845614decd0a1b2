-- Refusals for which the database is not asked, and one that is passed on as it is.
use Rattle.std.proofs.Common.{◌≡◌, subst, Bool, true, false, if◌then◌else◌, None, Some, Option, Result, Ok, Err, IfErr}
use Rattle.journal_model.specs.declared.notification.NotificationResult.{NotificationResult}
use Rattle.protocol_types.specs.declared.message_type.MessageType.{MessageType}
use Rattle.protocol_stream.specs.declared.command_facts.Completion.{Completion}
use Rattle.protocol_stream.specs.CommandFacts.{accepts}
use Rattle.sqlite.specs.State.{State}
use Rattle.store_frames.specs.declared.kept_fault.KeptFault.{KeptFault}
use Rattle.store_frames.specs.declared.kept_fault.KeptFault.TheVariants.{OutOfMemory, Foreign}
use Rattle.store_refusals.specs.declared.refusal.Refusal.{Refusal}
use Rattle.journal_model.specs.declared.cause.Cause.{Cause}
use Rattle.store_refusals.specs.declared.refusal.Refusal.TheVariants as refusal
use Rattle.store_refusals.specs.Causes.{IsUnasked, TellsCause}
use Rattle.store_arrivals.specs.AskedCompletions.{type_for}
use Rattle.store_arrivals.specs.ArrivalRows.{fault_refusal}

-- what is kept and not read
pub fault_unasked : (fault : KeptFault) (why : Refusal) → why ≡ fault_refusal fault → IsUnasked why
fault_unasked OutOfMemory why gives cause is = cc
fault_unasked Foreign why gives cause is = cc

-- what a completion may not be given
accept_unasked : (accepted : Bool) (ty : MessageType) → IfErr (if accepted then Ok ty else Err (refusal.Cause Cause.WrongKind)) IsUnasked
accept_unasked true ty = tt
accept_unasked false ty = λ cause is. cc

pub type_unasked : (completion : Option Completion) (brought : NotificationResult) → IfErr (type_for completion brought) IsUnasked
type_unasked None brought = λ cause is. cc
type_unasked (Some one) brought = accept_unasked (accepts one.completed_by brought) one.notification

-- the refusal of what was heard is passed on
pub heard_cause : {A B : Type 0} (a b : State) (heard : Result A Refusal) (r : Result B Refusal) → IfErr r (λ why. heard ≡ Err why) → IfErr heard (TellsCause a b) → IfErr r (TellsCause a b)
heard_cause a b heard (Ok x) passes tells = tt
heard_cause {A} a b heard (Err why) passes tells = subst (λ (r : Result A Refusal). IfErr r (TellsCause a b)) passes tells
