-- The cause that a refusal tells, over a longer way, and as it is passed on.
use Rattle.std.proofs.Common.{◌≡◌, ◌∙◌, sym, subst, arith, true, false, [], ◌∷◌, Some, Result, Ok, Err, IfErr, IsErrAnd}
use Rattle.sqlite_trees.specs.Tree.{Trees}
use Rattle.sqlite.specs.declared.error.Error.{Error}
use Rattle.sqlite.specs.State.{State, Survives}
use Rattle.sql_tables.specs.declared.read.ReadError.{ReadError}
use Rattle.sql_tables.specs.declared.read.ReadError.TheVariants as reading
use Rattle.sql_tables.specs.Causes.{TellsReadCause}
use Rattle.sql_tables.proofs.Causes.{cause_before, cause_later}
use Rattle.store_refusals.specs.declared.refusal.Refusal.{Refusal}
use Rattle.store_refusals.specs.declared.refusal.Refusal.TheVariants.{OutOfMemory, StatementRefused}
use Rattle.store_refusals.specs.declared.refusal.Refusal.TheVariants as refusal
use Rattle.journal_model.specs.Cause.{Tests}
use Rattle.journal_model.specs.declared.cause.Cause.{Cause}
use Rattle.protocol_stream.specs.declared.encoder.EncodingError.{EncodingError}
use Rattle.protocol_stream.specs.declared.encoder.EncodingError.TheVariants as encoding
use Rattle.store_refusals.specs.RefusalConditions.{encoding_refusal, reading_refusal, refusal_by}
use Rattle.store_refusals.specs.Causes.{IsUnasked, TellsCause}

-- ---- a refusal that is passed on

same_cause : (e : ReadError) (cause : Error) → reading_refusal e ≡ StatementRefused cause → e ≡ reading.Refused cause
same_cause (reading.Refused own) cause is = cc
same_cause reading.Foreign cause is = cc
same_cause reading.OutOfMemory cause is = cc

-- that of a question, as a refusal
pub read_cause : (a b : State) (e : ReadError) (why : Refusal) → why ≡ reading_refusal e → TellsReadCause a b e → TellsCause a b why
read_cause a b e why gives tells clean cause is = tells clean cause (same_cause e cause (sym gives ∙ is))

pub read_cause_by : {A : Type 0} (a b : State) (e : ReadError) (r : Result A Refusal) → IsErrAnd r (λ why. why ≡ reading_refusal e) → TellsReadCause a b e → IfErr r (TellsCause a b)
read_cause_by a b e (Ok x) gives tells = absurd gives
read_cause_by a b e (Err why) gives tells = read_cause a b e why gives tells

-- and one that is a refusal already
pub cause_by : {A : Type 0} (a b : State) (e : Refusal) (r : Result A Refusal) → IsErrAnd r (λ why. why ≡ e) → TellsCause a b e → IfErr r (TellsCause a b)
cause_by a b e (Ok x) gives tells = absurd gives
cause_by a b e (Err why) gives tells = subst (TellsCause a b) (sym gives) tells

-- ---- where the database was not asked

-- such a refusal is passed on
pub unasked_by : {A : Type 0} (e : Refusal) (r : Result A Refusal) → IsErrAnd r (λ why. why ≡ e) → IsUnasked e → IfErr r IsUnasked
unasked_by e (Ok x) gives unasked = absurd gives
unasked_by e (Err why) gives unasked = subst IsUnasked (sym gives) unasked

-- and that of a frame that was made
pub encoding_unasked : (e : EncodingError) → IsUnasked (encoding_refusal e)
encoding_unasked encoding.PayloadTooLong cause is = cc
encoding_unasked encoding.OutOfMemory cause is = cc

-- a cause of an event's is none of the database
pub cause_unasked : (c : Cause) → IsUnasked (refusal.Cause c)
cause_unasked c cause is = cc

-- nor is a test's that holds
pub test_unasked : (tests : Tests) (why : Refusal) → refusal_by tests ≡ Some why → IsUnasked why
test_unasked [] why eq = cc
test_unasked ((true, c) ∷ tests) why eq = subst IsUnasked (cc) (cause_unasked c)
test_unasked ((false, c) ∷ tests) why eq = test_unasked tests why eq

-- it tells what any call may tell
pub unasked_tells : (a b : State) (why : Refusal) → IsUnasked why → TellsCause a b why
unasked_tells a b why unasked clean cause is = absurd (unasked cause is)

pub err_unasked : {A : Type 0} (a b : State) (r : Result A Refusal) → IfErr r IsUnasked → IfErr r (TellsCause a b)
err_unasked a b (Ok x) unasked = tt
err_unasked a b (Err why) unasked = unasked_tells a b why unasked

-- want of memory, as it is passed on
pub memory_unasked : {A : Type 0} (r : Result A Refusal) → IsErrAnd r (λ why. why ≡ OutOfMemory) → IfErr r IsUnasked
memory_unasked (Ok x) gives = absurd gives
memory_unasked (Err why) gives = λ cause is. cc

pub memory_tells : {A : Type 0} (a b : State) (r : Result A Refusal) → IsErrAnd r (λ why. why ≡ OutOfMemory) → IfErr r (TellsCause a b)
memory_tells a b r gives = err_unasked a b r (memory_unasked r gives)

-- ---- over a longer way

module _ (a b c : State) (C D : Trees → Type 0) (first : Survives a b C) (then : Survives b c D) where
  pub tells_later : (why : Refusal) → TellsCause b c why → TellsCause a c why
  tells_later why tells clean cause is = cause_later a b c C D cause first then clean (tells clean cause is)

  pub tells_before : (why : Refusal) → TellsCause a b why → TellsCause a c why
  tells_before why tells clean cause is = cause_before a b c C D cause first then (tells (omega (arith, then.clean, clean)) cause is)

  pub err_later : {A : Type 0} (r : Result A Refusal) → IfErr r (TellsCause b c) → IfErr r (TellsCause a c)
  err_later (Ok x) tells = tt
  err_later (Err why) tells = tells_later why tells

  pub err_before : {A : Type 0} (r : Result A Refusal) → IfErr r (TellsCause a b) → IfErr r (TellsCause a c)
  err_before (Ok x) tells = tt
  err_before (Err why) tells = tells_before why tells
