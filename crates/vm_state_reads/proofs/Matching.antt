-- What taking the recorded read does to an attempt, and what was known of it.
use Rattle.std.proofs.Common.{◌≡◌, ℕ, ℤ, Bool, true, false, List, [], ◌∷◌, Option, Some, None, Result, Ok, Err, refl, sym, ap, ◌∙◌, subst}
use Rattle.protocol_table.specs.declared.table.RecordType.{RecordType}
use Rattle.protocol_wire.specs.Wire.{Field}
use Rattle.protocol_wire.specs.Parts.{Part}
use Rattle.journal_model.specs.Request.{Request}
use Rattle.protocol_stream.specs.declared.decoder.RawMessage.{RawMessage}
use Rattle.protocol_errors.specs.declared.typed.UnavailableEntryError.{UnavailableEntryError}
use Rattle.vm_commands.specs.declared.replay_error.ReplayError.TheVariants as unmatched
use Rattle.vm_commands.specs.declared.state_read.StateRead.{StateRead}
use Rattle.vm_commands.specs.declared.state_read.StateRead.TheVariants as reads
use Rattle.vm_commands.specs.declared.state_read.StateReadError.{StateReadError}
use Rattle.vm_commands.specs.declared.state_read.StateReadError.TheVariants as errors
use Rattle.vm_commands.specs.RecordedCommands.{as_recorded, commands_of}
use Rattle.vm_commands.specs.RecordMeanings.{MeansRequests}
use Rattle.vm_commands.specs.NextCommand.{next_of}
use Rattle.vm_commands.specs.StateReads.{ReadsAs, MatchesRead}
use Rattle.vm_commands.proofs.NextCommand.{read_as}
use Rattle.vm_calls.specs.declared.active.Active.{Active}
use Rattle.vm_calls.specs.RequestPuts.{Puts, RefusesLong}
use Rattle.vm_calls.specs.Active.{has_left, left_of, still_replays, IsActiveSettled, PutsOne}
use Rattle.vm_calls.proofs.Settling.{put_settles}
use Rattle.vm_state_reads.specs.RecordedReads.{MatchFails, TellsNext}
use Rattle.vm_state_reads.specs.SpentReplay.{MatchFindsNone}

module _ (ignoring : Bool) (made : Request) (written : List Request) (old : Active) (t : old.is_replaying ≡ true) (settled : IsActiveSettled old) where
  pub match_settles : {K : Type 0} (L E : Type 0) (read : StateRead K) (new : Active) → new.is_replaying ≡ still_replays true new.commands.items
      → MatchesRead {K = K} {L = L} {E = E} ignoring made written old.commands.items (Ok read) new.commands.items → new.output ≡ old.output
      → new ≡ record old { is_replaying = new.is_replaying; commands = new.commands; output = new.output } → PutsOne ignoring (as_recorded (left_of old) made) written old new
  match_settles L E read new replays matches output others =
      put_settles (Unit {0}) ignoring (as_recorded (left_of old) made) written old settled new
      (subst (λ (b : Bool). RefusesLong {M = Unit {0}} b (as_recorded (left_of old) made) old.output (Ok tt)) (sym t) tt)
      (replays ∙ ap (λ (b : Bool). still_replays b new.commands.items) (sym t))
      (subst (λ (b : Bool). Puts {M = Unit {0}} ignoring b (as_recorded (left_of old) made) written old.commands.items old.output (Ok tt) new.commands.items new.output) (sym t) (matches, output))
      others

  pub match_fails : (K : Type 0) {L E : Type 0} (error : StateReadError L E) (queue : List RawMessage) → ((e : UnavailableEntryError) → error ≡ errors.Eager (unmatched.Unavailable e) → ⊥)
      → MatchesRead {K = K} {L = L} {E = E} ignoring made written old.commands.items (Err error) queue → MatchFails ignoring made written (left_of old) error
  match_fails K (errors.Lazy (unmatched.Unavailable error)) queue never matches =
      let wrong : true ≡ false = sym t ∙ settled.replaying ∙ ap has_left matches in cc
  match_fails K (errors.Lazy unmatched.OutOfMemory) queue never matches = tt
  match_fails K (errors.Lazy (unmatched.Decoding error)) queue never matches = matches
  match_fails K (errors.Lazy (unmatched.Mismatch error)) queue never matches = matches
  match_fails K (errors.Eager (unmatched.Unavailable error)) queue never matches = absurd (never error refl)
  match_fails K (errors.Eager unmatched.OutOfMemory) queue never matches = tt
  match_fails K (errors.Eager (unmatched.Decoding error)) queue never matches = matches
  match_fails K (errors.Eager (unmatched.Mismatch error)) queue never matches = matches
  match_fails K (errors.OtherType error) queue never matches = matches
  match_fails K errors.Empty queue never matches = matches

module _ {K L E : Type 0} {eager lazy : RecordType} {of_eager : ℕ → List Field → E} {of_lazy : ℕ → List Field → L} {parts : E → List Part} {lazy_parts : L → List Part}
    {erased : Bool → E → E} {erased_lazy : Bool → L → L} {request_of : E → Option Request} {lazy_request_of : L → Option Request}
    (means : MeansRequests eager of_eager parts erased request_of) (lazy_means : MeansRequests lazy of_lazy lazy_parts erased_lazy lazy_request_of)
    (known : E → Option K) (bare : E → E) (asked : L → E) (index : ℤ) (ignoring : Bool) (expected : L) where
  pub tells_next : (queue : List RawMessage) (read : StateRead K)
      → ReadsAs eager lazy of_eager of_lazy erased erased_lazy known bare asked index ignoring expected (next_of queue) (Ok read)
      → TellsNext lazy_request_of request_of known (commands_of queue) read
  tells_next [] read reads_as = absurd reads_as
  tells_next (m ∷ queue) reads.Lazy reads_as = record {
    recorded = reads_as.recorded;
    next = record {
      others = commands_of queue;
      first = ap (λ (o : Option Request). o ∷ commands_of queue) (read_as lazy_means m reads_as.recorded reads_as.is_taken.0.0 reads_as.is_taken.0.1);
    };
  }
  tells_next (m ∷ queue) (reads.Eager found) reads_as = record {
    recorded = reads_as.recorded;
    next = record {
      others = commands_of queue;
      first = ap (λ (o : Option Request). o ∷ commands_of queue) (read_as means m reads_as.recorded reads_as.is_read.0 reads_as.is_read.1);
    };
    is_known = reads_as.is_known;
  }

  -- where none is left it is told so
  pub none_read : (queue : List RawMessage) (result : Result (StateRead K) (StateReadError L E)) → queue ≡ []
      → ReadsAs eager lazy of_eager of_lazy erased erased_lazy known bare asked index ignoring expected (next_of queue) result → MatchFindsNone result
  none_read queue result none reads_as =
      by_result result (subst (λ (q : List RawMessage). ReadsAs eager lazy of_eager of_lazy erased erased_lazy known bare asked index ignoring expected (next_of q) result) none reads_as)
    where
      by_result : (r : Result (StateRead K) (StateReadError L E)) → ReadsAs eager lazy of_eager of_lazy erased erased_lazy known bare asked index ignoring expected None r → MatchFindsNone r
      by_result (Ok read) h = h
      by_result (Err (errors.Lazy (unmatched.Unavailable error))) h = tt
      by_result (Err (errors.Lazy (unmatched.Decoding error))) h = h
      by_result (Err (errors.Lazy (unmatched.Mismatch error))) h = h
      by_result (Err (errors.Lazy unmatched.OutOfMemory)) h = h
      by_result (Err (errors.Eager error)) h = h
      by_result (Err (errors.OtherType error)) h = h
      by_result (Err errors.Empty) h = h

  -- that none is left is told of a read whose answer is to come alone
  pub never_unavailable : (next : Option RawMessage) (error : StateReadError L E)
      → ReadsAs eager lazy of_eager of_lazy erased erased_lazy known bare asked index ignoring expected next (Err error)
      → (e : UnavailableEntryError) → error ≡ errors.Eager (unmatched.Unavailable e) → ⊥
  never_unavailable next error reads_as e is = by_next next (subst (λ (x : StateReadError L E). ReadsAs eager lazy of_eager of_lazy erased erased_lazy known bare asked index ignoring expected next (Err x)) is reads_as)
    where
      by_next : (o : Option RawMessage) → ReadsAs eager lazy of_eager of_lazy erased erased_lazy known bare asked index ignoring expected o (Err (errors.Eager (unmatched.Unavailable e))) → ⊥
      by_next None h = h
      by_next (Some m) h = h
