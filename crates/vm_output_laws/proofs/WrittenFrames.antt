-- What is written is what is sent.
use Rattle.std.proofs.Common.{◌≡◌, ℕ, arith, Bool, false, List, [], ◌∷◌, ◌++◌, map, refl, sym, ap, ◌∙◌, append-nil}
use Rattle.std.specs.Prelude.{if◌then◌else◌}
use Rattle.std.specs.List.{flat_map}
use Rattle.protocol_wire.specs.Parts.{payload_of}
use Rattle.protocol_types.specs.declared.message_type.MessageType.TheVariants as types
use Rattle.protocol_types.specs.declared.version.Version.{Version}
use Rattle.protocol_types.specs.declared.feature.Feature.TheVariants.{AwaitTree}
use Rattle.protocol_types.specs.Version.{version_number}
use Rattle.protocol_types.specs.Feature.{lacks_feature}
use Rattle.journal_model.specs.Request.{Request}
use Rattle.journal_model.specs.Spelling.{request_frame}
use Rattle.protocol_controls.specs.Error.{error_parts}
use Rattle.protocol_stream.specs.Frame.{spelled, message_of}
use Rattle.protocol_stream.proofs.Spellings.{spelled-frame_bytes}
use Rattle.vm_context.specs.Output.{Written, with_frame}
use Rattle.vm_calls.specs.declared.active.Active.{Active}
use Rattle.vm_start.specs.Failure.{told_error}
use Rattle.vm_output_laws.specs.SentFrames.{Sent, Asks, Proposes, Awaits, Suspends, Fails, Ends, sent_frame, sent_stream}
use Rattle.vm_output_laws.proofs.Nested.{shallow_fits, suspended_fits}
use Rattle.vm_output_laws.specs.WrittenFrames.{Sends, CommandsAreWritten, ProposalsAreWritten, AwaitsAreWritten, SuspensionsAreWritten, ErrorsAreWritten, EndsAreWritten, FramesAreWritten}

stream_of : (version : Version) (requests : List Request) → flat_map request_frame requests ≡ sent_stream version (map Asks requests)
stream_of version [] = refl
stream_of version (request ∷ requests) = ap (λ (s : List ℕ). request_frame request ++ s) (stream_of version requests)

commands_written : CommandsAreWritten
commands_written requests old = record { version = refl; bytes = ap (λ (s : List ℕ). old.bytes ++ s) (stream_of old.version requests) }

opened : (frame : List ℕ) (old : Written) → old.is_closed ≡ false → with_frame frame old ≡ record old { bytes = old.bytes ++ frame }
opened frame old opens = ap (λ (b : Bool). if b then old else record old { bytes = old.bytes ++ frame }) opens

sends_one : (sent : Sent) (old new : Written) → old.is_closed ≡ false → new ≡ with_frame (sent_frame old.version sent) old → Sends (sent ∷ []) old new
sends_one sent old new opens is =
    let whole : new ≡ record old { bytes = old.bytes ++ sent_frame old.version sent } = is ∙ opened (sent_frame old.version sent) old opens in
    record {
      version = ap (λ (w : Written). w.version) whole;
      bytes = ap (λ (w : Written). w.bytes) whole ∙ ap (λ (s : List ℕ). old.bytes ++ s) (sym (append-nil (sent_frame old.version sent)));
    }

proposals_written : ProposalsAreWritten
proposals_written n value done old new opens small typed writes =
    record { fits = record { told = (small, typed); short = writes.0 opens }; sends = sends_one (Proposes n value) old new opens writes.1 }

awaits_written : AwaitsAreWritten
awaits_written ids done old new opens fits allowed tells =
    record { fits = record { told = (shallow_fits ids fits tells.0, allowed); short = tells.1.0.0 opens }; sends = sends_one (Awaits ids) old.output new.output opens tells.1.0.1 }

suspensions_written : SuspensionsAreWritten
suspensions_written ids old new opens fits allowed shallow is =
    let sends = sends_one (Suspends ids) old.output (with_frame (sent_frame old.output.version (Suspends ids)) old.output) opens refl in
    record {
      fits = record { told = (suspended_fits (lacks_feature (version_number old.output.version) AwaitTree) ids fits shallow, allowed); short = is.fits opens };
      sends = record {
        version = ap (λ (active : Active). active.output.version) is.suspended ∙ sends.version;
        bytes = ap (λ (active : Active). active.output.bytes) is.suspended ∙ sends.bytes;
      };
    }

errors_written : ErrorsAreWritten
errors_written error old new opens writes =
    let told = writes.0 opens in
    let frame : spelled (message_of types.Error (payload_of (error_parts (told_error error)))) ≡ sent_frame old.version (Fails (told_error error)) =
    spelled-frame_bytes types.Error (payload_of (error_parts (told_error error))) (omega arith) told.short in
    record {
      fits = record { told = told.fits; short = told.short };
      sends = sends_one (Fails (told_error error)) old new opens (writes.1 ∙ ap (λ (s : List ℕ). with_frame s old) frame);
    }

ends_written : EndsAreWritten
ends_written done old new opens writes = record { fits = record { told = tt; short = writes.0 opens }; sends = sends_one Ends old new opens writes.1 }

pub frames_are_written : FramesAreWritten
frames_are_written = record { commands = commands_written; proposals = proposals_written; awaits = awaits_written; suspensions = suspensions_written; errors = errors_written; ends = ends_written }
