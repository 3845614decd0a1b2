-- A command that was put leaves an attempt settled.
use Rattle.std.proofs.Common.{◌≡◌, ◌^◌, Bool, true, false, ◌||◌, ℕ, if◌then◌else◌, inl, inr, List, [], ◌∷◌, ◌++◌, length, append-nil, append_assoc, Result, Ok, Err, refl, sym, ap, ◌∙◌, subst}
use Rattle.std.proofs.lemmas.Bool.{cases_Bool, cases_lt}
use Rattle.std.proofs.lemmas.List.Concat.{flat_map-append}
use Rattle.std.specs.List.{flat_map}
use Rattle.journal_model.specs.Request.{Request}
use Rattle.journal_model.specs.Spelling.{request_frame, request_payload}
use Rattle.attempt_model.specs.Requests.{Commands, put_one}
use Rattle.protocol_stream.specs.declared.decoder.RawMessage.{RawMessage}
use Rattle.protocol_stream.specs.declared.encoder.EncodingError.TheVariants as unsent
use Rattle.vm_context.specs.Output.{Written, with_command}
use Rattle.vm_commands.specs.declared.replay_error.ReplayError.TheVariants as unmatched
use Rattle.vm_commands.specs.HeaderEquality.{header_equal}
use Rattle.vm_commands.specs.RecordedCommands.{commands_of}
use Rattle.vm_calls.specs.declared.active.Active.{Active}
use Rattle.vm_calls.specs.declared.put_error.PutError.{PutError}
use Rattle.vm_calls.specs.declared.put_error.PutError.TheVariants.{Replay, Encoding}
use Rattle.vm_calls.specs.RequestPuts.{Puts, RefusesLong}
use Rattle.vm_calls.specs.Active.{RequestFits, has_left, left_of, are_any, writes_frames, still_replays, IsActiveSettled, PutsOne, PutFails}

while_left : (messages : List RawMessage) → still_replays true messages ≡ has_left (commands_of messages)
while_left [] = refl
while_left (message ∷ messages) = refl

never_again : (messages : List RawMessage) → still_replays false messages ≡ false
never_again [] = refl
never_again (message ∷ messages) = refl

none_left : (left : Commands) → has_left left ≡ false → left ≡ []
none_left [] h = refl
none_left (command ∷ left) h = cc

opened_frame : (frame : List ℕ) (old : Written) → old.is_closed ≡ false → with_command frame old ≡ record old { bytes = old.bytes ++ frame; has_commands = true }
opened_frame frame old opened = ap (λ (b : Bool). if b then old else record old { bytes = old.bytes ++ frame; has_commands = true }) opened

nothing_recorded : (old : Active) → IsActiveSettled old → old.is_replaying ≡ false → left_of old ≡ []
nothing_recorded old settled f = none_left (left_of old) (sym settled.replaying ∙ f)

module _ (M : Type 0) (ignoring : Bool) (request : Request) (written : List Request) (old : Active) (settled : IsActiveSettled old) where
  -- an equal recorded command was matched
  matched : (new : Active) → old.is_replaying ≡ true → new.is_replaying ≡ still_replays old.is_replaying new.commands.items
      → Puts {M = M} ignoring true request written old.commands.items old.output (Ok tt) new.commands.items new.output
      → new ≡ record old { is_replaying = new.is_replaying; commands = new.commands; output = new.output } → PutsOne ignoring request written old new
  matched new t replays puts others = record {
    put = record { left = left_of new; written = written };
    puts = puts.0;
    left = refl;
    settled = record {
      replaying = replays ∙ ap (λ (b : Bool). still_replays b new.commands.items) t ∙ while_left new.commands.items;
      opened = ap (λ (w : Written). w.is_closed) puts.1 ∙ settled.opened;
    };
    more = [];
    requests = sym (append-nil written);
    fit = tt;
    frames = puts.1 ∙ ap (λ (bytes : List ℕ). record old.output { bytes = bytes }) (sym (append-nil old.output.bytes));
    others = others;
  }

  -- what is not refused for its length fits a frame
  not_long : (result : Result (Unit {0}) (PutError M)) → (result ≡ Err (Encoding unsent.PayloadTooLong) → ⊥) → RefusesLong false request old.output result → RequestFits request
  not_long result other refuses =
      elim (cases_lt (length (request_payload request)) (2 ^ 32)) [
        | inl lt ↦ lt
        | inr ge ↦ absurd (other (refuses (settled.opened, ge)))
      ]

  -- behind the journal it was written
  sent : (new : Active) → old.is_replaying ≡ false → RefusesLong {M = M} false request old.output (Ok tt) → new.is_replaying ≡ still_replays old.is_replaying new.commands.items
      → Puts {M = M} ignoring false request written old.commands.items old.output (Ok tt) new.commands.items new.output
      → new ≡ record old { is_replaying = new.is_replaying; commands = new.commands; output = new.output } → PutsOne ignoring request written old new
  sent new f refuses replays puts others =
      let none : left_of old ≡ [] = nothing_recorded old settled f in
      let left : left_of new ≡ [] = ap commands_of puts.1 ∙ none in
      let frame : new.output ≡ record old.output { bytes = old.output.bytes ++ request_frame request; has_commands = true } = puts.0 ∙ opened_frame (request_frame request) old.output settled.opened in
      record {
        put = record { left = []; written = written ++ request ∷ [] };
        puts = ap (λ (l : Commands). put_one (header_equal ignoring) request l written) none;
        left = left;
        settled = record {
          replaying = replays ∙ ap (λ (b : Bool). still_replays b new.commands.items) f ∙ never_again new.commands.items ∙ sym (ap has_left left);
          opened = ap (λ (w : Written). w.is_closed) frame ∙ settled.opened;
        };
        more = request ∷ [];
        requests = refl;
        fit = (not_long (Ok tt) (λ wrong. cc wrong) refuses, tt);
        frames = frame ∙ ap (λ (bytes : List ℕ). record old.output { bytes = old.output.bytes ++ bytes; has_commands = true }) (sym (append-nil (request_frame request)));
        others = others;
      }

  pub put_settles : (new : Active) → RefusesLong {M = M} old.is_replaying request old.output (Ok tt) → new.is_replaying ≡ still_replays old.is_replaying new.commands.items
      → Puts {M = M} ignoring old.is_replaying request written old.commands.items old.output (Ok tt) new.commands.items new.output
      → new ≡ record old { is_replaying = new.is_replaying; commands = new.commands; output = new.output } → PutsOne ignoring request written old new
  put_settles new refuses replays puts others =
      elim (cases_Bool old.is_replaying) [
        | inl t ↦ matched new t replays (subst (λ (b : Bool). Puts {M = M} ignoring b request written old.commands.items old.output (Ok tt) new.commands.items new.output) t puts) others
        | inr f ↦ sent new f (subst (λ (b : Bool). RefusesLong {M = M} b request old.output (Ok tt)) f refuses) replays (subst (λ (b : Bool). Puts {M = M} ignoring b request written old.commands.items old.output (Ok tt) new.commands.items new.output) f puts) others
      ]

  -- ---- why it is not

  replay_fails : (error : PutError M) (queue : List RawMessage) (output : Written) → old.is_replaying ≡ true
      → Puts ignoring true request written old.commands.items old.output (Err error) queue output → PutFails ignoring request written old error × (output ≡ old.output)
  replay_fails (Replay (unmatched.Unavailable error)) queue output t puts =
      let wrong : true ≡ false = sym t ∙ settled.replaying ∙ ap has_left puts.0 in cc
  replay_fails (Replay (unmatched.Decoding error)) queue output t puts = puts
  replay_fails (Replay (unmatched.Mismatch error)) queue output t puts = puts
  replay_fails (Replay unmatched.OutOfMemory) queue output t puts = puts
  replay_fails (Encoding error) queue output t puts = absurd puts.0

  write_fails : (error : PutError M) (queue : List RawMessage) (output : Written) → old.is_replaying ≡ false → RefusesLong false request old.output (Err error)
      → Puts ignoring false request written old.commands.items old.output (Err error) queue output → PutFails ignoring request written old error × (output ≡ old.output)
  write_fails (Replay error) queue output f refuses puts = absurd puts.0
  write_fails (Encoding unsent.PayloadTooLong) queue output f refuses puts = ((nothing_recorded old settled f, puts.0.1.1), puts.0.0)
  write_fails (Encoding unsent.OutOfMemory) queue output f refuses puts = ((nothing_recorded old settled f, not_long (Err (Encoding unsent.OutOfMemory)) (λ wrong. cc wrong) refuses), puts.0)

  pub put_fails : (error : PutError M) (queue : List RawMessage) (output : Written) → RefusesLong old.is_replaying request old.output (Err error)
      → Puts ignoring old.is_replaying request written old.commands.items old.output (Err error) queue output → PutFails ignoring request written old error × (output ≡ old.output)
  put_fails error queue output refuses puts =
      elim (cases_Bool old.is_replaying) [
        | inl t ↦ replay_fails error queue output t (subst (λ (b : Bool). Puts ignoring b request written old.commands.items old.output (Err error) queue output) t puts)
        | inr f ↦ write_fails error queue output f (subst (λ (b : Bool). RefusesLong b request old.output (Err error)) f refuses) (subst (λ (b : Bool). Puts ignoring b request written old.commands.items old.output (Err error) queue output) f puts)
      ]

-- ---- frames of several requests

any_joined : (some more : List Request) (has : Bool) → (are_any (some ++ more) || has) ≡ (are_any more || (are_any some || has))
any_joined [] more has = refl
any_joined (request ∷ some) [] has = refl
any_joined (request ∷ some) (other ∷ more) has = refl

-- frames behind frames are the frames of both
pub frames_joined : (some more : List Request) (written : Written) → writes_frames (some ++ more) written ≡ writes_frames more (writes_frames some written)
frames_joined some more written = λ i. record written {
  bytes = (ap (λ (frames : List ℕ). written.bytes ++ frames) (flat_map-append request_frame some more) ∙ sym (append_assoc written.bytes (flat_map request_frame some) (flat_map request_frame more))) i;
  has_commands = any_joined some more written.has_commands i;
}
