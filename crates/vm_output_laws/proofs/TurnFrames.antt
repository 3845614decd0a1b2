-- What one turn sends is a list of such frames.
use Rattle.std.proofs.Common.{◌≡◌, inl, inr, ℕ, Bool, true, false, List, [], ◌∷◌, ◌++◌, map, Option, Some, refl, sym, ap, ◌∙◌, subst, append-nil, append_assoc}
use Rattle.std.specs.Prelude.{if◌then◌else◌}
use Rattle.std.specs.List.{AllByRecursion}
use Rattle.protocol_types.specs.declared.version.Version.{Version}
use Rattle.protocol_types.specs.declared.feature.Feature.TheVariants.{AwaitTree as TellsTrees}
use Rattle.protocol_types.specs.Version.{version_number}
use Rattle.protocol_types.specs.Feature.{lacks_feature}
use Rattle.journal_model.specs.declared.notification.NotificationId.{NotificationId}
use Rattle.journal_model.specs.AwaitTree.{AwaitTree}
use Rattle.journal_model.specs.Event.{ForTree, Frame}
use Rattle.journal_model.specs.Future.{tree_of}
use Rattle.journal_model.specs.Request.{Request}
use Rattle.journal_model.specs.PrunedTrees.{only_leaves}
use Rattle.attempt_model.specs.Results.{Slots, slot_of}
use Rattle.attempt_model.specs.Machine.{Machine}
use Rattle.live_laws.specs.Replies.{SendsReply, SendsWaiting}
use Rattle.run_laws.specs.SuspensionContent.{TellsAwaitedTree}
use Rattle.vm_awaits.specs.Views.{slots_of}
use Rattle.vm_context.specs.Output.{Written}
use Rattle.vm_calls.specs.declared.active.Active.{Active}
use Rattle.vm_waiting.specs.WaitsFor.{ids_over, awaited_ids, waits_as}
use Rattle.vm_waiting.specs.declared.waits_for.WaitsFor.{WaitsFor}
use Rattle.vm_waiting.specs.declared.waits_for.WaitsFor.TheVariants.{Future, Child}
use Rattle.vm_waiting.proofs.TellsAsRun.{left_out}
use Rattle.vm_start.specs.Failure.{told_error}
use Rattle.vm_request_laws.specs.RequestBounds.{RequestFits}
use Rattle.vm_output_laws.specs.SentFrames.{Asks, Awaits, Suspends, Fails, Ends, sent_stream, AllFit, is_recorded, tree_told, suspension_told, frame_meant}
use Rattle.vm_output_laws.specs.WrittenFrames.{Sends}
use Rattle.vm_output_laws.specs.TurnFrames.{AnswersSend, ProposalsSend, leaves_over, StaysSend, SuspensionsSend, EndsSend, FailuresSend, StopsSend, TurnsSend}
use Rattle.vm_output_laws.proofs.Streams.{streams_join}
use Rattle.vm_output_laws.proofs.SuspensionContent.{trees_tell, suspensions_tell}
use Rattle.vm_output_laws.proofs.WrittenFrames.{frames_are_written}

all_told : (version : Version) (requests : List Request) → AllByRecursion RequestFits requests → AllFit version (map Asks requests)
all_told version [] h = tt
all_told version (request ∷ requests) h = (record { told = h.0; short = h.0.short }, all_told version requests h.1)

all_meant : (version : Version) (requests : List Request) → AllByRecursion (λ request. is_recorded request ≡ true) requests → map (frame_meant version) (map Asks requests) ≡ map Frame.Command requests
all_meant version [] h = refl
all_meant version (request ∷ requests) h =
    λ i. (ap (λ (b : Bool). if b then Frame.Command request else Frame.NotAccepted) h.0 i) ∷ all_meant version requests h.1 i

answers_send : AnswersSend
answers_send is_closed m after answer more old new written frames fit recorded =
    let commands = frames_are_written.commands more old in
    record {
      coming = map Asks more;
      fit = all_told old.version more fit;
      written = record {
        version = ap (λ (w : Written). w.version) frames ∙ commands.version;
        bytes = ap (λ (w : Written). w.bytes) frames ∙ commands.bytes;
      };
      sends = (more, written, all_meant old.version more recorded);
    }

nothing : (old : Written) → Sends [] old old
nothing old = record { version = refl; bytes = sym (append-nil old.bytes) }

proposals_send : ProposalsSend
proposals_send n value done old new opens small typed writes =
    let one = frames_are_written.proposals n value done old new opens small typed writes in
    record { fit = (one.fits, tt); written = one.sends; meant = refl }

-- ---- what is waited for

-- what is told of it are the ids among its leaves
told_of : (slots : Slots) (waits : WaitsFor) → only_leaves (λ (leaf : Option NotificationId). leaf) (leaves_over slots waits) ≡ ids_over slots waits
told_of slots (Future left) = left_out (slot_of slots) (tree_of left)
told_of slots (Child completion) = refl

waiting_sends : (version : ℕ) (is_closed : Bool) (m after : Machine) (waits : WaitsFor) (sent : List Frame) → SendsWaiting version is_closed (leaves_over after.slots waits) sent
    → SendsReply version is_closed m (waits_as waits after) sent
waiting_sends version is_closed m after (Future left) sent sends = sends
waiting_sends version is_closed m after (Child completion) sent sends = sends

same_ids : (after : Machine) (waits : WaitsFor) (old : Active) → slots_of old.results ≡ after.slots → only_leaves (λ (leaf : Option NotificationId). leaf) (leaves_over after.slots waits) ≡ awaited_ids old waits
same_ids after waits old slots = told_of after.slots waits ∙ ap (λ (s : Slots). ids_over s waits) (sym slots)

stays_send : StaysSend
stays_send true done m after waits old new opens slots fits allowed tells =
    let version = version_number old.output.version in
    let ids = awaited_ids old waits in
    let one = frames_are_written.awaits ids done old new opens fits allowed tells in
    let tells_it : TellsAwaitedTree version (leaves_over after.slots waits) (Some (ForTree (tree_told ids))) =
    subst (λ (t : AwaitTree NotificationId). TellsAwaitedTree version (leaves_over after.slots waits) (Some (ForTree (tree_told t)))) (same_ids after waits old slots)
    (trees_tell version (leaves_over after.slots waits)) in
    record {
      coming = Awaits ids ∷ [];
      fit = (one.fits, tt);
      written = one.sends;
      sends = waiting_sends version false m after waits (Frame.AwaitingOn (Some (tree_told ids)) ∷ []) (inr (tree_told ids, refl, tells_it));
    }
stays_send false done m after waits old new opens slots fits allowed tells =
    record {
      coming = [];
      fit = tt;
      written = subst (λ (active : Active). Sends [] old.output active.output) (sym tells) (nothing old.output);
      sends = waiting_sends (version_number old.output.version) false m after waits [] (inl refl);
    }

suspensions_send : SuspensionsSend
suspensions_send m after waits old new opens slots fits allowed asleep shallow is =
    let version = version_number old.output.version in
    let ids = awaited_ids old waits in
    let one = frames_are_written.suspensions ids old new opens fits allowed shallow is in
    let told = suspension_told (lacks_feature version TellsTrees) ids in
    let tells : TellsAwaitedTree version (leaves_over after.slots waits) (Some told) =
    subst (λ (t : AwaitTree NotificationId). TellsAwaitedTree version (leaves_over after.slots waits) (Some (suspension_told (lacks_feature version TellsTrees) t))) (same_ids after waits old slots)
    (suspensions_tell version (leaves_over after.slots waits) asleep) in
    record {
      coming = Suspends ids ∷ [];
      fit = (one.fits, tt);
      written = one.sends;
      sends = waiting_sends version true m after waits (Frame.Suspend (Some told) ∷ []) (told, refl, tells);
    }

ends_send : EndsSend
ends_send is_closed done m after old new opens writes =
    let one = frames_are_written.ends done old new opens writes in
    record { coming = Ends ∷ []; fit = (one.fits, tt); written = one.sends; sends = refl }

failures_send : FailuresSend
failures_send is_closed m fault error old new opens writes =
    let one = frames_are_written.errors error old new opens writes in
    record { coming = Fails (told_error error) ∷ []; fit = (one.fits, tt); written = one.sends; sends = (tt, tt) }

-- ---- midway

stops_send : StopsSend
stops_send more behind old new fit recorded behind_fit sends =
    let commands = frames_are_written.commands more old in
    let joins = streams_join old.version (map Asks more) behind in
    record {
      fit = joins.fit (all_told old.version more fit) behind_fit;
      written = record {
        version = sends.version;
        bytes = sends.bytes ∙ ap (λ (bytes : List ℕ). bytes ++ sent_stream old.version behind) commands.bytes ∙ append_assoc old.bytes (sent_stream old.version (map Asks more)) (sent_stream old.version behind)
            ∙ ap (λ (bytes : List ℕ). old.bytes ++ bytes) (sym joins.bytes);
      };
      meant = joins.frames ∙ ap (λ (frames : List Frame). frames ++ map (frame_meant old.version) behind) (all_meant old.version more recorded);
    }

pub turns_send : TurnsSend
turns_send = record {
  answers = answers_send;
  proposals = proposals_send;
  stays = stays_send;
  suspensions = suspensions_send;
  ends = ends_send;
  failures = failures_send;
  stops = stops_send;
}
