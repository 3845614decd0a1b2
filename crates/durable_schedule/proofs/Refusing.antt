-- What is refused for a cause is not written, wherever a crash comes.
use Rattle.std.proofs.Common.{◌≡◌, ◌⊎◌, ◌∙◌, refl, sym, ap, subst, ℕ, inl, inr, Bool, true, false, List, [], ◌∷◌, Option, Some, None, IsTrue, Ok}
use Rattle.sqlite.specs.State.{State, HasCleanDisk}
use Rattle.journal_model.specs.Notification.{Bytes, Text}
use Rattle.journal_model.specs.Event.{Event, Frame}
use Rattle.journal_model.specs.Journal.{version_of}
use Rattle.journal_model.specs.Cause.{causes_of, IsAccepted}
use Rattle.journal_model.specs.declared.cause.Cause.{Cause}
use Rattle.protocol_stream.specs.Item.{Item, item_at}
use Rattle.store_refusals.specs.declared.refusal.Refusal.{Refusal}
use Rattle.store_refusals.specs.declared.refusal.Refusal.TheVariants as cause
use Rattle.store_refusals.specs.RefusalConditions.{refusal_of_first_cause, is_circumstance, IsRefused}
use Rattle.store_steps.specs.declared.frame.FrameReply.{FrameReply}
use Rattle.store_steps.specs.PreparedFrames.{lies_in_frame}
use Rattle.store_calls.specs.AbstractStore.{Standing, StaysStanding, Refuses}
use Rattle.store_calls.specs.Frames.{frame_in, IsNext, TakesFrame, TakesNone, RefusesFrame, LeavesRefused, Rests, Accepts}
use Rattle.store_calls.proofs.Taking.{before_still, same_put}
use Rattle.journal_store.specs.StoreStanding.{Outlasts}
use Rattle.journal_store.specs.OutputAcceptance.{OutlastsFrames}
use Rattle.durable_schedule.specs.Runs.{IsCertain, AreCertain}
use Rattle.durable_schedule.proofs.Quieting.{KeepsAsWell, same_kept, stopped_kept}

some_none : {A : Type 0} (x : A) → Some x ≡ None → ⊥
some_none x e = cc

only_some : {A : Type 0} (o : Option A) (x y : A) → o ≡ Some x → o ≡ Some y → x ≡ y
only_some o x y one other = cc

-- ---- causes

pub not_memory : (why : Refusal) → IsCertain why → why ≡ cause.OutOfMemory → ⊥
not_memory why certain memory = let e : true ≡ false = subst (λ (w : Refusal). is_circumstance w ≡ false) memory certain in cc

no_circumstance : (why : Refusal) → IsCertain why → IsTrue (is_circumstance why) → ⊥
no_circumstance why certain it = let e : true ≡ false = sym it ∙ certain in cc

-- it is the first cause, or a circumstance
first_cause : (causes : List Cause) (why : Refusal) → IsCertain why → IsRefused causes why → refusal_of_first_cause causes ≡ Some why
first_cause causes why certain (inl first) = first
first_cause causes why certain (inr circumstance) = absurd (no_circumstance why certain circumstance)

has_cause : (causes : List Cause) (why : Refusal) → IsCertain why → IsRefused causes why → causes ≡ [] → ⊥
has_cause causes why certain it none = some_none why (sym (first_cause causes why certain it) ∙ ap refusal_of_first_cause none)

-- what lies in a frame is no circumstance
pub in_frame : (why : Refusal) → lies_in_frame why ≡ true → IsTrue (is_circumstance why) → ⊥
in_frame (cause.StatementRefused error) lies it = cc
in_frame cause.OutOfMemory lies it = cc
in_frame _ lies it = cc

-- ---- one event

-- an event was accepted, or none
abbrev pub AddsAtMost : Event → Standing → Standing → Type 0
AddsAtMost event s t = (t.events ≡ s.events) ⊎ (t.events ≡ event ∷ s.events)

accepted_then : (event : Event) (s t : Standing) → t.events ≡ event ∷ s.events → causes_of s.events event ≡ []
accepted_then event s t more = (subst (λ (events : List Event). IsAccepted events) more t.accepted).0

-- it was refused for a cause, so it was never accepted
pub refused_kept : (event : Event) (why : Refusal) (s to t : Standing) → IsCertain why → Refuses event why s to → AddsAtMost event s t → KeepsAsWell t to
refused_kept event why s to t certain it (inl same) = same_kept t to (it.stays.events ∙ sym same)
refused_kept event why s to t certain it (inr more) = absurd (has_cause (causes_of s.events event) why certain it.cause (accepted_then event s t more))

-- ---- frames

both_stay : (s t u : Standing) → StaysStanding s t → StaysStanding s u → StaysStanding t u
both_stay s t u one other = record { events = other.events ∙ sym one.events; outputs = λ id. other.outputs id ∙ sym (one.outputs id) }

module _ (database : State) (clean : HasCleanDisk database) (id : Text) (n : ℕ) where
  -- the first frame of what waits is one
  same_next : (m k : Standing) (f h : Frame) (r q : Bytes) → StaysStanding m k → IsNext id m f r → IsNext id k h q → f ≡ h
  same_next m k f h r q stays one other =
      let output = only_some (m.outputs id) one.output other.output one.waits (sym (stays.outputs id) ∙ other.waits) in
      let first = only_some (item_at one.output) (one.item, r) (other.item, q) one.first (ap item_at output ∙ other.first) in
      one.frame_is ∙ ap (λ (pair : Item × Bytes). frame_in (version_of m.events id) pair.0) first
      ∙ sym (subst (λ (events : List Event). h ≡ frame_in (version_of events id) other.item) stays.events other.frame_is)

  none_next : (m k : Standing) (f : Frame) (r : Bytes) (t : Standing) → StaysStanding m k → TakesNone id n m t → IsNext id k f r → ⊥
  none_next m k f r t stays none one =
      let output = only_some (m.outputs id) none.output one.output none.waits (sym (stays.outputs id) ∙ one.waits) in
      some_none (one.item, r) (sym one.first ∙ sym (ap item_at output) ∙ none.none)

  over_next : (m k : Standing) (f : Frame) (r : Bytes) → StaysStanding m k → m.outputs id ≡ None → IsNext id k f r → ⊥
  over_next m k f r stays over one = some_none one.output (sym one.waits ∙ stays.outputs id ∙ over)

  -- a frame that was refused for a cause would never be taken
  refused_never : (why : Refusal) (m t k u : Standing) (told : FrameReply) → IsCertain why → RefusesFrame id n why m t → StaysStanding m k → TakesFrame id n told k u → ⊥
  refused_never why m t k u told certain refused stays taken =
      let one = before_still id n told m k u stays taken in
      let same = same_next m m refused.frame one.frame refused.rest one.rest (record { events = refl; outputs = λ any. refl }) refused.next one.next in
      has_cause (causes_of m.events (Event.Move id n refused.frame)) why certain refused.cause
      (ap (λ (f : Frame). causes_of m.events (Event.Move id n f)) same ∙ accepted_then (Event.Move id n one.frame) m u one.leaves.events)

  -- where no further frame is taken, none would be but for a circumstance
  pub no_more : (why : Option Refusal) (m t k u : Standing) (told : FrameReply) → AreCertain why → Rests id n why m t → StaysStanding m k → TakesFrame id n told k u → ⊥
  no_more None m t k u told certain (inl ended) stays one = over_next m k one.frame one.rest stays ended.over one.next
  no_more None m t k u told certain (inr none) stays one = none_next m k one.frame one.rest t stays none one.next
  no_more (Some why) m t k u told certain (inl room) stays one = not_memory why certain room.memory
  no_more (Some why) m t k u told certain (inr refused) stays one = refused_never why m t k u told certain refused stays one

  left_kept : (lies : Bool) (m t : Standing) → LeavesRefused lies id n m t → KeepsAsWell m t
  left_kept true m t it = stopped_kept database clean m t id n it.events
  left_kept false m t it = same_kept m t it.events

  pub rests_kept : (why : Option Refusal) (m t : Standing) → Rests id n why m t → KeepsAsWell m t
  rests_kept None m t (inl ended) = same_kept m t ended.stays.events
  rests_kept None m t (inr none) = same_kept m t none.stays.events
  rests_kept (Some why) m t (inl room) = same_kept m t room.stays.events
  rests_kept (Some why) m t (inr refused) = left_kept (lies_in_frame why) m t refused.left

  -- so what lasts of the frames that were taken is all
  pub rest_lasts : (why : Option Refusal) (m t : Standing) → AreCertain why → Rests id n why m t → OutlastsFrames id n why m database → Outlasts t.events database
  rest_lasts None m t certain rests lasts trees may = rests_kept None m t rests trees (lasts trees may)
  rest_lasts (Some why) m t certain rests lasts trees may = elim (lasts trees may) [
    | inl kept ↦ rests_kept (Some why) m t rests trees kept
    | inr more ↦ absurd (no_more (Some why) m t m more.0 more.1.0 certain rests (record { events = refl; outputs = λ any. refl }) more.1.1)
  ]

  -- an attempt that was stopped for what lies in its frame was stopped for that
  both_stopped : (w : Refusal) (why : Option Refusal) (m k to t : Standing) → StaysStanding m k → AreCertain why → Rests id n why m to → RefusesFrame id n w k t → lies_in_frame w ≡ true
      → to.events ≡ Event.Stop id n ∷ m.events
  both_stopped w None m k to t stays certain (inl ended) other lies = absurd (over_next m k other.frame other.rest stays ended.over other.next)
  both_stopped w None m k to t stays certain (inr none) other lies = absurd (none_next m k other.frame other.rest to stays none other.next)
  both_stopped w (Some why) m k to t stays certain (inl room) other lies = absurd (not_memory why certain room.memory)
  both_stopped w (Some why) m k to t stays certain (inr refused) other lies =
      let first = first_cause (causes_of m.events (Event.Move id n refused.frame)) why certain refused.cause in
      let frame = same_next m k refused.frame other.frame refused.rest other.rest stays refused.next other.next in
      let causes : causes_of k.events (Event.Move id n other.frame) ≡ causes_of m.events (Event.Move id n refused.frame) =
      ap (λ (events : List Event). causes_of events (Event.Move id n other.frame)) stays.events ∙ ap (λ (f : Frame). causes_of m.events (Event.Move id n f)) (sym frame) in
      let second : refusal_of_first_cause (causes_of k.events (Event.Move id n other.frame)) ≡ Some w =
      elim other.cause [ inl it ↦ it | inr circumstance ↦ absurd (in_frame w lies circumstance) ] in
      let same : w ≡ why = only_some (refusal_of_first_cause (causes_of m.events (Event.Move id n refused.frame))) w why (sym (ap refusal_of_first_cause causes) ∙ second) first in
      let left = subst (λ (lie : Bool). LeavesRefused lie id n m to) (sym (ap lies_in_frame same) ∙ lies) refused.left in
      left.events

  same_then : (m k t to : Standing) → StaysStanding m k → t.events ≡ k.events → KeepsAsWell m to → KeepsAsWell t to
  same_then m k t to stays same kept trees it = kept trees (same_kept t m (sym stays.events ∙ sym same) trees it)

  -- where none was taken, what a crash leaves of that is what is left
  late_kept : (why other : Option Refusal) (m k to t : Standing) → StaysStanding m k → AreCertain why → Rests id n why m to → Rests id n other k t → KeepsAsWell t to
  late_kept why None m k to t stays certain rests (inl ended) = same_then m k t to stays ended.stays.events (rests_kept why m to rests)
  late_kept why None m k to t stays certain rests (inr none) = same_then m k t to stays none.stays.events (rests_kept why m to rests)
  late_kept why (Some w) m k to t stays certain rests (inl room) = same_then m k t to stays room.stays.events (rests_kept why m to rests)
  late_kept why (Some w) m k to t stays certain rests (inr refused) = by_lie (lies_in_frame w) refl refused.left
    where
      by_lie : (lie : Bool) → lies_in_frame w ≡ lie → LeavesRefused lie id n k t → KeepsAsWell t to
      by_lie true lies left = same_kept t to (both_stopped w why m k to t stays certain rests refused lies ∙ ap (λ (events : List Event). Event.Stop id n ∷ events) (sym stays.events) ∙ sym left.events)
      by_lie false lies left = same_then m k t to stays left.events (rests_kept why m to rests)

  -- ---- bytes

  module _ (bytes : Bytes) (why : Option Refusal) (s to : Standing) (certain : AreCertain why) (it : Accepts id n bytes (Ok ([], why)) s to) where
    pub untaken_kept : KeepsAsWell s to
    untaken_kept = same_then it.2.between it.2.between s to (record { events = refl; outputs = λ any. refl }) (sym (it.2.taken.events ∙ it.1.events)) (rests_kept why it.2.between to it.2.rests)

    pub untaken_late : (replies : List FrameReply) (other : Option Refusal) (t : Standing) → Accepts id n bytes (Ok (replies, other)) s t → KeepsAsWell t to
    untaken_late [] other t late =
        let stays = both_stay it.0 it.2.between late.2.between it.2.taken (both_stay late.0 it.0 late.2.between (same_put id n bytes s late.0 it.0 late.1 it.1) late.2.taken) in
        late_kept why other it.2.between late.2.between to t stays certain it.2.rests late.2.rests
    untaken_late (reply ∷ replies) other t late =
        let stays = both_stay it.0 it.2.between late.0 it.2.taken (same_put id n bytes s it.0 late.0 it.1 late.1) in
        absurd (no_more why it.2.between to late.0 late.2.taken.0 reply certain it.2.rests stays late.2.taken.1)
