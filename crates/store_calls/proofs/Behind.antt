-- One frame, where more bytes wait behind it or not.
use Rattle.std.proofs.Common.{◌≡◌, refl, sym, ap, ap₂, subst, ◌∙◌, ℕ, Bool, true, false, true≢false, List, [], ◌∷◌, ◌++◌, Option, Some, None, inl, inr}
use Rattle.journal_model.specs.Notification.{Bytes, Text}
use Rattle.journal_model.specs.Event.{Event, Frame}
use Rattle.journal_model.specs.Journal.{entries_of, version_of}
use Rattle.journal_model.specs.Cause.{causes_of, IsAccepted}
use Rattle.journal_model.specs.declared.cause.Cause.{Cause}
use Rattle.protocol_wire.proofs.Extends.{Extends}
use Rattle.protocol_stream.specs.Item.{Item, item_at}
use Rattle.protocol_stream.proofs.Fronts.{item_at_extends}
use Rattle.store_refusals.specs.declared.refusal.Refusal.{Refusal}
use Rattle.store_refusals.specs.RefusalConditions.{refusal_of_first_cause, is_circumstance, IsRefused}
use Rattle.store_steps.specs.declared.frame.FrameReply.{FrameReply}
use Rattle.store_steps.specs.PreparedFrames.{IsReply, does_end, lies_in_frame}
use Rattle.store_calls.specs.AbstractStore.{Standing, KeepsOthers, StaysStanding}
use Rattle.store_calls.specs.Frames.{frame_in, IsNext, rest_after, TakesFrame, TakesNone, LeavesRefused, RefusesFrame}
use Rattle.store_calls.proofs.Replies.{taken_alike}

-- what waits, with more behind it, if anything waits
abbrev pub longer : Bytes → Option Bytes → Option Bytes
longer more None = None
longer more (Some rest) = Some (rest ++ more)

pub some_same : {A : Type 0} {a b : A} → Some a ≡ Some b → a ≡ b
some_same e = cc

pub none_some : {A : Type 0} {a : A} → ◌≡◌ {A = Option A} None (Some a) → ⊥
none_some e = cc

first_item : (more output rest : Bytes) (item : Item) → item_at output ≡ Some (item, rest) → item_at (output ++ more) ≡ Some (item, rest ++ more)
first_item more output rest item e = subst (λ (r : Option (Item × Bytes)). Extends more r (item_at (output ++ more))) e (item_at_extends more output)

module _ (id : Text) (attempt : ℕ) (more : Bytes) where
  -- the same was accepted, and more bytes wait behind those of the one, if any wait
  pub record IsBehind (new far : Standing) : Type 0 where
    pub events : far.events ≡ new.events
    pub own : far.outputs id ≡ longer more (new.outputs id)
    pub others : KeepsOthers id new far

  pub behind_stays : (old new far : Standing) → StaysStanding old new → IsBehind old far → IsBehind new far
  behind_stays old new far stays behind = record {
    events = behind.events ∙ sym stays.events;
    own = behind.own ∙ ap (longer more) (sym (stays.outputs id));
    others = λ other apart. behind.others other apart ∙ sym (stays.outputs other);
  }

  pub stays_behind : (new old far : Standing) → StaysStanding old far → IsBehind new old → IsBehind new far
  stays_behind new old far stays behind = record {
    events = stays.events ∙ behind.events;
    own = stays.outputs id ∙ behind.own;
    others = λ other apart. stays.outputs other ∙ behind.others other apart;
  }

  -- what waits of the longer one
  pub longer_waits : (short long : Standing) (output : Bytes) → IsBehind short long → short.outputs id ≡ Some output → long.outputs id ≡ Some (output ++ more)
  longer_waits short long output behind waits = behind.own ∙ ap (longer more) waits

  -- the first frame of both is the same
  next_same : (short long : Standing) (frame far_frame : Frame) (rest far_rest : Bytes) → IsBehind short long → IsNext id short frame rest → IsNext id long far_frame far_rest
      → (far_frame ≡ frame) × (far_rest ≡ rest ++ more)
  next_same short long frame far_frame rest far_rest behind one far =
      let output_is : far.output ≡ one.output ++ more = some_same (sym far.waits ∙ longer_waits short long one.output behind one.waits) in
      let found : ◌≡◌ {A = Item × Bytes} (far.item, far_rest) (one.item, rest ++ more) =
      some_same (sym far.first ∙ ap item_at output_is ∙ first_item more one.output rest one.item one.first) in (
        far.frame_is ∙ ap₂ (λ (events : List Event) (item : Item). frame_in (version_of events id) item) behind.events (ap (λ (p : Item × Bytes). p.0) found) ∙ sym one.frame_is,
        ap (λ (p : Item × Bytes). p.1) found,
      )

  longer_rest : (does : Bool) (rest : Bytes) → rest_after does (rest ++ more) ≡ longer more (rest_after does rest)
  longer_rest true rest = refl
  longer_rest false rest = refl

  -- where it is taken of both, it is answered the same, and more bytes wait still
  pub taken_same : (short long new far : Standing) (reply answer : FrameReply) → IsBehind short long → TakesFrame id attempt reply short new → TakesFrame id attempt answer long far
      → (answer ≡ reply) × IsBehind new far
  taken_same short long new far reply answer behind one two =
      let same : (two.frame ≡ one.frame) × (two.rest ≡ one.rest ++ more) = next_same short long one.frame two.frame one.rest two.rest behind one.next two.next in
      let replied : answer ≡ reply =
      sym (taken_alike id short.events long.events (ap (λ (events : List Event). entries_of events id) (sym behind.events)) one.frame reply answer one.replied
      (subst (λ (frame : Frame). IsReply long.events id frame answer) same.0 two.replied)) in (
        replied,
        record {
          events = two.leaves.events ∙ ap₂ (λ (frame : Frame) (events : List Event). Event.Move id attempt frame ∷ events) same.0 behind.events ∙ sym one.leaves.events;
          own =
              two.leaves.own ∙ ap₂ (λ (reply : FrameReply) (rest : Bytes). rest_after (does_end reply) rest) replied same.1 ∙ longer_rest (does_end reply) one.rest
              ∙ ap (longer more) (sym one.leaves.own);
          others = λ other apart. two.leaves.others other apart ∙ behind.others other apart ∙ sym (one.leaves.others other apart);
        },
      )

  -- a frame that is taken of the one waits whole of both
  pub taken_none : (short long new far : Standing) (reply : FrameReply) → IsBehind short long → TakesFrame id attempt reply short new → TakesNone id attempt long far → ⊥
  taken_none short long new far reply behind one two =
      let output_is : two.output ≡ one.next.output ++ more = some_same (sym two.waits ∙ longer_waits short long one.next.output behind one.next.waits) in
      none_some (sym two.none ∙ ap item_at output_is ∙ first_item more one.next.output one.rest one.next.item one.next.first)

  pub refused_none : (short long new far : Standing) (why : Refusal) → IsBehind short long → RefusesFrame id attempt why short new → TakesNone id attempt long far → ⊥
  refused_none short long new far why behind one two =
      let output_is : two.output ≡ one.next.output ++ more = some_same (sym two.waits ∙ longer_waits short long one.next.output behind one.next.waits) in
      none_some (sym two.none ∙ ap item_at output_is ∙ first_item more one.next.output one.rest one.next.item one.next.first)

  -- a frame that is taken has no cause to be refused
  pub uncaused : (old new : Standing) (reply : FrameReply) → (one : TakesFrame id attempt reply old new) → causes_of old.events (Event.Move id attempt one.frame) ≡ []
  uncaused old new reply one =
      let accepted : IsAccepted (Event.Move id attempt one.frame ∷ old.events) = subst IsAccepted one.leaves.events new.accepted in
      accepted.0

  caused : (causes : List Cause) (why : Refusal) → causes ≡ [] → IsRefused causes why → is_circumstance why ≡ false → ⊥
  caused causes why none (inl first) not = absurd (none_some (sym (ap refusal_of_first_cause none) ∙ first))
  caused causes why none (inr circumstance) not = absurd (true≢false (sym circumstance ∙ not))

  pub taken_refused : (short long new far : Standing) (reply : FrameReply) (why : Refusal) → IsBehind short long → is_circumstance why ≡ false → TakesFrame id attempt reply short new
      → RefusesFrame id attempt why long far → ⊥
  taken_refused short long new far reply why behind not one two =
      let same : (two.frame ≡ one.frame) × (two.rest ≡ one.rest ++ more) = next_same short long one.frame two.frame one.rest two.rest behind one.next two.next in
      caused (causes_of long.events (Event.Move id attempt two.frame)) why
      (ap₂ (λ (events : List Event) (frame : Frame). causes_of events (Event.Move id attempt frame)) behind.events same.0 ∙ uncaused short new reply one)
      two.cause not

  pub refused_taken : (short long new far : Standing) (reply : FrameReply) (why : Refusal) → IsBehind short long → is_circumstance why ≡ false → RefusesFrame id attempt why short new
      → TakesFrame id attempt reply long far → ⊥
  refused_taken short long new far reply why behind not one two =
      let same : (two.frame ≡ one.frame) × (two.rest ≡ one.rest ++ more) = next_same short long one.frame two.frame one.rest two.rest behind one.next two.next in
      caused (causes_of short.events (Event.Move id attempt one.frame)) why
      (ap₂ (λ (events : List Event) (frame : Frame). causes_of events (Event.Move id attempt frame)) (sym behind.events) (sym same.0) ∙ uncaused long far reply two)
      one.cause not

  cause_first : (causes : List Cause) (why : Refusal) → IsRefused causes why → is_circumstance why ≡ false → refusal_of_first_cause causes ≡ Some why
  cause_first causes why (inl first) not = first
  cause_first causes why (inr circumstance) not = absurd (true≢false (sym circumstance ∙ not))

  left_same : (lies : Bool) (short long new far : Standing) → IsBehind short long → LeavesRefused lies id attempt short new → LeavesRefused lies id attempt long far → IsBehind new far
  left_same true short long new far behind one two = record {
    events = two.events ∙ ap (λ (events : List Event). Event.Stop id attempt ∷ events) behind.events ∙ sym one.events;
    own = two.own ∙ ap (longer more) (sym one.own);
    others = λ other apart. two.others other apart ∙ behind.others other apart ∙ sym (one.others other apart);
  }
  left_same false short long new far behind one two = stays_behind new long far two (behind_stays short new long one behind)

  -- where it is refused of both it is so for the same cause
  pub refused_same : (short long new far : Standing) (why other : Refusal) → IsBehind short long → is_circumstance why ≡ false → is_circumstance other ≡ false
      → RefusesFrame id attempt why short new → RefusesFrame id attempt other long far → IsBehind new far
  refused_same short long new far why other behind not too one two =
      let same : (two.frame ≡ one.frame) × (two.rest ≡ one.rest ++ more) = next_same short long one.frame two.frame one.rest two.rest behind one.next two.next in
      let first = cause_first (causes_of short.events (Event.Move id attempt one.frame)) why one.cause not in
      let second = cause_first (causes_of long.events (Event.Move id attempt two.frame)) other two.cause too in
      let whys : other ≡ why =
      some_same (sym second ∙ ap₂ (λ (events : List Event) (frame : Frame). refusal_of_first_cause (causes_of events (Event.Move id attempt frame))) behind.events same.0 ∙ first) in
      left_same (lies_in_frame why) short long new far behind one.left
      (subst (λ (w : Refusal). LeavesRefused (lies_in_frame w) id attempt long far) whys two.left)
