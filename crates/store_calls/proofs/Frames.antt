-- The frames that are taken of what waits, where more bytes wait behind it or not.
use Rattle.std.proofs.Common.{◌≡◌, refl, sym, ap, ap₂, subst, ◌∙◌, ℕ, Bool, true, false, true≢false, List, [], ◌∷◌, ◌++◌, append-nil, Option, Some, None, inl, inr, bytes_eq}
use Rattle.std.proofs.lemmas.Slice.Eq.{bytes_eq-Decides}
use Rattle.journal_model.specs.Notification.{Bytes, Text}
use Rattle.protocol_stream.specs.Item.{item_at}
use Rattle.store_refusals.specs.declared.refusal.Refusal.{Refusal}
use Rattle.store_refusals.specs.declared.refusal.Refusal.TheVariants.{OutOfMemory}
use Rattle.store_refusals.specs.RefusalConditions.{is_circumstance}
use Rattle.store_steps.specs.declared.frame.FrameReply.{FrameReply}
use Rattle.store_calls.specs.AbstractStore.{Standing, StaysStanding}
use Rattle.store_calls.specs.Frames.{TakesEach, TakesFrame, TakesFrames, TakesNone, HasEnded, RefusesFrame, Rests}
use Rattle.store_calls.specs.Pieces.{IsByEvents}
use Rattle.store_calls.proofs.Behind.{IsBehind, longer, longer_waits, behind_stays, stays_behind, taken_same, taken_none, refused_none, taken_refused, refused_taken, refused_same, none_some}

-- want of memory hinders
pub no_memory : (why : Refusal) → why ≡ OutOfMemory → is_circumstance why ≡ false → ⊥
no_memory why memory not = true≢false (ap is_circumstance (sym memory) ∙ not)

module _ (id : Text) (attempt : ℕ) (more : Bytes) where
  -- the frames that are left to be taken behind the first ones
  pub record GoesOn (replies all : List FrameReply) (why : Option Refusal) (mid joined : Standing) : Type 0 where
    pub later : List FrameReply
    pub point : Standing
    pub all_is : all ≡ replies ++ later
    pub behind : IsBehind id attempt more mid point
    pub takes : TakesFrames id attempt later why point joined

  -- where a frame is taken of the one, something is taken of the other
  must_go_on : (why : Option Refusal) (short new long joined : Standing) (reply : FrameReply) → IsBehind id attempt more short long → TakesFrame id attempt reply short new
      → Rests id attempt why long joined → IsByEvents why → ⊥
  must_go_on None short new long joined reply behind one (inl ended) by =
      none_some (sym ended.over ∙ longer_waits id attempt more short long one.next.output behind one.next.waits)
  must_go_on None short new long joined reply behind one (inr none) by = taken_none id attempt more short long new joined reply behind one none
  must_go_on (Some why) short new long joined reply behind one (inl room) by = no_memory why room.memory by
  must_go_on (Some why) short new long joined reply behind one (inr refused) by = taken_refused id attempt more short long new joined reply why behind by one refused

  pub frames_join : (replies : List FrameReply) (short mid : Standing) → TakesEach id attempt replies short mid → (all : List FrameReply) (why : Option Refusal) (long joined : Standing)
      → IsBehind id attempt more short long → TakesFrames id attempt all why long joined → IsByEvents why → GoesOn replies all why mid joined
  frames_join [] short mid stays all why long joined behind takes by = record {
    later = all;
    point = long;
    all_is = refl;
    behind = behind_stays id attempt more short mid long stays behind;
    takes = takes;
  }
  frames_join (reply ∷ replies) short mid each [] why long joined behind takes by =
      absurd (must_go_on why short each.0 takes.between joined reply (stays_behind id attempt more short long takes.between takes.taken behind) each.1 takes.rests by)
  frames_join (reply ∷ replies) short mid each (answer ∷ answers) why long joined behind takes by =
      let same : (answer ≡ reply) × IsBehind id attempt more each.0 takes.taken.0 = taken_same id attempt more short long each.0 takes.taken.0 reply answer behind each.1 takes.taken.1 in
      let on : GoesOn replies answers why mid joined =
      frames_join replies each.0 mid each.2 answers why takes.taken.0 joined same.1 (record { between = takes.between; taken = takes.taken.2; rests = takes.rests }) by in
      record {
        later = on.later;
        point = on.point;
        all_is = ap₂ (λ (one : FrameReply) (some : List FrameReply). one ∷ some) same.0 on.all_is;
        behind = on.behind;
        takes = on.takes;
      }

  -- ---- nothing more is taken

  abbrev EndsSo : List FrameReply → (between joined : Standing) → Type 0
  EndsSo later between joined = (later ≡ []) × IsBehind id attempt more between joined

  -- of an attempt that is over
  pub ended_on : (mid between : Standing) → HasEnded id mid between → (later : List FrameReply) (last : Option Refusal) (point joined : Standing) → IsBehind id attempt more mid point
      → TakesFrames id attempt later last point joined → IsByEvents last → EndsSo later between joined
  ended_on mid between ended later last point joined behind takes by = by_later later takes.between takes.taken last takes.rests by
    where
      over : point.outputs id ≡ None
      over = behind.own ∙ ap (longer more) ended.over

      rest_so : (last : Option Refusal) (far : Standing) → StaysStanding point far → Rests id attempt last far joined → IsByEvents last → IsBehind id attempt more between joined
      rest_so None far stays (inl rest) by = stays_behind id attempt more between far joined rest.stays (stays_behind id attempt more between point far stays (behind_stays id attempt more mid between point ended.stays behind))
      rest_so None far stays (inr none) by = absurd (none_some (sym over ∙ sym (stays.outputs id) ∙ none.waits))
      rest_so (Some why) far stays (inl room) by = absurd (no_memory why room.memory by)
      rest_so (Some why) far stays (inr refused) by = absurd (none_some (sym over ∙ sym (stays.outputs id) ∙ refused.next.waits))

      by_later : (later : List FrameReply) (far : Standing) → TakesEach id attempt later point far → (last : Option Refusal) → Rests id attempt last far joined → IsByEvents last → EndsSo later between joined
      by_later [] far stays last rests by = (refl, rest_so last far stays rests by)
      by_later (reply ∷ later) far each last rests by = absurd (none_some (sym over ∙ each.1.next.waits))

  -- of one whose next frame is refused
  pub refused_on : (why : Refusal) (mid between : Standing) → RefusesFrame id attempt why mid between → is_circumstance why ≡ false → (later : List FrameReply) (last : Option Refusal)
      (point joined : Standing) → IsBehind id attempt more mid point → TakesFrames id attempt later last point joined → IsByEvents last → EndsSo later between joined
  refused_on why mid between refused not later last point joined behind takes by = by_later later takes.between takes.taken last takes.rests by
    where
      rest_so : (last : Option Refusal) (far : Standing) → IsBehind id attempt more mid far → Rests id attempt last far joined → IsByEvents last → IsBehind id attempt more between joined
      rest_so None far behind (inl ended) by = absurd (none_some (sym ended.over ∙ longer_waits id attempt more mid far refused.next.output behind refused.next.waits))
      rest_so None far behind (inr none) by = absurd (refused_none id attempt more mid far between joined why behind refused none)
      rest_so (Some other) far behind (inl room) by = absurd (no_memory other room.memory by)
      rest_so (Some other) far behind (inr too) by = refused_same id attempt more mid far between joined why other behind not by refused too

      by_later : (later : List FrameReply) (far : Standing) → TakesEach id attempt later point far → (last : Option Refusal) → Rests id attempt last far joined → IsByEvents last → EndsSo later between joined
      by_later [] far stays last rests by = (refl, rest_so last far (stays_behind id attempt more mid point far stays behind) rests by)
      by_later (reply ∷ later) far each last rests by = absurd (refused_taken id attempt more mid point between each.0 reply why behind not refused each.1)

-- ---- the same bytes

module _ (id : Text) (attempt : ℕ) where
  own_same : (o : Option Bytes) → longer [] o ≡ o
  own_same None = refl
  own_same (Some rest) = ap Some (append-nil rest)

  by_own : (new joined : Standing) → joined.events ≡ new.events → joined.outputs id ≡ new.outputs id → ((other : Text) → bytes_eq id other ≡ false → joined.outputs other ≡ new.outputs other) → StaysStanding new joined
  by_own new joined events own others = record { events = events; outputs = λ other. by_id other (bytes_eq id other) refl }
    where
      by_id : (other : Text) (b : Bool) → bytes_eq id other ≡ b → joined.outputs other ≡ new.outputs other
      by_id other true e = subst (λ (x : Text). joined.outputs x ≡ new.outputs x) ((bytes_eq-Decides id other).0 e) own
      by_id other false e = others other e

  -- with nothing more behind it is the same
  pub behind_nothing : (new joined : Standing) → IsBehind id attempt [] new joined → StaysStanding new joined
  behind_nothing new joined behind = by_own new joined behind.events (behind.own ∙ own_same (new.outputs id)) behind.others

  -- and so it is where nothing waits
  pub behind_none : (more : Bytes) (new joined : Standing) → new.outputs id ≡ None → IsBehind id attempt more new joined → StaysStanding new joined
  behind_none more new joined none behind = by_own new joined behind.events (behind.own ∙ ap (longer more) none ∙ sym none) behind.others

  -- where no whole frame waits of the one none waits of the other
  none_on : (mid between : Standing) → TakesNone id attempt mid between → (later : List FrameReply) (last : Option Refusal) (point joined : Standing) → IsBehind id attempt [] mid point
      → TakesFrames id attempt later last point joined → IsByEvents last → (later ≡ []) × IsBehind id attempt [] between joined
  none_on mid between none later last point joined behind takes by = by_later later takes.between takes.taken last takes.rests by
    where
      same_waits : (far : Standing) → IsBehind id attempt [] mid far → far.outputs id ≡ Some none.output
      same_waits far behind = longer_waits id attempt [] mid far none.output behind none.waits ∙ ap Some (append-nil none.output)

      not_whole : (far : Standing) (output : Bytes) → IsBehind id attempt [] mid far → far.outputs id ≡ Some output → item_at output ≡ None
      not_whole far output behind waits =
          ap item_at (some_is (sym waits ∙ same_waits far behind)) ∙ none.none
        where
          some_is : {a b : Bytes} → Some a ≡ Some b → a ≡ b
          some_is e = cc

      rest_so : (last : Option Refusal) (far : Standing) → IsBehind id attempt [] mid far → Rests id attempt last far joined → IsByEvents last → IsBehind id attempt [] between joined
      rest_so None far behind (inl ended) by = absurd (none_some (sym ended.over ∙ same_waits far behind))
      rest_so None far behind (inr too) by = stays_behind id attempt [] between far joined too.stays (behind_stays id attempt [] mid between far none.stays behind)
      rest_so (Some other) far behind (inl room) by = absurd (no_memory other room.memory by)
      rest_so (Some other) far behind (inr refused) by = absurd (none_some (sym (not_whole far refused.next.output behind refused.next.waits) ∙ refused.next.first))

      by_later : (later : List FrameReply) (far : Standing) → TakesEach id attempt later point far → (last : Option Refusal) → Rests id attempt last far joined → IsByEvents last
          → (later ≡ []) × IsBehind id attempt [] between joined
      by_later [] far stays last rests by = (refl, rest_so last far (stays_behind id attempt [] mid point far stays behind) rests by)
      by_later (reply ∷ later) far each last rests by = absurd (none_some (sym (not_whole point each.1.next.output behind each.1.next.waits) ∙ each.1.next.first))

  rests_same : (why : Option Refusal) (mid new : Standing) → Rests id attempt why mid new → IsByEvents why → (later : List FrameReply) (last : Option Refusal) (point joined : Standing)
      → IsBehind id attempt [] mid point → TakesFrames id attempt later last point joined → IsByEvents last → (later ≡ []) × IsBehind id attempt [] new joined
  rests_same None mid new (inl ended) by = ended_on id attempt [] mid new ended
  rests_same None mid new (inr none) by = none_on mid new none
  rests_same (Some why) mid new (inl room) by = absurd (no_memory why room.memory by)
  rests_same (Some why) mid new (inr refused) by = refused_on id attempt [] why mid new refused by

  -- of the same bytes the same is taken
  pub frames_same : (replies all : List FrameReply) (why last : Option Refusal) (short new long joined : Standing) → IsBehind id attempt [] short long → TakesFrames id attempt replies why short new
      → TakesFrames id attempt all last long joined → IsByEvents why → IsByEvents last → StaysStanding new joined × (all ≡ replies)
  frames_same replies all why last short new long joined behind one two by also =
      let on : GoesOn id attempt [] replies all last one.between joined = frames_join id attempt [] replies short one.between one.taken all last long joined behind two also in
      let end : (on.later ≡ []) × IsBehind id attempt [] new joined = rests_same why one.between new one.rests by on.later last on.point joined on.behind on.takes also in
      (behind_nothing new joined end.1, on.all_is ∙ ap (λ (some : List FrameReply). replies ++ some) end.0 ∙ append-nil replies)
