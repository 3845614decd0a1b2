-- Lines are a schedule, so each invocation is in the run of the handler that they name.
use Rattle.std.proofs.Common.{◌≡◌, ℕ, suc, zero, ◌+◌, true, Option, IsSome, List, [], ◌∷◌, ◌++◌, append_assoc, append-nil, length, length-append, arith, refl, sym, ap, subst, ◌∙◌, inl, inr}
use Rattle.std.specs.List.{AllByRecursion}
use Rattle.built_in_handlers.specs.declared.built_in.BuiltIn.{BuiltIn}
use Rattle.built_in_handlers.specs.BuiltIn.{function_of}
use Rattle.journal_model.specs.Notification.{Text}
use Rattle.journal_model.specs.Run.{Handler}
use Rattle.vm_types.specs.Options.{default_options}
use Rattle.durable_schedule.proofs.Running.{each_more}
use Rattle.durable_schedule.proofs.Schedules.{schedules_grow}
use Rattle.schedule_laws.specs.Laws.{LeavesHolds}
use Rattle.schedule_laws.specs.InvocationInRun.{ReplaysInLine}
use Rattle.durable_schedule.specs.Schedules.event
use Rattle.durable_schedule.specs.Schedules.{FitsEvent, Event, Reply, Scheduled, AppliesAll, Brings}
use Rattle.script_lines.specs.declared.line.Line.{Line}
use Rattle.script_lines.specs.declared.line.Line.TheVariants.{Invoke, Result, Signal, Cancel, Tick, Begin, Feed, Close, Turn, Move, Stop, Due, Show, State}
use Rattle.script_lines.specs.declared.outcome.LineOutcome.{LineOutcome}
use Rattle.durable_script.specs.Line.{brought, new_invocation, goes_on, turn_event, AppliesOne, TurnsGoOn, EndsTurns, AreTurns, AreOfLine, DoesEvent, DoesLine}
use Rattle.durable_script.specs.ReplyTexts.{printed, refused_memory}
use Rattle.durable_script.specs.Run.{DoneLine, AllBring, AreFirst, AreOfLines, DoesAll, DoesFirst, LinesFollow}

-- ---- events one after another

-- Some events lead from the one to the other, they are such events with such replies, and their begins bring what is brought.
pub record IsSchedule (AreOf : List (Event BuiltIn) → List Reply → Type 0) (AreBrought : Text → Handler → Type 0) (start end : Scheduled BuiltIn) : Type 0 where
  pub events : List (Event BuiltIn)
  pub replies : List Reply
  pub are : AreOf events replies
  pub applies : AppliesAll function_of default_options events replies start end
  pub fits : AllByRecursion FitsEvent events
  pub brings : (id : Text) (next : Handler) → AreBrought id next → AllByRecursion (Brings function_of id next) events

module _ (AreOf AreMore : List (Event BuiltIn) → List Reply → Type 0) (AreBrought BringMore : Text → Handler → Type 0) (told : (id : Text) (next : Handler) → BringMore id next → AreBrought id next)
    (start old new : Scheduled BuiltIn) (s : IsSchedule AreOf AreBrought start old) where
  -- one more event
  event_more : (one : Event BuiltIn) (answer : Reply) → AreMore (s.events ++ one ∷ []) (s.replies ++ answer ∷ [])
      → ((id : Text) (next : Handler) → BringMore id next → Brings function_of id next one) → AppliesOne one answer old new → IsSchedule AreMore BringMore start new
  event_more one answer are brings it = record {
    events = s.events ++ one ∷ [];
    replies = s.replies ++ answer ∷ [];
    are = are;
    applies = schedules_grow function_of default_options s.events s.replies start old new one answer s.applies it.applied;
    fits = each_more FitsEvent s.events one s.fits it.fits;
    brings = λ id next all. each_more (Brings function_of id next) s.events one (s.brings id next (told id next all)) (brings id next all);
  }

  -- no event more
  none_more : AreMore s.events s.replies → new ≡ old → IsSchedule AreMore BringMore start new
  none_more are same = record {
    events = s.events;
    replies = s.replies;
    are = are;
    applies = subst (λ (end : Scheduled BuiltIn). AppliesAll function_of default_options s.events s.replies start end) (sym same) s.applies;
    fits = s.fits;
    brings = λ id next all. s.brings id next (told id next all);
  }

-- ---- of lines

-- some events lead from the one to the other, they are those of the lines, and their begins bring what these name
abbrev pub IsOfLines : List DoneLine → Scheduled BuiltIn → Scheduled BuiltIn → Type 0
IsOfLines done start end = IsSchedule (AreOfLines done) (λ id next. AllBring id next done) start end

-- so many turns of an attempt behind the events of these lines, behind each of which there is another to make
record TurnsBehind (before : List DoneLine) (id : Text) (n : ℕ) (outcome : Option LineOutcome) (turns : ℕ) (events : List (Event BuiltIn)) (replies : List Reply) : Type 0 where
  first : List (Event BuiltIn)
  own : List (Event BuiltIn)
  told : List Reply
  answers : List Reply
  events_are : events ≡ first ++ own
  replies_are : replies ≡ told ++ answers
  of_lines : AreOfLines before first told
  are_turns : AllByRecursion (λ one. one ≡ turn_event id n outcome) own
  gone_on : AllByRecursion (λ answer. goes_on answer ≡ true) answers
  as_many : length own ≡ turns
  so_many : length answers ≡ turns

module _ (before : List DoneLine) (number : ℕ) (text : List ℕ) where
  -- a line of its kind behind those before
  abbrev done_line : Line → DoneLine
  done_line line = record { number = number; line = line; text = text }

  module _ (id : Text) (n : ℕ) (outcome : Option LineOutcome) (turns : ℕ) (events : List (Event BuiltIn)) (replies : List Reply) (it : TurnsBehind before id n outcome turns events replies) where
    -- a turn with this outcome
    abbrev turn : Event BuiltIn
    turn = turn_event id n outcome

    -- one more behind these
    more_events : events ++ turn ∷ [] ≡ it.first ++ (it.own ++ turn ∷ [])
    more_events = ap (λ (es : List (Event BuiltIn)). es ++ turn ∷ []) it.events_are ∙ append_assoc it.first it.own (turn ∷ [])

    more_replies : (answer : Reply) → replies ++ answer ∷ [] ≡ it.told ++ (it.answers ++ answer ∷ [])
    more_replies answer = ap (λ (rs : List Reply). rs ++ answer ∷ []) it.replies_are ∙ append_assoc it.told it.answers (answer ∷ [])

    more_turns : AllByRecursion (λ one. one ≡ turn) (it.own ++ turn ∷ [])
    more_turns = each_more (λ (one : Event BuiltIn). one ≡ turn) it.own turn it.are_turns refl

    -- one behind which there is another
    turn_more : (answer : Reply) → goes_on answer ≡ true → TurnsBehind before id n outcome (suc turns) (events ++ turn ∷ []) (replies ++ answer ∷ [])
    turn_more answer was = record {
      first = it.first;
      own = it.own ++ turn ∷ [];
      told = it.told;
      answers = it.answers ++ answer ∷ [];
      events_are = more_events;
      replies_are = more_replies answer;
      of_lines = it.of_lines;
      are_turns = more_turns;
      gone_on = each_more (λ (one : Reply). goes_on one ≡ true) it.answers answer it.gone_on was;
      as_many = omega (arith, it.as_many, length-append it.own (turn ∷ []));
      so_many = omega (arith, it.so_many, length-append it.answers (answer ∷ []));
    }

    -- the turns of a line
    are_of_line : (taken : ℕ) (last : Reply) (own : List (Event BuiltIn)) (answers : List Reply) → taken ≡ turns + 1 → text ≡ printed taken last ++ 10 ∷ []
        → AllByRecursion (λ one. one ≡ turn) own → length own ≡ length answers → EndsTurns outcome it.answers last answers → AreTurns id n outcome text own answers
    are_of_line taken last own answers taken_are text_is are as_many ends = record {
      turns = are;
      as_many = as_many;
      before = it.answers;
      last = last;
      ends = ends;
      gone_on = it.gone_on;
      text_is = let many : taken ≡ length it.answers + 1 = omega (arith, it.so_many, taken_are) in text_is ∙ ap (λ (k : ℕ). printed k last ++ 10 ∷ []) many;
    }

  module _ (id : Text) (n count : ℕ) (outcome : Option LineOutcome) where
    -- the line of turns
    abbrev turn_line : Line
    turn_line = Turn id n count outcome

    module _ (turns taken : ℕ) (last : Reply) (taken_are : taken ≡ turns + 1) (text_is : text ≡ printed taken last ++ 10 ∷ []) (events : List (Event BuiltIn)) (replies : List Reply)
        (it : TurnsBehind before id n outcome turns events replies) where
      -- the last one
      turn_last : AreOfLines (done_line turn_line ∷ before) (events ++ turn_event id n outcome ∷ []) (replies ++ last ∷ [])
      turn_last = (
        it.first,
        it.own ++ turn_event id n outcome ∷ [],
        it.told,
        it.answers ++ last ∷ [],
        more_events id n outcome turns events replies it,
        more_replies id n outcome turns events replies it last,
        it.of_lines,
        are_of_line id n outcome turns events replies it taken last (it.own ++ turn_event id n outcome ∷ []) (it.answers ++ last ∷ []) taken_are text_is (more_turns id n outcome turns events replies it)
            (omega (arith, it.as_many, it.so_many, length-append it.own (turn_event id n outcome ∷ []), length-append it.answers (last ∷ []))) (inl refl),
      )

      -- none behind these, since memory was refused
      turn_refused : IsSome outcome → last ≡ refused_memory → AreOfLines (done_line turn_line ∷ before) events replies
      turn_refused given is = (
        it.first,
        it.own,
        it.told,
        it.answers,
        it.events_are,
        it.replies_are,
        it.of_lines,
        are_of_line id n outcome turns events replies it taken last it.own it.answers taken_are text_is it.are_turns (it.as_many ∙ sym it.so_many) (inr (given, refl, is)),
      )

  turns_more : (AreBrought : Text → Handler → Type 0) (id : Text) (n : ℕ) (outcome : Option LineOutcome) (turns : ℕ) (start old new : Scheduled BuiltIn) → TurnsGoOn id n outcome turns old new
      → IsSchedule (TurnsBehind before id n outcome zero) AreBrought start old → IsSchedule (TurnsBehind before id n outcome turns) AreBrought start new
  turns_more AreBrought id n outcome zero start old new t s =
      none_more (TurnsBehind before id n outcome zero) (TurnsBehind before id n outcome zero) AreBrought AreBrought (λ id next all. all) start old new s s.are t
  turns_more AreBrought id n outcome (suc turns) start old new t s =
      let rest = turns_more AreBrought id n outcome turns start old t.0 t.1 s in
      let one = t.2 in
      event_more (TurnsBehind before id n outcome turns) (TurnsBehind before id n outcome (suc turns)) AreBrought AreBrought (λ id next all. all) start t.0 new rest (turn_event id n outcome) one.answer
      (turn_more id n outcome turns rest.events rest.replies rest.are one.answer one.another) (λ id next all. tt) one.applies

  module _ (start old new : Scheduled BuiltIn) (s : IsOfLines before start old) where
    -- what a line brings behind those before
    abbrev Brought : Line → Text → Handler → Type 0
    Brought line id next = AllBring id next (done_line line ∷ before)

    -- a line that is one event, with the reply that it prints
    one_more : (line : Line) (one : Event BuiltIn) (d : DoesEvent one text old new) → AreOfLine line text (one ∷ []) (d.reply ∷ [])
        → ((id : Text) (next : Handler) → Brought line id next → Brings function_of id next one) → IsOfLines (done_line line ∷ before) start new
    one_more line one d of_line brings =
        event_more (AreOfLines before) (AreOfLines (done_line line ∷ before)) (λ id next. AllBring id next before) (Brought line) (λ id next all. all.0) start old new s one d.reply
        (s.events, one ∷ [], s.replies, d.reply ∷ [], refl, refl, s.are, of_line) brings d.applies

    -- and begins nothing
    plain_more : (line : Line) (one : Event BuiltIn) (d : DoesEvent one text old new) → AreOfLine line text (one ∷ []) (d.reply ∷ []) → ((id : Text) (next : Handler) → Brings function_of id next one)
        → IsOfLines (done_line line ∷ before) start new
    plain_more line one d of_line none = one_more line one d of_line (λ id next all. none id next)

    no_turn : (id : Text) (n count : ℕ) (outcome : Option LineOutcome) → IsSchedule (TurnsBehind before id n outcome zero) (Brought (Turn id n count outcome)) start old
    no_turn id n count outcome =
        none_more (AreOfLines before) (TurnsBehind before id n outcome zero) (λ id next. AllBring id next before) (Brought (Turn id n count outcome)) (λ id next all. all.0) start old old s
        (record {
          first = s.events;
          own = [];
          told = s.replies;
          answers = [];
          events_are = sym (append-nil s.events);
          replies_are = sym (append-nil s.replies);
          of_lines = s.are;
          are_turns = tt;
          gone_on = tt;
          as_many = refl;
          so_many = refl;
        }) refl

    line_more : (line : Line) → DoesLine line text old new → IsOfLines (done_line line ∷ before) start new
    line_more (Invoke id object version state seed input) d =
        plain_more (Invoke id object version state seed input) (event.Invoke (new_invocation id object version state seed input)) d
        (event.Invoke (new_invocation id object version state seed input), d.reply, refl, refl, refl, d.text_is) (λ id next. tt)
    line_more (Result id completion value) d = plain_more (Result id completion value) (event.Result id completion (brought value)) d (event.Result id completion (brought value), d.reply, refl, refl, refl, d.text_is) (λ id next. tt)
    line_more (Signal id target value) d =
        plain_more (Signal id target value) (event.Signal id target (brought value)) d
        (event.Signal id target (brought value), d.reply, refl, refl, refl, d.text_is) (λ id next. tt)
    line_more (Cancel id) d = plain_more (Cancel id) (event.Cancel id) d (event.Cancel id, d.reply, refl, refl, refl, d.text_is) (λ id next. tt)
    line_more (Tick now) d = plain_more (Tick now) (event.Tick now) d (event.Tick now, d.reply, refl, refl, refl, d.text_is) (λ id next. tt)
    line_more (Begin id name now) d =
        one_more (Begin id name now) (event.Begin id d.0 now) d.2 (event.Begin id d.0 now, d.2.reply, (d.0, d.1, refl), refl, refl, d.2.text_is) (λ want next all is. all.1 is d.0 d.1)
    line_more (Feed id n count) d = plain_more (Feed id n count) (event.Feed id n count) d (event.Feed id n count, d.reply, refl, refl, refl, d.text_is) (λ id next. tt)
    line_more (Close id n) d = plain_more (Close id n) (event.Close id n) d (event.Close id n, d.reply, refl, refl, refl, d.text_is) (λ id next. tt)
    line_more (Turn id n count outcome) d =
        let line = Turn id n count outcome in
        let rest = turns_more (Brought line) id n outcome d.took.before start old d.took.between d.took.gone_on (no_turn id n count outcome) in
        elim d.took.takes [
          | inl applies ↦
              event_more (TurnsBehind before id n outcome d.took.before) (AreOfLines (done_line line ∷ before)) (Brought line) (Brought line) (λ id next all. all)
              start d.took.between new rest (turn_event id n outcome) d.last
              (turn_last id n count outcome d.took.before d.taken d.last d.took.taken_are d.text_is rest.events rest.replies rest.are) (λ id next all. tt) applies
          | inr none ↦
              none_more (TurnsBehind before id n outcome d.took.before) (AreOfLines (done_line line ∷ before)) (Brought line) (Brought line) (λ id next all. all)
              start d.took.between new rest
              (turn_refused id n count outcome d.took.before d.taken d.last d.took.taken_are d.text_is rest.events rest.replies rest.are none.0 none.1) none.2
        ]
    line_more (Move id n count) d = plain_more (Move id n count) (event.Move id n count) d (event.Move id n count, d.reply, refl, refl, refl, d.text_is) (λ id next. tt)
    line_more (Stop id n) d = plain_more (Stop id n) (event.Stop id n) d (event.Stop id n, d.reply, refl, refl, refl, d.text_is) (λ id next. tt)
    line_more Due d =
        none_more (AreOfLines before) (AreOfLines (done_line Due ∷ before)) (λ id next. AllBring id next before) (Brought Due) (λ id next all. all.0) start old new s
        (s.events, [], s.replies, [], sym (append-nil s.events), sym (append-nil s.replies), s.are, (refl, refl)) d.1
    line_more (Show id) d =
        none_more (AreOfLines before) (AreOfLines (done_line (Show id) ∷ before)) (λ id next. AllBring id next before) (Brought (Show id)) (λ id next all. all.0) start old new s
        (s.events, [], s.replies, [], sym (append-nil s.events), sym (append-nil s.replies), s.are, (refl, refl)) d.1
    line_more (State object) d =
        none_more (AreOfLines before) (AreOfLines (done_line (State object) ∷ before)) (λ id next. AllBring id next before) (Brought (State object)) (λ id next all. all.0) start old new s
        (s.events, [], s.replies, [], sym (append-nil s.events), sym (append-nil s.replies), s.are, (refl, refl)) d.1

pub lines_are : (done : List DoneLine) (start end : Scheduled BuiltIn) → DoesAll done start end → IsOfLines done start end
lines_are [] start end d = record { events = []; replies = []; are = (refl, refl); applies = d; fits = tt; brings = λ id next told. tt }
lines_are (one ∷ before) start end d = line_more before one.number one.text start d.0 end (lines_are before start d.0 d.1) one.line d.2

-- ---- what lines leave

-- the journal is replayed, and signals wait in line
in_line : ReplaysInLine default_options
in_line = record { replays = refl; queued = refl }

pub follow_lines : LeavesHolds function_of → LinesFollow
follow_lines law start end done none does id next bring holds =
    let s = lines_are done start end does in
    law default_options s.events s.replies start end none s.applies s.fits next id in_line (s.brings id next bring) holds

-- ---- where a crash comes into them

-- some of the lines were done
pub record IsCut (done : List DoneLine) (start end : Scheduled BuiltIn) : Type 0 where
  pub first : List DoneLine
  pub are_first : AreFirst first done
  pub does : DoesAll first start end
  pub brings : (id : Text) (next : Handler) → AllBring id next done → AllBring id next first

pub cut_of : (done : List DoneLine) (start end : Scheduled BuiltIn) → DoesFirst done start end → IsCut done start end
cut_of [] start end d = absurd d
cut_of (one ∷ before) start end d = elim d [
  | inl earlier ↦
      let cut = cut_of before start end earlier in
      record { first = cut.first; are_first = inl cut.are_first; does = cut.does; brings = λ id next all. cut.brings id next all.0 }
  | inr last ↦ record {
    first = record { number = one.number; line = one.line; text = last.2.0 } ∷ before;
    are_first = inr (last.2.0, refl);
    does = (last.0, last.1, last.2.1);
    brings = λ id next all. all;
  }
]
