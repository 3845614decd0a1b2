-- What is shown of an invocation.
use Rattle.std.proofs.Common.{◌≡◌, Bool, List, [], ◌∷◌, ◌++◌, Option, Result, Ok, Err, refl, sym, inl, inr, subst}
use Rattle.std.specs.Prelude.{IfErr, IfOk, IsErrAnd}
use Rattle.std.proofs.lemmas.Result.{IfErr-weaker, IfOk-weaker}
use Rattle.sqlite_trees.specs.declared.store.Store.{Ghosts}
use Rattle.sqlite.specs.Held.{state}
use Rattle.sqlite.specs.State.{HasCleanDisk}
use Rattle.built_in_handlers.specs.declared.built_in.BuiltIn.{BuiltIn}
use Rattle.journal_model.specs.Notification.{Text}
use Rattle.journal_model.specs.declared.value.NonEmptyValue.{NonEmptyValue}
use Rattle.journal_model.specs.Event.{Event}
use Rattle.journal_model.specs.Journal.{is_open}
use Rattle.store_refusals.specs.declared.refusal.Refusal.{Refusal}
use Rattle.store_refusals.specs.Names.{refusal_name_of}
use Rattle.store_refusals.specs.RefusalConditions.{IsRefused}
use Rattle.store_invocations.specs.Rows.{known_tests}
use Rattle.journal_model.specs.Cause.{those_that_hold}
use Rattle.store_invocations.specs.declared.recorded.RecordedEntry.{RecordedEntry}
use Rattle.store_invocations.specs.JournalContent.{entries_told}
use Rattle.store_invocations.specs.InvocationAnswers.{answer_told}
use Rattle.journal_store.specs.StoreStanding.{IsQuiet}
use Rattle.scheduler.specs.declared.scheduler.Scheduler.{Scheduler}
use Rattle.scheduler.specs.SchedulerCalls.{IsScheduled}
use Rattle.durable_schedule.specs.Schedules.{Scheduled}
use Rattle.script_lines.specs.Text.{refused_text}
use Rattle.shown_records.specs.declared.entry.ShownEntry.{ShownEntry}
use Rattle.shown_records.specs.Entries.{AreShown, SomeUnread}
use Rattle.shown_records.specs.Invocation.{shown_text}
use Rattle.durable_script.specs.SchedulerChanges.{Reaches, Nowhere}
use Rattle.durable_script.specs.ShowLines.{HasEntries, HasRecords, IsKnown, ShowsOnly, RefusesShow, Shows}
use Rattle.durable_script.proofs.SchedulerChanges.{reaches_both, reaches_so, reaches_told}

-- ---- what is told, question by question

abbrev pub KnownOpen : Text → Bool → List Event → Type 0
KnownOpen id now events = IsKnown id events × (now ≡ is_open events id)

abbrev pub KnownAnswer : Text → Option NonEmptyValue → List Event → Type 0
KnownAnswer id answer events = IsKnown id events × (answer ≡ answer_told events id)

abbrev pub KnownRecorded : Text → List RecordedEntry → List Event → Type 0
KnownRecorded id entries events = IsKnown id events × (entries ≡ entries_told events id)

abbrev pub Unknown : Text → Refusal → List Event → Type 0
Unknown id why events = IsRefused (those_that_hold (known_tests events id)) why

abbrev KnownBoth : Text → Bool → Option NonEmptyValue → List Event → Type 0
KnownBoth id now answer events = KnownOpen id now events × KnownAnswer id answer events

-- what a question is refused for is what is answered
pub refused_as : {T : Type 0} (result : Result T Refusal) (why : Refusal) → IsErrAnd result (λ refusal. refusal ≡ why) → (Holds : Refusal → Type 0) → Holds why → IfErr result Holds
refused_as (Ok told) why is Holds holds = tt
refused_as (Err refusal) why is Holds holds = subst Holds (sym is) holds

module _ {S : Type 0} (g : Ghosts S) (id : Text) (a b : Scheduler BuiltIn S) (quiet : IsQuiet g a.store b.store) (kept : b ≡ record a { store = b.store }) where
  -- a question is refused
  pub refused_so : (why : Refusal) → (HasCleanDisk (state g b.store.connection) → (s : Scheduled BuiltIn) → IsScheduled g s a → Unknown id why s.standing.events × IsScheduled g s b)
      → Reaches g Nowhere (ShowsOnly (RefusesShow id why)) a b
  refused_so why tells =
      reaches_so g Nowhere Nowhere (ShowsOnly (Unknown id why)) (ShowsOnly (RefusesShow id why)) a b (λ x y none. none) (λ x y p. (inl p.0, p.1)) (reaches_told g (Unknown id why) a b quiet tells kept)

  -- what was told is read, or not
  module _ (entries : List RecordedEntry)
      (tells : HasCleanDisk (state g b.store.connection) → (s : Scheduled BuiltIn) → IsScheduled g s a → KnownRecorded id entries s.standing.events × IsScheduled g s b) where
    recorded : Reaches g Nowhere (ShowsOnly (KnownRecorded id entries)) a b
    recorded = reaches_told g (KnownRecorded id entries) a b quiet tells kept

    pub entries_read : {T : Type 0} (items : T → List ShownEntry) (result : Result T Refusal) → IfOk result (λ shown. AreShown entries (items shown))
        → IfOk result (λ shown. Reaches g Nowhere (ShowsOnly (HasEntries id (items shown))) a b)
    entries_read items result =
        IfOk-weaker result (λ shown. AreShown entries (items shown)) (λ shown. Reaches g Nowhere (ShowsOnly (HasEntries id (items shown))) a b)
        (λ shown read. reaches_so g Nowhere Nowhere (ShowsOnly (KnownRecorded id entries)) (ShowsOnly (HasEntries id (items shown))) a b (λ x y none. none)
        (λ x y p. ((p.0.0, subst (λ (told : List RecordedEntry). AreShown told (items shown)) p.0.1 read), p.1)) recorded)

    pub entries_unread : {T : Type 0} (result : Result T Refusal) → IfErr result (SomeUnread entries) → IfErr result (λ why. Reaches g Nowhere (ShowsOnly (RefusesShow id why)) a b)
    entries_unread result =
        IfErr-weaker result (SomeUnread entries) (λ why. Reaches g Nowhere (ShowsOnly (RefusesShow id why)) a b)
        (λ why unread. reaches_so g Nowhere Nowhere (ShowsOnly (KnownRecorded id entries)) (ShowsOnly (RefusesShow id why)) a b (λ x y none. none)
        (λ x y p. (inr (subst (λ (told : List RecordedEntry). SomeUnread told why) p.0.1 unread), p.1)) recorded)

module _ {S : Type 0} (g : Ghosts S) (id : Text) (a b c d : Scheduler BuiltIn S) where
  pub shown_all : (entries : List ShownEntry) (answer : Option NonEmptyValue) (now : Bool) → Reaches g Nowhere (ShowsOnly (KnownOpen id now)) a b
      → Reaches g Nowhere (ShowsOnly (KnownAnswer id answer)) b c → Reaches g Nowhere (ShowsOnly (HasEntries id entries)) c d
      → Reaches g Nowhere (ShowsOnly (HasRecords id entries answer now)) a d
  shown_all entries answer now one two three =
      reaches_both g (KnownBoth id now answer) (HasEntries id entries) (HasRecords id entries answer now) a c d
      (λ events p q. record { known = q.0; entries_are = q.1; answer_is = p.1.1; is_open_is = p.0.1 })
      (reaches_both g (KnownOpen id now) (KnownAnswer id answer) (KnownBoth id now answer) a b c (λ events p q. (p, q)) one two) three

  -- a later question is not answered
  pub unknown_second : (refusal : Refusal) (now : Bool) → Reaches g Nowhere (ShowsOnly (KnownOpen id now)) a b → Reaches g Nowhere (ShowsOnly (RefusesShow id refusal)) b c
      → Reaches g Nowhere (ShowsOnly (RefusesShow id refusal)) a c
  unknown_second refusal now one two = reaches_both g (KnownOpen id now) (RefusesShow id refusal) (RefusesShow id refusal) a b c (λ events p q. q) one two

  pub unknown_third : (refusal : Refusal) (now : Bool) (answer : Option NonEmptyValue) → Reaches g Nowhere (ShowsOnly (KnownOpen id now)) a b
      → Reaches g Nowhere (ShowsOnly (KnownAnswer id answer)) b c → Reaches g Nowhere (ShowsOnly (RefusesShow id refusal)) c d → Reaches g Nowhere (ShowsOnly (RefusesShow id refusal)) a d
  unknown_third refusal now answer one two three =
      reaches_both g (KnownBoth id now answer) (RefusesShow id refusal) (RefusesShow id refusal) a c d (λ events p q. q)
      (reaches_both g (KnownOpen id now) (KnownAnswer id answer) (KnownBoth id now answer) a b c (λ events p q. (p, q)) one two) three

-- ---- as text

module _ {S : Type 0} (g : Ghosts S) (id : Text) (old new : Scheduler BuiltIn S) where
  pub records_printed : (entries : List ShownEntry) (answer : Option NonEmptyValue) (now : Bool) → Reaches g Nowhere (ShowsOnly (HasRecords id entries answer now)) old new
      → Reaches g Nowhere (ShowsOnly (Shows id (shown_text entries answer now))) old new
  records_printed entries answer now has =
      reaches_so g Nowhere Nowhere (ShowsOnly (HasRecords id entries answer now)) (ShowsOnly (Shows id (shown_text entries answer now))) old new (λ x y none. none)
      (λ x y p. (
        inl (record { known = p.0.known; entries = entries; entries_are = p.0.entries_are; text_is = λ i. shown_text entries (p.0.answer_is i) (p.0.is_open_is i) }),
        p.1,
      )) has

  pub refusal_printed : (refusal : Refusal) → Reaches g Nowhere (ShowsOnly (RefusesShow id refusal)) old new → Reaches g Nowhere (ShowsOnly (Shows id (refused_text (refusal_name_of refusal) ++ 10 ∷ []))) old new
  refusal_printed refusal why =
      reaches_so g Nowhere Nowhere (ShowsOnly (RefusesShow id refusal)) (ShowsOnly (Shows id (refused_text (refusal_name_of refusal) ++ 10 ∷ []))) old new (λ x y none. none)
      (λ x y p. (inr (record { refusal = refusal; cause = p.0; text_is = refl }), p.1)) why
