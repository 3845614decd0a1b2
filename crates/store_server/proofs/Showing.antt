-- What is shown of an invocation, and of an object.
use Rattle.std.proofs.Common.{◌≡◌, ℕ, Bool, List, [], ◌∷◌, ◌++◌, map, Option, Result, Ok, Err, refl, sym, ap, subst, ◌∙◌, inl, inr}
use Rattle.std.specs.Prelude.{IfErr, IfOk, IsErrAnd, codes}
use Rattle.std.proofs.lemmas.Result.{IfErr-weaker, IfOk-weaker}
use Rattle.sqlite_trees.specs.declared.store.Store.{Ghosts}
use Rattle.journal_model.specs.Notification.{Text}
use Rattle.journal_model.specs.declared.value.NonEmptyValue.{NonEmptyValue}
use Rattle.journal_model.specs.Event.{Event}
use Rattle.journal_model.specs.Journal.{is_open, object_state}
use Rattle.journal_model.specs.Cause.{those_that_hold}
use Rattle.store_refusals.specs.declared.refusal.Refusal.{Refusal}
use Rattle.store_refusals.specs.RefusalConditions.{IsRefused}
use Rattle.store_tables.specs.declared.row.StateRow.{StateRow}
use Rattle.store_model.specs.KeptRecords.{state_row}
use Rattle.store_invocations.specs.Rows.{known_tests}
use Rattle.store_invocations.specs.declared.recorded.RecordedEntry.{RecordedEntry}
use Rattle.store_invocations.specs.JournalContent.{entries_told}
use Rattle.store_invocations.specs.InvocationAnswers.{answer_told}
use Rattle.journal_store.specs.StoreView.{Stored}
use Rattle.shown_records.specs.declared.entry.ShownEntry.{ShownEntry}
use Rattle.shown_records.specs.Entries.{AreShown, SomeUnread}
use Rattle.shown_records.specs.Invocation.{shown_text}
use Rattle.shown_records.specs.Rows.{rows_text}
use Rattle.shown_records.specs.ShownTexts.{HasEntries, HasRecords, IsKnown, RefusesShow, Shows, TellsState}
use Rattle.shown_records.proofs.Rows.{rows_shown}
use Rattle.store_server.specs.StoreChanges.{CommitsNothing, ReachesStore}
use Rattle.store_server.specs.RequestAnswers.{Shown, refusal_line}
use Rattle.store_server.proofs.Reaching.{reaches_both, reaches_so}

-- ---- what is told, question by question

abbrev pub KnownOpen : Text → Bool → List Event → Type 0
KnownOpen id now events = IsKnown id events × (now ≡ is_open events id)

abbrev pub KnownAnswer : Text → Option NonEmptyValue → List Event → Type 0
KnownAnswer id answer events = IsKnown id events × (answer ≡ answer_told events id)

abbrev pub KnownRecorded : Text → List RecordedEntry → List Event → Type 0
KnownRecorded id entries events = IsKnown id events × (entries ≡ entries_told events id)

abbrev pub Unknown : Text → Refusal → List Event → Type 0
Unknown id why events = IsRefused (those_that_hold (known_tests events id)) why

abbrev KnownBoth : Text → Bool → Option NonEmptyValue → List Event → Type 0
KnownBoth id now answer events = KnownOpen id now events × KnownAnswer id answer events

-- these are the values of the object
abbrev pub AreStates : Text → List StateRow → List Event → Type 0
AreStates object rows events = rows ≡ map (state_row object) (object_state events object)

-- what the exit of a `?` returns
pub refused_as : {T : Type 0} (result : Result T Refusal) (why : Refusal) → IsErrAnd result (λ refusal. refusal ≡ why) → (Holds : Refusal → Type 0) → Holds why → IfErr result Holds
refused_as (Ok told) why is Holds holds = tt
refused_as (Err refusal) why is Holds holds = subst Holds (sym is) holds

module _ {S : Type 0} (g : Ghosts S) where
  -- what is told is said in another way
  pub shown_so : (P Q : List Event → Type 0) (a b : Stored S) → ((events : List Event) → P events → Q events) → ReachesStore g CommitsNothing (Shown P) a b → ReachesStore g CommitsNothing (Shown Q) a b
  shown_so P Q a b so one = reaches_so g CommitsNothing CommitsNothing (Shown P) (Shown Q) a b (λ s t none. none) (λ s t p. (so s.events p.0, p.1)) one

  module _ (id : Text) (a b : Stored S) where
    -- a question is refused
    pub refused_so : (why : Refusal) → ReachesStore g CommitsNothing (Shown (Unknown id why)) a b → ReachesStore g CommitsNothing (Shown (RefusesShow id why)) a b
    refused_so why one = shown_so (Unknown id why) (RefusesShow id why) a b (λ events p. inl p) one

    -- what was told is read, or not
    module _ (entries : List RecordedEntry) (recorded : ReachesStore g CommitsNothing (Shown (KnownRecorded id entries)) a b) where
      pub entries_read : {T : Type 0} (items : T → List ShownEntry) (result : Result T Refusal) → IfOk result (λ shown. AreShown entries (items shown))
          → IfOk result (λ shown. ReachesStore g CommitsNothing (Shown (HasEntries id (items shown))) a b)
      entries_read items result =
          IfOk-weaker result (λ shown. AreShown entries (items shown)) (λ shown. ReachesStore g CommitsNothing (Shown (HasEntries id (items shown))) a b)
          (λ shown read. shown_so (KnownRecorded id entries) (HasEntries id (items shown)) a b
          (λ events p. (p.0, subst (λ (told : List RecordedEntry). AreShown told (items shown)) p.1 read)) recorded)

      pub entries_unread : {T : Type 0} (result : Result T Refusal) → IfErr result (SomeUnread entries) → IfErr result (λ why. ReachesStore g CommitsNothing (Shown (RefusesShow id why)) a b)
      entries_unread result =
          IfErr-weaker result (SomeUnread entries) (λ why. ReachesStore g CommitsNothing (Shown (RefusesShow id why)) a b)
          (λ why unread. shown_so (KnownRecorded id entries) (RefusesShow id why) a b
          (λ events p. inr (subst (λ (told : List RecordedEntry). SomeUnread told why) p.1 unread)) recorded)

    -- ---- as text

    pub records_printed : (entries : List ShownEntry) (answer : Option NonEmptyValue) (now : Bool) → ReachesStore g CommitsNothing (Shown (HasRecords id entries answer now)) a b
        → ReachesStore g CommitsNothing (Shown (Shows id (shown_text entries answer now))) a b
    records_printed entries answer now has =
        shown_so (HasRecords id entries answer now) (Shows id (shown_text entries answer now)) a b
        (λ events p. inl (record { known = p.known; entries = entries; entries_are = p.entries_are; text_is = λ i. shown_text entries (p.answer_is i) (p.is_open_is i) })) has

    pub refusal_printed : (refusal : Refusal) → ReachesStore g CommitsNothing (Shown (RefusesShow id refusal)) a b → ReachesStore g CommitsNothing (Shown (Shows id (refusal_line refusal))) a b
    refusal_printed refusal why =
        shown_so (RefusesShow id refusal) (Shows id (refusal_line refusal)) a b (λ events p. inr (record { refusal = refusal; cause = p; text_is = refl })) why

  module _ (object : Text) (a b : Stored S) where
    pub states_printed : (rows : List StateRow) → ReachesStore g CommitsNothing (Shown (AreStates object rows)) a b → ReachesStore g CommitsNothing (Shown (TellsState object (rows_text rows))) a b
    states_printed rows one =
        shown_so (AreStates object rows) (TellsState object (rows_text rows)) a b
        (λ events p. inl (ap rows_text p ∙ ap (λ (text : List ℕ). text ++ (codes "end" ++ 10 ∷ [])) (rows_shown object (object_state events object)))) one

    pub no_states_printed : (why : Refusal) → ReachesStore g CommitsNothing (Shown (λ events. IsRefused [] why)) a b → ReachesStore g CommitsNothing (Shown (TellsState object (refusal_line why))) a b
    no_states_printed why one = shown_so (λ events. IsRefused [] why) (TellsState object (refusal_line why)) a b (λ events p. inr (why, p, refl)) one

  module _ (id : Text) (a b c d : Stored S) where
    pub shown_all : (entries : List ShownEntry) (answer : Option NonEmptyValue) (now : Bool) → ReachesStore g CommitsNothing (Shown (KnownOpen id now)) a b
        → ReachesStore g CommitsNothing (Shown (KnownAnswer id answer)) b c → ReachesStore g CommitsNothing (Shown (HasEntries id entries)) c d
        → ReachesStore g CommitsNothing (Shown (HasRecords id entries answer now)) a d
    shown_all entries answer now one two three =
        reaches_both g (KnownBoth id now answer) (HasEntries id entries) (HasRecords id entries answer now) a c d
        (λ events p q. record { known = q.0; entries_are = q.1; answer_is = p.1.1; is_open_is = p.0.1 })
        (reaches_both g (KnownOpen id now) (KnownAnswer id answer) (KnownBoth id now answer) a b c (λ events p q. (p, q)) one two) three

    -- a later question is not answered
    pub unknown_second : (refusal : Refusal) (now : Bool) → ReachesStore g CommitsNothing (Shown (KnownOpen id now)) a b → ReachesStore g CommitsNothing (Shown (RefusesShow id refusal)) b c
        → ReachesStore g CommitsNothing (Shown (RefusesShow id refusal)) a c
    unknown_second refusal now one two = reaches_both g (KnownOpen id now) (RefusesShow id refusal) (RefusesShow id refusal) a b c (λ events p q. q) one two

    pub unknown_third : (refusal : Refusal) (now : Bool) (answer : Option NonEmptyValue) → ReachesStore g CommitsNothing (Shown (KnownOpen id now)) a b
        → ReachesStore g CommitsNothing (Shown (KnownAnswer id answer)) b c → ReachesStore g CommitsNothing (Shown (RefusesShow id refusal)) c d → ReachesStore g CommitsNothing (Shown (RefusesShow id refusal)) a d
    unknown_third refusal now answer one two three =
        reaches_both g (KnownBoth id now answer) (RefusesShow id refusal) (RefusesShow id refusal) a c d (λ events p q. q)
        (reaches_both g (KnownOpen id now) (KnownAnswer id answer) (KnownBoth id now answer) a b c (λ events p q. (p, q)) one two) three
