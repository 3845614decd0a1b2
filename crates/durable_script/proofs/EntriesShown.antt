-- What is shown of entries that fit are the entries themselves.
use Rattle.std.proofs.Common.{◌≡◌, ℕ, ◌+◌, List, [], ◌∷◌, ◌++◌, Result, Ok, refl, ap, ◌∙◌}
use Rattle.std.specs.List.{AllByRecursion, flat_map}
use Rattle.journal_model.specs.Notification.{Arrival as Brought}
use Rattle.journal_model.specs.Journal.{Entry, Recorded, Arrived, entries_of}
use Rattle.journal_model.specs.Attempt.{notification_type}
use Rattle.vm_input_laws.proofs.Arrivals.{decodes}
use Rattle.store_invocations.specs.JournalContent.{entry_told, told_from}
use Rattle.shown_records.specs.declared.entry.ShownEntry.{ShownEntry}
use Rattle.shown_records.specs.declared.entry.ShownEntry.TheVariants.{Arrival, Request}
use Rattle.shown_records.specs.Entries.{AreShown, IsShown, entry_text}
use Rattle.durable_script.specs.ShownEntries.{EntryFits, line_at, lines_from, EntriesAreShown}

same_ok : {A E : Type 0} (r : Result A E) (x y : A) → r ≡ Ok x → r ≡ Ok y → x ≡ y
same_ok r x y e f = cc

one_shown : (all : List Entry) (place : ℕ) (entry : Entry) (one : ShownEntry) → EntryFits entry → IsShown (entry_told all place entry) one → entry_text one ≡ line_at place entry
one_shown all place (Recorded request) (Request same) fits is = ap (λ e. entry_text (Request e)) is.1
one_shown all place (Recorded request) (Arrival at found) fits is = absurd cc
one_shown all place (Arrived arrival) (Request same) fits is = absurd cc
one_shown all place (Arrived arrival) (Arrival at found) fits is =
    let read = decodes (notification_type all arrival.id) arrival fits in
    let same = same_ok _ found arrival is.2.1 read.1 in
    ap (λ (n : ℕ). entry_text (Arrival n found)) is.1 ∙ ap (λ (a : Brought). entry_text (Arrival place a)) same

shown_from : (all : List Entry) (place : ℕ) (entries : List Entry) (shown : List ShownEntry) → AllByRecursion EntryFits entries → AreShown (told_from all place entries) shown
    → flat_map entry_text shown ≡ lines_from place entries
shown_from all place [] [] fits are = refl
shown_from all place (entry ∷ entries) (one ∷ shown) fits are =
    let first = one_shown all place entry one fits.0 are.0 in
    let rest = shown_from all (place + 1) entries shown fits.1 are.1 in
    λ i. first i ++ rest i
shown_from all place [] (one ∷ shown) fits are = absurd are
shown_from all place (entry ∷ entries) [] fits are = absurd are

pub entries_shown : EntriesAreShown
entries_shown events id shown fits are = shown_from (entries_of events id) 1 (entries_of events id) shown fits are
