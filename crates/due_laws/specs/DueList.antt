-- The invocations that are due, from the ids of those that have the flag.
use Rattle.std.specs.Prelude.{◌≡◌, ⊤, IsTrue, List, [], ◌∷◌, map, filter, filter_map, bytes_eq, IsPermutation}
use Rattle.std.specs.List.{list_any}
use Rattle.std.specs.Ordering.{is_lt}
use Rattle.journal_model.specs.Notification.{Text}
use Rattle.journal_model.specs.State.{bytes_cmp}
use Rattle.journal_model.specs.declared.invocation.NewInvocation.{NewInvocation}
use Rattle.journal_model.specs.Event.{Event}
use Rattle.journal_model.specs.Journal.{invoked_by}
use Rattle.journal_model.specs.Attempt.{is_none, live_attempt, is_due, due}
use Rattle.journal_model.specs.Cause.{IsAccepted}
use Rattle.due_laws.specs.Awake.{is_awake_kept}

-- the ids of all invocations, the last one first
abbrev pub ids_begun : List Event → List Text
ids_begun events = map (λ (new : NewInvocation). new.id) (filter_map invoked_by events)

-- ids rise strictly, in byte order
abbrev pub DoRise : List Text → Type 0
DoRise [] = ⊤
DoRise (x ∷ []) = ⊤
DoRise (x ∷ y ∷ xs) = IsTrue (is_lt (bytes_cmp x y)) × DoRise (y ∷ xs)

-- these are the ids that have the flag, each once and in byte order
pub record AreAwake (events : List Event) (ids : List Text) : Type 0 where
  pub rise : DoRise ids
  pub those : (id : Text) → list_any (bytes_eq id) ids ≡ is_awake_kept events id

-- those of them without a live attempt are due
abbrev pub DueListed : Type 0
DueListed = (events : List Event) (ids : List Text) → IsAccepted events → AreAwake events ids → due events ≡ filter (λ id. is_none (live_attempt events id)) ids

-- an invocation is among these where it is due
abbrev pub DueTells : Type 0
DueTells = (events : List Event) (id : Text) → list_any (bytes_eq id) (due events) ≡ is_due events id

-- the invocations that have the flag, in byte order, are these
abbrev pub AwakeFound : Type 0
AwakeFound = (events : List Event) (ids : List Text) → DoRise ids → IsPermutation (filter (is_awake_kept events) (ids_begun events)) ids → AreAwake events ids
