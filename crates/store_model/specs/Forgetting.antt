-- The records without the rows of invocations that are forgotten.
use Rattle.std.specs.Prelude.{not, List, [], ◌∷◌, filter, bytes_eq}
use Rattle.journal_model.specs.Notification.{Text}
use Rattle.journal_model.specs.Event.{Event}
use Rattle.journal_laws.specs.Forgetting.{without_all}
use Rattle.store_tables.specs.Records.{Records}
use Rattle.store_model.specs.KeptRecords.{IsKept}

-- its own row goes, and those of its entries and its sleeps; the rows of its object's state stay
abbrev pub forgotten : Text → Records → Records
forgotten id r = record r {
  invocations = filter (λ i. not (bytes_eq i.id id)) r.invocations;
  entries = filter (λ e. not (bytes_eq e.invocation id)) r.entries;
  sleeps = filter (λ s. not (bytes_eq s.invocation id)) r.sleeps;
}

abbrev pub forgotten_all : List Text → Records → Records
forgotten_all [] r = r
forgotten_all (id ∷ ids) r = forgotten_all ids (forgotten id r)

-- what is kept of the events, without these rows, is what is kept of the events without these invocations
abbrev pub KeptWithout : Type 0
KeptWithout = (events : List Event) (ids : List Text) (r : Records) → IsKept events r → IsKept (without_all ids events) (forgotten_all ids r)
