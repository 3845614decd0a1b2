-- The machine stands to the run before its first call, and where one more arrival is read.
use Rattle.std.proofs.Common.{◌≡◌, refl, sym, ap, ◌∙◌, ℕ, ◌≤◌, arith, true, false, List, [], ◌∷◌, ◌++◌, append_assoc, append-nil, length, inr, map, Some}
use Rattle.journal_model.specs.Notification.{Arrival}
use Rattle.journal_model.specs.Request.{Request}
use Rattle.journal_model.specs.State.{StartState}
use Rattle.journal_model.specs.History.{Step, place_of, WithinPlaces}
use Rattle.journal_model.specs.Await.{awaited_ids, tracked_children}
use Rattle.journal_model.specs.Run.{Handler, Invocation, Progress, GoesOn, run, is_going}
use Rattle.journal_model.proofs.Extension as Extension
use Rattle.journal_model.proofs.Extension.{run-more, requests-more, is_awake_at-more, is_cancelled_at-more, all_known_at-more}
use Rattle.attempt_model.specs.Machine.{Machine, machine_at_start, with_arrival}
use Rattle.attempt_model.specs.Simulation.{Reached, here, ahead, cancelling, IsShown, Stands, ComesOnce, Fits}
use Rattle.attempt_laws.proofs.Tables.{within-more, comes, starts}

-- the machine stands at the beginning
pub begins : (handler : Handler) (given : Invocation) (start : StartState) (journal : List Request) (arrivals : List Arrival)
    → IsShown given.start journal start → Stands handler given journal arrivals 0 (machine_at_start start (map Some journal) arrivals)
begins handler given start journal arrivals shows = record {
  steps = [];
  place = 0;
  going = refl;
  tables = starts given.options arrivals;
  completions = refl;
  signals = refl;
  requests = record { left = journal; are_requests = refl; requests = sym (append-nil journal); replays = inr refl };
  start = shows;
  done = refl;
  children = refl;
  ids = refl;
  reached = here refl;
}

-- and where one more arrival is read
module _ (handler : Handler) (given : Invocation) (journal : List Request) (arrivals : List Arrival) (arrival : Arrival) (calls : ℕ) (m : Machine) where
  -- a run that goes on is the same over more arrivals
  pub goes_same : (steps : List Step) → run handler given arrivals calls ≡ record { steps = steps; ending = GoesOn } → run handler given (arrivals ++ arrival ∷ []) calls ≡ run handler given arrivals calls
  goes_same steps going = by_extends (run-more handler given arrivals (arrival ∷ []) calls).extends
    where
      by_extends : Extension.Extends (run handler given arrivals calls) (run handler given (arrivals ++ arrival ∷ []) calls)
          → run handler given (arrivals ++ arrival ∷ []) calls ≡ run handler given arrivals calls
      by_extends (Extension.same e) = e
      by_extends (Extension.further tree waits more e) =
          let wrong : false ≡ true = sym (ap is_going waits) ∙ ap (λ (p : Progress). is_going p.ending) going in
          cc

  pub reads_on : Stands handler given journal arrivals calls m → Stands handler given journal (arrivals ++ arrival ∷ []) calls (with_arrival m arrival)
  reads_on stands = record {
    steps = stands.steps;
    place = stands.place;
    going = goes_same stands.steps stands.going ∙ stands.going;
    tables = comes given.options stands.steps arrivals stands.place arrival m.queue m.ready m.slots stands.tables;
    completions = stands.completions;
    signals = stands.signals;
    requests = stands.requests;
    start = stands.start;
    done = stands.done;
    children = stands.children;
    ids = stands.ids;
    reached = by_reached stands.reached;
  }
    where
      within : WithinPlaces (length arrivals) stands.steps
      within = within-more stands.place (length arrivals) stands.tables.within stands.steps stands.tables.before

      by_reached : Reached handler given arrivals stands.steps stands.place → Reached handler given (arrivals ++ arrival ∷ []) stands.steps stands.place
      by_reached (here e) = here e
      by_reached (ahead tree is above before) = ahead tree is above (λ q low high.
          is_awake_at-more given.options stands.steps arrivals (arrival ∷ []) within (awaited_ids given.options stands.steps tree) (place_of stands.steps) q low
          (let top : stands.place ≤ length arrivals = stands.tables.within in omega (arith, high, top))
          ∙ before q low high)
      by_reached (cancelling tree is wakes above under awake before cancelled unknown) =
          let top : stands.place ≤ length arrivals = stands.tables.within in
          cancelling tree is wakes above under
          (is_awake_at-more given.options stands.steps arrivals (arrival ∷ []) within (awaited_ids given.options stands.steps tree) (place_of stands.steps) wakes above (omega (arith, under, top)) ∙ awake)
          (λ q low high. is_awake_at-more given.options stands.steps arrivals (arrival ∷ []) within (awaited_ids given.options stands.steps tree) (place_of stands.steps) q low (omega (arith, high, under, top)) ∙ before q low high)
          (is_cancelled_at-more given.options stands.steps arrivals (arrival ∷ []) within wakes (omega (arith, under, top)) ∙ cancelled)
          (λ q low high. all_known_at-more given.options stands.steps arrivals (arrival ∷ []) within (tracked_children given.options.implicit_cancellation stands.steps) q (omega (arith, high, top)) ∙ unknown q low high)

-- more arrivals fit too
pub fits_on : (handler : Handler) (given : Invocation) (journal : List Request) (arrivals later : List Arrival)
    → Fits handler given journal arrivals → ComesOnce handler given (arrivals ++ later) → Fits handler given journal (arrivals ++ later)
fits_on handler given journal arrivals later fits once =
    let (a, e) = fits.beginning in
    let (b, f) = requests-more handler given arrivals later fits.calls in
    record {
      calls = fits.calls;
      beginning = (a ++ b, sym (append_assoc journal a b) ∙ ap (λ (xs : List Request). xs ++ b) e ∙ f);
      queued = fits.queued;
      once = once;
    }
