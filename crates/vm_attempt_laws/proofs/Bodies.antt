-- The bodies of an attempt's runs, whatever its machine does but carry out calls.
use Rattle.std.proofs.Common.{◌≡◌, ◌⊎◌, inl, inr, ◌<◌, ℕ, List, [], ◌∷◌, Some, refl, sym, ap, subst}
use Rattle.std.specs.List.{AllByRecursion}
use Rattle.journal_model.specs.Value.{result_of_value}
use Rattle.body_laws.proofs.Steps.{bodies-handle}
use Rattle.vm_attempt_laws.specs.Attempts.{Attempt}
use Rattle.vm_attempt_laws.specs.Bodies.{ReplaysStay, NonEmptyValue, Executor, bodies_of, Among, BodiesStand, IsReplayed, KeepsBodies, IsNew, Runs}
use Rattle.vm_attempt_laws.specs.AttemptInvariants.{BodiesStay, InputsCome}
use Rattle.vm_attempt_laws.specs.InputOfAttempt.{IsArrival}
use Rattle.vm_attempt_laws.specs.Words.{Arrival, completion, arrivals_carried, CarriesArrival, CarriesInput, CarriesOutcome, CarriesRequest, Handler, InputMessage, IsInRun, AttemptInRun, Machine, next_slot, Progress, run, Step, Version, VMOptions, with_arrival, with_messages}

-- what is kept says nothing of the machine
pub keeps_with : (runs : Runs) (e : Executor) (m : Machine) → KeepsBodies runs e → KeepsBodies runs (record e { machine = m })
keeps_with runs e m keeps = record { left = keeps.left; executing = keeps.executing; cached = keeps.cached }

-- an attempt whose run was not asked has proposed nothing
none_before : (version : ℕ) (steps : List Step) (arrivals : List Arrival) (proposed : List (ℕ × NonEmptyValue)) (e : Executor) → BodiesStand version steps arrivals proposed e → steps ≡ [] → proposed ≡ []
none_before version steps arrivals [] e b is = refl
none_before version steps arrivals (one ∷ more) e b is =
    let (body, called, same) = b.proposed_called one.0 one.1 (inl refl) in absurd (subst (λ (some : List Step). Among body (bodies_of some)) is called)

none_of : (A : Type 0) (proposed : List A) (x : A) → proposed ≡ [] → Among x proposed → ⊥
none_of A proposed x none a = subst (Among x) none a

module _ (next : Handler) (live : AttemptInRun) (proposed : List (ℕ × NonEmptyValue)) (e : Executor) (x : IsReplayed next live proposed e) where
  pub none_asked : live.calls ≡ 0 → proposed ≡ []
  none_asked none =
      none_before live.start.given.version (run next live.start.given (arrivals_carried live.read) live.calls).steps (arrivals_carried live.read) proposed e x.bodies
      (ap (λ (calls : ℕ). (run next live.start.given (arrivals_carried live.read) calls).steps) none)

  -- an outcome that is cached was proposed, and so behind the journal
  pub cached_behind : (proposed ≡ []) ⊎ (live.machine.left ≡ []) → (n : ℕ) (value : NonEmptyValue) → e.cached n ≡ Some value → live.machine.left ≡ []
  cached_behind (inl none) n value cached = absurd (none_of (ℕ × NonEmptyValue) proposed (n, value) none (x.bodies.cached_alone n value cached).1)
  cached_behind (inr left) n value cached = left

  -- the next handle is that of no body
  pub next_is_new : (at : IsInRun next live.start.given live.read live.unread live.calls live.machine) → IsNew (next_slot live.machine) e
  next_is_new at body a =
      subst (λ (n : ℕ). body.handle < n) (sym at.stands.tables.next)
      (bodies-handle at.stands.steps body (subst (λ (p : Progress). Among body (bodies_of p.steps)) at.stands.going (elim a [ inl left ↦ x.bodies.called body left | inr executing ↦ x.bodies.executing_called body executing ])))

-- ---- what is kept stays

module _ {H : Type 0} (function : H → Handler) (next : Handler) (version : Version) (options : VMOptions) where
  pub bodies_stay : (before after : Attempt H) → after.vm.state.runs ≡ before.vm.state.runs → BodiesStay function next version options before after
  bodies_stay before after same live proposed b =
      record { executor = b.executor; lives = b.lives; keeps = subst (λ (runs : Runs). KeepsBodies runs b.executor) (sym same) b.keeps; behind = b.behind }

-- ---- what is to come

pub inputs_come : {H : Type 0} (function : H → Handler) (next : Handler) (version : Version) (options : VMOptions) → ReplaysStay → InputsCome function next version options
inputs_come function next version options stays live proposed a b =
    let on = stays next live proposed b.executor b.lives in record {
      brings = λ more coming behind comes. record { executor = b.executor; lives = on.brings more coming behind comes; keeps = b.keeps; behind = b.behind };
      is_handed = λ bytes rest parts. record { executor = b.executor; lives = on.is_handed bytes rest parts; keeps = b.keeps; behind = b.behind };
    }

-- ---- what is read

-- of arrivals none is to be matched
pub arrivals_left : (m : Machine) (messages : List InputMessage) → AllByRecursion IsArrival messages → (with_messages m messages).left ≡ m.left
arrivals_left m [] all = refl
arrivals_left m (CarriesInput new ∷ messages) all = absurd all.0
arrivals_left m (CarriesRequest request ∷ messages) all = absurd all.0
arrivals_left m (CarriesArrival type arrival ∷ messages) all = arrivals_left (with_arrival m arrival) messages all.1
arrivals_left m (CarriesOutcome number value ∷ messages) all = arrivals_left (with_arrival m (completion number (result_of_value value))) messages all.1
