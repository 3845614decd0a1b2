-- Events that are performed one after another, and what that leaves.
use Rattle.std.proofs.Common.{◌≡◌, refl, sym, ap, subst, ◌∙◌, ℕ, suc, arith, Bool, true, false, List, [], ◌∷◌, ◌++◌, Option, Some, None, Result, Ok, Err, inl, inr}
use Rattle.sqlite_trees.specs.declared.store.Store.{Ghosts}
use Rattle.sqlite.specs.Held.{state}
use Rattle.sqlite.specs.State.{HasCleanDisk}
use Rattle.journal_model.specs.Notification.{Text}
use Rattle.journal_model.specs.Run.{Handler}
use Rattle.vm_types.specs.declared.options.VMOptions.{VMOptions}
use Rattle.store_refusals.specs.declared.refusal.Refusal.TheVariants.{OutOfMemory}
use Rattle.store_calls.specs.AbstractStore.{Standing}
use Rattle.journal_store.specs.StoreStanding.{Endures}
use Rattle.journal_store.proofs.Enduring.{endures_on, same_endures}
use Rattle.schedule_model.specs.Attempts.{Turn}
use Rattle.schedule_model.specs.Executing.{Execution}
use Rattle.schedule_model.specs.declared.event.Event.{Event}
use Rattle.schedule_model.specs.declared.event.Event.TheVariants as event
use Rattle.schedule_model.specs.declared.event.Reply.{Reply}
use Rattle.schedule_model.specs.declared.event.Reply.TheVariants as reply
use Rattle.schedule_model.specs.declared.event.EventRefusal.{EventRefusal}
use Rattle.schedule_model.specs.declared.event.EventRefusal.TheVariants as refusal
use Rattle.schedule_model.specs.Schedule.{AppliesAll, Does, Scheduled}
use Rattle.scheduler.specs.declared.outcome.Outcome.{Outcome}
use Rattle.scheduler.specs.declared.scheduler.Scheduler.{Scheduler}
use Rattle.scheduler.specs.Loop.{all_bytes, Rest, Ends, UnlessRefused, Then, IfCopied, IsFedMore, IsWaiting, IsFedBehindBody, GoesOnBy, MakesTurns, IsFed, Stopping, AppliesBeginning, AsksFor, Continues, PerformsAll, PerformsOr, PerformsSome, TurnsAsking}
use Rattle.scheduler.specs.Outcomes.{brings_none, refusal_in}
use Rattle.scheduler.specs.SchedulerCalls.{AppliesWith, IsScheduled, Performs}
use Rattle.scheduler.proofs.Scheduling.{applied}

module _ {H S E : Type 0} (g : Ghosts S) (Executes : Execution E) (function : H → Handler) where
  -- ---- one more event in front

  -- none is performed
  pub ends : (told : Outcome) (old : Scheduler H S) (e : E) → PerformsSome g Executes function (Ends told) told old e old e
  ends told old e = record { events = []; replies = []; asked = (refl, refl, refl); performs = (refl, refl) }

  -- memory was refused for a copy
  pub not_copied : (More : Rest H) (why : EventRefusal) (old : Scheduler H S) (e : E) → why ≡ refusal.Store OutOfMemory → PerformsSome g Executes function (IfCopied More) (Outcome.Refused why) old e old e
  not_copied More why old e is = record { events = []; replies = []; asked = inr (refl, refl, ap (λ (w : EventRefusal). Outcome.Refused w) is); performs = (refl, refl) }

  -- or it was not
  pub copied : (More : Rest H) (told : Outcome) (a b : Scheduler H S) (e f : E) → PerformsSome g Executes function More told a e b f → PerformsSome g Executes function (IfCopied More) told a e b f
  copied More told a b e f did = record { events = did.events; replies = did.replies; asked = inl did.asked; performs = did.performs }

  module _ (one : Event H) (Behind : Reply → Rest H) (answer : Reply) where
    -- nothing is behind one that is refused
    pub refuses : (why : EventRefusal) (old new : Scheduler H S) (e f : E) → Performs g function one answer old new → AsksFor g Executes function one answer old e new f → refusal_in answer ≡ Some why
        → PerformsSome g Executes function (Then one Behind) (Outcome.Refused why) old e new f
    refuses why old new e f does asks is = record {
      events = one ∷ [];
      replies = answer ∷ [];
      asked = (refl, subst (λ (o : Option EventRefusal). UnlessRefused o (Behind answer) [] [] (Outcome.Refused why)) (sym is) (refl, refl, refl));
      performs = (new, f, does, asks, (refl, refl));
    }

    -- and behind another what its reply leads to
    pub goes_then : (told : Outcome) (a b c : Scheduler H S) (e d f : E) → Performs g function one answer a b → AsksFor g Executes function one answer a e b d → refusal_in answer ≡ None
        → PerformsSome g Executes function (Behind answer) told b d c f → PerformsSome g Executes function (Then one Behind) told a e c f
    goes_then told a b c e d f does asks none more = record {
      events = one ∷ more.events;
      replies = answer ∷ more.replies;
      asked = (refl, subst (λ (o : Option EventRefusal). UnlessRefused o (Behind answer) more.events more.replies told) (sym none) more.asked);
      performs = (b, d, does, asks, more.performs);
    }

  -- an event that asks nobody
  module _ {A : Type 0} (one : Event H) (Tells : Reply → A → Type 0) (silent : (answer : Reply) (a b : Scheduler H S) (e : E) → AsksFor g Executes function one answer a e b e) where
    pub or_refused : (Behind : Reply → Rest H) (why : EventRefusal) (old new : Scheduler H S) (e : E) → PerformsOr g function one Tells (Err why) old new
        → PerformsSome g Executes function (Then one Behind) (Outcome.Refused why) old e new e
    or_refused Behind why old new e (answer, is, does) = refuses one Behind answer why old new e e does (silent answer old new e) is

    pub or_done : (Behind : Reply → Rest H) (done : A) (told : Outcome) (a b c : Scheduler H S) (e f : E) → PerformsOr g function one Tells (Ok done) a b
        → ((answer : Reply) → Tells answer done → PerformsSome g Executes function (Behind answer) told b e c f) → PerformsSome g Executes function (Then one Behind) told a e c f
    or_done Behind done told a b c e f (answer, none, tells, does) more = goes_then one Behind answer told a b c e e f does (silent answer a b e) none (more answer tells)

    -- behind it something goes on, or is over
    pub then_continues : (Behind : ℕ → Rest H) (Next : Bool → ℕ → Rest H) (done : A) (result : Result Bool Outcome) (a b c : Scheduler H S) (e f : E) → PerformsOr g function one Tells (Ok done) a b
        → Continues g Executes function Behind Next result b e c f → Continues g Executes function (λ more. Then one (λ answer. Behind more)) Next result a e c f
    then_continues Behind Next done (Ok is_closed) a b c e f did on =
        λ more told last end rest. or_done (λ answer. Behind more) done told a b last e end did (λ answer tells. on more told last end rest)
    then_continues Behind Next done (Err told) a b c e f did over = λ more. or_done (λ answer. Behind more) done told a b c e f did (λ answer tells. over more)

  -- ---- an attempt

  module _ (id : Text) (n : ℕ) where
    abbrev Turning : Bool → ℕ → Rest H
    Turning is_closed more = MakesTurns id n more is_closed

    abbrev IsNone : Reply → Bool → Type 0
    IsNone answer is_none = is_none ≡ brings_none answer

    abbrev IsDone : Reply → Unit {0} → Type 0
    IsDone answer done = Unit {0}

    abbrev Feeding : Result Bool EventRefusal → Scheduler H S → Scheduler H S → Type 0
    Feeding result a b = PerformsOr g function (event.Feed id n all_bytes) IsNone result a b

    abbrev Closing : Result (Unit {0}) EventRefusal → Scheduler H S → Scheduler H S → Type 0
    Closing result a b = PerformsOr g function (event.Close id n) IsDone result a b

    abbrev Moving : Result (Unit {0}) EventRefusal → Scheduler H S → Scheduler H S → Type 0
    Moving result a b = PerformsOr g function (event.Move id n all_bytes) IsDone result a b

    -- ---- it waits, and nothing has come

    abbrev Closes : ℕ → Rest H
    Closes more = Then (event.Close id n) (λ answer. MakesTurns id n more true)

    pub closed : (done : Unit {0}) (a b : Scheduler H S) (e : E) → Closing (Ok done) a b → Continues g Executes function Closes Turning (Ok true) a e b e
    closed done a b e closes = λ more told last end rest.
        or_done (event.Close id n) IsDone (λ answer a b e. refl) (λ answer. MakesTurns id n more true) done told a b last e end closes (λ answer tells. rest)

    pub not_closed : (why : EventRefusal) (a b : Scheduler H S) (e : E) → Closing (Err why) a b → Continues g Executes function Closes Turning (Err (Outcome.Refused why)) a e b e
    not_closed why a b e closes = λ more. or_refused (event.Close id n) IsDone (λ answer a b e. refl) (λ answer. MakesTurns id n more true) why a b e closes

    module _ (is_none : Bool) where
      abbrev FedMore : ℕ → Rest H
      FedMore more = IsFedMore id n (MakesTurns id n more) is_none

      pub came : is_none ≡ false → (s : Scheduler H S) (e : E) → Continues g Executes function FedMore Turning (Ok false) s e s e
      came some s e = λ more told last end rest. subst (λ (x : Bool). PerformsSome g Executes function (IsFedMore id n (MakesTurns id n more) x) told s e last end) (sym some) rest

      pub came_none : is_none ≡ true → (result : Result Bool Outcome) (a b : Scheduler H S) (e f : E) → Continues g Executes function Closes Turning result a e b f
          → Continues g Executes function FedMore Turning result a e b f
      came_none none (Ok next) a b e f on = λ more told last end rest.
          subst (λ (x : Bool). PerformsSome g Executes function (IsFedMore id n (MakesTurns id n more) x) told a e last end) (sym none) (on more told last end rest)
      came_none none (Err told) a b e f over = λ more. subst (λ (x : Bool). PerformsSome g Executes function (IsFedMore id n (MakesTurns id n more) x) told a e b f) (sym none) (over more)

    module _ (is_closed : Bool) where
      abbrev Waiting : ℕ → Rest H
      Waiting more = IsWaiting id n (MakesTurns id n more) is_closed

      abbrev BehindBody : ℕ → Rest H
      BehindBody more = IsFedBehindBody id n (MakesTurns id n more) is_closed

      -- nothing more comes
      pub waits_over : is_closed ≡ true → (s : Scheduler H S) (e : E) → Continues g Executes function Waiting Turning (Err Outcome.Unfinished) s e s e
      waits_over is s e = λ more. subst (λ (x : Bool). PerformsSome g Executes function (IsWaiting id n (MakesTurns id n more) x) Outcome.Unfinished s e s e) (sym is) (ends Outcome.Unfinished s e)

      pub body_over : is_closed ≡ true → (s : Scheduler H S) (e : E) → Continues g Executes function BehindBody Turning (Ok true) s e s e
      body_over is s e = λ more told last end rest. subst (λ (x : Bool). PerformsSome g Executes function (IsFedBehindBody id n (MakesTurns id n more) x) told s e last end) (sym is) rest

      module _ (opened : is_closed ≡ false) where
        waiting : (more : ℕ) (told : Outcome) (a b : Scheduler H S) (e f : E)
            → PerformsSome g Executes function (Then (event.Feed id n all_bytes) (λ answer. IsFedMore id n (MakesTurns id n more) (brings_none answer))) told a e b f
            → PerformsSome g Executes function (Waiting more) told a e b f
        waiting more told a b e f did = subst (λ (x : Bool). PerformsSome g Executes function (IsWaiting id n (MakesTurns id n more) x) told a e b f) (sym opened) did

        pub waits_not_fed : (why : EventRefusal) (a b : Scheduler H S) (e : E) → Feeding (Err why) a b → Continues g Executes function Waiting Turning (Err (Outcome.Refused why)) a e b e
        waits_not_fed why a b e feeds = λ more. waiting more (Outcome.Refused why) a b e e
            (or_refused (event.Feed id n all_bytes) IsNone (λ answer a b e. refl) (λ answer. IsFedMore id n (MakesTurns id n more) (brings_none answer)) why a b e feeds)

        fed : (more : ℕ) (is_none : Bool) (told : Outcome) (a b c : Scheduler H S) (e f : E) → Feeding (Ok is_none) a b
            → PerformsSome g Executes function (IsFedMore id n (MakesTurns id n more) is_none) told b e c f → PerformsSome g Executes function (Waiting more) told a e c f
        fed more is_none told a b c e f feeds rest =
            waiting more told a c e f
            (or_done (event.Feed id n all_bytes) IsNone (λ answer a b e. refl) (λ answer. IsFedMore id n (MakesTurns id n more) (brings_none answer)) is_none told a b c e f feeds
            (λ answer is. subst (λ (x : Bool). PerformsSome g Executes function (IsFedMore id n (MakesTurns id n more) x) told b e c f) is rest))

        pub waits_fed : (is_none : Bool) (result : Result Bool Outcome) (a b c : Scheduler H S) (e f : E) → Feeding (Ok is_none) a b
            → Continues g Executes function (λ more. IsFedMore id n (MakesTurns id n more) is_none) Turning result b e c f → Continues g Executes function Waiting Turning result a e c f
        waits_fed is_none (Ok next) a b c e f feeds on = λ more told last end rest. fed more is_none told a b last e end feeds (on more told last end rest)
        waits_fed is_none (Err told) a b c e f feeds over = λ more. fed more is_none told a b c e f feeds (over more)

        behind_body : (more : ℕ) (told : Outcome) (a b : Scheduler H S) (e f : E) → PerformsSome g Executes function (Then (event.Feed id n all_bytes) (λ answer. MakesTurns id n more false)) told a e b f
            → PerformsSome g Executes function (BehindBody more) told a e b f
        behind_body more told a b e f did = subst (λ (x : Bool). PerformsSome g Executes function (IsFedBehindBody id n (MakesTurns id n more) x) told a e b f) (sym opened) did

        pub body_not_fed : (why : EventRefusal) (a b : Scheduler H S) (e : E) → Feeding (Err why) a b → Continues g Executes function BehindBody Turning (Err (Outcome.Refused why)) a e b e
        body_not_fed why a b e feeds = λ more.
            behind_body more (Outcome.Refused why) a b e e (or_refused (event.Feed id n all_bytes) IsNone (λ answer a b e. refl) (λ answer. MakesTurns id n more false) why a b e feeds)

        pub body_fed : (is_none : Bool) (a b : Scheduler H S) (e : E) → Feeding (Ok is_none) a b → Continues g Executes function BehindBody Turning (Ok false) a e b e
        body_fed is_none a b e feeds = λ more told last end rest.
            behind_body more told a last e end (or_done (event.Feed id n all_bytes) IsNone (λ answer a b e. refl) (λ answer. MakesTurns id n more false) is_none told a b last e end feeds (λ answer is. rest))

      -- ---- behind a turn

      abbrev By : Turn → ℕ → Rest H
      By turn more = GoesOnBy id n (MakesTurns id n more) is_closed turn

      abbrev MovedBy : Turn → ℕ → Rest H
      MovedBy turn more = Then (event.Move id n all_bytes) (λ answer. By turn more)

      pub moved : (turn : Turn) (done : Unit {0}) (result : Result Bool Outcome) (a b c : Scheduler H S) (e f : E) → Moving (Ok done) a b
          → Continues g Executes function (By turn) Turning result b e c f → Continues g Executes function (MovedBy turn) Turning result a e c f
      moved turn done result a b c e f moves on = then_continues (event.Move id n all_bytes) IsDone (λ answer a b e. refl) (By turn) Turning done result a b c e f moves on

      pub not_moved : (turn : Turn) (why : EventRefusal) (a b : Scheduler H S) (e : E) → Moving (Err why) a b → Continues g Executes function (MovedBy turn) Turning (Err (Outcome.Refused why)) a e b e
      not_moved turn why a b e moves = λ more. or_refused (event.Move id n all_bytes) IsDone (λ answer a b e. refl) (λ answer. By turn more) why a b e moves

      -- ---- a turn

      abbrev OneMore : ℕ → Rest H
      OneMore more = MakesTurns id n (suc more) is_closed

      turned_then : (turn : Turn) (more : ℕ) (told : Outcome) (a b c : Scheduler H S) (e d f : E) → TurnsAsking g Executes function id n (Ok turn) a e b d
          → PerformsSome g Executes function (MovedBy turn more) told b d c f → PerformsSome g Executes function (OneMore more) told a e c f
      turned_then turn more told a b c e d f turned rest = record {
        events = event.Turn id n turned.ran ∷ rest.events;
        replies = reply.Turned turn ∷ rest.replies;
        asked = (turned.ran, (refl, rest.asked));
        performs = (b, d, turned.performs, turned.asks, rest.performs);
      }

      pub turned_on : (turn : Turn) (result : Result Bool Outcome) (a b c : Scheduler H S) (e d f : E) → TurnsAsking g Executes function id n (Ok turn) a e b d
          → Continues g Executes function (MovedBy turn) Turning result b d c f → Continues g Executes function OneMore Turning result a e c f
      turned_on turn (Ok next) a b c e d f turned on = λ more told last end rest. turned_then turn more told a b last e d end turned (on more told last end rest)
      turned_on turn (Err told) a b c e d f turned over = λ more. turned_then turn more told a b c e d f turned (over more)

      pub not_turned : (why : EventRefusal) (a b : Scheduler H S) (e f : E) → TurnsAsking g Executes function id n (Err why) a e b f → Continues g Executes function OneMore Turning (Err (Outcome.Refused why)) a e b f
      not_turned why a b e f turned = λ more. record {
        events = event.Turn id n turned.ran ∷ [];
        replies = reply.Refused why ∷ [];
        asked = (turned.ran, (refl, (refl, refl, refl)));
        performs = (b, f, turned.performs, turned.asks, (refl, refl));
      }

    -- ---- all turns

    module _ (most : ℕ) where
      pub not_fed : (why : EventRefusal) (a b : Scheduler H S) (e : E) → Feeding (Err why) a b → PerformsSome g Executes function (IsFed id n most) (Outcome.Refused why) a e b e
      not_fed why a b e feeds = or_refused (event.Feed id n all_bytes) IsNone (λ answer a b e. refl) (λ answer. MakesTurns id n most false) why a b e feeds

      pub fed_on : (is_none : Bool) (told : Outcome) (a b c : Scheduler H S) (e f : E) → Feeding (Ok is_none) a b → PerformsSome g Executes function (MakesTurns id n most false) told b e c f
          → PerformsSome g Executes function (IsFed id n most) told a e c f
      fed_on is_none told a b c e f feeds rest =
          or_done (event.Feed id n all_bytes) IsNone (λ answer a b e. refl) (λ answer. MakesTurns id n most false) is_none told a b c e f feeds (λ answer is. rest)

    -- one more event behind others: a stop
    and_stop : (events : List (Event H)) (replies : List Reply) (answer : Reply) (a b c : Scheduler H S) (e f : E) → PerformsAll g Executes function events replies a e b f
        → Performs g function (event.Stop id n) answer b c → PerformsAll g Executes function (events ++ event.Stop id n ∷ []) (replies ++ answer ∷ []) a e c f
    and_stop [] [] answer a b c e f (same, asked) does = (c, f, subst (λ (s : Scheduler H S). Performs g function (event.Stop id n) answer s c) same does, asked, (refl, refl))
    and_stop [] (other ∷ replies) answer a b c e f did does = absurd did
    and_stop (first ∷ events) [] answer a b c e f did does = absurd did
    and_stop (first ∷ events) (other ∷ replies) answer a b c e f (m, d, done, asks, more) does = (m, d, done, asks, and_stop events replies answer m b c d f more does)

    pub stopped : (Going : Rest H) (answer : Reply) (told : Outcome) (a b c : Scheduler H S) (e f : E) → PerformsSome g Executes function Going told a e b f → Performs g function (event.Stop id n) answer b c
        → PerformsSome g Executes function (Stopping id n Going) told a e c f
    stopped Going answer told a b c e f did does = record {
      events = did.events ++ event.Stop id n ∷ [];
      replies = did.replies ++ answer ∷ [];
      asked = (did.events, did.replies, answer, refl, refl, did.asked);
      performs = and_stop did.events did.replies answer a b c e f did.performs does;
    }

  -- ---- what all of them leave

  clean_before : (events : List (Event H)) (replies : List Reply) (a b : Scheduler H S) (e f : E) → PerformsAll g Executes function events replies a e b f → HasCleanDisk (state g b.store.connection)
      → HasCleanDisk (state g a.store.connection)
  clean_before [] [] a b e f (same, asked) clean = subst (λ (s : Scheduler H S). HasCleanDisk (state g s.store.connection)) same clean
  clean_before (one ∷ events) (answer ∷ replies) a c e f (b, d, does, asks, more) clean =
      let early : HasCleanDisk (state g b.store.connection) = clean_before events replies b c d f more clean in
      omega (arith, does.crash.clean, early)
  clean_before [] (answer ∷ replies) a b e f none clean = absurd none
  clean_before (one ∷ events) [] a b e f none clean = absurd none

  -- they are applied to whatever the scheduler stood for
  pub all_applied : (events : List (Event H)) (replies : List Reply) (a b : Scheduler H S) (e f : E) → PerformsAll g Executes function events replies a e b f → HasCleanDisk (state g b.store.connection)
      → (from : Scheduled H) → IsScheduled g from a → (to : Scheduled H) × IsScheduled g to b × AppliesAll function a.options events replies from to
  all_applied [] [] a b e f (same, asked) clean from is = (from, subst (λ (s : Scheduler H S). IsScheduled g from s) (sym same) is, refl)
  all_applied (one ∷ events) (answer ∷ replies) a c e f (b, d, does, asks, more) clean from is =
      let first = applied g function a b one answer does.does (clean_before events replies b c d f more clean) from is in
      let rest = all_applied events replies b c d f more clean first.0 first.1 in
      (rest.0, rest.1, (first.0, first.2, subst (λ (o : VMOptions). AppliesAll function o events replies first.0 rest.0) does.options rest.2))
  all_applied [] (answer ∷ replies) a b e f none clean from is = absurd none
  all_applied (one ∷ events) [] a b e f none clean from is = absurd none

  pub all_options : (events : List (Event H)) (replies : List Reply) (a b : Scheduler H S) (e f : E) → PerformsAll g Executes function events replies a e b f → b.options ≡ a.options
  all_options [] [] a b e f (same, asked) = ap (λ (s : Scheduler H S). s.options) same
  all_options (one ∷ events) (answer ∷ replies) a c e f (b, d, does, asks, more) = all_options events replies b c d f more ∙ does.options
  all_options [] (answer ∷ replies) a b e f none = absurd none
  all_options (one ∷ events) [] a b e f none = absurd none

  -- the first one alone is the first of them
  pub one_first : (options : VMOptions) (one : Event H) (events : List (Event H)) (held : _) (s t : Standing) → AppliesWith function options one held s t → AppliesBeginning function options (one ∷ events) held s t
  one_first options one events held s t it = record {
    first = one ∷ [];
    rest = events;
    beginning = refl;
    answers = it.0 ∷ [];
    more = it.1;
    applies = (record { standing = t; held = it.1 }, it.2, refl);
  }

  -- a crash anywhere in them leaves what the first of them leave
  pub all_endure : (events : List (Event H)) (replies : List Reply) (a b : Scheduler H S) (e f : E) → PerformsAll g Executes function events replies a e b f
      → Endures g (AppliesBeginning function a.options events a.held) a.store b.store
  all_endure [] [] a b e f (same, asked) =
      subst (λ (s : Scheduler H S). Endures g (AppliesBeginning function a.options [] a.held) a.store s.store) (sym same) (same_endures g (AppliesBeginning function a.options [] a.held) a.store)
  all_endure (one ∷ events) (answer ∷ replies) a c e f (b, d, does, asks, more) =
      endures_on g (AppliesWith function a.options one a.held) (λ s m. Does function a.options one s a.held answer m b.held) (AppliesBeginning function b.options events b.held)
      (AppliesBeginning function a.options (one ∷ events) a.held) a.store b.store c.store (one_first a.options one events a.held)
      (λ s m t did rest. record {
        first = one ∷ rest.first;
        rest = rest.rest;
        beginning = ap (λ (es : List (Event H)). one ∷ es) rest.beginning;
        answers = answer ∷ rest.answers;
        more = rest.more;
        applies = (
          record { standing = m; held = b.held },
          did,
          subst (λ (o : VMOptions). AppliesAll function o rest.first rest.answers (record { standing = m; held = b.held }) (record { standing = t; held = rest.more })) does.options rest.applies,
        );
      })
      does.crash does.does (all_endure events replies b c d f more)
  all_endure [] (answer ∷ replies) a b e f none = absurd none
  all_endure (one ∷ events) [] a b e f none = absurd none
