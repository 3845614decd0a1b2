-- An attempt that replays begins, is handed what comes, and reads.
use Rattle.std.proofs.Common.{◌≡◌, refl, sym, ap, ap₂, ◌∙◌, subst, ℕ, ◌+◌, ◌≤◌, ◌==◌, arith, ◌⊎◌, inl, inr, Bool, true, false, ◌||◌, List, [], ◌∷◌, ◌++◌, append_assoc, append-nil, map, length, length-append, eq-eqb}
use Rattle.std.specs.List.{list_any, AllByRecursion}
use Rattle.std.proofs.lemmas.List.Folds.{list_any-append}
use Rattle.std.proofs.lemmas.List.{append_cancel_left}
use Rattle.journal_model.specs.declared.notification.NotificationId.TheVariants.{CompletionId}
use Rattle.journal_model.specs.declared.value.NonEmptyValue.{NonEmptyValue}
use Rattle.journal_model.specs.Notification.{Bytes, Arrival}
use Rattle.journal_model.specs.Value.{result_of_value}
use Rattle.journal_model.specs.Request.{Request}
use Rattle.journal_model.specs.Delivery.{results_for}
use Rattle.journal_model.specs.Run.{Handler, Progress, GoesOn, Waits, run}
use Rattle.journal_model.specs.Event.{Frame}
use Rattle.journal_model.specs.Journal.{Recorded, completes, completion}
use Rattle.journal_model.specs.Attempt.{Piece, input_bytes}
use Rattle.journal_model.proofs.Extension.{run-same}
use Rattle.journal_laws.proofs.Leaving.{or-true_left}
use Rattle.input_laws.specs.Message.{InputMessage, CarriesInput, CarriesRequest, CarriesArrival, CarriesOutcome, piece_of, arrivals_carried, requests_carried}
use Rattle.input_laws.proofs.Telling.{arrivals_carried-append}
use Rattle.input_laws.proofs.News.{requests_carried-append}
use Rattle.input_laws.proofs.AskedOnce.{kind_first}
use Rattle.attempt_model.specs.Machine.{Machine, machine_at_start}
use Rattle.attempt_model.specs.Attempts.{with_entry}
use Rattle.attempt_laws.proofs.Tables.{results-append}
use Rattle.live_laws.specs.MachinePosition.{with_messages}
use Rattle.live_laws.proofs.MachinePosition.{messages-written}
use Rattle.live_laws.proofs.LiveMachines.{machine_more, holds_on, holds_more}
use Rattle.live_laws.specs.AskedArrivals.{are_by_text}
use Rattle.live_laws.specs.AttemptWithMachine.{AttemptInRun, start_unread, start_read, handed_bytes, after_reading}
use Rattle.body_laws.specs.Bodies.{Body, Executor, reads_arrival, reads_outcome, bodies_of, acknowledges}
use Rattle.body_laws.specs.BodySimulation.{Among, has_arrived, count_bodies, count_proposed, BodiesStand}
use Rattle.body_laws.specs.Laws.{is_early}
use Rattle.body_laws.proofs.Lists.{count-among}
use Rattle.body_laws.proofs.BodySimulation.{no_bodies, with_machine, body_reads, body_comes, arrived-before, arrived-once}
use Rattle.replay_laws.specs.Outcomes.{asks_run, runs}
use Rattle.replay_laws.specs.AttemptWithBodies.{reads_messages, AreCached}
use Rattle.replay_laws.proofs.Outcomes.{runs-asked}
use Rattle.replay_laws.proofs.Asked.{body_asked, journal_read, journal_come}
use Rattle.replay_laws.specs.ReplayedAttempt.{IsOfJournal, IsBehind, ComesAsAsked, requests_asked_by, IsReplayed}
use Rattle.replay_laws.specs.Laws.{ReplaysBegin, ReplaysStay}
use Rattle.replay_laws.proofs.Standing.{at, behind_none, asked_once, none_unread}

-- ---- the begin

pub replay_begins : ReplaysBegin
replay_begins next start can comes = record {
  start = can;
  later = [];
  parts = ap (λ (messages : List InputMessage). CarriesInput start.new ∷ messages) (sym (append-nil start.journal));
  later_are = tt;
  comes = subst (λ (asked : List Request). ComesAsAsked (arrivals_carried start.journal) [] asked (arrivals_carried start.journal)) (sym (append-nil (requests_carried start.journal))) comes;
  holds = start_unread (sym (append-nil start.frame)) refl refl refl;
  rest = input_bytes (map piece_of (CarriesInput start.new ∷ start.journal));
  bytes = refl;
  stands = inl (record { none_asked = refl; reads = refl });
  machine = refl;
  idle = refl;
  bodies = no_bodies start.given.version [] (machine_at_start start.shown [] []);
  asked = inl refl;
  texts = refl;
}

-- ---- lists

none-any : {A : Type 0} (p : A → Bool) (xs : List A) → ((y : A) → Among y xs → p y ≡ true → ⊥) → list_any p xs ≡ false
none-any p [] none = refl
none-any {A} p (y ∷ xs) none = by_test (p y) refl (none-any p xs (λ z a. none z (inr a)))
  where
    by_test : (b : Bool) → p y ≡ b → list_any p xs ≡ false → (b || list_any p xs) ≡ false
    by_test true f later = absurd (none y (inl refl) f)
    by_test false f later = later

all_append : {A : Type 0} (P : A → Type 0) (xs ys : List A) → AllByRecursion P xs → AllByRecursion P ys → AllByRecursion P (xs ++ ys)
all_append P [] ys a b = b
all_append P (x ∷ xs) ys a b = (a.0, all_append P xs ys a.1 b)

all_both : {A : Type 0} (P : A → Type 0) (xs ys : List A) → AllByRecursion P (xs ++ ys) → AllByRecursion P xs × AllByRecursion P ys
all_both P [] ys a = (tt, a)
all_both P (x ∷ xs) ys a = let (b, c) = all_both P xs ys a.1 in ((a.0, b), c)

arrived-there : (first rest : List Arrival) (arrival : Arrival) (n : ℕ) → completes n arrival ≡ true → has_arrived (first ++ arrival ∷ rest) n ≡ true
arrived-there first rest arrival n e = list_any-append (completes n) first (arrival ∷ rest) ∙ behind (has_arrived first n) (or-true_left (completes n arrival) (has_arrived rest n) e)
  where
    behind : (a : Bool) {b : Bool} → b ≡ true → (a || b) ≡ true
    behind true f = refl
    behind false f = f

bytes-append : (xs ys : List Piece) → input_bytes (xs ++ ys) ≡ input_bytes xs ++ input_bytes ys
bytes-append [] ys = refl
bytes-append (x ∷ xs) ys = ap (λ (rest : Bytes). x.bytes ++ rest) (bytes-append xs ys) ∙ sym (append_assoc x.bytes (input_bytes xs) (input_bytes ys))

map_append : (xs ys : List InputMessage) → map piece_of (xs ++ ys) ≡ map piece_of xs ++ map piece_of ys
map_append [] ys = refl
map_append (x ∷ xs) ys = ap (λ (rest : List Piece). piece_of x ∷ rest) (map_append xs ys)

-- ---- what is acknowledged was proposed

abbrev IsTold : ℕ → List (ℕ × NonEmptyValue) → InputMessage → Type 0
IsTold version proposed (CarriesOutcome number value) = (acknowledges version ≡ true) × Among (number, value) proposed
IsTold version proposed message = Unit {0}

told_behind : (version : ℕ) (proposed : List (ℕ × NonEmptyValue)) (messages : List InputMessage) → AllByRecursion (IsBehind version proposed) messages → AllByRecursion (IsTold version proposed) messages
told_behind version proposed [] all = tt
told_behind version proposed (CarriesArrival type arrival ∷ messages) all = (tt, told_behind version proposed messages all.1)
told_behind version proposed (CarriesOutcome number value ∷ messages) all = (all.0, told_behind version proposed messages all.1)
told_behind version proposed (CarriesInput new ∷ messages) all = absurd all.0
told_behind version proposed (CarriesRequest request ∷ messages) all = absurd all.0

told_journal : (version : ℕ) (proposed : List (ℕ × NonEmptyValue)) (messages : List InputMessage) → AllByRecursion IsOfJournal messages → AllByRecursion (IsTold version proposed) messages
told_journal version proposed [] all = tt
told_journal version proposed (CarriesArrival type arrival ∷ messages) all = (tt, told_journal version proposed messages all.1)
told_journal version proposed (CarriesRequest request ∷ messages) all = (tt, told_journal version proposed messages all.1)
told_journal version proposed (CarriesOutcome number value ∷ messages) all = absurd all.0
told_journal version proposed (CarriesInput new ∷ messages) all = absurd all.0

-- ---- what messages make of the machine

reads-machine : (e : Executor) (messages : List InputMessage) → (reads_messages e messages).machine ≡ with_messages e.machine messages
reads-machine e [] = refl
reads-machine e (CarriesInput new ∷ messages) = reads-machine e messages
reads-machine e (CarriesRequest request ∷ messages) = reads-machine (record e { machine = with_entry e.machine (Recorded request) }) messages
reads-machine e (CarriesArrival type arrival ∷ messages) = reads-machine (reads_arrival e arrival) messages
reads-machine e (CarriesOutcome number value ∷ messages) = reads-machine (reads_outcome e number value) messages

reads-executing : (e : Executor) (messages : List InputMessage) → (reads_messages e messages).executing ≡ e.executing
reads-executing e [] = refl
reads-executing e (CarriesInput new ∷ messages) = reads-executing e messages
reads-executing e (CarriesRequest request ∷ messages) = reads-executing (record e { machine = with_entry e.machine (Recorded request) }) messages
reads-executing e (CarriesArrival type arrival ∷ messages) = reads-executing (reads_arrival e arrival) messages
reads-executing e (CarriesOutcome number value ∷ messages) = reads-executing (reads_outcome e number value) messages

module _ (next : Handler) (live : AttemptInRun) (proposed : List (ℕ × NonEmptyValue)) (e : Executor) (x : IsReplayed next live proposed e) where
  -- ---- more that is to come

  brings : (more : List InputMessage) (coming : List Frame) → AllByRecursion (IsBehind live.start.given.version proposed) more
      → ComesAsAsked (arrivals_carried live.start.journal) proposed (requests_asked_by live) (arrivals_carried (live.read ++ (live.unread ++ more)))
      → IsReplayed next (record live { unread = live.unread ++ more; coming = coming }) proposed e
  brings more coming behind comes = record {
    start = x.start;
    later = x.later ++ more;
    parts =
        sym (append_assoc live.read live.unread more) ∙ ap (λ (all : List InputMessage). all ++ more) x.parts
        ∙ ap (λ (rest : List InputMessage). CarriesInput live.start.new ∷ rest) (append_assoc live.start.journal x.later more);
    later_are = all_append (IsBehind live.start.given.version proposed) x.later more x.later_are behind;
    comes =
        subst (λ (asked : List Request). ComesAsAsked (arrivals_carried live.start.journal) proposed asked (arrivals_carried (live.read ++ (live.unread ++ more)))) (ap (λ (some : List Request). some ++ live.machine.written) (sym same))
        comes;
    holds = holds_on live (live.unread ++ more) coming x.holds;
    rest = x.rest ++ input_bytes (map piece_of more);
    bytes =
        sym (append_assoc live.held x.rest (input_bytes (map piece_of more))) ∙ ap (λ (some : Bytes). some ++ input_bytes (map piece_of more)) x.bytes
        ∙ sym (ap input_bytes (map_append live.unread more) ∙ bytes-append (map piece_of live.unread) (map piece_of more));
    stands = machine_more next live more none x.stands;
    machine = x.machine;
    idle = x.idle;
    bodies = x.bodies;
    asked = elim x.asked [ inl zero ↦ inl zero | inr r ↦ inr (record { later = r.later; parts = r.parts }) ];
    texts = x.texts;
  }
    where
      none : requests_carried more ≡ []
      none = behind_none live.start.given.version proposed more behind

      same : requests_carried (live.read ++ (live.unread ++ more)) ≡ requests_carried (live.read ++ live.unread)
      same =
          ap requests_carried (sym (append_assoc live.read live.unread more)) ∙ requests_carried-append (live.read ++ live.unread) more
          ∙ ap (λ (some : List Request). requests_carried (live.read ++ live.unread) ++ some) none ∙ append-nil (requests_carried (live.read ++ live.unread))

  is_handed : (bytes rest : Bytes) → (live.held ++ bytes) ++ rest ≡ input_bytes (map piece_of live.unread) → IsReplayed next (handed_bytes live bytes) proposed e
  is_handed bytes rest parts = record {
    start = x.start;
    later = x.later;
    parts = x.parts;
    later_are = x.later_are;
    comes = x.comes;
    holds = holds_more live bytes x.holds;
    rest = rest;
    bytes = parts;
    stands = x.stands;
    machine = x.machine;
    idle = x.idle;
    bodies = x.bodies;
    asked = elim x.asked [ inl zero ↦ inl zero | inr r ↦ inr (record { later = r.later; parts = r.parts }) ];
    texts = x.texts;
  }

  reads_begin : IsReplayed next (record live { bytes = live.held }) proposed e
  reads_begin = record {
    start = x.start;
    later = x.later;
    parts = x.parts;
    later_are = x.later_are;
    comes = x.comes;
    holds = start_read refl;
    rest = x.rest;
    bytes = x.bytes;
    stands = x.stands;
    machine = x.machine;
    idle = x.idle;
    bodies = x.bodies;
    asked = elim x.asked [ inl zero ↦ inl zero | inr r ↦ inr (record { later = r.later; parts = r.parts }) ];
    texts = x.texts;
  }

  -- ---- reading

  run_more : (more : List Arrival) → run next live.start.given (arrivals_carried live.read ++ more) live.calls ≡ run next live.start.given (arrivals_carried live.read) live.calls
  run_more more =
      run-same next live.start.given (arrivals_carried live.read) more live.calls
      (λ tree waits. (let wrong : GoesOn ≡ Waits tree = sym (at next live proposed e x).position.going ∙ waits in cc))

  -- a run whose body it has is asked for
  body_requested : (body : Body) → Among body (bodies_of (run next live.start.given (arrivals_carried live.read) live.calls).steps) → runs body.completion (requests_asked_by live) ≡ true
  body_requested body a = body_asked next live (at next live proposed e x) (none_unread next live proposed e x (journal_read next live x.asked body a)) body a

  -- and where something has come for it, by then
  run_first : (n : ℕ) → runs n (requests_asked_by live) ≡ true → has_arrived (arrivals_carried (live.read ++ live.unread)) n ≡ true → runs n x.comes.first ≡ true
  run_first n e' come =
      kind_first n (asks_run n) (runs-asked n) x.comes.first x.comes.more (asked_once next live proposed e x n)
      (x.comes.come.asked n (arrived-once (arrivals_carried (live.read ++ live.unread)) n come)) (ap (runs n) x.comes.parts ∙ e')

  -- what it reads is of no body that is to be executed
  late : (more : List Arrival) (e' : Executor) (arrival : Arrival) → BodiesStand live.start.given.version (run next live.start.given (arrivals_carried live.read) live.calls).steps (arrivals_carried live.read ++ more) proposed e'
      → ((n : ℕ) → completes n arrival ≡ true → has_arrived (arrivals_carried (live.read ++ live.unread)) n ≡ true) → is_early e' arrival ≡ false
  late more e' arrival stand there = none-any (λ (body : Body). completes body.completion arrival) e'.left not_late
    where
      not_late : (body : Body) → Among body e'.left → completes body.completion arrival ≡ true → ⊥
      not_late body a c =
          let called = stand.called body a in
          let come = there body.completion c in
          by_own called (x.comes.own body.completion (run_first body.completion (body_requested body called) come) come)
        where
          by_own : Among body (bodies_of (run next live.start.given (arrivals_carried live.read) live.calls).steps)
              → (has_arrived (arrivals_carried live.start.journal) body.completion ≡ true) ⊎ (1 ≤ count_proposed body.completion proposed) → ⊥
          by_own called (inl journal) =
              let before : has_arrived (arrivals_carried live.read ++ more) body.completion ≡ true =
              arrived-before (arrivals_carried live.read) more body.completion (journal_come live (journal_read next live x.asked body called) body.completion journal) in
              let wrong : false ≡ true = sym (stand.not_come body a) ∙ before in
              cc
          by_own called (inr there) =
              let here : 1 ≤ count_bodies body.completion e'.left = count-among body e'.left a in
              let few : count_bodies body.completion e'.left + count_bodies body.completion e'.executing + count_proposed body.completion proposed ≤ 1 = stand.once body.completion in
              omega (arith, here, there, few)

  -- an outcome that is acknowledged has not come before
  not_before : (first rest : List Arrival) (n : ℕ) (value : NonEmptyValue) → first ++ completion n (result_of_value value) ∷ rest ≡ arrivals_carried (live.read ++ live.unread) → has_arrived first n ≡ false
  not_before first rest n value parts = by_test (has_arrived first n) refl
    where
      by_test : (b : Bool) → has_arrived first n ≡ b → b ≡ false
      by_test true come =
          let few : length (results_for (first ++ completion n (result_of_value value) ∷ rest) (CompletionId n)) ≤ 1 =
          subst (λ (arrivals : List Arrival). length (results_for arrivals (CompletionId n)) ≤ 1) (sym parts) (x.comes.come.once n) in
          let split : length (results_for (first ++ completion n (result_of_value value) ∷ rest) (CompletionId n)) ≡ length (results_for first (CompletionId n)) + length (results_for (completion n (result_of_value value) ∷ rest) (CompletionId n)) =
          ap length (results-append first (completion n (result_of_value value) ∷ rest) (CompletionId n)) ∙ length-append (results_for first (CompletionId n)) (results_for (completion n (result_of_value value) ∷ rest) (CompletionId n)) in
          let before : 1 ≤ length (results_for first (CompletionId n)) = arrived-once first n come in
          let own : 1 ≤ length (results_for (completion n (result_of_value value) ∷ rest) (CompletionId n)) =
          arrived-once (completion n (result_of_value value) ∷ rest) n (or-true_left (n == n) (has_arrived rest n) (eq-eqb n n refl)) in
          absurd (omega (arith, few, split, before, own))
      by_test false come = refl

  abbrev Stands : List Arrival → Executor → Type 0
  Stands more e' = BodiesStand live.start.given.version (run next live.start.given (arrivals_carried live.read) live.calls).steps (arrivals_carried live.read ++ more) proposed e'

  -- one more arrival behind those that it has read
  parts-on : (more rest : List Arrival) (arrival : Arrival) → (arrivals_carried live.read ++ more) ++ (arrival ∷ rest) ≡ arrivals_carried (live.read ++ live.unread)
      → (arrivals_carried live.read ++ (more ++ arrival ∷ [])) ++ rest ≡ arrivals_carried (live.read ++ live.unread)
  parts-on more rest arrival parts =
      ap (λ (some : List Arrival). some ++ rest) (sym (append_assoc (arrivals_carried live.read) more (arrival ∷ [])))
      ∙ append_assoc (arrivals_carried live.read ++ more) (arrival ∷ []) rest ∙ parts

  stands-on : (more : List Arrival) (arrival : Arrival) (e' : Executor)
      → BodiesStand live.start.given.version (run next live.start.given (arrivals_carried live.read) live.calls).steps ((arrivals_carried live.read ++ more) ++ arrival ∷ []) proposed e'
      → BodiesStand live.start.given.version (run next live.start.given (arrivals_carried live.read) live.calls).steps (arrivals_carried live.read ++ (more ++ arrival ∷ [])) proposed e'
  stands-on more arrival e' stand =
      subst (λ (arrivals : List Arrival). BodiesStand live.start.given.version (run next live.start.given (arrivals_carried live.read) live.calls).steps arrivals proposed e')
      (append_assoc (arrivals_carried live.read) more (arrival ∷ [])) stand

  reads_all : (more : List Arrival) (some : List InputMessage) (rest : List Arrival) (e' : Executor) → (arrivals_carried live.read ++ more) ++ (arrivals_carried some ++ rest) ≡ arrivals_carried (live.read ++ live.unread)
      → AllByRecursion (IsTold live.start.given.version proposed) some
      → BodiesStand live.start.given.version (run next live.start.given (arrivals_carried live.read) live.calls).steps (arrivals_carried live.read ++ more) proposed e'
      → AreCached e' some
      × BodiesStand live.start.given.version (run next live.start.given (arrivals_carried live.read) live.calls).steps (arrivals_carried live.read ++ (more ++ arrivals_carried some)) proposed (reads_messages e' some)
  reads_all more [] rest e' parts told stand = (
    tt,
    subst (λ (arrivals : List Arrival). BodiesStand live.start.given.version (run next live.start.given (arrivals_carried live.read) live.calls).steps (arrivals_carried live.read ++ arrivals) proposed e') (sym (append-nil more)) stand,
  )
  reads_all more (CarriesInput new ∷ some) rest e' parts told stand = reads_all more some rest e' parts told.1 stand
  reads_all more (CarriesRequest request ∷ some) rest e' parts told stand =
      reads_all more some rest (record e' { machine = with_entry e'.machine (Recorded request) }) parts told.1
      (with_machine live.start.given.version (run next live.start.given (arrivals_carried live.read) live.calls).steps (arrivals_carried live.read ++ more) proposed e' (with_entry e'.machine (Recorded request)) stand)
  reads_all more (CarriesArrival type arrival ∷ some) rest e' parts told stand =
      let (cached, stands) = reads_all (more ++ arrival ∷ []) some rest (reads_arrival e' arrival) (parts-on more (arrivals_carried some ++ rest) arrival parts) told.1
      (stands-on more arrival (reads_arrival e' arrival)
      (body_reads live.start.given.version (run next live.start.given (arrivals_carried live.read) live.calls).steps (arrivals_carried live.read ++ more) proposed e' stand arrival
      (late more e' arrival stand
      (λ n c. ap (λ (arrivals : List Arrival). has_arrived arrivals n) (sym parts) ∙ arrived-there (arrivals_carried live.read ++ more) (arrivals_carried some ++ rest) arrival n c)))) in (
        cached,
        subst (λ (arrivals : List Arrival). BodiesStand live.start.given.version (run next live.start.given (arrivals_carried live.read) live.calls).steps (arrivals_carried live.read ++ arrivals) proposed (reads_messages (reads_arrival e' arrival) some))
            (append_assoc more (arrival ∷ []) (arrivals_carried some)) stands,
      )
  reads_all more (CarriesOutcome number value ∷ some) rest e' parts told stand =
      let (is, among) = told.0 in
      let (cached, stand') = body_comes live.start.given.version (run next live.start.given (arrivals_carried live.read) live.calls).steps (arrivals_carried live.read ++ more) proposed e' stand number value is among
      (not_before (arrivals_carried live.read ++ more) (arrivals_carried some ++ rest) number value parts) in
      let (others, stands) = reads_all (more ++ completion number (result_of_value value) ∷ []) some rest (reads_outcome e' number value)
      (parts-on more (arrivals_carried some ++ rest) (completion number (result_of_value value)) parts) told.1
      (stands-on more (completion number (result_of_value value)) (reads_outcome e' number value) stand') in (
        (cached, others),
        subst (λ (arrivals : List Arrival). BodiesStand live.start.given.version (run next live.start.given (arrivals_carried live.read) live.calls).steps (arrivals_carried live.read ++ arrivals) proposed (reads_messages (reads_outcome e' number value) some))
            (append_assoc more (completion number (result_of_value value) ∷ []) (arrivals_carried some)) stands,
      )

  all_told : AllByRecursion (IsTold live.start.given.version proposed) (live.read ++ live.unread)
  all_told =
      subst (AllByRecursion (IsTold live.start.given.version proposed)) (sym x.parts) (
        tt,
        all_append (IsTold live.start.given.version proposed) live.start.journal x.later (told_journal live.start.given.version proposed live.start.journal x.start.journal)
            (told_behind live.start.given.version proposed x.later x.later_are),
      )

  module _ (some still : List InputMessage) (parts : live.unread ≡ some ++ still) where
    some_told : AllByRecursion (IsTold live.start.given.version proposed) some
    some_told = (all_both (IsTold live.start.given.version proposed) some still
        (subst (AllByRecursion (IsTold live.start.given.version proposed)) parts (all_both (IsTold live.start.given.version proposed) live.read live.unread all_told).1)).0

    all_parts : (arrivals_carried live.read ++ []) ++ (arrivals_carried some ++ arrivals_carried still) ≡ arrivals_carried (live.read ++ live.unread)
    all_parts =
        ap₂ (λ (first rest : List Arrival). first ++ rest) (append-nil (arrivals_carried live.read))
        (sym (arrivals_carried-append some still) ∙ ap arrivals_carried (sym parts))
        ∙ sym (arrivals_carried-append live.read live.unread)

    all_messages : live.read ++ live.unread ≡ (live.read ++ some) ++ still
    all_messages = ap (λ (rest : List InputMessage). live.read ++ rest) parts ∙ sym (append_assoc live.read some still)

    read : AreCached e some
        × BodiesStand live.start.given.version (run next live.start.given (arrivals_carried live.read) live.calls).steps (arrivals_carried live.read ++ ([] ++ arrivals_carried some)) proposed (reads_messages e some)
    read = reads_all [] some (arrivals_carried still) e all_parts some_told
        (subst (λ (arrivals : List Arrival). BodiesStand live.start.given.version (run next live.start.given (arrivals_carried live.read) live.calls).steps arrivals proposed e) (sym (append-nil (arrivals_carried live.read))) x.bodies)

    reads_on : (kept : Bytes) → live.held ≡ input_bytes (map piece_of some) ++ kept → AreCached e some × IsReplayed next (after_reading live some still kept) proposed (reads_messages e some)
    reads_on kept held = (
      read.0,
      record {
        start = x.start;
        later = x.later;
        parts = sym all_messages ∙ x.parts;
        later_are = x.later_are;
        comes =
            subst (λ (written : List Request). ComesAsAsked (arrivals_carried live.start.journal) proposed (requests_carried ((live.read ++ some) ++ still) ++ written) (arrivals_carried ((live.read ++ some) ++ still)))
            (sym (messages-written live.machine some))
            (subst (λ (all : List InputMessage). ComesAsAsked (arrivals_carried live.start.journal) proposed (requests_carried all ++ live.machine.written) (arrivals_carried all)) all_messages x.comes);
        holds = start_read refl;
        rest = x.rest;
        bytes = kept_bytes;
        stands = (at next live proposed e x).reads some still parts;
        machine = reads-machine e some ∙ ap (λ (m : Machine). with_messages m some) x.machine;
        idle = reads-executing e some ∙ x.idle;
        bodies =
            subst (λ (arrivals : List Arrival). BodiesStand live.start.given.version (run next live.start.given arrivals live.calls).steps arrivals proposed (reads_messages e some)) (sym (arrivals_carried-append live.read some))
            (subst (λ (p : Progress). BodiesStand live.start.given.version p.steps (arrivals_carried live.read ++ arrivals_carried some) proposed (reads_messages e some))
            (sym (run_more (arrivals_carried some))) read.1);
        asked = elim x.asked [
          | inl zero ↦ inl zero
          | inr r ↦ inr (record {
            later = r.later ++ some;
            parts = ap (λ (all : List InputMessage). all ++ some) r.parts ∙ ap (λ (rest : List InputMessage). CarriesInput live.start.new ∷ rest) (append_assoc live.start.journal r.later some);
          })
        ];
        texts = ap are_by_text (messages-written live.machine some) ∙ x.texts;
      },
    )
      where
        kept_bytes : kept ++ x.rest ≡ input_bytes (map piece_of still)
        kept_bytes =
            append_cancel_left (input_bytes (map piece_of some)) (kept ++ x.rest) (input_bytes (map piece_of still))
            (sym (append_assoc (input_bytes (map piece_of some)) kept x.rest) ∙ ap (λ (bytes : Bytes). bytes ++ x.rest) (sym held) ∙ x.bytes
            ∙ ap (λ (all : List InputMessage). input_bytes (map piece_of all)) parts ∙ ap input_bytes (map_append some still) ∙ bytes-append (map piece_of some) (map piece_of still))

pub replay_stays : ReplaysStay
replay_stays next live proposed e x = record {
  brings = brings next live proposed e x;
  is_handed = is_handed next live proposed e x;
  reads_start = λ f. reads_begin next live proposed e x;
  reads = λ some still kept bytes parts held. reads_on next live proposed e x some still parts kept held;
  cached = (read next live proposed e x live.unread [] (sym (append-nil live.unread))).0;
}
