-- Messages of an attempt's input, some of which were read.
use Rattle.std.proofs.Common.{◌≡◌, ◌∙◌, List, [], ◌∷◌, ◌++◌, append_assoc, refl, sym, ap, subst}
use Rattle.std.proofs.lemmas.List.{append_cancel_left}
use Rattle.std.specs.List.{AllByRecursion}
use Rattle.journal_model.specs.Value.{result_of_value}
use Rattle.vm_input_laws.proofs.Messages.{all_behind, all_in_front}
use Rattle.vm_request_laws.proofs.RequestBounds.{all_append}
use Rattle.vm_attempt_laws.specs.AttemptSimulation.{IsFedBy}
use Rattle.vm_attempt_laws.specs.AttemptInvariants.{MayCome}
use Rattle.vm_attempt_laws.specs.InputOfAttempt.{MessageFits, IsArrival, IsInputOf}
use Rattle.vm_attempt_laws.specs.Words.{Recorded, completion, InputMessage, CarriesInput, CarriesRequest, CarriesArrival, CarriesOutcome, Machine, with_arrival, with_entry, with_messages, AttemptInRun, HasReadJournal}

pub messages_append : (m : Machine) (some more : List InputMessage) → with_messages m (some ++ more) ≡ with_messages (with_messages m some) more
messages_append m [] more = refl
messages_append m (CarriesInput new ∷ some) more = messages_append m some more
messages_append m (CarriesRequest request ∷ some) more = messages_append (with_entry m (Recorded request)) some more
messages_append m (CarriesArrival type arrival ∷ some) more = messages_append (with_arrival m arrival) some more
messages_append m (CarriesOutcome number value ∷ some) more = messages_append (with_arrival m (completion number (result_of_value value))) some more

-- ---- behind the journal

module _ (live : AttemptInRun) (r : HasReadJournal live) where
  -- what is not read are arrivals, as notifications or as acknowledgements
  module _ (is : IsInputOf live.start (live.read ++ live.unread)) where
    later_is : r.later ++ live.unread ≡ is.later
    later_is =
        append_cancel_left (CarriesInput live.start.new ∷ live.start.journal) (r.later ++ live.unread) is.later
        (ap (λ (rest : List InputMessage). CarriesInput live.start.new ∷ rest) (sym (append_assoc live.start.journal r.later live.unread))
        ∙ sym (ap (λ (read : List InputMessage). read ++ live.unread) r.parts) ∙ is.parts)

    pub unread_arrive : AllByRecursion IsArrival live.unread
    unread_arrive = all_behind IsArrival r.later live.unread (subst (AllByRecursion IsArrival) (sym later_is) is.arrivals)

    pub unread_fit : AllByRecursion MessageFits live.unread
    unread_fit = all_behind MessageFits live.read live.unread is.fit

    -- what was read is an input as well
    pub read_input : IsInputOf live.start live.read
    read_input = record {
      journal = is.journal;
      later = r.later;
      parts = r.parts;
      arrivals = all_in_front IsArrival r.later live.unread (subst (AllByRecursion IsArrival) (sym later_is) is.arrivals);
      fit = all_in_front MessageFits live.read live.unread is.fit;
    }

  pub journal_more : (some : List InputMessage) → live.read ++ some ≡ CarriesInput live.start.new ∷ (live.start.journal ++ (r.later ++ some))
  journal_more some =
      ap (λ (read : List InputMessage). read ++ some) r.parts ∙ ap (λ (rest : List InputMessage). CarriesInput live.start.new ∷ rest) (append_assoc live.start.journal r.later some)

-- ---- what the attempt is fed by

-- the same messages, wherever those end that were read
pub fed_same : (live : AttemptInRun) (some still : List InputMessage) → live.unread ≡ some ++ still → live.read ++ live.unread ≡ (live.read ++ some) ++ still
fed_same live some still parts = ap (λ (rest : List InputMessage). live.read ++ rest) parts ∙ sym (append_assoc live.read some still)

some_may : (more : List InputMessage) → AllByRecursion MayCome more → AllByRecursion IsArrival more × AllByRecursion MessageFits more
some_may [] all = (tt, tt)
some_may (CarriesArrival ty arrival ∷ more) all = let rest = some_may more all.1 in ((tt, rest.0), (all.0, rest.1))
some_may (CarriesOutcome number value ∷ more) all = let rest = some_may more all.1 in ((tt, rest.0), (all.0, rest.1))
some_may (_ ∷ more) all = absurd all.0

-- more messages are on their way
pub fed_more : (live : AttemptInRun) (more : List InputMessage) → AllByRecursion MayCome more → IsFedBy live → IsFedBy (record live { unread = live.unread ++ more })
fed_more live more may by =
    let come = some_may more may in
    let same : (live.read ++ live.unread) ++ more ≡ live.read ++ (live.unread ++ more) = append_assoc live.read live.unread more in
    record {
      journal = by.journal;
      later = by.later ++ more;
      parts = sym same ∙ ap (λ (all : List InputMessage). all ++ more) by.parts
          ∙ ap (λ (rest : List InputMessage). CarriesInput live.start.new ∷ rest) (append_assoc live.start.journal by.later more);
      arrivals = all_append IsArrival by.later more by.arrivals come.0;
      fit = subst (AllByRecursion MessageFits) same (all_append MessageFits (live.read ++ live.unread) more by.fit come.1);
    }
