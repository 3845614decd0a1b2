-- Several requests are put, one behind the other.
use Rattle.std.proofs.Common.{◌≡◌, refl, sym, ap, ◌∙◌, subst, arith, ℕ, ◌+◌, length, Bool, List, [], ◌∷◌, ◌++◌, append_assoc, append-nil, map, Option, Some, None, option_and_then, Ok, Err}
use Rattle.std.specs.List.{AllByRecursion}
use Rattle.std.proofs.lemmas.List.{map-append}
use Rattle.journal_model.specs.Notification.{Text}
use Rattle.journal_model.specs.Request.{Request}
use Rattle.attempt_model.specs.Requests.{Commands, PutState, put_one, put_all}
use Rattle.protocol_types.specs.declared.message_type.MessageType.TheVariants.{SendSignalCommand}
use Rattle.protocol_calls.specs.declared.send_signal_command.SendSignalCommandMessage.{SendSignalCommandMessage}
use Rattle.protocol_stream.specs.declared.encoder.EncodingError.TheVariants as unsent
use Rattle.vm_commands.specs.HeaderEquality.{header_equal}
use Rattle.vm_commands.specs.declared.replay_error.ReplayError.TheVariants as unmatched
use Rattle.vm_context.specs.Journal.{JournalCounts, after_command}
use Rattle.vm_context.specs.Output.{Written}
use Rattle.vm_calls.specs.declared.active.Active.{Active}
use Rattle.vm_calls.specs.declared.put_error.PutError.{PutError}
use Rattle.vm_calls.specs.declared.put_error.PutError.TheVariants.{Replay, Encoding}
use Rattle.vm_calls.specs.Active.{RequestFits, IsActiveSettled, left_of, asking, writes_frames, PutsOne, PutFails, PutsIn}
use Rattle.vm_calls.proofs.Settling.{frames_joined}
use Rattle.vm_calls.specs.MismatchedCommands.{command_place, TellsPut}
use Rattle.vm_calls.specs.SpentReplay.{IsSpent, FindsNone}
use Rattle.vm_waiting.specs.ChildCancellation.{cancels, after_cancels, PutsAll, StopsAt, PutsEach, PutsNone}
use Rattle.vm_waiting.specs.declared.cancelling.CancelError.{CancelError}
use Rattle.vm_waiting.specs.declared.cancelling.CancelError.TheVariants as uncancelled

-- ---- lists joined

pub put_joined : (same : Request → Request → Bool) (front back : List Request) (p : Option PutState) → option_and_then (put_all same (front ++ back)) p ≡ option_and_then (put_all same back) (option_and_then (put_all same front) p)
put_joined same front back None = refl
put_joined same [] back (Some p) = refl
put_joined same (request ∷ front) back (Some p) = put_joined same front back (put_one same request p.left p.written)

pub asked_joined : (front back : List Request) (journal : JournalCounts) → after_cancels (front ++ back) journal ≡ after_cancels back (after_cancels front journal)
asked_joined [] back journal = refl
asked_joined (request ∷ front) back journal = asked_joined front back (after_command SendSignalCommand [] journal)

pub all_joined : {A : Type 0} (P : A → Type 0) (xs ys : List A) → AllByRecursion P xs → AllByRecursion P ys → AllByRecursion P (xs ++ ys)
all_joined P [] ys all more = more
all_joined P (x ∷ xs) ys all more = (all.0, all_joined P xs ys all.1 more)

pub frames_none : (written : Written) → written ≡ writes_frames [] written
frames_none written = ap (λ (bytes : List _). record written { bytes = bytes }) (sym (append-nil written.bytes))

-- ---- what was put

module _ (ignoring : Bool) where
  abbrev pub puts_nothing : (written : List Request) (old : Active) → IsActiveSettled old → PutsAll ignoring [] written old old
  puts_nothing written old settled = record {
    put = record { left = left_of old; written = written };
    puts = refl;
    left = refl;
    settled = settled;
    more = [];
    wrote = sym (append-nil written);
    fit = tt;
    frames = frames_none old.output;
    others = refl;
  }

  -- one that was asked for
  pub puts_one : (request : Request) (written : List Request) (old asked new : Active) → asked ≡ asking SendSignalCommand [] old → PutsOne ignoring request written asked new
      → PutsAll ignoring (request ∷ []) written old new
  puts_one request written old asked new is puts =
      let one : PutsOne ignoring request written (asking SendSignalCommand [] old) new = subst (λ (a : Active). PutsOne ignoring request written a new) is puts in
      record {
        put = one.put;
        puts = ap (λ (o : Option PutState). option_and_then (put_all (header_equal ignoring) []) o) one.puts;
        left = one.left;
        settled = one.settled;
        more = one.more;
        wrote = one.requests;
        fit = one.fit;
        frames = one.frames;
        others = one.others;
      }

  module _ (front back written : List Request) (old mid new : Active) (first : PutsAll ignoring front written old mid) (second : PutsAll ignoring back first.put.written mid new) where
    abbrev pub puts_more : PutsAll ignoring (front ++ back) written old new
    puts_more = record {
      put = second.put;
      puts = put_joined (header_equal ignoring) front back (Some (record { left = left_of old; written = written }))
          ∙ ap (λ (o : Option PutState). option_and_then (put_all (header_equal ignoring) back) o) first.puts
          ∙ ap (λ (left : Commands). put_all (header_equal ignoring) back (record { left = left; written = first.put.written })) (sym first.left) ∙ second.puts;
      left = second.left;
      settled = second.settled;
      more = first.more ++ second.more;
      wrote = second.wrote ∙ ap (λ (some : List Request). some ++ second.more) first.wrote ∙ append_assoc written first.more second.more;
      fit = all_joined RequestFits first.more second.more first.fit second.fit;
      frames = second.frames ∙ ap (λ (w : Written). writes_frames second.more w) first.frames ∙ sym (frames_joined first.more second.more old.output);
      others = second.others
          ∙ ap (λ (a : Active). record a { is_replaying = new.is_replaying; commands = new.commands; journal = after_cancels back a.journal; output = new.output }) first.others
          ∙ ap (λ (journal : JournalCounts). record old { is_replaying = new.is_replaying; commands = new.commands; journal = journal; output = new.output }) (sym (asked_joined front back old.journal));
    }

  -- ---- why it stops

  module _ (front : List Request) (request : Request) (behind written : List Request) (old mid : Active) (first : PutsAll ignoring front written old mid) where
    abbrev stops_later : (stops : StopsAt ignoring (request ∷ []) first.put.written mid) → StopsAt ignoring (front ++ request ∷ behind) written old
    stops_later stops = record {
      front = front ++ stops.front;
      next = stops.next;
      behind = stops.behind ++ behind;
      parts = ap (λ (some : List Request). front ++ (some ++ behind)) stops.parts ∙ ap (λ (some : List Request). front ++ some) (append_assoc stops.front (stops.next ∷ stops.behind) behind)
          ∙ sym (append_assoc front stops.front (stops.next ∷ (stops.behind ++ behind)));
      put = stops.put;
      puts = puts_more front stops.front written old mid stops.put first stops.puts;
    }

    pub stops_each : (error : CancelError) (new : Active) → PutsEach ignoring (request ∷ []) first.put.written mid (Err error) new → PutsEach ignoring (front ++ request ∷ behind) written old (Err error) new
    stops_each (uncancelled.Put error) new fails =
        record { stops = stops_later fails.stops; fails = fails.fails; output = fails.output; journal = fails.journal; found = fails.found }
    stops_each uncancelled.OutOfMemory new lacks = record { stops = stops_later lacks.stops; asked = lacks.asked }

  -- the first is asked for alone
  abbrev stops_first : (request : Request) (written : List Request) (old : Active) → IsActiveSettled old → StopsAt ignoring (request ∷ []) written old
  stops_first request written old settled = record { front = []; next = request; behind = []; parts = refl; put = old; puts = puts_nothing written old settled }

  pub lacks_one : (request : Request) (written : List Request) (old new : Active) → IsActiveSettled old → new ≡ asking SendSignalCommand [] old
      → PutsEach ignoring (request ∷ []) written old (Err uncancelled.OutOfMemory) new
  lacks_one request written old new settled asked = record { stops = stops_first request written old settled; asked = asked }

  fails_asked : (request : Request) (written : List Request) (old new : Active) (error : PutError SendSignalCommandMessage) → IsActiveSettled old
      → PutsIn ignoring request written (asking SendSignalCommand [] old) (Err error) new → new.journal ≡ (asking SendSignalCommand [] old).journal
      → TellsPut SendSignalCommand (command_place new.journal) (asking SendSignalCommand [] old).commands.items error
      → PutsEach ignoring (request ∷ []) written old (Err (uncancelled.Put error)) new
  fails_asked request written old new error settled puts journal found = record {
    stops = stops_first request written old settled;
    fails = by_error error puts.0;
    output = puts.1;
    journal = journal;
    found = found;
  }
    where
      by_error : (e : PutError SendSignalCommandMessage) → PutFails ignoring request written (asking SendSignalCommand [] old) e → PutFails ignoring request written old e
      by_error (Replay (unmatched.Unavailable refused)) h = h
      by_error (Replay (unmatched.Decoding refused)) h = h
      by_error (Replay (unmatched.Mismatch refused)) h = h
      by_error (Replay unmatched.OutOfMemory) h = h
      by_error (Encoding unsent.PayloadTooLong) h = h
      by_error (Encoding unsent.OutOfMemory) h = h

  pub fails_one : (request : Request) (written : List Request) (old asked new : Active) (error : PutError SendSignalCommandMessage) → asked ≡ asking SendSignalCommand [] old → IsActiveSettled old
      → PutsIn ignoring request written asked (Err error) new → new.journal ≡ asked.journal → TellsPut SendSignalCommand (command_place new.journal) asked.commands.items error
      → PutsEach ignoring (request ∷ []) written old (Err (uncancelled.Put error)) new
  fails_one request written old asked new error is settled puts journal found =
      fails_asked request written old new error settled (subst (λ (a : Active). PutsIn ignoring request written a (Err error) new) is puts) (subst (λ (a : Active). new.journal ≡ a.journal) is journal)
      (subst (λ (a : Active). TellsPut SendSignalCommand (command_place new.journal) a.commands.items error) is found)

pub settled_asked : (old asked : Active) → asked ≡ asking SendSignalCommand [] old → IsActiveSettled old → IsActiveSettled asked
settled_asked old asked is settled = subst (λ (a : Active). IsActiveSettled a) (sym is) (record { replaying = settled.replaying; opened = settled.opened })

-- ---- where nothing recorded is left

pub none_of_one : (requests : List Request) (old new : Active) (error : PutError SendSignalCommandMessage) → FindsNone {M = SendSignalCommandMessage} {T = Unit {0}} (Err error) → new.output ≡ old.output
    → PutsNone requests old (Err (uncancelled.Put error)) new
none_of_one requests old new (Replay (unmatched.Unavailable refused)) finds is = is
none_of_one requests old new (Replay (unmatched.Decoding refused)) finds is = absurd finds
none_of_one requests old new (Replay (unmatched.Mismatch refused)) finds is = absurd finds
none_of_one requests old new (Replay unmatched.OutOfMemory) finds is = absurd finds
none_of_one requests old new (Encoding refused) finds is = absurd finds

-- nothing was put before
pub none_of_all : (one all : List Request) (old mid new : Active) (error : CancelError) → mid ≡ old → PutsNone one mid (Err error) new → PutsNone all old (Err error) new
none_of_all one all old mid new (uncancelled.Put (Replay (unmatched.Unavailable refused))) is none = none ∙ ap (λ (a : Active). a.output) is
none_of_all one all old mid new (uncancelled.Put (Replay (unmatched.Decoding refused))) is none = absurd none
none_of_all one all old mid new (uncancelled.Put (Replay (unmatched.Mismatch refused))) is none = absurd none
none_of_all one all old mid new (uncancelled.Put (Replay unmatched.OutOfMemory)) is none = absurd none
none_of_all one all old mid new (uncancelled.Put (Encoding refused)) is none = absurd none
none_of_all one all old mid new uncancelled.OutOfMemory is none = none ∙ ap (λ (a : Active). a.output) is

-- ---- one invocation after the other

-- The requests for the first of these invocations were put, and these are left.
pub record PutsOn (ignoring : Bool) (ids left : List Text) (old now : Active) : Type 0 where
  pub front : List Text
  pub all : front ++ left ≡ ids
  pub puts : (written : List Request) → IsActiveSettled old → PutsAll ignoring (map cancels front) written old now
  pub spent : IsSpent old → (front ≡ []) × (now ≡ old)

module _ (ignoring : Bool) (ids : List Text) (old : Active) where
  pub puts_first : PutsOn ignoring ids ids old old
  puts_first = record { front = []; all = refl; puts = λ written settled. puts_nothing ignoring written old settled; spent = λ spent. (refl, refl) }

  module _ (id : Text) (left rest : List Text) (now : Active) (on : PutsOn ignoring ids left old now) (is : left ≡ id ∷ rest) where
    parted : (on.front ++ id ∷ []) ++ rest ≡ ids
    parted = append_assoc on.front (id ∷ []) rest ∙ ap (λ (some : List Text). on.front ++ some) (sym is) ∙ on.all

    pub puts_next : (new : Active) → ((written : List Request) → IsActiveSettled now → PutsEach ignoring (cancels id ∷ []) written now (Ok tt) new) → (IsSpent now → PutsNone (cancels id ∷ []) now (Ok tt) new)
        → PutsOn ignoring ids rest old new
    puts_next new puts spent = record {
      front = on.front ++ id ∷ [];
      all = parted;
      puts = λ written settled.
          let first = on.puts written settled in
          subst (λ (requests : List Request). PutsAll ignoring requests written old new) (sym (map-append cancels on.front (id ∷ [])))
          (puts_more ignoring (map cancels on.front) (cancels id ∷ []) written old now new first (puts first.put.written first.settled));
      spent = λ none. absurd (not_put (on.spent none).1 none);
    }
      where
        not_put : now ≡ old → IsSpent old → ⊥
        not_put same none = let wrong : (cancels id ∷ []) ≡ [] = (spent (subst (λ (a : Active). IsSpent a) (sym same) none)).0 in cc

    pub stops_next : (error : CancelError) (new : Active) → ((written : List Request) → IsActiveSettled now → PutsEach ignoring (cancels id ∷ []) written now (Err error) new)
        → (written : List Request) → IsActiveSettled old → PutsEach ignoring (map cancels ids) written old (Err error) new
    stops_next error new puts written settled =
        let first = on.puts written settled in
        subst (λ (requests : List Request). PutsEach ignoring requests written old (Err error) new) asked_all
        (stops_each ignoring (map cancels on.front) (cancels id) (map cancels rest) written old now first error new (puts first.put.written first.settled))
      where
        asked_all : map cancels on.front ++ (cancels id ∷ map cancels rest) ≡ map cancels ids
        asked_all = sym (map-append cancels on.front (id ∷ rest)) ∙ ap (λ (some : List Text). map cancels (on.front ++ some)) (sym is) ∙ ap (λ (some : List Text). map cancels some) on.all

    pub none_next : (error : CancelError) (new : Active) → (IsSpent now → PutsNone (cancels id ∷ []) now (Err error) new) → IsSpent old → PutsNone (map cancels ids) old (Err error) new
    none_next error new puts spent =
        let same = (on.spent spent).1 in
        none_of_all (cancels id ∷ []) (map cancels ids) old now new error same (puts (subst (λ (a : Active). IsSpent a) (sym same) spent))

  module _ (left : List Text) (now : Active) (on : PutsOn ignoring ids left old now) (is : left ≡ []) where
    all_front : on.front ≡ ids
    all_front = sym (append-nil on.front) ∙ ap (λ (some : List Text). on.front ++ some) (sym is) ∙ on.all

    pub puts_whole : (written : List Request) → IsActiveSettled old → PutsEach ignoring (map cancels ids) written old (Ok tt) now
    puts_whole written settled = subst (λ (some : List Text). PutsAll ignoring (map cancels some) written old now) all_front (on.puts written settled)

    pub none_whole : IsSpent old → PutsNone (map cancels ids) old (Ok tt) now
    none_whole spent = (ap (λ (some : List Text). map cancels some) (sym all_front ∙ (on.spent spent).0), (on.spent spent).1)

pub one_less : (left rest : List Text) (id : Text) (before after : ℕ) → before ≡ length left → left ≡ id ∷ rest → after + 1 ≡ before → after ≡ length rest
one_less left rest id before after sized first counted = let all : length left ≡ length (id ∷ rest) = ap (λ (some : List Text). length some) first in omega (arith, sized, counted, all)
