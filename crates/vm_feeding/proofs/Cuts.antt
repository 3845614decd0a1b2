-- Bytes in two cuts lead to what they lead to as a whole.
use Rattle.std.proofs.Common.{◌≡◌, ◌⊎◌, inl, inr, ℕ, Bool, true, false, List, [], ◌∷◌, ◌++◌, Option, Some, None, Result, Ok, Err, refl, sym, ap, subst, ◌∙◌, append_assoc}
use Rattle.protocol_stream.proofs.Fronts.{item_at_extends}
use Rattle.protocol_stream.specs.Decoder.{ConsumesNext}
use Rattle.protocol_stream.specs.Item.{Item, item_at, message, unknown}
use Rattle.protocol_stream.specs.declared.decoder.DecodingError.{DecodingError}
use Rattle.protocol_stream.specs.declared.decoder.DecodingError.TheVariants.{UnknownMessageType, OutOfMemory}
use Rattle.protocol_stream.specs.declared.decoder.RawMessage.{RawMessage}
use Rattle.protocol_wire.proofs.Extends.{Extends}
use Rattle.vm_feeding.proofs.Keeping.{fails_keeps, takes_keeps, takes_over, has_failed_over, has_failed_then}
use Rattle.vm_feeding.specs.Cuts.{TakesInTwo, CutsAreOne, OneIsCuts}
use Rattle.vm_feeding.specs.InputBytes.{has_failed, with_bytes, with_input, IsUnread, TakesNext, TakesEach, StopsAt, Stops, Rests, RestsWhere, TakesAll}
use Rattle.vm_machine.specs.MessageReceipt.{TakesMessage}
use Rattle.vm_machine.specs.declared.machine_state.MachineState.{MachineState}

-- ---- more bytes behind

abbrev item : Item → List ℕ → Option (Item × List ℕ)
item one rest = Some (one, rest)

extended : (more bytes rest : List ℕ) (one : Item) → item_at bytes ≡ item one rest → item_at (bytes ++ more) ≡ item one (rest ++ more)
extended more bytes rest one is = subst (λ (at : Option (Item × List ℕ)). Extends more at (item_at (bytes ++ more))) is (item_at_extends more bytes)

module _ (more : List ℕ) where
  next_over : (one : RawMessage) (old new : MachineState) → TakesNext one old new → TakesNext one (with_input more old) (with_input more new)
  next_over one old new h = record {
    well = h.well;
    rest = h.rest ++ more;
    consumes = extended more old.decoder h.rest (message one) h.consumes;
    takes = subst (λ (bytes : List ℕ). TakesMessage one (with_bytes (h.rest ++ more) old) (with_bytes (bytes ++ more) new)) (sym (takes_keeps one (with_bytes h.rest old) new h.takes))
        (takes_over (h.rest ++ more) one (with_bytes h.rest old) new h.takes);
  }

  each_over : (messages : List RawMessage) (old new : MachineState) → TakesEach messages old new → TakesEach messages (with_input more old) (with_input more new)
  each_over [] old new h = ap (with_input more) h
  each_over (one ∷ before) old new h = (with_input more h.0, each_over before old h.0 h.1, next_over one h.0 new h.2)

chained : (later earlier : List RawMessage) (old between new : MachineState) → TakesEach earlier old between → TakesEach later between new → TakesEach (later ++ earlier) old new
chained [] earlier old between new h is = subst (λ (vm : MachineState). TakesEach earlier old vm) (sym is) h
chained (one ∷ later) earlier old between new h k = (k.0, chained later earlier old between k.0 h k.1, k.2)

-- ---- a machine that has failed reads nothing

true_is_false : (b : Bool) → b ≡ true → b ≡ false → ⊥
true_is_false b is not = cc

failed_each : (messages : List RawMessage) (old new : MachineState) → has_failed old.phase ≡ true → TakesEach messages old new → new ≡ old
failed_each [] old new failed h = h
failed_each (one ∷ before) old new failed h =
    let same = failed_each before old h.0 failed h.1 in
    absurd (true_is_false (has_failed h.0.phase) (ap (λ (vm : MachineState). has_failed vm.phase) same ∙ failed) h.2.well)

failed_rests : (old new : MachineState) → has_failed old.phase ≡ true → Rests old new → new ≡ old
failed_rests old new failed h = subst (λ (b : Bool). RestsWhere b old new) failed h

rests_failed : (old new : MachineState) → has_failed old.phase ≡ true → new ≡ old → Rests old new
rests_failed old new failed is = subst (λ (b : Bool). RestsWhere b old new) (sym failed) is

failed_all : (old new : MachineState) → has_failed old.phase ≡ true → TakesAll old new → new ≡ old
failed_all old new failed h =
    let same = failed_each h.messages old h.between failed h.each in
    failed_rests h.between new (ap (λ (vm : MachineState). has_failed vm.phase) same ∙ failed) h.rests ∙ same

-- ---- two cuts as one

-- what cannot be read cannot be read with more behind it
unread_consumes : (more bytes rest : List ℕ) (error : DecodingError) → ConsumesNext bytes (Err error) rest → ConsumesNext (bytes ++ more) (Err error) (rest ++ more)
unread_consumes more bytes rest (UnknownMessageType ty) h = extended more bytes rest (unknown ty) h
unread_consumes more bytes rest OutOfMemory h = ap (λ (bytes : List ℕ). bytes ++ more) h
unread_consumes more bytes rest _ h = absurd h

unread_over : (bytes : List ℕ) (error : DecodingError) (old new : MachineState) → IsUnread error old new → IsUnread error (with_bytes bytes old) (with_bytes bytes new)
unread_over bytes error old new h = record { cause = h.cause; causes = h.causes; fails = has_failed_over bytes h.cause old new h.fails }

unread_keeps : (error : DecodingError) (old new : MachineState) → IsUnread error old new → new.decoder ≡ old.decoder
unread_keeps error old new h = fails_keeps h.cause old h.fails.answer new h.fails.fails

module _ (more : List ℕ) (old new : MachineState) where
  -- one that stays as it is goes on with what comes then
  goes_on : (mid : MachineState) → mid ≡ old → TakesAll (with_input more mid) new → TakesAll (with_input more old) new
  goes_on mid is h = subst (λ (vm : MachineState). TakesAll (with_input more vm) new) is h

  -- one that fails keeps what comes then
  fails_before : (mid : MachineState) (error : DecodingError) (rest : List ℕ) → has_failed old.phase ≡ false → ConsumesNext old.decoder (Err error) rest
      → IsUnread error (with_bytes rest old) mid → TakesAll (with_input more mid) new → TakesAll (with_input more old) new
  fails_before mid error rest well consumes unread h =
      let failed = has_failed_then unread.cause (with_bytes rest old) mid unread.fails in
      let kept = failed_all (with_input more mid) new failed h in
      let over = unread_over (rest ++ more) error (with_bytes rest old) mid unread in
      record {
        messages = [];
        between = with_input more old;
        each = refl;
        rests = subst (λ (b : Bool). RestsWhere b (with_input more old) new) (sym well) (record {
          next = Err error;
          rest = rest ++ more;
          consumes = unread_consumes more old.decoder rest error consumes;
          stops = subst (λ (vm : MachineState). IsUnread error (with_bytes (rest ++ more) old) vm)
              (sym (kept ∙ ap (λ (bytes : List ℕ). with_bytes (bytes ++ more) mid) (unread_keeps error (with_bytes rest old) mid unread))) over;
        });
      }

  stops_before : (mid : MachineState) (next : Result (Option RawMessage) DecodingError) (rest : List ℕ) → has_failed old.phase ≡ false → ConsumesNext old.decoder next rest
      → StopsAt next (with_bytes rest old) mid → TakesAll (with_input more mid) new → TakesAll (with_input more old) new
  stops_before mid (Ok None) rest well consumes is h = goes_on mid (is ∙ ap (λ (bytes : List ℕ). with_bytes bytes old) consumes.1) h
  stops_before mid (Ok (Some one)) rest well consumes stops h = absurd stops
  stops_before mid (Err error) rest well consumes unread h = fails_before mid error rest well consumes unread h

  rests_before : (mid : MachineState) → Rests old mid → TakesAll (with_input more mid) new → TakesAll (with_input more old) new
  rests_before mid rests h = go (has_failed old.phase) refl rests
    where
      go : (b : Bool) → has_failed old.phase ≡ b → RestsWhere b old mid → TakesAll (with_input more old) new
      go true is same = goes_on mid same h
      go false is stops = stops_before mid stops.next stops.rest is stops.consumes stops.stops h

joined_all : (first second : List ℕ) (old mid new : MachineState) → TakesAll (with_input first old) mid → TakesAll (with_input second mid) new
    → TakesAll (with_input second (with_input first old)) new
joined_all first second old mid new h k =
    let on = rests_before second h.between new mid h.rests k in
    record {
      messages = on.messages ++ h.messages;
      between = on.between;
      each = chained on.messages h.messages (with_input second (with_input first old)) (with_input second h.between) on.between
          (each_over second h.messages (with_input first old) h.between h.each) on.each;
      rests = on.rests;
    }

pub cuts_are_one : CutsAreOne
cuts_are_one first second old new h =
    subst (λ (bytes : List ℕ). TakesAll (with_bytes bytes old) new) (append_assoc old.decoder first second) (joined_all first second old h.between new h.takes_first h.takes_second)

-- ---- one as two cuts

found_is : (x y : Item × List ℕ) → item x.0 x.1 ≡ item y.0 y.1 → x ≡ y
found_is x y e = cc

-- what stood at the front before more bytes came
same_front : (more bytes front rest : List ℕ) (one other : Item) → item_at bytes ≡ item other front → item_at (bytes ++ more) ≡ item one rest
    → (other ≡ one) × (rest ≡ front ++ more)
same_front more bytes front rest one other before is =
    let same = found_is (other, front ++ more) (one, rest) (sym (extended more bytes front other before) ∙ is) in
    (ap (λ (x : Item × List ℕ). x.0) same, sym (ap (λ (x : Item × List ℕ). x.1) same))

module _ (first second : List ℕ) (old : MachineState) where
  -- what was taken so far came whole in the first cut
  record InFirst (vm : MachineState) : Type 0 where
    pub before : MachineState
    pub messages : List RawMessage
    pub each : TakesEach messages (with_input first old) before
    pub is : vm ≡ with_input second before

  -- some of it did not
  record InSecond (vm : MachineState) : Type 0 where
    pub mid : MachineState
    pub takes_first : TakesAll (with_input first old) mid
    pub messages : List RawMessage
    pub each : TakesEach messages (with_input second mid) vm

  -- the first cut leaves this, where no message of it is whole
  ends_first : (before : MachineState) (messages : List RawMessage) → TakesEach messages (with_input first old) before → has_failed before.phase ≡ false
      → item_at before.decoder ≡ None → TakesAll (with_input first old) before
  ends_first before messages each well none = record {
    messages = messages;
    between = before;
    each = each;
    rests = subst (λ (b : Bool). RestsWhere b before before) (sym well) (record { next = Ok None; rest = before.decoder; consumes = (none, refl); stops = refl });
  }

  -- one message more of the first cut
  in_first_more : (before : MachineState) (messages : List RawMessage) → TakesEach messages (with_input first old) before → (one : RawMessage) (vm : MachineState) (front : List ℕ)
      → item_at before.decoder ≡ item (message one) front → (next : TakesNext one (with_input second before) vm) → next.rest ≡ front ++ second → InFirst vm
  in_first_more before messages each one vm front at next rest = record {
    before = with_bytes front vm;
    messages = one ∷ messages;
    each = (before, each, record { well = next.well; rest = front; consumes = at; takes = takes_over front one (with_bytes next.rest (with_input second before)) vm next.takes });
    is = ap (λ (bytes : List ℕ). with_bytes bytes vm) (takes_keeps one (with_bytes next.rest (with_input second before)) vm next.takes ∙ rest);
  }

  next_within : (before : MachineState) (messages : List RawMessage) → TakesEach messages (with_input first old) before → (one : RawMessage) (vm : MachineState)
      → TakesNext one (with_input second before) vm → InFirst vm ⊎ InSecond vm
  next_within before messages each one vm next = go (item_at before.decoder) refl
    where
      go : (at : Option (Item × List ℕ)) → item_at before.decoder ≡ at → InFirst vm ⊎ InSecond vm
      go None is = inr (record {
        mid = before;
        takes_first = ends_first before messages each next.well is;
        messages = one ∷ [];
        each = (with_input second before, refl, next);
      })
      go (Some (message other, front)) is =
          let same = same_front second before.decoder front next.rest (message one) (message other) is next.consumes in
          inl (in_first_more before messages each one vm front (is ∙ ap (λ (x : Item). item x front) same.0) next same.1)
      go (Some (unknown ty, front)) is =
          let same = same_front second before.decoder front next.rest (message one) (unknown ty) is next.consumes in
          absurd (let clash = same.0 in cc)

  within : (messages : List RawMessage) (vm : MachineState) → TakesEach messages (with_input (first ++ second) old) vm → InFirst vm ⊎ InSecond vm
  within [] vm h = inl (record {
    before = with_input first old;
    messages = [];
    each = refl;
    is = h ∙ ap (λ (bytes : List ℕ). with_bytes bytes old) (sym (append_assoc old.decoder first second));
  })
  within (one ∷ earlier) vm h = go (within earlier h.0 h.1)
    where
      go : InFirst h.0 ⊎ InSecond h.0 → InFirst vm ⊎ InSecond vm
      go (inl k) = next_within k.before k.messages k.each one vm (subst (λ (at : MachineState). TakesNext one at vm) k.is h.2)
      go (inr k) = inr (record { mid = k.mid; takes_first = k.takes_first; messages = one ∷ k.messages; each = (h.0, k.each, h.2) })

  -- the end comes behind the first cut
  ends_second : (mid vm new : MachineState) (messages : List RawMessage) → TakesAll (with_input first old) mid → TakesEach messages (with_input second mid) vm → Rests vm new
      → TakesInTwo first second old new
  ends_second mid vm new messages takes each rests = record {
    between = mid;
    takes_first = takes;
    takes_second = record { messages = messages; between = vm; each = each; rests = rests };
  }

  module _ (before new : MachineState) (messages : List RawMessage) (each : TakesEach messages (with_input first old) before) where
    -- the machine fails in the first cut
    fails_first : (error : DecodingError) (front rest : List ℕ) → has_failed before.phase ≡ false → ConsumesNext before.decoder (Err error) front → rest ≡ front ++ second
        → IsUnread error (with_bytes rest before) new → TakesInTwo first second old new
    fails_first error front rest well consumes is unread =
        let failed = has_failed_then unread.cause (with_bytes rest before) new unread.fails in
        let kept : new ≡ with_input second (with_bytes front new) = ap (λ (bytes : List ℕ). with_bytes bytes new) (unread_keeps error (with_bytes rest before) new unread ∙ is) in
        ends_second (with_bytes front new) (with_input second (with_bytes front new)) new [] (record {
          messages = messages;
          between = before;
          each = each;
          rests = subst (λ (b : Bool). RestsWhere b before (with_bytes front new)) (sym well)
              (record { next = Err error; rest = front; consumes = consumes; stops = unread_over front error (with_bytes rest before) new unread });
        }) refl (rests_failed (with_input second (with_bytes front new)) new failed kept)

    stops_within : (next : Result (Option RawMessage) DecodingError) (rest : List ℕ) → has_failed before.phase ≡ false → (one : Item) (front : List ℕ)
        → item_at before.decoder ≡ item one front → ConsumesNext (before.decoder ++ second) next rest → StopsAt next (with_bytes rest before) new → TakesInTwo first second old new
    stops_within (Ok None) rest well one front at consumes stops =
        let none = sym (extended second before.decoder front one at) ∙ consumes.0 in absurd (let n = none in cc)
    stops_within (Ok (Some found)) rest well one front at consumes stops = absurd stops
    stops_within (Err (UnknownMessageType ty)) rest well one front at consumes unread =
        let same = same_front second before.decoder front rest (unknown ty) one at consumes in
        fails_first (UnknownMessageType ty) front rest well (at ∙ ap (λ (x : Item). item x front) same.0) same.1 unread
    stops_within (Err OutOfMemory) rest well one front at consumes unread = fails_first OutOfMemory before.decoder rest well refl consumes unread
    stops_within (Err _) rest well one front at consumes unread = absurd consumes

    ends_within : Rests (with_input second before) new → TakesInTwo first second old new
    ends_within rests = go (has_failed before.phase) refl rests
      where
        stopped : has_failed before.phase ≡ false → Stops (with_input second before) new → (at : Option (Item × List ℕ)) → item_at before.decoder ≡ at
            → TakesInTwo first second old new
        stopped well stops None is = ends_second before (with_input second before) new [] (ends_first before messages each well is) refl rests
        stopped well stops (Some (one, front)) is = stops_within stops.next stops.rest well one front is stops.consumes stops.stops

        go : (b : Bool) → has_failed before.phase ≡ b → RestsWhere b (with_input second before) new → TakesInTwo first second old new
        go true failed same =
            let taken : TakesAll (with_input first old) before = record { messages = messages; between = before; each = each; rests = rests_failed before before failed refl } in
            ends_second before (with_input second before) new [] taken refl rests
        go false well stops = stopped well stops (item_at before.decoder) refl

pub one_is_cuts : OneIsCuts
one_is_cuts first second old new h = go (within first second old h.messages h.between h.each)
  where
    go : InFirst first second old h.between ⊎ InSecond first second old h.between → TakesInTwo first second old new
    go (inl k) = ends_within first second old k.before new k.messages k.each (subst (λ (vm : MachineState). Rests vm new) k.is h.rests)
    go (inr k) = ends_second first second old k.mid h.between new k.messages k.takes_first k.each h.rests
