-- A line is read just where the bytes are its spelling.
use Rattle.std.proofs.Common.{◌≡◌, ℕ, ◌^◌, ◌<◌, ◌≤◌, true, false, eqb, inl, inr, List, [], ◌∷◌, ◌++◌, Option, Some, None, refl, sym, ap, subst, ◌∙◌, arith, ◌≢◌}
use Rattle.std.specs.Prelude.{codes, decimal, nat_lt, IfSome}
use Rattle.std.specs.List.{AllByRecursion, list_all, join_with_byte, slice_split}
use Rattle.std.specs.Str.Parse.{AllDigits}
use Rattle.std.proofs.lemmas.Bool.{ne_eqb, eqb-false, and_parts, ltb-true}
use Rattle.std.proofs.lemmas.Option.{none-some, same_Some}
use Rattle.std.proofs.lemmas.Fmt.{decimal_is_IsNumeral}
use Rattle.std.proofs.lemmas.Str.Parse.{digit_from_value}
use Rattle.std.proofs.lemmas.List.Elements.{All-from_recursion, recursion_from_All}
use Rattle.std.proofs.lemmas.List.Splits.{slice_split_at, slice_split_none, join_with_byte-slice_split}
use Rattle.journal_model.specs.declared.invocation.StateMode.{StateMode}
use Rattle.script_lines.specs.declared.word.HandlerName.{HandlerName}
use Rattle.script_lines.specs.declared.word.HandlerName.TheVariants.{Nap, Nap99, Race, Both, Ask, Pair, Twice, Keys, Read, Effect, Go, Hook, Quorum}
use Rattle.script_lines.specs.declared.word.Command.{Command}
use Rattle.script_lines.specs.declared.word.Command.TheVariants.{Invoke as InvokeCommand, Result as ResultCommand, Signal as SignalCommand, Cancel as CancelCommand, Tick as TickCommand, Begin as BeginCommand, Feed as FeedCommand, Close as CloseCommand, Turn as TurnCommand, Move as MoveCommand, Stop as StopCommand, Due as DueCommand, Show as ShowCommand, State as StateCommand}
use Rattle.journal_model.specs.declared.notification.SignalKey.{SignalKey}
use Rattle.journal_model.specs.declared.notification.SignalKey.TheVariants.{ByIndex, ByName}
use Rattle.script_lines.specs.declared.value.LineValue.{LineValue}
use Rattle.script_lines.specs.declared.value.LineValue.TheVariants.{Void, Value, Failure, InvocationId}
use Rattle.script_lines.specs.declared.outcome.LineOutcome.{LineOutcome}
use Rattle.script_lines.specs.declared.outcome.LineOutcome.TheVariants as outcomes
use Rattle.script_lines.specs.declared.line.Line.{Line}
use Rattle.script_lines.specs.declared.line.Line.TheVariants.{Invoke, Result as ResultLine, Signal, Cancel, Tick, Begin, Feed, Close, Turn, Move, Stop, Due, Show, State}
use Rattle.script_lines.specs.Word.{text_word, IsText, IsWordByte, mode_word, handler_word, target_word, IsTarget, value_word, IsValue, coded_word, IsCoded, outcome_word, IsOutcome}
use Rattle.script_lines.specs.Line.{words_of, spelled, IsLine, outcome_words}
use Rattle.script_lines.specs.LineReader.{then_read, invoke_of, result_line_of, signal_of, cancel_of, tick_of, begin_of, feed_of, close_of, turns_of, turn_line, ending_turn_of, move_of, stop_of, show_of, state_word, of_none, of_one, of_two, of_three, of_six, of_turn, command_of, arguments_of, line_of}
use Rattle.script_lines.proofs.WordLaws.{number_32, number_64, text_reading, mode_reading, handler_reading, read_step, chosen, tested}
use Rattle.script_lines.proofs.TargetLaws.{target_reading}
use Rattle.script_lines.proofs.ValueLaws.{value_reading}
use Rattle.script_lines.proofs.OutcomeLaws.{outcome_reading}

-- the words are those of the line
record Spells (words : List (List ℕ)) (line : Line) : Type 0 where
  is_line : IsLine line
  same : words ≡ words_of line

next : {A : Type 0} {x y : A} {xs ys : List A} → x ≡ y → xs ≡ ys → x ∷ xs ≡ y ∷ ys
next e f = cc

made : (words : List (List ℕ)) (line result : Line) → Some line ≡ Some result → Spells words line → Spells words result
made words line result e h = subst (λ (l : Line). Spells words l) (same_Some line result e) h

-- ---- what is read is spelled so

invoke_takes : (id object version state seed input : List ℕ) (line : Line) → invoke_of id object version state seed input ≡ Some line → Spells (codes "invoke" ∷ id ∷ object ∷ version ∷ state ∷ seed ∷ input ∷ []) line
unfolding invoke_of
invoke_takes id object version state seed input line e =
    let v = read_step e in let s = read_step v.2 in let r = read_step s.2 in let i = read_step r.2 in let o = read_step i.2 in let p = read_step o.2 in
    let it = text_reading.takes id i.0 i.1 in
    let ot = text_reading.takes object o.0 o.1 in
    let vt = number_32.takes version v.0 v.1 in
    let st = mode_reading.takes state s.0 s.1 in
    let rt = number_64.takes seed r.0 r.1 in
    let pt = text_reading.takes input p.0 p.1 in
    made _ (Invoke i.0 o.0 v.0 s.0 r.0 p.0) line p.2 (record { is_line = (it.0, ot.0, vt.0, rt.0, pt.0); same = next refl (next it.1 (next ot.1 (next vt.1 (next st.1 (next rt.1 (next pt.1 refl)))))) })

result_takes : (id completion value : List ℕ) (line : Line) → result_line_of id completion value ≡ Some line → Spells (codes "result" ∷ id ∷ completion ∷ value ∷ []) line
unfolding result_line_of
result_takes id completion value line e =
    let c = read_step e in let i = read_step c.2 in let v = read_step i.2 in
    let ct = number_32.takes completion c.0 c.1 in
    let it = text_reading.takes id i.0 i.1 in
    let vt = value_reading.takes value v.0 v.1 in
    made _ (ResultLine i.0 c.0 v.0) line v.2 (record { is_line = (it.0, ct.0, vt.0); same = next refl (next it.1 (next ct.1 (next vt.1 refl))) })

signal_takes : (id target value : List ℕ) (line : Line) → signal_of id target value ≡ Some line → Spells (codes "signal" ∷ id ∷ target ∷ value ∷ []) line
unfolding signal_of
signal_takes id target value line e =
    let i = read_step e in let t = read_step i.2 in let v = read_step t.2 in
    let it = text_reading.takes id i.0 i.1 in
    let at = target_reading.takes target t.0 t.1 in
    let vt = value_reading.takes value v.0 v.1 in
    made _ (Signal i.0 t.0 v.0) line v.2 (record { is_line = (it.0, at.0, vt.0); same = next refl (next it.1 (next at.1 (next vt.1 refl))) })

tick_takes : (now : List ℕ) (line : Line) → tick_of now ≡ Some line → Spells (codes "tick" ∷ now ∷ []) line
unfolding tick_of
tick_takes now line e =
    let n = read_step e in
    let nt = number_64.takes now n.0 n.1 in
    made _ (Tick n.0) line n.2 (record { is_line = nt.0; same = next refl (next nt.1 refl) })

begin_takes : (id handler now : List ℕ) (line : Line) → begin_of id handler now ≡ Some line → Spells (codes "begin" ∷ id ∷ handler ∷ now ∷ []) line
unfolding begin_of
begin_takes id handler now line e =
    let h = read_step e in let n = read_step h.2 in let i = read_step n.2 in
    let it = text_reading.takes id i.0 i.1 in
    let ht = handler_reading.takes handler h.0 h.1 in
    let nt = number_64.takes now n.0 n.1 in
    made _ (Begin i.0 h.0 n.0) line i.2 (record { is_line = (it.0, nt.0); same = next refl (next it.1 (next ht.1 (next nt.1 refl))) })

feed_takes : (id attempt count : List ℕ) (line : Line) → feed_of id attempt count ≡ Some line → Spells (codes "feed" ∷ id ∷ attempt ∷ count ∷ []) line
unfolding feed_of
feed_takes id attempt count line e =
    let a = read_step e in let c = read_step a.2 in let i = read_step c.2 in
    let it = text_reading.takes id i.0 i.1 in
    let at = number_32.takes attempt a.0 a.1 in
    let ct = number_32.takes count c.0 c.1 in
    made _ (Feed i.0 a.0 c.0) line i.2 (record { is_line = (it.0, at.0, ct.0); same = next refl (next it.1 (next at.1 (next ct.1 refl))) })

close_takes : (id attempt : List ℕ) (line : Line) → close_of id attempt ≡ Some line → Spells (codes "close" ∷ id ∷ attempt ∷ []) line
unfolding close_of
close_takes id attempt line e =
    let a = read_step e in let i = read_step a.2 in
    let it = text_reading.takes id i.0 i.1 in
    let at = number_32.takes attempt a.0 a.1 in
    made _ (Close i.0 a.0) line i.2 (record { is_line = (it.0, at.0); same = next refl (next it.1 (next at.1 refl)) })

-- so many turns of an attempt are read so
record Counts (attempt count : List ℕ) (turns : ℕ × ℕ) : Type 0 where
  attempt_fits : turns.0 < 2 ^ 32
  some : 1 ≤ turns.1
  count_fits : turns.1 < 2 ^ 32
  attempt_is : attempt ≡ decimal turns.0
  count_is : count ≡ decimal turns.1

turns_take : (attempt count : List ℕ) (turns : ℕ × ℕ) → turns_of attempt count ≡ Some turns → Counts attempt count turns
unfolding turns_of
turns_take attempt count turns e =
    let a = read_step e in let c = read_step a.2 in
    let at = number_32.takes attempt a.0 a.1 in
    let ct = number_32.takes count c.0 c.1 in
    elim (chosen (eqb c.0 0) None (Some (a.0, c.0)) (Some turns) c.2) [
      | inl h ↦ absurd (none-some turns h.1)
      | inr h ↦
          let some : 1 ≤ c.0 = let no_zero : c.0 ≢ 0 = eqb-false c.0 0 h.0 in omega arith in
          subst (λ (both : ℕ × ℕ). Counts attempt count both) (same_Some (a.0, c.0) turns h.1) (record { attempt_fits = at.0; some = some; count_fits = ct.0; attempt_is = at.1; count_is = ct.1 })
    ]

turns_again : (attempt count : ℕ) → attempt < 2 ^ 32 → 1 ≤ count → count < 2 ^ 32 → turns_of (decimal attempt) (decimal count) ≡ Some (attempt, count)
unfolding turns_of then_read
turns_again attempt count a least c =
    let some : eqb count 0 ≡ false = ne_eqb count 0 (λ e. omega arith) in
    rw (number_32.again attempt a, number_32.again count c, some) refl

turn_takes : (id attempt count : List ℕ) (line : Line) → turn_line id attempt count ≡ Some line → Spells (codes "turn" ∷ id ∷ attempt ∷ count ∷ []) line
unfolding turn_line
turn_takes id attempt count line e =
    let t = read_step e in let i = read_step t.2 in
    let counts = turns_take attempt count t.0 t.1 in
    let it = text_reading.takes id i.0 i.1 in
    made _ (Turn i.0 t.0.0 t.0.1 None) line i.2 (record { is_line = (it.0, counts.attempt_fits, counts.some, counts.count_fits, tt); same = next refl (next it.1 (next counts.attempt_is (next counts.count_is refl))) })

ending_turn_takes : (id attempt count outcome : List ℕ) (line : Line) → ending_turn_of id attempt count outcome ≡ Some line → Spells (codes "turn" ∷ id ∷ attempt ∷ count ∷ outcome ∷ []) line
unfolding ending_turn_of
ending_turn_takes id attempt count outcome line e =
    let t = read_step e in let i = read_step t.2 in let o = read_step i.2 in
    let counts = turns_take attempt count t.0 t.1 in
    let it = text_reading.takes id i.0 i.1 in
    let ot = outcome_reading.takes outcome o.0 o.1 in
    made _ (Turn i.0 t.0.0 t.0.1 (Some o.0)) line o.2 (record { is_line = (it.0, counts.attempt_fits, counts.some, counts.count_fits, ot.0); same = next refl (next it.1 (next counts.attempt_is (next counts.count_is (next ot.1 refl)))) })

move_takes : (id attempt count : List ℕ) (line : Line) → move_of id attempt count ≡ Some line → Spells (codes "move" ∷ id ∷ attempt ∷ count ∷ []) line
unfolding move_of
move_takes id attempt count line e =
    let a = read_step e in let c = read_step a.2 in let i = read_step c.2 in
    let it = text_reading.takes id i.0 i.1 in
    let at = number_32.takes attempt a.0 a.1 in
    let ct = number_32.takes count c.0 c.1 in
    made _ (Move i.0 a.0 c.0) line i.2 (record { is_line = (it.0, at.0, ct.0); same = next refl (next it.1 (next at.1 (next ct.1 refl))) })

stop_takes : (id attempt : List ℕ) (line : Line) → stop_of id attempt ≡ Some line → Spells (codes "stop" ∷ id ∷ attempt ∷ []) line
unfolding stop_of
stop_takes id attempt line e =
    let a = read_step e in let i = read_step a.2 in
    let it = text_reading.takes id i.0 i.1 in
    let at = number_32.takes attempt a.0 a.1 in
    made _ (Stop i.0 a.0) line i.2 (record { is_line = (it.0, at.0); same = next refl (next it.1 (next at.1 refl)) })

cancel_takes : (id : List ℕ) (line : Line) → cancel_of id ≡ Some line → Spells (codes "cancel" ∷ id ∷ []) line
unfolding cancel_of
cancel_takes id line e =
    let i = read_step e in
    let it = text_reading.takes id i.0 i.1 in
    made _ (Cancel i.0) line i.2 (record { is_line = it.0; same = next refl (next it.1 refl) })

show_takes : (id : List ℕ) (line : Line) → show_of id ≡ Some line → Spells (codes "show" ∷ id ∷ []) line
unfolding show_of
show_takes id line e =
    let i = read_step e in
    let it = text_reading.takes id i.0 i.1 in
    made _ (Show i.0) line i.2 (record { is_line = it.0; same = next refl (next it.1 refl) })

state_takes : (object : List ℕ) (line : Line) → state_word object ≡ Some line → Spells (codes "state" ∷ object ∷ []) line
unfolding state_word
state_takes object line e =
    let o = read_step e in
    let ot = text_reading.takes object o.0 o.1 in
    made _ (State o.0) line o.2 (record { is_line = ot.0; same = next refl (next ot.1 refl) })

-- so many words were read
no_words : (only : Line) (words : List (List ℕ)) (line : Line) → of_none only words ≡ Some line → (words ≡ []) × (only ≡ line)
unfolding of_none
no_words only [] line e = (refl, same_Some only line e)
no_words only (word ∷ words) line e = absurd (none-some line e)

one_words : (read : List ℕ → Option Line) (words : List (List ℕ)) (line : Line) → of_one read words ≡ Some line → (a : List ℕ) × (words ≡ a ∷ []) × (read a ≡ Some line)
unfolding of_one
one_words read (a ∷ []) line e = (a, refl, e)
one_words read [] line e = absurd cc
one_words read (a ∷ b ∷ more) line e = absurd cc

two_words : (read : List ℕ → List ℕ → Option Line) (words : List (List ℕ)) (line : Line) → of_two read words ≡ Some line → (a b : List ℕ) × (words ≡ a ∷ b ∷ []) × (read a b ≡ Some line)
unfolding of_two
two_words read (a ∷ b ∷ []) line e = (a, b, refl, e)
two_words read [] line e = absurd cc
two_words read (a ∷ []) line e = absurd cc
two_words read (a ∷ b ∷ c ∷ more) line e = absurd cc

three_words : (read : List ℕ → List ℕ → List ℕ → Option Line) (words : List (List ℕ)) (line : Line) → of_three read words ≡ Some line → (a b c : List ℕ) × (words ≡ a ∷ b ∷ c ∷ []) × (read a b c ≡ Some line)
unfolding of_three
three_words read (a ∷ b ∷ c ∷ []) line e = (a, b, c, refl, e)
three_words read [] line e = absurd cc
three_words read (a ∷ []) line e = absurd cc
three_words read (a ∷ b ∷ []) line e = absurd cc
three_words read (a ∷ b ∷ c ∷ d ∷ more) line e = absurd cc

six_words : (read : List ℕ → List ℕ → List ℕ → List ℕ → List ℕ → List ℕ → Option Line) (words : List (List ℕ)) (line : Line) → of_six read words ≡ Some line → (a b c d e f : List ℕ) × (words ≡ a ∷ b ∷ c ∷ d ∷ e ∷ f ∷ []) × (read a b c d e f ≡ Some line)
unfolding of_six
six_words read (a ∷ b ∷ c ∷ d ∷ e ∷ f ∷ []) line h = (a, b, c, d, e, f, refl, h)
six_words read [] line e = absurd cc
six_words read (a ∷ []) line e = absurd cc
six_words read (a ∷ b ∷ []) line e = absurd cc
six_words read (a ∷ b ∷ c ∷ []) line e = absurd cc
six_words read (a ∷ b ∷ c ∷ d ∷ []) line h = absurd cc
six_words read (a ∷ b ∷ c ∷ d ∷ e ∷ []) line h = absurd cc
six_words read (a ∷ b ∷ c ∷ d ∷ e ∷ f ∷ g ∷ more) line h = absurd cc

turn_words : (words : List (List ℕ)) (line : Line) → of_turn words ≡ Some line → Spells (codes "turn" ∷ words) line
unfolding of_turn
turn_words (a ∷ b ∷ c ∷ []) line e = turn_takes a b c line e
turn_words (a ∷ b ∷ c ∷ d ∷ []) line e = ending_turn_takes a b c d line e
turn_words [] line e = absurd cc
turn_words (a ∷ []) line e = absurd cc
turn_words (a ∷ b ∷ []) line e = absurd cc
turn_words (a ∷ b ∷ c ∷ d ∷ f ∷ more) line e = absurd cc

abbrev command_word : Command → List ℕ
command_word InvokeCommand = codes "invoke"
command_word ResultCommand = codes "result"
command_word SignalCommand = codes "signal"
command_word CancelCommand = codes "cancel"
command_word TickCommand = codes "tick"
command_word BeginCommand = codes "begin"
command_word FeedCommand = codes "feed"
command_word CloseCommand = codes "close"
command_word TurnCommand = codes "turn"
command_word MoveCommand = codes "move"
command_word StopCommand = codes "stop"
command_word DueCommand = codes "due"
command_word ShowCommand = codes "show"
command_word StateCommand = codes "state"

command_takes : (word : List ℕ) (command : Command) → command_of word ≡ Some command → word ≡ command_word command
unfolding command_of
command_takes word command =
    let test = tested command_word word in
    test InvokeCommand _ command (test ResultCommand _ command (test SignalCommand _ command (test CancelCommand _ command (test TickCommand _ command (test BeginCommand _ command
    (test FeedCommand _ command (test CloseCommand _ command (test TurnCommand _ command (test MoveCommand _ command (test StopCommand _ command
    (test DueCommand _ command (test ShowCommand _ command (test StateCommand _ command (λ e. absurd (none-some command e)))))))))))))))

retold : (name : List ℕ) (words others : List (List ℕ)) (line : Line) → words ≡ others → Spells (name ∷ others) line → Spells (name ∷ words) line
retold name words others line e h = record { is_line = h.is_line; same = ap (λ (ws : List (List ℕ)). name ∷ ws) e ∙ h.same }

arguments_take : (command : Command) (words : List (List ℕ)) (line : Line) → arguments_of command words ≡ Some line → Spells (command_word command ∷ words) line
unfolding arguments_of
arguments_take InvokeCommand words line e = let w = six_words invoke_of words line e in retold _ words _ line w.6 (invoke_takes w.0 w.1 w.2 w.3 w.4 w.5 line w.7)
arguments_take ResultCommand words line e = let w = three_words result_line_of words line e in retold _ words _ line w.3 (result_takes w.0 w.1 w.2 line w.4)
arguments_take CancelCommand words line e = let w = one_words cancel_of words line e in retold _ words _ line w.1 (cancel_takes w.0 line w.2)
arguments_take SignalCommand words line e = let w = three_words signal_of words line e in retold _ words _ line w.3 (signal_takes w.0 w.1 w.2 line w.4)
arguments_take TickCommand words line e = let w = one_words tick_of words line e in retold _ words _ line w.1 (tick_takes w.0 line w.2)
arguments_take BeginCommand words line e = let w = three_words begin_of words line e in retold _ words _ line w.3 (begin_takes w.0 w.1 w.2 line w.4)
arguments_take FeedCommand words line e = let w = three_words feed_of words line e in retold _ words _ line w.3 (feed_takes w.0 w.1 w.2 line w.4)
arguments_take CloseCommand words line e = let w = two_words close_of words line e in retold _ words _ line w.2 (close_takes w.0 w.1 line w.3)
arguments_take TurnCommand words line e = turn_words words line e
arguments_take MoveCommand words line e = let w = three_words move_of words line e in retold _ words _ line w.3 (move_takes w.0 w.1 w.2 line w.4)
arguments_take StopCommand words line e = let w = two_words stop_of words line e in retold _ words _ line w.2 (stop_takes w.0 w.1 line w.3)
arguments_take DueCommand words line e = let w = no_words Due words line e in retold _ words _ line w.0 (subst (λ (l : Line). Spells (codes "due" ∷ []) l) w.1 (record { is_line = tt; same = refl }))
arguments_take ShowCommand words line e = let w = one_words show_of words line e in retold _ words _ line w.1 (show_takes w.0 line w.2)
arguments_take StateCommand words line e = let w = one_words state_word words line e in retold _ words _ line w.1 (state_takes w.0 line w.2)

line_takes : (words : List (List ℕ)) (line : Line) → line_of words ≡ Some line → Spells words line
unfolding line_of
line_takes [] line e = absurd cc
line_takes (word ∷ words) line e =
    let c = read_step e in
    let h = arguments_take c.0 words line c.2 in
    record { is_line = h.is_line; same = next (command_takes word c.0 c.1) refl ∙ h.same }

-- ---- what is spelled so is read

line_again : (line : Line) → IsLine line → line_of (words_of line) ≡ Some line
unfolding line_of then_read command_of arguments_of of_none of_one of_two of_three of_six of_turn invoke_of result_line_of signal_of cancel_of tick_of begin_of feed_of close_of turn_line ending_turn_of move_of stop_of show_of state_word
line_again (Invoke id object version state seed input) h =
    rw (text_reading.again id h.0, text_reading.again object h.1, number_32.again version h.2, mode_reading.again state tt, number_64.again seed h.3, text_reading.again input h.4) refl
line_again (ResultLine id completion value) h = rw (text_reading.again id h.0, number_32.again completion h.1, value_reading.again value h.2) refl
line_again (Signal id target value) h = rw (text_reading.again id h.0, target_reading.again target h.1, value_reading.again value h.2) refl
line_again (Tick now) h = rw (number_64.again now h) refl
line_again (Begin id handler now) h = rw (text_reading.again id h.0, handler_reading.again handler tt, number_64.again now h.1) refl
line_again (Feed id attempt count) h = rw (text_reading.again id h.0, number_32.again attempt h.1, number_32.again count h.2) refl
line_again (Close id attempt) h = rw (text_reading.again id h.0, number_32.again attempt h.1) refl
line_again (Turn id attempt count None) h = rw (turns_again attempt count h.1 h.2 h.3, text_reading.again id h.0) refl
line_again (Turn id attempt count (Some outcome)) h = rw (turns_again attempt count h.1 h.2 h.3, text_reading.again id h.0, outcome_reading.again outcome h.4) refl
line_again (Move id attempt count) h = rw (text_reading.again id h.0, number_32.again attempt h.1, number_32.again count h.2) refl
line_again (Stop id attempt) h = rw (text_reading.again id h.0, number_32.again attempt h.1) refl
line_again Due h = refl
line_again (Cancel id) h = rw (text_reading.again id h) refl
line_again (Show id) h = rw (text_reading.again id h) refl
line_again (State object) h = rw (text_reading.again object h) refl

-- ---- words and spaces

-- a word has no space
abbrev NoSpace : List ℕ → Type 0
NoSpace word = AllByRecursion (λ byte. eqb byte 32 ≡ false) word

digits-no_space : (digits : List ℕ) → AllDigits 10 digits → NoSpace digits
digits-no_space [] h = tt
digits-no_space (digit ∷ digits) h =
    let range = digit_from_value digit h.0 in
    (ne_eqb digit 32 (λ e. let low = range.0 in omega arith), digits-no_space digits h.1)

decimal-no_space : (number : ℕ) → number < 2 ^ 64 → NoSpace (decimal number)
decimal-no_space number below = digits-no_space (decimal number) (decimal_is_IsNumeral number below).0.1

printable-no_space : (bytes : List ℕ) → AllByRecursion IsWordByte bytes → NoSpace bytes
printable-no_space [] h = tt
printable-no_space (byte ∷ bytes) h = (ne_eqb byte 32 (λ e. let low = h.0.0 in omega arith), printable-no_space bytes h.1)

text-no_space : (text : List ℕ) → IsText text → NoSpace (text_word text)
text-no_space [] h = (refl, tt)
text-no_space (byte ∷ bytes) h = printable-no_space (byte ∷ bytes) (recursion_from_All IsWordByte (byte ∷ bytes) h.bytes)

letters : (word : List ℕ) → list_all (λ byte. nat_lt 32 byte) word ≡ true → NoSpace word
letters [] e = tt
letters (byte ∷ word) e =
    let tests = and_parts (nat_lt 32 byte) (list_all (λ b. nat_lt 32 b) word) e in
    let above : 32 < byte = ltb-true 32 byte tests.0 in
    (ne_eqb byte 32 (λ same. omega arith), letters word tests.1)

mode-no_space : (state : StateMode) → NoSpace (mode_word state)
mode-no_space StateMode.Whole = letters (codes "whole") refl
mode-no_space StateMode.None = letters (codes "none") refl

handler-no_space : (handler : HandlerName) → NoSpace (handler_word handler)
handler-no_space Nap = letters (codes "nap") refl
handler-no_space Nap99 = letters (codes "nap99") refl
handler-no_space Race = letters (codes "race") refl
handler-no_space Both = letters (codes "both") refl
handler-no_space Ask = letters (codes "ask") refl
handler-no_space Pair = letters (codes "pair") refl
handler-no_space Twice = letters (codes "twice") refl
handler-no_space Keys = letters (codes "keys") refl
handler-no_space Read = letters (codes "read") refl
handler-no_space Effect = letters (codes "effect") refl
handler-no_space Go = letters (codes "go") refl
handler-no_space Hook = letters (codes "hook") refl
handler-no_space Quorum = letters (codes "quorum") refl

joined-no_space : (front back : List ℕ) → NoSpace front → NoSpace back → NoSpace (front ++ back)
joined-no_space [] back f b = b
joined-no_space (byte ∷ front) back f b = (f.0, joined-no_space front back f.1 b)

coded-no_space : (code : ℕ) (message : List ℕ) → IsCoded code message → NoSpace (coded_word code message)
coded-no_space code message h =
    let below = h.0 in
    joined-no_space (decimal code) (58 ∷ message) (decimal-no_space code (omega arith)) (refl, printable-no_space message (recursion_from_All IsWordByte message h.1))

value-no_space : (value : LineValue) → IsValue value → NoSpace (value_word value)
value-no_space Void h = letters (codes "void") refl
value-no_space (Value bytes) h = (refl, (refl, printable-no_space bytes (recursion_from_All IsWordByte bytes h)))
value-no_space (Failure code message) h = (refl, (refl, coded-no_space code message h))
value-no_space (InvocationId id) h = (refl, (refl, (refl, printable-no_space id (recursion_from_All IsWordByte id h))))

outcome-no_space : (outcome : LineOutcome) → IsOutcome outcome → NoSpace (outcome_word outcome)
outcome-no_space (outcomes.Success bytes) h = (refl, (refl, (refl, printable-no_space bytes (recursion_from_All IsWordByte bytes h))))
outcome-no_space (outcomes.Failure code message) h = joined-no_space (codes "fail:") (coded_word code message) (letters (codes "fail:") refl) (coded-no_space code message h)
outcome-no_space (outcomes.Retry code message) h = joined-no_space (codes "retry:") (coded_word code message) (letters (codes "retry:") refl) (coded-no_space code message h)

outcomes-no_space : (outcome : Option LineOutcome) → IfSome outcome IsOutcome → AllByRecursion NoSpace (outcome_words outcome)
outcomes-no_space None h = tt
outcomes-no_space (Some outcome) h = (outcome-no_space outcome h, tt)

target-no_space : (target : SignalKey) → IsTarget target → NoSpace (target_word target)
target-no_space (ByIndex number) h = (refl, decimal-no_space number (omega (arith, h)))
target-no_space (ByName name) h = text-no_space name h.0

counted-no_space : (command id : List ℕ) (attempt count : ℕ) → NoSpace command → IsText id → attempt < 2 ^ 32 → count < 2 ^ 32 → AllByRecursion NoSpace (command ∷ text_word id ∷ decimal attempt ∷ decimal count ∷ [])
counted-no_space command id attempt count h text a c = (h, (text-no_space id text, (decimal-no_space attempt (omega arith), (decimal-no_space count (omega arith), tt))))

words-no_space : (line : Line) → IsLine line → AllByRecursion NoSpace (words_of line)
words-no_space (Invoke id object version state seed input) h =
    let v = h.2 in let s = h.3 in
    (letters (codes "invoke") refl, (text-no_space id h.0, (text-no_space object h.1, (decimal-no_space version (omega arith), (mode-no_space state, (decimal-no_space seed (omega arith), (text-no_space input h.4, tt)))))))
words-no_space (ResultLine id completion value) h =
    let c = h.1 in
    (letters (codes "result") refl, (text-no_space id h.0, (decimal-no_space completion (omega arith), (value-no_space value h.2, tt))))
words-no_space (Signal id target value) h = (letters (codes "signal") refl, (text-no_space id h.0, (target-no_space target h.1, (value-no_space value h.2, tt))))
words-no_space (Tick now) h = (letters (codes "tick") refl, (decimal-no_space now h, tt))
words-no_space (Begin id handler now) h =
    let n = h.1 in
    (letters (codes "begin") refl, (text-no_space id h.0, (handler-no_space handler, (decimal-no_space now (omega arith), tt))))
words-no_space (Feed id attempt count) h = counted-no_space (codes "feed") id attempt count (letters (codes "feed") refl) h.0 h.1 h.2
words-no_space (Close id attempt) h = let a = h.1 in (letters (codes "close") refl, (text-no_space id h.0, (decimal-no_space attempt (omega arith), tt)))
words-no_space (Turn id attempt count outcome) h =
    let a = h.1 in let c = h.3 in
    (letters (codes "turn") refl, (text-no_space id h.0, (decimal-no_space attempt (omega arith), (decimal-no_space count (omega arith), outcomes-no_space outcome h.4))))
words-no_space (Move id attempt count) h = counted-no_space (codes "move") id attempt count (letters (codes "move") refl) h.0 h.1 h.2
words-no_space (Stop id attempt) h = let a = h.1 in (letters (codes "stop") refl, (text-no_space id h.0, (decimal-no_space attempt (omega arith), tt)))
words-no_space Due h = (letters (codes "due") refl, tt)
words-no_space (Cancel id) h = (letters (codes "cancel") refl, (text-no_space id h, tt))
words-no_space (Show id) h = (letters (codes "show") refl, (text-no_space id h, tt))
words-no_space (State object) h = (letters (codes "state") refl, (text-no_space object h, tt))

split_again : (word : List ℕ) (words : List (List ℕ)) → AllByRecursion NoSpace (word ∷ words) → slice_split (λ byte. eqb byte 32) (join_with_byte 32 (word ∷ words)) ≡ word ∷ words
split_again word [] h = slice_split_none (λ byte. eqb byte 32) word (All-from_recursion (λ byte. eqb byte 32 ≡ false) word h.0)
split_again word (other ∷ words) h =
    slice_split_at (λ byte. eqb byte 32) word 32 (join_with_byte 32 (other ∷ words)) (All-from_recursion (λ byte. eqb byte 32 ≡ false) word h.0) refl ∙ next refl (split_again other words h.1)

words_again : (line : Line) → IsLine line → slice_split (λ byte. eqb byte 32) (spelled line) ≡ words_of line
words_again (Invoke id object version state seed input) h = split_again _ _ (words-no_space (Invoke id object version state seed input) h)
words_again (ResultLine id completion value) h = split_again _ _ (words-no_space (ResultLine id completion value) h)
words_again (Signal id target value) h = split_again _ _ (words-no_space (Signal id target value) h)
words_again (Tick now) h = split_again _ _ (words-no_space (Tick now) h)
words_again (Begin id handler now) h = split_again _ _ (words-no_space (Begin id handler now) h)
words_again (Feed id attempt count) h = split_again _ _ (words-no_space (Feed id attempt count) h)
words_again (Close id attempt) h = split_again _ _ (words-no_space (Close id attempt) h)
words_again (Turn id attempt count outcome) h = split_again _ _ (words-no_space (Turn id attempt count outcome) h)
words_again (Move id attempt count) h = split_again _ _ (words-no_space (Move id attempt count) h)
words_again (Stop id attempt) h = split_again _ _ (words-no_space (Stop id attempt) h)
words_again Due h = split_again _ _ (words-no_space Due h)
words_again (Cancel id) h = split_again _ _ (words-no_space (Cancel id) h)
words_again (Show id) h = split_again _ _ (words-no_space (Show id) h)
words_again (State object) h = split_again _ _ (words-no_space (State object) h)

-- ---- the reader of a line

pub read_line : (bytes : List ℕ) (line : Line) → line_of (slice_split (λ byte. eqb byte 32) bytes) ≡ Some line → IsLine line × (bytes ≡ spelled line)
read_line bytes line e =
    let h = line_takes (slice_split (λ byte. eqb byte 32) bytes) line e in
    (h.is_line, sym (join_with_byte-slice_split 32 bytes) ∙ ap (λ (ws : List (List ℕ)). join_with_byte 32 ws) h.same)

pub read_no_line : (bytes : List ℕ) → line_of (slice_split (λ byte. eqb byte 32) bytes) ≡ None → (line : Line) → IsLine line → bytes ≢ spelled line
read_no_line bytes e line h spells =
    none-some line (sym e ∙ ap line_of (ap (λ (bs : List ℕ). slice_split (λ byte. eqb byte 32) bs) spells ∙ words_again line h) ∙ line_again line h)
