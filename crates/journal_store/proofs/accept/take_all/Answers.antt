use Rattle.std.proofs.Common.{rules, Ok, Err}
use Rattle.journal_store.proofs.OutputAcceptance.{first_endures, goes_further, joined_lasts, joined_on, joined_over, kept_on, refused_settled, refused_so, refused_tried, rests_settled, rests_so, settled_on}
use Rattle.journal_store.proofs.accept.take_all.Goals as goal

pub loop-replies-init : goal.loop-replies-init
loop-replies-init g c = record {
  taken = joined_on g.S.Store c.args.id.now c.args.attempt c.args.store.now c.take_joined-replies.new.self c.take_joined-replies.result (search rules) c.take_joined-replies.ensures.does;
  settled = c.take_joined-replies.ensures.settled;
  kept = c.take_joined-replies.ensures.kept;
  crash = c.take_joined-replies.ensures.crash;
}

pub returns-then-does_end-clause-does : goal.returns-then-does_end-clause-does
returns-then-does_end-clause-does g c = joined_over g.S.Store c.args.id.now c.args.attempt c.args.store.now c.take_joined-replies.new.self c.take_joined-replies.result (search rules) c.take_joined-replies.ensures.does

pub returns-then-does_end-clause-settled : goal.returns-then-does_end-clause-settled
returns-then-does_end-clause-settled g c = joined_lasts g.S.Store c.args.id.now c.args.attempt c.args.store.now c.take_joined-replies.new.self c.take_joined-replies.result c.take_joined-replies.ensures.settled

pub loop-replies-preserved : goal.loop-replies-preserved
loop-replies-preserved g c =
    let old = c.loop-replies.store in
    let new = c.take_next.new.store in
    let before = c.loop-replies.replies.items in
    let after = c.take_next.new.replies.items in
    let taken = c.loop-replies.invariant.taken in
    record {
      taken = goes_further g.S.Store c.args.id.now c.args.attempt c.args.store.now old new before after taken c.take_next.ensures.crash c.in-Ok-true.field-0 (search rules) c.in-Ok-true.ensures.does;
      settled = settled_on g.S.Store c.args.id.now c.args.attempt c.args.store.now old new before after taken c.take_next.ensures.crash c.in-Ok-true.field-0 c.loop-replies.invariant.settled c.in-Ok-true.ensures.settled;
      kept = kept_on g.S.Store c.args.id.now c.args.attempt c.args.store.now old new before after taken c.take_next.ensures.crash (Ok c.in-Ok-true.field-0) c.in-Ok-true.ensures.settled c.loop-replies.invariant.kept c.take_next.ensures.kept;
      crash = first_endures g.S.Store c.args.id.now c.args.attempt c.args.store.now old new before after taken c.take_next.ensures.crash c.loop-replies.invariant.crash;
    }

pub returns-in-Ok-false-clause-does : goal.returns-in-Ok-false-clause-does
returns-in-Ok-false-clause-does g c =
    rests_so g.S.Store c.args.id.now c.args.attempt c.args.store.now c.loop-replies.store c.take_next.new.store c.loop-replies.replies.items c.take_next.new.replies.items
    c.loop-replies.invariant.taken c.take_next.ensures.crash c.in-Ok-false.field-0 (search rules) c.in-Ok-false.ensures.does

pub returns-in-Ok-false-clause-crash : goal.returns-in-Ok-false-clause-crash
returns-in-Ok-false-clause-crash g c =
    first_endures g.S.Store c.args.id.now c.args.attempt c.args.store.now c.loop-replies.store c.take_next.new.store c.loop-replies.replies.items c.take_next.new.replies.items
    c.loop-replies.invariant.taken c.take_next.ensures.crash c.loop-replies.invariant.crash

pub returns-in-Err-clause-does : goal.returns-in-Err-clause-does
returns-in-Err-clause-does g c =
    refused_so g.S.Store c.args.id.now c.args.attempt c.args.store.now c.loop-replies.store c.take_next.new.store c.loop-replies.replies.items c.take_next.new.replies.items
    c.loop-replies.invariant.taken c.take_next.ensures.crash c.in-Err.why c.in-Err.ensures.does

pub returns-in-Err-clause-crash : goal.returns-in-Err-clause-crash
returns-in-Err-clause-crash g c =
    first_endures g.S.Store c.args.id.now c.args.attempt c.args.store.now c.loop-replies.store c.take_next.new.store c.loop-replies.replies.items c.take_next.new.replies.items
    c.loop-replies.invariant.taken c.take_next.ensures.crash c.loop-replies.invariant.crash

pub returns-in-Ok-false-clause-settled : goal.returns-in-Ok-false-clause-settled
returns-in-Ok-false-clause-settled g c =
    rests_settled g.S.Store c.args.id.now c.args.attempt c.args.store.now c.loop-replies.store c.take_next.new.store c.loop-replies.replies.items c.take_next.new.replies.items
    c.loop-replies.invariant.taken c.take_next.ensures.crash c.in-Ok-false.field-0 c.loop-replies.invariant.settled c.in-Ok-false.ensures.settled

pub returns-in-Err-clause-settled : goal.returns-in-Err-clause-settled
returns-in-Err-clause-settled g c =
    refused_settled g.S.Store c.args.id.now c.args.attempt c.args.store.now c.loop-replies.store c.take_next.new.store c.loop-replies.replies.items c.take_next.new.replies.items
    c.loop-replies.invariant.taken c.take_next.ensures.crash c.in-Err.why c.loop-replies.invariant.settled c.in-Err.ensures.settled

pub returns-in-Ok-false-clause-kept : goal.returns-in-Ok-false-clause-kept
returns-in-Ok-false-clause-kept g c =
    kept_on g.S.Store c.args.id.now c.args.attempt c.args.store.now c.loop-replies.store c.take_next.new.store c.loop-replies.replies.items c.take_next.new.replies.items
    c.loop-replies.invariant.taken c.take_next.ensures.crash (Ok c.in-Ok-false.field-0) c.in-Ok-false.ensures.settled c.loop-replies.invariant.kept c.take_next.ensures.kept

pub returns-in-Err-clause-kept : goal.returns-in-Err-clause-kept
returns-in-Err-clause-kept g c =
    kept_on g.S.Store c.args.id.now c.args.attempt c.args.store.now c.loop-replies.store c.take_next.new.store c.loop-replies.replies.items c.take_next.new.replies.items
    c.loop-replies.invariant.taken c.take_next.ensures.crash (Err c.in-Err.why) c.in-Err.ensures.settled c.loop-replies.invariant.kept c.take_next.ensures.kept

pub returns-in-Err-clause-cause : goal.returns-in-Err-clause-cause
returns-in-Err-clause-cause g c =
    refused_tried g.S.Store c.args.id.now c.args.attempt c.args.store.now c.loop-replies.store c.take_next.new.store c.loop-replies.replies.items c.take_next.new.replies.items
    c.loop-replies.invariant.taken c.take_next.ensures.crash c.loop-replies.invariant.crash c.in-Err.why c.in-Err.ensures.settled c.in-Err.ensures.cause
