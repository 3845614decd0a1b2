use Rattle.std.proofs.Common.{inl, inr, sym, ap, subst, ◌∙◌, List, [], ◌∷◌, ◌++◌, Option, Ok}
use Rattle.store_steps.specs.declared.frame.FrameReply.{FrameReply}
use Rattle.store_calls.specs.Frames.{StepsAttempt}
use Rattle.journal_store.specs.StoreStanding.{Leads}
use Rattle.journal_store.specs.FrameAcceptance.{SettlesStep}
use Rattle.journal_store.proofs.OutputAcceptance.{more_behind, next_none, next_refused, next_taken, next_unroomed}
use Rattle.journal_store.proofs.Lasting.{same_kept}
use Rattle.journal_store.proofs.accept.take_next.Goals as goal

pub returns-then-is_err-clause-does : goal.returns-then-is_err-clause-does
returns-then-is_err-clause-does g c =
    next_unroomed g.S.Store c.args.id.now c.args.attempt c.args.replies.now.items c.reserve.new.self.items c.reserve.ensures.items c.args.store.now

pub returns-in-Ok-Some-clause-does : goal.returns-in-Ok-Some-clause-does
returns-in-Ok-Some-clause-does g c =
    let old = c.args.store.now in
    let new = c.step.new.self in
    let reply = c.in-Ok-Some.reply in
    next_taken g.S.Store c.args.id.now c.args.attempt old new c.args.replies.now.items c.push_reserved.new.self.items reply c.ends_attempt.result (sym c.ends_attempt.ensures.value)
    (c.push_reserved.ensures.items ∙ ap (λ (all : List FrameReply). all ++ reply ∷ []) c.reserve.ensures.items)
    (subst (λ (o : Option FrameReply). Leads g.S.Store (StepsAttempt c.args.id.now c.args.attempt (Ok o)) old new) c.in-Ok-Some.field-0-is c.in-Ok-Some.ensures.does)

pub returns-in-Ok-None-clause-does : goal.returns-in-Ok-None-clause-does
returns-in-Ok-None-clause-does g c =
    let old = c.args.store.now in
    let new = c.step.new.self in
    next_none g.S.Store c.args.id.now c.args.attempt old new c.args.replies.now.items c.reserve.new.self.items c.reserve.ensures.items
    (subst (λ (o : Option FrameReply). Leads g.S.Store (StepsAttempt c.args.id.now c.args.attempt (Ok o)) old new) c.in-Ok-None.field-0-is c.in-Ok-None.ensures.does)

pub returns-in-Err-clause-does : goal.returns-in-Err-clause-does
returns-in-Err-clause-does g c =
    next_refused g.S.Store c.args.id.now c.args.attempt c.args.store.now c.step.new.self c.args.replies.now.items c.reserve.new.self.items c.in-Err.why c.reserve.ensures.items c.in-Err.ensures.does

pub returns-then-is_err-clause-settled : goal.returns-then-is_err-clause-settled
returns-then-is_err-clause-settled g c = c.reserve.ensures.items

pub returns-in-Ok-Some-clause-settled : goal.returns-in-Ok-Some-clause-settled
returns-in-Ok-Some-clause-settled g c =
    let old = c.args.store.now in
    let new = c.step.new.self in
    let reply = c.in-Ok-Some.reply in
    inl (
      reply,
      c.push_reserved.ensures.items ∙ ap (λ (all : List FrameReply). all ++ reply ∷ []) c.reserve.ensures.items,
      subst (λ (o : Option FrameReply). SettlesStep g.S.Store c.args.id.now c.args.attempt (Ok o) old new) c.in-Ok-Some.field-0-is c.in-Ok-Some.ensures.settled,
    )

pub returns-in-Ok-None-clause-settled : goal.returns-in-Ok-None-clause-settled
returns-in-Ok-None-clause-settled g c =
    let old = c.args.store.now in
    let new = c.step.new.self in
    inr (c.reserve.ensures.items, subst (λ (o : Option FrameReply). SettlesStep g.S.Store c.args.id.now c.args.attempt (Ok o) old new) c.in-Ok-None.field-0-is c.in-Ok-None.ensures.settled)

pub returns-in-Err-clause-settled : goal.returns-in-Err-clause-settled
returns-in-Err-clause-settled g c = c.reserve.ensures.items

pub returns-in-Ok-Some-clause-kept : goal.returns-in-Ok-Some-clause-kept
returns-in-Ok-Some-clause-kept g c same =
    let reply = c.in-Ok-Some.reply in
    let more = c.push_reserved.ensures.items ∙ ap (λ (all : List FrameReply). all ++ reply ∷ []) c.reserve.ensures.items in
    absurd (more_behind c.args.replies.now.items reply (sym more ∙ same))

pub returns-in-Ok-None-clause-kept : goal.returns-in-Ok-None-clause-kept
returns-in-Ok-None-clause-kept g c same =
    let old = c.args.store.now in
    let new = c.step.new.self in
    same_kept g.S.Store old new (subst (λ (o : Option FrameReply). SettlesStep g.S.Store c.args.id.now c.args.attempt (Ok o) old new) c.in-Ok-None.field-0-is c.in-Ok-None.ensures.settled)

pub returns-in-Err-clause-kept : goal.returns-in-Err-clause-kept
returns-in-Err-clause-kept g c same = c.in-Err.ensures.kept
