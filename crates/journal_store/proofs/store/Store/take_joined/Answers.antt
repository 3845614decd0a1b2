use Rattle.store_calls.specs.Frames.{TakesFirstFrames}
use Rattle.journal_store.specs.StoreView.{stored}
use Rattle.store_live.specs.Attempts.{attempt_of}
use Rattle.journal_store.proofs.Enduring.{quiet_endures}
use Rattle.journal_store.proofs.JoinedCommit.{all_within, joined_crash, joined_does, joined_kept, joined_settled, nothing_taken}
use Rattle.journal_store.proofs.store.Store.take_joined.Goals as goal

pub take_ready-requires : goal.take_ready-requires
take_ready-requires g c = record {
  len = all_within g.S.Store c.args.id.now c.args.attempt c.in-Some.frames (attempt_of c.self.inside.live.attempts c.args.id.now) c.self.inside.tables c.join_live.new.tables c.in-Some.ensures.ready;
}

pub returns-in-Some-clause-does : goal.returns-in-Some-clause-does
returns-in-Some-clause-does g c =
    rw (← c.self.view_is) (joined_does g.S.Store c.self.inside.tables c.join_live.new.tables c.take_ready.new.self.connection c.self.inside.live c.take_ready.new.self.live c.args.id.now c.args.attempt c.in-Some.frames
    c.in-Some.ensures.ready c.join_live.ensures.looks c.take_ready.result c.take_ready.ensures)

pub returns-in-Some-clause-settled : goal.returns-in-Some-clause-settled
returns-in-Some-clause-settled g c =
    rw (← c.self.view_is) (joined_settled g.S.Store c.self.inside.tables c.join_live.new.tables c.take_ready.new.self.connection c.self.inside.live c.take_ready.new.self.live c.args.id.now c.args.attempt c.in-Some.frames
    c.in-Some.ensures.ready c.join_live.ensures.looks c.take_ready.result c.take_ready.ensures)

pub returns-in-Some-clause-kept : goal.returns-in-Some-clause-kept
returns-in-Some-clause-kept g c =
    rw (← c.self.view_is) (joined_kept g.S.Store c.self.inside.tables c.join_live.new.tables c.take_ready.new.self.connection c.self.inside.live c.take_ready.new.self.live c.args.id.now c.args.attempt c.in-Some.frames
    c.in-Some.ensures.ready c.join_live.ensures.looks c.take_ready.result c.take_ready.ensures)

pub returns-in-Some-clause-crash : goal.returns-in-Some-clause-crash
returns-in-Some-clause-crash g c =
    rw (← c.self.view_is) (joined_crash g.S.Store c.self.inside.tables c.join_live.new.tables c.take_ready.new.self.connection c.self.inside.live c.take_ready.new.self.live c.args.id.now c.args.attempt c.in-Some.frames
    c.in-Some.ensures.ready c.join_live.ensures.looks c.take_ready.result c.take_ready.ensures)

pub returns-in-None-clause-does : goal.returns-in-None-clause-does
returns-in-None-clause-does g c =
    rw (← c.self.view_is) (nothing_taken g.S.Store c.self.inside.tables c.join_live.new.tables c.self.inside.live c.args.id.now c.args.attempt c.none_taken.result c.none_taken.ensures.replies c.none_taken.ensures.going c.join_live.ensures.looks)

pub returns-in-None-clause-settled : goal.returns-in-None-clause-settled
returns-in-None-clause-settled g c some = absurd (some c.none_taken.ensures.replies)

pub returns-in-None-clause-kept : goal.returns-in-None-clause-kept
returns-in-None-clause-kept g c = rw (← c.self.view_is) (λ none. c.join_live.ensures.looks.kept)

pub returns-in-None-clause-crash : goal.returns-in-None-clause-crash
returns-in-None-clause-crash g c =
    rw (← c.self.view_is) (quiet_endures g.S.Store (TakesFirstFrames c.args.id.now c.args.attempt) (stored c.self.inside.tables c.self.inside.live) (stored c.join_live.new.tables c.self.inside.live) c.join_live.ensures.looks.crash)
