use Rattle.std.proofs.Common.{List, ℕ, subst}
use Rattle.std.specs.Prelude.{IfOk, string_bytes}
use Rattle.store_calls.specs.Calls.{PutsBehind}
use Rattle.store_calls.specs.Frames.{Accepts, AcceptsFirst}
use Rattle.journal_store.specs.OutputAcceptance.{SettlesFrames, accepted_told}
use Rattle.journal_store.specs.StoreStanding.{Endures, Leads}
use Rattle.store_server.proofs.Lasting.{answers_taken}
use Rattle.store_server.proofs.calls.output.Goals as goal

pub returns : goal.returns
returns g c =
    let asked = c.accept-told in
    let id = c.args.id.now in
    let attempt = c.args.attempt in
    let told = accepted_told asked.result in
    let is = c.as_slice.ensures in
    answers_taken g.S.Store c.args.store.now asked.new.self string_bytes c.accepted.result id attempt c.args.bytes.now asked.result c.accepted.ensures
    (subst (λ (bytes : List ℕ). Endures g.S.Store (AcceptsFirst id attempt bytes) c.args.store.now asked.new.self) is asked.ensures.crash)
    (subst (λ (bytes : List ℕ). Leads g.S.Store (Accepts id attempt bytes told) c.args.store.now asked.new.self) is asked.ensures.does)
    (subst (λ (bytes : List ℕ). IfOk asked.result (λ accepted. SettlesFrames g.S.Store (PutsBehind id attempt bytes) id attempt accepted.replies.items accepted.refusal c.args.store.now asked.new.self)) is asked.ensures.settled)
