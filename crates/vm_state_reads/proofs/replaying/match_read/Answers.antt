use Rattle.std.proofs.Common.{rules, Ok, Err, refl, ◌∙◌, FitsSigned, to_z-of_z, w64}
use Rattle.vm_state_reads.proofs.MismatchedReads.{read_tells}
use Rattle.vm_state_reads.proofs.Matching.{match_settles, match_fails, tells_next, none_read, never_unavailable}
use Rattle.vm_state_reads.proofs.replaying.match_read.Goals as goal

pub returns-in-Ok-clause-matched : goal.returns-in-Ok-clause-matched
returns-in-Ok-clause-matched g c =
    λ made written asks t settled.
    match_settles c.args.ignoring made written c.args.active.now t settled (Unit {0}) (Unit {0}) c.in-Ok.read _ c.are_left-active.ensures (c.in-Ok.ensures.matched made written asks) refl refl

pub returns-in-Err-clause-matched : goal.returns-in-Err-clause-matched
returns-in-Err-clause-matched g c =
    λ made written asks t settled.
    match_fails c.args.ignoring made written c.args.active.now t settled (Unit {0}) c.in-Err.error _ (never_unavailable g.met.E.Command.means g.met.E.Lazy.Command.means g.E.EagerRead.known g.E.EagerRead.bare g.E.EagerRead.asked _ c.args.ignoring c.args.expected _ c.in-Err.error c.in-Err.ensures.read) (c.in-Err.ensures.matched made written asks)

pub returns-in-Ok-clause-next : goal.returns-in-Ok-clause-next
returns-in-Ok-clause-next g c =
    tells_next g.met.E.Command.means g.met.E.Lazy.Command.means g.E.EagerRead.known g.E.EagerRead.bare g.E.EagerRead.asked _ c.args.ignoring c.args.expected c.args.active.now.commands.items c.in-Ok.read c.in-Ok.ensures.read

pub returns-in-Ok-clause-spent : goal.returns-in-Ok-clause-spent
returns-in-Ok-clause-spent g c = λ none.
    none_read g.met.E.Command.means g.met.E.Lazy.Command.means g.E.EagerRead.known g.E.EagerRead.bare g.E.EagerRead.asked _ c.args.ignoring c.args.expected c.args.active.now.commands.items (Ok c.in-Ok.read) none c.in-Ok.ensures.read

pub returns-in-Err-clause-spent : goal.returns-in-Err-clause-spent
returns-in-Err-clause-spent g c = λ none.
    none_read g.met.E.Command.means g.met.E.Lazy.Command.means g.E.EagerRead.known g.E.EagerRead.bare g.E.EagerRead.asked _ c.args.ignoring c.args.expected c.args.active.now.commands.items (Err c.in-Err.error) none c.in-Err.ensures.read

pub returns-in-Err-clause-found : goal.returns-in-Err-clause-found
returns-in-Err-clause-found g c = λ eager lazy typed lazy_typed.
    let fits : FitsSigned w64 c.command_index-index.result = search rules in
    read_tells g.E.Record.record_type g.E.Lazy.Record.record_type eager lazy typed lazy_typed g.E.Record.of g.E.Lazy.Record.of g.E.CommandMessageHeaderEq.erased g.E.Lazy.CommandMessageHeaderEq.erased
    g.E.EagerRead.known g.E.EagerRead.bare g.E.EagerRead.asked _ c.args.ignoring c.args.expected _ (to_z-of_z fits ∙ c.command_index-index.ensures) c.args.active.now.commands.items c.in-Err.error c.in-Err.ensures.read
