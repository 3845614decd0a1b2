-- A record that stands for a request is kept as that request.
use Rattle.std.proofs.Common.{◌≡◌, refl, sym, ℕ, List, Option, Some, None, option_map}
use Rattle.journal_model.specs.Request.{Request}
use Rattle.journal_model.specs.Spelling.{request_payload}
use Rattle.store_frames.specs.declared.command.AskedFor.{AskedFor}
use Rattle.store_frames.specs.Commands.{asked_for}
use Rattle.store_frames.specs.RecordFrames.{told_command, told_request}

pub told_so : (payload : List ℕ) (asked : AskedFor) (found : Option Request) (o : Option AskedFor) → o ≡ option_map asked_for found → o ≡ Some asked
    → ((request : Request) → found ≡ Some request → payload ≡ request_payload request) → told_command payload asked ≡ told_request found
told_so payload asked None o h is spelled = cc
told_so payload asked (Some request) o h is spelled =
    let same : asked_for request ≡ asked = cc in
    λ i. told_command (spelled request refl i) (sym same i)
