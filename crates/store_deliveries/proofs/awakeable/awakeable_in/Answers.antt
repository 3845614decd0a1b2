use Rattle.std.proofs.Common.{◌≡◌, ap, subst, ◌∙◌, ℕ, true, false, List, take, drop, bytes_eq}
use Rattle.base64.specs.Engines.{url_safe_no_pad}
use Rattle.base64.specs.GeneralPurpose.{decode_of}
use Rattle.store_deliveries.specs.Awakeables.{awakeable_prefix, if_decoded, named_told}
use Rattle.store_deliveries.proofs.Awakeables.{no_prefix, text_read}
use Rattle.store_deliveries.proofs.Options.{ok_then}
use Rattle.store_deliveries.proofs.awakeable.awakeable_in.Goals as goal

pub returns-in-Some : goal.returns-in-Some
returns-in-Some c =
    ok_then named_told (if_decoded (decode_of url_safe_no_pad c.in-Some.symbols.now)) _ c.decoded_in.result c.decoded_in.ensures
    (text_read c.args.text.now c.in-Some.symbols.now (subst (λ (t : List ℕ). bytes_eq (take 6 t) awakeable_prefix ≡ true) c.bytes_of.ensures c.in-Some.ensures.cases.0)
    (c.in-Some.ensures.cases.1 ∙ ap (drop 6) c.bytes_of.ensures))

pub returns-in-None : goal.returns-in-None
returns-in-None c = no_prefix c.args.text.now (subst (λ (t : List ℕ). bytes_eq (take 6 t) awakeable_prefix ≡ false) c.bytes_of.ensures c.in-None.ensures.cases)
