use Rattle.std.proofs.Common.{arith}
use Rattle.base64.specs.GeneralPurpose.{IsBytes}
use Rattle.vm_types.proofs.Symbols.{same_encoding}
use Rattle.vm_types.proofs.id.put_symbols.Goals as goal

pub returns : goal.returns
returns c =
    let small : IsBytes c.args.named.now = λ i. let fits = c.type_inv.named i in omega arith in
    rw (same_encoding c.args.named.now small) c.encode_string.ensures.ok
