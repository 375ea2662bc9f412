use Rattle.vx_values.proofs.Bytes.{bytes_fit}
use Rattle.vx_values.proofs.ints.bit_packing.known_bytes.Goals as goal

pub returns : goal.returns
returns c = bytes_fit c.args.bytes.now c.type_inv.bytes
