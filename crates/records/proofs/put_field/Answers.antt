-- `put_field` meets its contract. Assumes nothing.
use native.Mathlib.Omega.{arith}
use Rattle.records.proofs.WriteLaws.{field_written}
use Rattle.records.proofs.put_field.Goals as goal

pub returns : goal.returns
returns c = field_written c.args.bytes.now c.args.at c.args.value c.requires (omega arith) (omega arith) c.to_be_bytes.ensures c.copy_from_slice.ensures.after
