use Rattle.std.proofs.Common.{refl}
use Rattle.olap_core.specs.Outputs.{handed, refused}
use Rattle.olap_core.proofs.olap_output.Goals as goal

pub returns-in-Ok : goal.returns-in-Ok
returns-in-Ok c = handed c.in-Ok.ensures (rw c.as_slice.ensures.value at c.hand_out.ensures)

pub returns-in-Err : goal.returns-in-Err
returns-in-Err c = refused c.in-Err.fault c.in-Err.ensures c.number.ensures refl refl
