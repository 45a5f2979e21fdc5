use Rattle.std.proofs.Common.{◌++◌, codes, decimal, refl}
use Rattle.mv_base.proofs.Gains.{appends, start, next, stop, last}
use Rattle.mv_fault.specs.Told.{head}
use Rattle.mv_fault.proofs.tell.put_head.Goals as goal

pub returns-in_err-put_fault_name : goal.returns-in_err-put_fault_name
unfolding head
returns-in_err-put_fault_name g c =
    stop appends (codes " line " ++ decimal c.args.line) _ _ (start appends _ _) refl c.in_err-put_fault_name.ensures c.from_residual.ensures.1

pub returns : goal.returns
unfolding head
returns g c =
    rw (c.as_bytes.ensures.value, c.format.ensures.text) at (last appends (next appends (start appends _ _) refl c.in_ok-put_fault_name.ensures) c.put_both.ensures)
