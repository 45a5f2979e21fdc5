use Rattle.mv_kernels.proofs.Orders.{cube_order, cubes_order}
use Rattle.mv_kernels.proofs.order.order_laws.Goals as goal

pub returns-clause-cubes : goal.returns-clause-cubes
returns-clause-cubes c = cube_order

pub returns-clause-lists : goal.returns-clause-lists
returns-clause-lists c = cubes_order
