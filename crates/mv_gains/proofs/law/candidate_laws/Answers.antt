use Rattle.mv_gains.proofs.Kept.{all_lines_formed}
use Rattle.mv_gains.proofs.Divisors.{kernel_divisor, cube_divisor, some_literals}
use Rattle.mv_gains.proofs.law.candidate_laws.Goals as goal

pub returns : goal.returns
returns c = record {
  kernels = λ net d formed k. kernel_divisor net.nets d (all_lines_formed net formed) k;
  cubes = λ net d formed k. cube_divisor net.nets d (all_lines_formed net formed) k;
  divisors = λ nets d i. (record { formed = i.formed; distinct = i.distinct }, some_literals d i.some i.literals);
}
