-- A fault of the bytes: want of memory is told apart.
use Rattle.std.proofs.Common.{◌≡◌, rules, ⊎_elim}
use Rattle.mv_lex.specs.declared.fault.LexFault.TheVariants.{Memory}
use Rattle.mv_base.specs.declared.limits.TheConstants.{MAX_NETWORK_BYTES}
use Rattle.mv_files.specs.LexedFiles.{HasFault}
use Rattle.mv_format.proofs.Networks.{file_faulty}
use Rattle.mv_format.proofs.network.take_network.Goals as goal

pub returns-in-Err-Lex-clause-stops : goal.returns-in-Err-Lex-clause-stops
returns-in-Err-Lex-clause-stops g c =
    let stopped = rw c.in-Err-Lex.field-0-is at c.in-Err-Lex.ensures.stopped in
    rw c.in-Err-Lex.fault-is
    (⊎_elim
    (λ (memory : c.in-Err-Lex.fault ≡ Memory). absurd (search rules))
    (λ (h : HasFault (g.F.Files.state c.args.files.now) c.args.name.now MAX_NETWORK_BYTES c.in-Err-Lex.fault). file_faulty _ _ _ _ h)
    stopped)
