-- A script with a fault isn't accepted.
use Rattle.std.proofs.Common.{rules}
use Rattle.mv_opt.proofs.Takes.{script_refused}
use Rattle.mv_opt.proofs.take.take_script.Goals as goal

pub returns-in-Err-Text-clause-stops : goal.returns-in-Err-Text-clause-stops
returns-in-Err-Text-clause-stops g c =
    script_refused c.args.name.now (g.F.Files.state c.args.files.now) (g.F.Files.state c.read_file.new.files) c.in-Ok.text.items c.in-Err-Text.fault
    (search rules) (search rules)
