-- The groups of all lines are the covers.
use Rattle.std.proofs.Common.{◌≡◌, ◌∙◌, map}
use Rattle.std.proofs.lemmas.Result.{IfOk-weaker}
use Rattle.mv_divide.specs.Tables.{parts_of}
use Rattle.mv_divide.specs.Grouped.{as_part}
use Rattle.mv_divide.proofs.Grouping.{parts_are}
use Rattle.mv_divide.proofs.part.parts.Goals as goal

pub returns : goal.returns
returns c =
    let groups = c.in_ok-groups.groups in
    IfOk-weaker c.covers.result (λ parts. parts.items ≡ map as_part groups.groups.items) (λ parts. parts.items ≡ parts_of c.args.lines.now)
    (λ parts e. e ∙ parts_are c.args.lines.now groups.outs.keys groups.groups.items c.in_ok-groups.ensures) c.covers.ensures
