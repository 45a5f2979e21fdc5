use Rattle.mv_alike.proofs.Leaving.{given_is}
use Rattle.mv_alike.proofs.given.given.Goals as goal

pub returns : goal.returns
returns c = λ v.
    given_is c.args.cover.now c.as_slice.result.now c.outputs.result c.default_values.result c.join.result v c.as_slice.ensures (c.outputs.ensures v) (c.default_values.ensures v)
    c.join.ensures
