-- A net that is read is swept where it is no buffer and, if it is a constant, doesn't save.
use Rattle.mv_sweep.proofs.Swept.{folds, stays_unfolded, wide_unfolded, read_swept}
use Rattle.mv_sweep.proofs.way.way_of_read.Goals as goal

pub returns-in_default-plain_constant-clause-way : goal.returns-in_default-plain_constant-clause-way
returns-in_default-plain_constant-clause-way c =
    read_swept c.args.net.now c.args.n.0 c.requires.read c.in_default.ensures (λ f. c.in_default-plain_constant.ensures f.constant.value f.constant.constant)

pub returns-in-Ok-Saves-clause-way : goal.returns-in-Ok-Saves-clause-way
returns-in-Ok-Saves-clause-way c =
    let saving = rw c.in-Ok-Saves.field-0-is at c.in-Ok-Saves.ensures.verdict in
    folds c.args.net.now c.args.n.0 c.requires.unseen c.requires.read c.in-Some-plain_constant._value.0 c.in-Some-plain_constant.ensures saving

pub returns-in-Ok-Wide-clause-way : goal.returns-in-Ok-Wide-clause-way
returns-in-Ok-Wide-clause-way c =
    let wide = rw c.in-Ok-Wide.field-0-is at c.in-Ok-Wide.ensures.verdict in
    read_swept c.args.net.now c.args.n.0 c.requires.read c.in_default.ensures (wide_unfolded c.args.net.now c.args.n.0 c.well_formed-2.ensures wide)

pub returns-in-Ok-Stays-clause-way : goal.returns-in-Ok-Stays-clause-way
returns-in-Ok-Stays-clause-way c =
    let stays = rw c.in-Ok-Stays.field-0-is at c.in-Ok-Stays.ensures.verdict in
    read_swept c.args.net.now c.args.n.0 c.requires.read c.in_default.ensures (stays_unfolded c.args.net.now c.args.n.0 c.well_formed-2.ensures stays.0)
