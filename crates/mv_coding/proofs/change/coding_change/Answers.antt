-- The change is the one that makes the network behind the encoding; or some new table is too wide.
use Rattle.mv_coding.proofs.Changing.{few_codes, made_held, made_narrow, made_wide, change_makes, change_fits, change_adds}
use Rattle.mv_coding.proofs.change.coding_change.Goals as goal

pub new-requires-clause-values : goal.new-requires-clause-values
new-requires-clause-values c = few_codes c.args.net.now c.args.n.0 _ c.args.codes.now c.well_formed-2.ensures c.requires.form

pub readers_coded-requires-clause-held : goal.readers_coded-requires-clause-held
readers_coded-requires-clause-held c = made_held c.args.net.now c.args.n c.args.names.now c.args.codes.now c.in-Ok.coding c.next_number.result c.in-Ok.ensures.coding c.next_number.ensures c.requires.table

pub returns-in-Err-readers_coded-clause-wide : goal.returns-in-Err-readers_coded-clause-wide
returns-in-Err-readers_coded-clause-wide c =
    made_wide c.args.net.now c.args.n c.args.names.now c.args.codes.now c.in-Ok.coding c.next_number.result c.in-Ok.ensures.coding c.next_number.ensures c.in-Err-readers_coded.stop c.in-Err-readers_coded.ensures.wide

pub bits_for-requires-clause-few : goal.bits_for-requires-clause-few
bits_for-requires-clause-few c = few_codes c.args.net.now c.args.n.0 _ c.args.codes.now c.well_formed-2.ensures c.requires.form

pub returns-in-Ok-bits_for-clause-makes : goal.returns-in-Ok-bits_for-clause-makes
returns-in-Ok-bits_for-clause-makes c =
    change_makes c.args.net.now c.args.n c.args.names.now c.args.codes.now c.in-Ok.coding c.next_number.result c.in-Ok.ensures.coding c.next_number.ensures c.in-Ok-readers_coded.set c.in-Ok-bits_for.change c.well_formed-2.ensures
    c.requires.table c.in-Ok-readers_coded.ensures.tables c.in-Ok-bits_for.ensures

pub returns-in-Ok-bits_for-clause-fits : goal.returns-in-Ok-bits_for-clause-fits
returns-in-Ok-bits_for-clause-fits c =
    change_fits c.args.net.now c.args.n c.args.names.now c.args.codes.now c.in-Ok.coding c.next_number.result c.in-Ok.ensures.coding c.next_number.ensures c.in-Ok-readers_coded.set c.in-Ok-bits_for.change c.well_formed-2.ensures
    c.requires.table c.in-Ok-readers_coded.ensures.tables c.in-Ok-bits_for.ensures c.requires.fresh

pub returns-in-Ok-bits_for-clause-adds : goal.returns-in-Ok-bits_for-clause-adds
returns-in-Ok-bits_for-clause-adds c =
    change_adds c.args.net.now c.args.n c.args.names.now c.args.codes.now c.in-Ok.coding c.next_number.result c.in-Ok.ensures.coding c.next_number.ensures c.in-Ok-readers_coded.set c.in-Ok-bits_for.change c.well_formed-2.ensures
    c.requires.table c.in-Ok-readers_coded.ensures.tables c.in-Ok-bits_for.ensures

pub returns-in-Ok-bits_for-clause-narrow : goal.returns-in-Ok-bits_for-clause-narrow
returns-in-Ok-bits_for-clause-narrow c =
    made_narrow c.args.net.now c.args.n c.args.names.now c.args.codes.now c.in-Ok.coding c.next_number.result c.in-Ok.ensures.coding c.next_number.ensures c.in-Ok-readers_coded.ensures.narrow
