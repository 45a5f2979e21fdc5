-- The items of a script, one by one. For private functions.
use Rattle.std.specs.Prelude.{List, [], ◌∷◌}
use Rattle.mv_script.specs.declared.copying.Item.{Item}
use Rattle.mv_script.specs.declared.copying.Item.TheVariants.{Do as one_command, Repeat as one_repeat, Better as one_better}
use Rattle.mv_script.specs.Scripts.{Items, Do, Repeat, Better, items_of}

-- an item before others
abbrev pub item_before : Item → Items → Items
item_before (one_command command) rest = Do command rest
item_before (one_repeat times inside) rest = Repeat times (items_of inside) rest
item_before (one_better inside) rest = Better (items_of inside) rest

-- items in order, before others
abbrev pub chained : List Item → Items → Items
chained [] rest = rest
chained (item ∷ items) rest = item_before item (chained items rest)
