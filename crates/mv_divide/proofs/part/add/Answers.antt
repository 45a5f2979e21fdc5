-- The line is put to the group of its output set, or makes a new one.
use Rattle.std.proofs.Common.{◌∙◌, List, ◌∷◌, [], ◌++◌, sym, ap, nat_eq}
use Rattle.std.proofs.lemmas.Result.{on_ok_weaker}
use Rattle.indexmap.specs.IndexSet.{insert_key}
use Rattle.mv_cover.specs.Literal.{Lit}
use Rattle.mv_divide.specs.declared.part.Group.{Group}
use Rattle.mv_divide.proofs.Grouping.{grouped_put, grouped_new}
use Rattle.mv_divide.proofs.part.add.Goals as goal

pub returns-in-Some : goal.returns-in-Some
returns-in-Some c =
    on_ok_weaker c.put.result
    (λ put. grouped_put c.args.before.now c.args.line.now c.args.groups.now.outs.keys c.args.groups.now.groups.items c.put.new.groups.items c.in-Some.at c.in_ok-cube.cube (sym c.in-Some.ensures.index) c.in_ok-cube.ensures.copy put c.requires) c.put.ensures

pub returns-in_ok-push-in-None : goal.returns-in_ok-push-in-None
returns-in_ok-push-in-None c =
    let put = c.in_ok-insert-in-None.ensures.keys ∙ ap (insert_key nat_eq c.args.groups.now.outs.keys) c.in_ok-copy-in-None.ensures in
    let is =
    c.in_ok-push-in-None.ensures.items ∙ (ap (λ (g : Group). c.args.groups.now.groups.items ++ g ∷ []) c.in_ok-group_of-in-None.ensures ∙
    ap (λ (q : List Lit). c.args.groups.now.groups.items ++ record { out = c.args.line.now.out; cubes = q ∷ [] } ∷ []) c.in_ok-cube.ensures.copy) in
    grouped_new c.args.before.now c.args.line.now c.args.groups.now.outs.keys c.insert.new.self.keys c.args.groups.now.groups.items c.push.new.self.items (sym c.in-None.ensures.found) put c.in_ok-insert-in-None.ensures.unique is c.requires
