-- Each reset table comes behind the tables that stand before its line, and the others at the end.
use Rattle.std.proofs.Common.{◌≡◌, [], ◌∷◌, ◌++◌, map, sym, ◌∙◌, ap, append-nil}
use Rattle.std.proofs.lemmas.List.{append_assoc, map-append, map-id}
use Rattle.std.proofs.lemmas.Iterator.Adapters.{YieldsList-from_vec}
use Rattle.std.proofs.lemmas.Iterator.Consumers.{YieldsList-end}
use Rattle.mv_design.specs.declared.table.FileTable.{FileTable}
use Rattle.mv_design.specs.ByLine.{by_line}
use Rattle.mv_resets.specs.Resets.{reset_table}
use Rattle.mv_resets.proofs.ByLine.{next_by_line}
use Rattle.mv_resets.proofs.resets.all_tables.Goals as goal

pub loop-reset-preserved : goal.loop-reset-preserved
loop-reset-preserved c = λ more.
    let yielded = c.loop-reset.yielded in
    let table = c.in_ok-table.table in
    let reset = c.in-Some.reset in
    let named : map reset_table (yielded ++ reset ∷ []) ≡ map reset_table yielded ++ table ∷ [] =
    map-append reset_table yielded (reset ∷ []) ∙ ap (λ t. map reset_table yielded ++ t ∷ []) (sym c.in_ok-table.ensures) in
    next_by_line (λ (t : FileTable). t.line) c.loop-reset.all.items c.move_before.new.all.items c.push.new.self.items
    c.loop-reset.rest.items c.move_before.new.rest.items table more c.in_ok-move_before.ensures.moved c.in_ok-move_before.ensures.rest
    c.in_ok-push.ensures.items
    ∙ (c.loop-reset.invariant (table ∷ more)
    ∙ ap (λ ts. by_line (λ (t : FileTable). t.line) ts c.args.tables)
    (sym (ap (λ ts. ts ++ more) named ∙ append_assoc (map reset_table yielded) (table ∷ []) more)))

pub returns : goal.returns
returns c =
    let gives = c.into_iter-reset-iterator.ensures.into_iter_gives in
    let road = YieldsList-from_vec {s = c.into_iter-reset-iterator.result} _ gives.0 (gives.1 ∙ c.into_vec-reset-items.result.ok.0) in
    let end = YieldsList-end road c.loop-reset.yielded c.loop-reset.reset-iterator c.loop-reset.yielded_by c.next.result
    c.next.new.self c.in-None.is c.next.ensures.steps in
    let all : c.loop-reset.yielded ≡ c.args.resets = sym (map-id c.loop-reset.yielded) ∙ (end.0 ∙ c.into_vec-reset-items.ensures) in
    c.of.ensures
    ∙ (c.in_ok-append.ensures.items
    ∙ (ap (λ ts. c.loop-reset.all.items ++ ts) c.from-behind.ensures.0
    ∙ (c.loop-reset.invariant []
    ∙ ap (λ ts. by_line (λ (t : FileTable). t.line) ts c.args.tables) (append-nil (map reset_table c.loop-reset.yielded) ∙ ap (map reset_table) all))))
