use Rattle.std.proofs.Common.{◌∙◌, List, ◌+◌, sym, subst}
use Rattle.mv_cover.specs.Literal.{Lit}
use Rattle.mv_divide.specs.declared.part.Part.{Part}
use Rattle.mv_gains.specs.Holders.{IsNoted, places_in}
use Rattle.mv_gains.proofs.Kept.{TablesMore, tables_more}
use Rattle.mv_gains.proofs.tables.Tables.of_nets.Goals as goal

pub loop-number-preserved : goal.loop-number-preserved
loop-number-preserved c =
    let places = places_in c.note_all.new.holders in
    let noted = subst (λ (ks : List Lit). IsNoted ks c.loop-number.number (places_in c.loop-number.holders) places) c.as_slice.ensures.keys c.in_ok-note_all.ensures in
    let more = tables_more c.args.nets.now c.loop-number.number c.index-nets-number.result c.lines_of-lines.result.now c.in_ok-literals.literals.keys c.of.result c.loop-number.covers.items (places_in c.loop-number.holders) places c.loop-number-test.true c.index-nets-number.is c.requires.few c.requires.lines c.lines_of-lines.ensures.lines c.lines_of-lines.ensures.few c.in_ok-literals.ensures (c.of.ensures ∙ c.in_ok-parts.ensures) noted c.loop-number.invariant.covers c.loop-number.invariant.kept in
    let all = subst (λ (cs : List (List Part)). TablesMore c.args.nets.now (c.loop-number.number + 1) cs places) (sym c.in_ok-push.ensures.items) more in
    record { covers = all.covers_are; kept = all.kept }
