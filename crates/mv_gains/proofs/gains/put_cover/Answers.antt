use Rattle.std.proofs.Common.{◌≡◌, ◌∙◌, List, [], length, get_or, refl, ap, subst, arith}
use Rattle.std.proofs.lemmas.List.{get_or_default}
use Rattle.std.proofs.lemmas.List.Elements.{All-set}
use Rattle.mv_divide.specs.declared.part.Part.{Part}
use Rattle.mv_net.specs.declared.parts.NetParts.{NetParts}
use Rattle.mv_gains.specs.Known.{ArePartsOn, IsMarked}
use Rattle.mv_gains.specs.Tables.{IsReady}
use Rattle.mv_gains.proofs.Renewal.{put_ready}
use Rattle.mv_gains.proofs.Staying.{stays_put}
use Rattle.mv_gains.proofs.gains.put_cover.Goals as goal

pub returns-clause-put : goal.returns-clause-put
returns-clause-put c =
    let covers = c.args.kept.now.covers.items in
    let now = c.args.kept.now.now in
    let n = c.args.n.0 in
    let nets = c.as_slice.ensures ∙ ap (λ (p : NetParts). p.nets) c.parts.ensures in
    let low = ap (λ ns. length ns) nets in
    let ready =
    put_ready c.args.net.now c.as_slice.result.now n c.index-as_slice-place.result c.lines_of-lines.result.now c.of-parts.result c.well_formed-2.ensures nets
    (omega (arith, low, c.requires.below, c.requires.long)) c.index-as_slice-place.is c.lines_of-lines.ensures.lines c.lines_of-lines.ensures.few (c.of-parts.ensures ∙ c.in_ok-parts.ensures) in
    let old : c.as_slice-2.result.now ≡ get_or covers n [] =
    c.as_slice-2.ensures ∙ (c.index.ensures ∙ get_or_default covers n c.index.result.now [] c.requires.below) in
    let one = subst (λ (ps : List Part). IsMarked now (ArePartsOn ps) c.args.kept.now.changed.items c.mark_parts.new.changed.items) old c.mark_parts.ensures in
    let two = subst (λ (ps : List Part). IsMarked now (ArePartsOn ps) c.mark_parts.new.changed.items c.mark_parts-2.new.changed.items) c.as_slice-3.ensures c.mark_parts-2.ensures in
    record {
      candidates = refl;
      now = refl;
      ready = All-set IsReady covers n c.of-parts.result ready c.requires.ready;
      right = stays_put now covers n c.of-parts.result c.args.kept.now.changed.items c.mark_parts.new.changed.items c.mark_parts-2.new.changed.items c.requires.below c.requires.ready one two;
    }
