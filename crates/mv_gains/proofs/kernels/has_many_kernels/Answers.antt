use Rattle.std.proofs.Common.{◌≡◌, ◌∙◌, Some, None, List, All, slice_get, sym, ap, subst, Bool}
use Rattle.std.proofs.lemmas.List.{take_all}
use Rattle.std.proofs.lemmas.List.Elements.{All-more}
use Rattle.std.specs.Bool.{MatchBool}
use Rattle.std.specs.Option.{option_copied}
use Rattle.mv_net.specs.declared.parts.NetParts.{NetParts}
use Rattle.mv_kernels.specs.Kernels.{HasFew, HasMany}
use Rattle.mv_divide.specs.declared.part.Part.{Part}
use Rattle.mv_divide.specs.Tables.{parts_of}
use Rattle.mv_gains.proofs.Many.{no_table, many_found, all_few}
use Rattle.mv_gains.proofs.kernels.has_many_kernels.Goals as goal

pub returns-in_default : goal.returns-in_default
returns-in_default c =
    let none : slice_get c.args.net.now.nets c.args.n.0 ≡ None =
    ap (λ (p : NetParts). slice_get p.nets c.args.n.0) (sym c.parts.ensures) ∙ (sym c.get.ensures ∙ ap option_copied c.in_default.is) in
    no_table c.args.net.now.nets c.args.n.0 none

pub returns-then-branch : goal.returns-then-branch
returns-then-branch c =
    let table : slice_get c.args.net.now.nets c.args.n.0 ≡ Some c.in-Some.table.now =
    ap (λ (p : NetParts). slice_get p.nets c.args.n.0) (sym c.parts.ensures) ∙ (sym c.get.ensures ∙ ap option_copied c.in-Some.is) in
    let parts = c.as_slice-part-items.ensures.value ∙ (c.in_ok-parts.ensures ∙ ap parts_of c.lines_of.ensures.lines) in
    let found = subst (λ (b : Bool). MatchBool b (HasMany c.cubes.result.now) (HasFew c.cubes.result.now)) c.if-branch.true c.in_ok-has_many.ensures in
    many_found c.args.net.now.nets c.args.n.0 c.in-Some.table.now c.as_slice-part-items.result.now c.loop-part.part-index c.part-item.result table parts c.loop-part-test.true c.part-item.is
    (subst HasMany c.cubes.ensures.cubes found)

pub loop-part-preserved : goal.loop-part-preserved
loop-part-preserved c =
    let found = subst (λ (b : Bool). MatchBool b (HasMany c.cubes.result.now) (HasFew c.cubes.result.now)) c.if-branch.false c.in_ok-has_many.ensures in
    let few : HasFew c.part-item.result.cover = subst HasFew c.cubes.ensures.cubes found in
    All-more (λ (p : Part). HasFew p.cover) c.as_slice-part-items.result.now c.loop-part.part-index c.part-item.result c.loop-part-test.true c.loop-part.invariant
    (subst (λ (p : Part). HasFew p.cover) c.part-item.is few)

pub returns : goal.returns
returns c =
    let table : slice_get c.args.net.now.nets c.args.n.0 ≡ Some c.in-Some.table.now =
    ap (λ (p : NetParts). slice_get p.nets c.args.n.0) (sym c.parts.ensures) ∙ (sym c.get.ensures ∙ ap option_copied c.in-Some.is) in
    let parts = c.as_slice-part-items.ensures.value ∙ (c.in_ok-parts.ensures ∙ ap parts_of c.lines_of.ensures.lines) in
    let items = c.as_slice-part-items.result.now in
    all_few c.args.net.now.nets c.args.n.0 c.in-Some.table.now items table parts
    (subst (λ (ps : List Part). All (λ (p : Part). HasFew p.cover) ps) (take_all c.loop-part.part-index items c.loop-part-test.false) c.loop-part.invariant)
