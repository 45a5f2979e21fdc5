use Rattle.std.proofs.Common.{◌≡◌, ◌∙◌, List, Option, All, map, ap, sym, subst}
use Rattle.std.proofs.lemmas.Result.{IfOk-weaker}
use Rattle.mv_cover.specs.Literal.{Lit}
use Rattle.mv_cover.specs.Cubes.{IsCube}
use Rattle.mv_cover.specs.declared.line.Line.{Line}
use Rattle.mv_net.specs.declared.parts.FlatNet.{FlatNet}
use Rattle.mv_net.specs.declared.parts.NetParts.{NetParts}
use Rattle.mv_meets.specs.Meets.{IsAnswer}
use Rattle.mv_gains.specs.Candidates.{all_lines}
use Rattle.mv_gains.proofs.Kept.{all_lines_formed}
use Rattle.mv_gains.proofs.Shares.{cubes_formed}
use Rattle.mv_gains.proofs.best.searched_cube.Goals as goal

pub best_meet-requires : goal.best_meet-requires
best_meet-requires c =
    let nets = c.args.net.now.nets in
    let of_nets : c.as_slice-2.result.now ≡ map (λ (l : Line). l.cube) (all_lines nets) =
    c.as_slice-2.ensures.value ∙
    (c.in_ok-cubes.ensures ∙
    ap (λ (ns : List (Option FlatNet)). map (λ (l : Line). l.cube) (all_lines ns)) (c.as_slice.ensures ∙ ap (λ (p : NetParts). p.nets) c.parts.ensures)) in
    subst (All IsCube) (sym of_nets) (cubes_formed nets (all_lines_formed c.args.net.now c.well_formed-2.ensures))

pub returns : goal.returns
returns c =
    let nets = c.args.net.now.nets in
    let of_nets : c.as_slice-2.result.now ≡ map (λ (l : Line). l.cube) (all_lines nets) =
    c.as_slice-2.ensures.value ∙
    (c.in_ok-cubes.ensures ∙
    ap (λ (ns : List (Option FlatNet)). map (λ (l : Line). l.cube) (all_lines ns)) (c.as_slice.ensures ∙ ap (λ (p : NetParts). p.nets) c.parts.ensures)) in
    IfOk-weaker c.best_meet.result (IsAnswer c.as_slice-2.result.now) (IsAnswer (map (λ (l : Line). l.cube) (all_lines nets)))
    (λ a h. subst (λ (ks : List (List Lit)). IsAnswer ks a) of_nets h) c.best_meet.ensures
