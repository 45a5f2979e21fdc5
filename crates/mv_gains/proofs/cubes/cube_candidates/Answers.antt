use Rattle.std.proofs.Common.{◌≡◌, ◌∙◌, List, [], ◌∷◌, Option, map, ap}
use Rattle.std.proofs.lemmas.Result.{IfOk-weaker}
use Rattle.mv_cover.specs.Literal.{Lit}
use Rattle.mv_cover.specs.declared.line.Line.{Line}
use Rattle.mv_net.specs.declared.parts.FlatNet.{FlatNet}
use Rattle.mv_net.specs.declared.parts.NetParts.{NetParts}
use Rattle.mv_gains.specs.Candidates.{all_lines}
use Rattle.mv_gains.specs.Cubes.{AreCubeCandidates}
use Rattle.mv_gains.proofs.Commons.{candidates_are}
use Rattle.mv_gains.proofs.cubes.cube_candidates.Goals as goal

pub returns : goal.returns
returns c =
    let nets = c.args.net.now.nets in
    let cubes = c.as_slice-2.result.now in
    let alone : List Lit → List (List Lit) = λ x. x ∷ [] in
    let of_nets : cubes ≡ map (λ (l : Line). l.cube) (all_lines nets) =
    c.as_slice-2.ensures.value ∙
    (c.in_ok-cubes.ensures ∙
    ap (λ (ns : List (Option FlatNet)). map (λ (l : Line). l.cube) (all_lines ns)) (c.as_slice.ensures ∙ ap (λ (p : NetParts). p.nets) c.parts.ensures)) in
    IfOk-weaker c.divisors_of.result (λ f. f.items ≡ map alone c.in_ok-listed.field-0.items) (λ f. AreCubeCandidates nets f.items)
    (λ f are. candidates_are nets cubes c.in_ok-found.found.keys f.items of_nets c.in_ok-found.ensures (are ∙ ap (map alone) c.in_ok-listed.ensures)) c.divisors_of.ensures
