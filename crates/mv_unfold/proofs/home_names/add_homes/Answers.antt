-- The names of the own nets, behind the path.
use Rattle.std.proofs.Common.{◌≡◌, ◌++◌, ◌∙◌, ap, subst}
use Rattle.std.specs.Prelude.{OnOk}
use Rattle.std.specs.List.{flat_map}
use Rattle.mv_base.specs.declared.limits.TheConstants.{MAX_FLAT_NETS}
use Rattle.mv_fault.specs.Tells.{TellsFirst}
use Rattle.mv_fault.specs.declared.flat.FlatFault.TheVariants.{Memory}
use Rattle.mv_unfold.specs.Laid.{places_of}
use Rattle.mv_unfold.specs.Locals.{cut}
use Rattle.mv_unfold.specs.Named.{rest_faults, under}
use Rattle.mv_unfold.specs.Placed.{place_at}
use Rattle.mv_unfold.proofs.Laid.{span_homes}
use Rattle.mv_unfold.proofs.home_names.add_homes.Goals as goal

pub returns-clause-faults : goal.returns-clause-faults
returns-clause-faults c =
    let l = c.args.layout.now in
    let n = c.args.number in
    let own = c.own-own.result.now in
    let e =
    ap (λ w. under w (flat_map (cut c.as_slice-nets.result.now) own)) (c.as_slice.ensures.value ∙ (c.in_ok-add_path.ensures ∙ ap (λ w. w ++ (place_at (places_of l) n).path) c.new-path.ensures.items))
    ∙ (ap (λ ns. under (place_at (places_of l) n).path (flat_map (cut ns) own)) (c.as_slice-nets.ensures ∙ c.nets.ensures)
    ∙ span_homes l n own c.requires.laid c.requires.number c.own-own.ensures) in
    subst (λ ws. TellsFirst Memory c.add_spans.result (rest_faults MAX_FLAT_NETS c.args.names.now ws)) e c.add_spans.ensures.faults

pub returns-clause-added : goal.returns-clause-added
returns-clause-added c =
    let l = c.args.layout.now in
    let n = c.args.number in
    let own = c.own-own.result.now in
    let e =
    ap (λ w. under w (flat_map (cut c.as_slice-nets.result.now) own)) (c.as_slice.ensures.value ∙ (c.in_ok-add_path.ensures ∙ ap (λ w. w ++ (place_at (places_of l) n).path) c.new-path.ensures.items))
    ∙ (ap (λ ns. under (place_at (places_of l) n).path (flat_map (cut ns) own)) (c.as_slice-nets.ensures ∙ c.nets.ensures)
    ∙ span_homes l n own c.requires.laid c.requires.number c.own-own.ensures) in
    subst (λ ws. OnOk c.add_spans.result (c.add_spans.new.homes ≡ c.args.names.now ++ ws)) e c.add_spans.ensures.added
