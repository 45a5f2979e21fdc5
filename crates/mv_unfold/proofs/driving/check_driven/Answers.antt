-- The counts of all nets are the drivers of the whole, up to two.
use Rattle.std.proofs.Common.{◌≡◌, Some, length, sym, ◌∙◌, ap, subst}
use Rattle.std.proofs.lemmas.List.{length-map}
use Rattle.std.proofs.lemmas.Result.{err_from_is_err_and}
use Rattle.mv_fault.specs.Tells.{TellsFirst, first}
use Rattle.mv_fault.proofs.Firsts.{told_of}
use Rattle.mv_fault.specs.declared.flat.FlatFault.TheVariants.{Memory}
use Rattle.mv_design.specs.Nets.{root_of}
use Rattle.mv_tree.specs.Unfolded.{unfolded}
use Rattle.mv_unfold.specs.Driven.{driving_faults, twice_counted, undriven_counted}
use Rattle.mv_unfold.proofs.AtPlaces.{inside_root, root_sized, sized, all_counted, counts_are, drivers_told, told_twice, told_undriven}
use Rattle.mv_unfold.proofs.driving.check_driven.Goals as goal

pub tallies-requires-clause-inside : goal.tallies-requires-clause-inside
tallies-requires-clause-inside c = inside_root c.args.layout.now.design.now c.args.layout.now.opened.now c.requires.opened

pub root_counts-requires : goal.root_counts-requires
root_counts-requires c =
    root_sized c.args.layout.now c.in_ok-slots.slots c.as_slice-slots.result.now c.slot.result.now c.as_slice.result.now c.index-as_slice-root.result c.requires.opened
    c.requires.laid c.in_ok-slots.ensures.right c.in_ok-slots.ensures.known c.as_slice-slots.ensures c.as_slice.ensures c.index-as_slice-root.is c.slot.ensures

pub home_counts-requires-clause-sized : goal.home_counts-requires-clause-sized
home_counts-requires-clause-sized c =
    let l = c.args.layout.now in
    sized l c.as_slice-slots.result.now c.as_slice-3.result.now (root_of l.design.now) c.requires.opened.tree
    (all_counted l c.args.names.now c.in_ok-slots.slots c.as_slice-slots.result.now c.as_slice-3.result.now c.slot.result.now c.as_slice.result.now c.index-as_slice-root.result
    c.as_slice-2.result.now c.index-as_slice-root-2.result c.requires.opened c.requires.laid c.requires.names c.distinct.ensures c.in_ok-slots.ensures.right c.in_ok-slots.ensures.known
    c.as_slice-slots.ensures c.as_slice.ensures c.index-as_slice-root.is c.distinct-2.ensures c.as_slice-2.ensures c.index-as_slice-root-2.is c.slot.ensures
    (c.as_slice-3.ensures.value ∙ c.in_ok-root.ensures))

pub check_twice-requires : goal.check_twice-requires
check_twice-requires c =
    let l = c.args.layout.now in
    let m = unfolded (root_of l.design.now) c.requires.opened.tree in
    let counts = counts_are l c.args.names.now c.as_slice-slots.result.now c.as_slice-3.result.now c.in_ok-counts.counts.items (root_of l.design.now) c.requires.opened.tree
    c.requires.names c.in_ok-counts.ensures (all_counted l c.args.names.now c.in_ok-slots.slots c.as_slice-slots.result.now c.as_slice-3.result.now c.slot.result.now c.as_slice.result.now c.index-as_slice-root.result
    c.as_slice-2.result.now c.index-as_slice-root-2.result c.requires.opened c.requires.laid c.requires.names c.distinct.ensures c.in_ok-slots.ensures.right c.in_ok-slots.ensures.known
    c.as_slice-slots.ensures c.as_slice.ensures c.index-as_slice-root.is c.distinct-2.ensures c.as_slice-2.ensures c.index-as_slice-root-2.is c.slot.ensures
    (c.as_slice-3.ensures.value ∙ c.in_ok-root.ensures)) in
    ap length c.as_slice-5.ensures.value ∙ (ap length counts ∙ (length-map c.args.names.now (drivers_told m) ∙ ap length (sym c.as_slice-4.ensures)))

pub check_undriven-requires : goal.check_undriven-requires
check_undriven-requires c =
    let l = c.args.layout.now in
    let m = unfolded (root_of l.design.now) c.requires.opened.tree in
    let counts = counts_are l c.args.names.now c.as_slice-slots.result.now c.as_slice-3.result.now c.in_ok-counts.counts.items (root_of l.design.now) c.requires.opened.tree
    c.requires.names c.in_ok-counts.ensures (all_counted l c.args.names.now c.in_ok-slots.slots c.as_slice-slots.result.now c.as_slice-3.result.now c.slot.result.now c.as_slice.result.now c.index-as_slice-root.result
    c.as_slice-2.result.now c.index-as_slice-root-2.result c.requires.opened c.requires.laid c.requires.names c.distinct.ensures c.in_ok-slots.ensures.right c.in_ok-slots.ensures.known
    c.as_slice-slots.ensures c.as_slice.ensures c.index-as_slice-root.is c.distinct-2.ensures c.as_slice-2.ensures c.index-as_slice-root-2.is c.slot.ensures
    (c.as_slice-3.ensures.value ∙ c.in_ok-root.ensures)) in
    ap length c.as_slice-7.ensures.value ∙ (ap length counts ∙ (length-map c.args.names.now (drivers_told m) ∙ ap length (sym c.as_slice-6.ensures)))

pub returns-in_err-check_twice : goal.returns-in_err-check_twice
returns-in_err-check_twice c = λ h.
    let l = c.args.layout.now in
    let names = c.args.names.now in
    let m = unfolded (root_of l.design.now) h.tree in
    let counts = counts_are l names c.as_slice-slots.result.now c.as_slice-3.result.now c.in_ok-counts.counts.items (root_of l.design.now) h.tree
    c.requires.names c.in_ok-counts.ensures (all_counted l c.args.names.now c.in_ok-slots.slots c.as_slice-slots.result.now c.as_slice-3.result.now c.slot.result.now c.as_slice.result.now c.index-as_slice-root.result
    c.as_slice-2.result.now c.index-as_slice-root-2.result h c.requires.laid c.requires.names c.distinct.ensures c.in_ok-slots.ensures.right c.in_ok-slots.ensures.known
    c.as_slice-slots.ensures c.as_slice.ensures c.index-as_slice-root.is c.distinct-2.ensures c.as_slice-2.ensures c.index-as_slice-root-2.is c.slot.ensures
    (c.as_slice-3.ensures.value ∙ c.in_ok-root.ensures)) in
    let e = err_from_is_err_and c.from_residual-in_err-check_twice.result c.from_residual-in_err-check_twice.ensures.1 in
    rw (e.1, e.2)
    (told_of Memory _ (twice_counted c.as_slice-4.result.now c.as_slice-5.result.now) (driving_faults m names)
    (λ f k.
    told_twice m names c.as_slice-5.result.now f (c.as_slice-5.ensures.value ∙ counts) (subst (λ ns. first (twice_counted ns c.as_slice-5.result.now) ≡ Some f) c.as_slice-4.ensures k))
    c.in_err-check_twice.ensures)

pub returns : goal.returns
returns c = λ h.
    let l = c.args.layout.now in
    let names = c.args.names.now in
    let m = unfolded (root_of l.design.now) h.tree in
    let counts = counts_are l names c.as_slice-slots.result.now c.as_slice-3.result.now c.in_ok-counts.counts.items (root_of l.design.now) h.tree
    c.requires.names c.in_ok-counts.ensures (all_counted l c.args.names.now c.in_ok-slots.slots c.as_slice-slots.result.now c.as_slice-3.result.now c.slot.result.now c.as_slice.result.now c.index-as_slice-root.result
    c.as_slice-2.result.now c.index-as_slice-root-2.result h c.requires.laid c.requires.names c.distinct.ensures c.in_ok-slots.ensures.right c.in_ok-slots.ensures.known
    c.as_slice-slots.ensures c.as_slice.ensures c.index-as_slice-root.is c.distinct-2.ensures c.as_slice-2.ensures c.index-as_slice-root-2.is c.slot.ensures
    (c.as_slice-3.ensures.value ∙ c.in_ok-root.ensures)) in
    let none = c.in_ok-check_twice.ensures in
    subst (TellsFirst Memory c.check_undriven.result)
    (ap (λ ns. undriven_counted ns c.as_slice-7.result.now) c.as_slice-6.ensures
    ∙ (ap (undriven_counted names) c.as_slice-7.ensures.value
    ∙ told_undriven m names c.in_ok-counts.counts.items counts
    (ap (λ ks. twice_counted names ks) (sym c.as_slice-5.ensures.value) ∙ (ap (λ ns. twice_counted ns c.as_slice-5.result.now) (sym c.as_slice-4.ensures) ∙ none))))
    c.check_undriven.ensures
