use Rattle.std.proofs.Common.{◌≡◌, ◌∙◌, ◌+◌, ◌<◌, List, [], length, drop, get_or, subst}
use Rattle.std.proofs.lemmas.List.{drop_all, get_or_default}
use Rattle.std.proofs.lemmas.List.Elements.{All-get_or}
use Rattle.mv_base.specs.declared.number.NetId.{NetId}
use Rattle.mv_gains.specs.Kernels.{AreCandidates}
use Rattle.mv_gains.proofs.Renewal.{kernels_more, unseen_none, unseen_more, waits_on}
use Rattle.mv_gains.proofs.gains.with_kernels.Goals as goal

pub loop-n-init : goal.loop-n-init
loop-n-init c = record { candidates = c.requires.candidates; unseen = unseen_none c.args.list.items }

pub loop-n-preserved : goal.loop-n-preserved
loop-n-preserved c =
    let waiting = c.args.waiting.now in
    let covers = c.args.covers.now in
    let i = c.loop-n.n-index in
    let none : NetId = record { 0 = 0 } in
    let n : NetId = get_or waiting i none in
    let at = get_or_default waiting i none n c.loop-n-test.true in
    let below = All-get_or (λ (m : NetId). m.0 < length covers) waiting i none c.loop-n-test.true c.requires.below in
    let parts : c.as_slice.result.now ≡ get_or covers n.0 [] = c.as_slice.ensures ∙ (c.index-covers-n.is ∙ get_or_default covers n.0 c.index-covers-n.result [] below) in
    record {
      candidates =
          kernels_more covers n (drop (i + 1) waiting) c.as_slice.result.now c.loop-n.list.items c.add_kernels.new.list.items parts
          (subst (λ (ws : List NetId). AreCandidates covers ws c.loop-n.list.items) (waits_on waiting i n c.loop-n-test.true at) c.loop-n.invariant.candidates) c.in_ok-add_kernels.ensures;
      unseen = unseen_more n c.as_slice.result.now c.args.list.items c.loop-n.list.items c.add_kernels.new.list.items c.loop-n.invariant.unseen c.in_ok-add_kernels.ensures;
    }

pub returns-clause-candidates : goal.returns-clause-candidates
returns-clause-candidates c =
    subst (λ (ws : List NetId). AreCandidates c.args.covers.now ws c.loop-n.list.items) (drop_all c.loop-n.n-index c.args.waiting.now c.loop-n-test.false) c.loop-n.invariant.candidates
