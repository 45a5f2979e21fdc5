use Rattle.std.proofs.Common.{◌∙◌, List, [], filter, sym, ap, subst}
use Rattle.mv_divide.specs.declared.part.Part.{Part}
use Rattle.mv_gains.specs.Gains.{covers_at}
use Rattle.mv_gains.specs.Kernels.{AreCandidates}
use Rattle.mv_gains.specs.Renewing.{is_other}
use Rattle.mv_gains.proofs.Renewal.{all_renewed, but_same, others_are}
use Rattle.mv_gains.proofs.gains.renewed.Goals as goal

pub put_covers-requires-clause-others : goal.put_covers-requires-clause-others
put_covers-requires-clause-others c = but_same covers_at c.args.waiting.now c.args.net.now.nets c.args.kept.covers.items c.in_ok-kept.kept.covers.items c.in_ok-kept.ensures.same c.requires.others

pub with_kernels-requires-clause-candidates : goal.with_kernels-requires-clause-candidates
with_kernels-requires-clause-candidates c =
    let g = c.in_ok-kept.kept in
    let p = c.put_covers.new.kept in
    let waiting = c.args.waiting.now in
    let nets = c.args.net.now.nets in
    let but = but_same covers_at waiting nets c.args.kept.covers.items g.covers.items c.in_ok-kept.ensures.same c.requires.others in
    let left = c.in_ok-left.ensures ∙ ap (λ v. filter (is_other waiting) v.items) c.in_ok-put_covers.ensures.put.candidates in
    subst (λ (ts : List (List Part)). AreCandidates ts waiting c.in_ok-left.left.items) (sym c.as_slice.ensures.value)
    (others_are nets waiting g.covers.items p.covers.items g.candidates.items c.in_ok-left.left.items c.in_ok-put_covers.ensures.covers but c.in_ok-kept.ensures.gains.all left)

pub returns-clause-gains : goal.returns-clause-gains
returns-clause-gains c =
    let g = c.in_ok-kept.kept in
    let p = c.put_covers.new.kept in
    record {
      ready = c.in_ok-put_covers.ensures.put.ready;
      all = subst (λ (ts : List (List Part)). AreCandidates ts [] c.in_ok-candidates.candidates.items) c.as_slice.ensures.value c.in_ok-candidates.ensures.candidates;
      right = all_renewed c.args.waiting.now g p c.in_ok-left.left.items c.in_ok-candidates.candidates.items c.in_ok-kept.ensures.gains c.in_ok-put_covers.ensures.put c.in_ok-left.ensures c.in_ok-candidates.ensures.unseen;
    }
