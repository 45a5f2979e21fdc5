-- The loop ends where either the outputs or the covers do.
use Rattle.std.proofs.Common.{List, ◌++◌, ◌∙◌, ap, length, map, Option}
use Rattle.std.proofs.lemmas.Iterator.{YieldsList-from_slice, YieldsList-from_zip}
use Rattle.std.proofs.lemmas.Iterator.Adapters.{YieldsList-from_vec}
use Rattle.std.proofs.lemmas.Iterator.Consumers.{YieldsList-end}
use Rattle.mv_net.specs.declared.parts.FlatNet.{FlatNet}
use Rattle.mv_flat.proofs.Outputs.{net_of, nets_zipped}
use Rattle.mv_flat.proofs.nets.put_outputs.Goals as goal

pub returns : goal.returns
returns c =
    let gives = c.into_iter-output-iterator.ensures.into_iter_gives in
    let second = c.zip-output-items.ensures.second in
    let names = YieldsList-from_slice {s = c.into_iter-output-iterator.result.a} c.args.outputs.now
    (ap (λ z. z.a.rest.now) gives ∙ (ap (λ x. x.rest.now) c.zip-output-items.ensures.first ∙ c.iter.ensures.rest)) in
    let covers = YieldsList-from_vec {s = c.into_iter-output-iterator.result.b} c.args.covers
    (ap (λ z. z.b.rest.items) gives ∙ (second.0 ∙ c.into_vec.ensures))
    (ap (λ z. z.b.rest.len) gives ∙ (second.1 ∙ (c.into_vec.result.ok.0 ∙ ap length c.into_vec.ensures))) in
    let road = YieldsList-from_zip {s = c.into_iter-output-iterator.result} names covers in
    let end = YieldsList-end road c.loop-output.yielded c.loop-output.output-iterator c.loop-output.yielded_by c.next.result c.next.new.self c.in-None.is c.next.ensures.steps in
    c.loop-output.invariant
    ∙ ap (λ (ns : List (Option FlatNet)). c.args.nets.now ++ ns) (ap (map (net_of c.args.decls.now)) end.0 ∙ nets_zipped c.args.decls.now c.args.outputs.now c.args.covers)
