use Rattle.std.proofs.Common.{◌≡◌, ◌∙◌, ◌++◌, ◌∷◌, [], None, ap}
use Rattle.mv_net.specs.Names.{number_of, pairs_of}
use Rattle.mv_net.proofs.Named.{entries-insert}
use Rattle.mv_net.proofs.names.NameIndex.add.Goals as goal

pub returns-clause-ok : goal.returns-clause-ok
returns-clause-ok c =
    let es = c.self.inside.numbers.entries in
    let key = c.in_ok-from_slice.field-0 in
    let is = c.self.view_is in
    let name = c.in_ok-from_slice.ensures.items in
    let new : number_of (pairs_of es) key.items ≡ None = (λ i. number_of (is i) (name i)) ∙ c.requires in
    ap pairs_of c.in_ok-insert.ensures.entries ∙ (entries-insert es key c.args.number new ∙ (λ i. is i ++ (name i, c.args.number) ∷ []))
