-- Without a path the name is that of the net.
use Rattle.std.proofs.Common.{◌≡◌, ◌++◌, length, sym, ◌∙◌, ap, arith}
use Rattle.std.proofs.lemmas.Bool.Decides.{nat_tests}
use Rattle.std.proofs.lemmas.List.{nil_from_length}
use Rattle.std.proofs.lemmas.Result.{IfOk-weaker}
use Rattle.mv_unfold.proofs.naming.name_under.Goals as goal

pub returns-then-is_empty : goal.returns-then-is_empty
returns-then-is_empty c =
    let path = c.args.path.now in
    let net = c.args.net.now in
    let t = c.if-is_empty.true in
    let e = c.is_empty.ensures in
    let none : length path ≡ 0 = grind (arith, nat_tests) in
    IfOk-weaker c.copy.result (λ name. name ≡ net) (λ name. name ≡ path ++ net)
    (λ name is. is ∙ sym (ap (λ w. w ++ net) (nil_from_length path none))) c.copy.ensures
