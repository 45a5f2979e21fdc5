-- The net is at home here, or round the instance.
use Rattle.std.proofs.Common.{◌≡◌, sym, ◌∙◌, arith}
use Rattle.std.proofs.lemmas.Result.{IfOk-weaker}
use Rattle.mv_unfold.specs.Laid.{places_of, home_in}
use Rattle.mv_unfold.specs.Placed.{place_at}
use Rattle.mv_unfold.proofs.Laid.{instance_placed}
use Rattle.mv_unfold.proofs.Looked.{home_bound, home_own}
use Rattle.mv_unfold.proofs.homes.+home.Goals as goal

pub home-requires : goal.home-requires
home-requires t c =
    let p = instance_placed c.args.layout.now c.args.number c.requires.laid (omega arith) c.requires.number in
    let low = p.round in
    (omega arith, (c.requires.laid, (omega arith, c.requires.right)))

pub returns-in_ok-outer-in-Some-actual-clause-name : goal.returns-in_ok-outer-in-Some-actual-clause-name
returns-in_ok-outer-in-Some-actual-clause-name t c =
    let l = c.args.layout.now in
    let n = c.args.number in
    let p = instance_placed l n c.requires.laid (omega arith) c.requires.number in
    let net = c.args.net.now in
    let at = c.in_ok-outer-in-Some-actual.ensures.name ∙ home_bound l n net c.in-Some-actual.actual.now p (sym c.in-Some-actual.ensures) in
    IfOk-weaker c.keep.result (λ name. name ≡ c.in_ok-outer-in-Some-actual.outer) (λ name. name ≡ (place_at (places_of l) n).home net) (λ name e. e ∙ at) c.keep.ensures.name

pub returns-in_ok-outer-in-Some-actual-clause-right : goal.returns-in_ok-outer-in-Some-actual-clause-right
returns-in_ok-outer-in-Some-actual-clause-right t c =
    let l = c.args.layout.now in
    let n = c.args.number in
    let p = instance_placed l n c.requires.laid (omega arith) c.requires.number in
    let at = c.in_ok-outer-in-Some-actual.ensures.name ∙ home_bound l n c.args.net.now c.in-Some-actual.actual.now p (sym c.in-Some-actual.ensures) in
    c.keep.ensures.right (home_in l) c.in_ok-outer-in-Some-actual.ensures.right at

pub returns-in_ok-own-in-None-clause-name : goal.returns-in_ok-own-in-None-clause-name
returns-in_ok-own-in-None-clause-name t c =
    let l = c.args.layout.now in
    let n = c.args.number in
    let p = instance_placed l n c.requires.laid (omega arith) c.requires.number in
    let net = c.args.net.now in
    let at = c.in_ok-own-in-None.ensures ∙ home_own l n net p (sym c.in-None.ensures) in
    IfOk-weaker c.keep-in-None.result (λ name. name ≡ c.in_ok-own-in-None.own) (λ name. name ≡ (place_at (places_of l) n).home net) (λ name e. e ∙ at) c.keep-in-None.ensures.name

pub returns-in_ok-own-in-None-clause-right : goal.returns-in_ok-own-in-None-clause-right
returns-in_ok-own-in-None-clause-right t c =
    let l = c.args.layout.now in
    let n = c.args.number in
    let p = instance_placed l n c.requires.laid (omega arith) c.requires.number in
    let at = c.in_ok-own-in-None.ensures ∙ home_own l n c.args.net.now p (sym c.in-None.ensures) in
    c.keep-in-None.ensures.right (home_in l) c.requires.right at
