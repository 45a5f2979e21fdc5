use Rattle.std.proofs.Common.{List, [], ◌∷◌, take, sym, subst}
use Rattle.std.proofs.lemmas.List.{take_all}
use Rattle.mv_cover.specs.Literal.{Lit}
use Rattle.mv_gains.specs.Answers.{Forgets}
use Rattle.mv_gains.proofs.Answered.{forgets_begin, forgets_symbol}
use Rattle.mv_gains.proofs.Noting.{take_more}
use Rattle.mv_gains.proofs.answers.forget_each.Goals as goal

pub loop-symbol-init : goal.loop-symbol-init
loop-symbol-init c = forgets_begin c.args.answers.now

pub loop-symbol-preserved : goal.loop-symbol-preserved
loop-symbol-preserved c =
    let symbols = c.args.symbols.now in
    let i = c.loop-symbol.symbol-index in
    subst (λ (ls : List Lit). Forgets (ls ∷ []) c.args.answers.now c.forget.new.answers) (sym (take_more symbols i c.symbol-item.result c.loop-symbol-test.true c.symbol-item.is))
    (forgets_symbol (take i symbols) c.symbol-item.result c.args.answers.now c.loop-symbol.answers c.forget.new.answers c.loop-symbol.invariant c.in_ok-forget.ensures)

pub returns : goal.returns
returns c = subst (λ (ls : List Lit). Forgets (ls ∷ []) c.args.answers.now c.loop-symbol.answers) (take_all c.loop-symbol.symbol-index c.args.symbols.now c.loop-symbol-test.false) c.loop-symbol.invariant
