use Rattle.std.proofs.Common.{◌≡◌, ◌<◌, ◌+◌, ◌∙◌, ℕ, List, length, nat_lt, sym, ap, subst, arith}
use Rattle.std.specs.Prelude.{slice_index}
use Rattle.std.proofs.lemmas.Bool.{lt-ltb}
use Rattle.mv_witness.specs.Commons.{CanBe}
use Rattle.mv_witness.proofs.Fixing.{last_can, none_more}
use Rattle.mv_witness.proofs.values.least_value.Goals as goal

pub may_be-requires-clause-first : goal.may_be-requires-clause-first
may_be-requires-clause-first c = λ p.
    c.loop-value.invariant.keeps.sets 0 p (lt-ltb 0 (length c.args.factors.now.list) (omega (arith, c.requires.after, c.requires.from))) ∙ c.requires.first p

pub returns-clause-value : goal.returns-clause-value
returns-clause-value c =
    let f = c.args.factors.now in
    let e : c.loop-value.value ≡ c.last_value-last.result = omega arith in
    let N : ℕ → Type 0 = λ n. (v : ℕ) → v < n → CanBe f c.args.from c.args.var v → ⊥ in
    last_can f c.args.from c.args.var c.last_value-last.result c.requires.some c.requires.var
    (c.last_value-last.ensures.last ∙ ap (λ (l : List ℕ). slice_index l c.args.var) (sym c.requires.counts))
    (subst N e c.loop-value.invariant.none)
