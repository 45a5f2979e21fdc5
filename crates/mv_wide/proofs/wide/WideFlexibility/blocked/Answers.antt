-- The values with which a point of the line is outside.
use Rattle.std.proofs.Common.{Result, Ok, Err, IfOk, sym, subst}
use Rattle.mv_wide.specs.Wides.{IsWide, Wide}
use Rattle.mv_wide.proofs.Deciding.{values_told}
use Rattle.mv_wide.proofs.wide.WideFlexibility.blocked.Goals as goal

if_ok : {T E : Type 0} (r : Result T E) (P Q : T → Type 0) → ((x : T) → P x → Q x) → IfOk r P → IfOk r Q
if_ok (Ok x) P Q f h = f x h
if_ok (Err e) P Q f h = tt

pub returns-clause-ok : goal.returns-clause-ok
returns-clause-ok c = if_ok c.values_hit.result _ _ (λ blocked told. λ net w n is over reads.
    values_told net w n (record { family = c.self.inside.factors; frame = c.self.inside.frame }) (subst (λ (f : Wide). IsWide net w n f) (sym c.self.view_is) is)
    c.args.line.now over c.args.fanin reads blocked told) c.values_hit.ensures.hits
