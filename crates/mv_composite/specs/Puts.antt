-- Lines put to those that are left of others.
use Rattle.std.specs.Prelude.{List, [], ◌++◌}
use Rattle.std.proofs.Common.{sym, subst, append-nil, append_assoc}
use Rattle.mv_cover.specs.declared.line.Line.{Line}
use Rattle.mv_cover.specs.Absorb.{IsLeftOf}

-- more lines have come: of whatever lines the old ones were left, the new ones are left of those
-- and more
pub record Puts (old new more : List Line) : Type 0 where
  pub left : (ls : List Line) → IsLeftOf ls old → IsLeftOf (ls ++ more) new

pub puts_none : (a : List Line) → Puts a a []
puts_none a =
    record { left = λ ls is. subst (λ (x : List Line). IsLeftOf x a) (sym (append-nil ls)) is }

pub puts_more : (a b c xs ys : List Line) → Puts a b xs → Puts b c ys → Puts a c (xs ++ ys)
puts_more a b c xs ys p q =
    record {
      left =
          λ ls is. subst (λ (x : List Line). IsLeftOf x c) (append_assoc ls xs ys)
          (q.left (ls ++ xs) (p.left ls is));
    }
