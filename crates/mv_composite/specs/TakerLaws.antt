-- The laws of those that take lines: no lines leave all as it was, and of lines one after the other
-- is known what is of each.
use Rattle.std.proofs.Common.{◌∙◌, ℕ, Option, List, [], ◌++◌, filter, refl, sym, subst, append-nil, append_assoc}
use Rattle.std.proofs.lemmas.List.Elements.{filter-append}
use Rattle.mv_cover.specs.declared.line.Line.{Line}
use Rattle.mv_cover.specs.Absorb.{IsLeftOf}
use Rattle.mv_composite.specs.Takers.{is_among, TakesPicked, HasLightest, KeepsLightest}

pub takes_picked_none : (others a : List Line) → TakesPicked others others a a []
takes_picked_none others a =
    record {
      same = refl;
      left = λ ls is. subst (λ (x : List Line). IsLeftOf x a) (sym (append-nil ls)) is;
    }

pub takes_picked_more : (ka kb kc a b c xs ys : List Line) → TakesPicked ka kb a b xs
    → TakesPicked kb kc b c ys → TakesPicked ka kc a c (xs ++ ys)
takes_picked_more ka kb kc a b c xs ys p q =
    let first = filter (is_among ka) xs in
    record {
      same = q.same ∙ p.same;
      left = λ ls is.
          subst (λ (x : List Line). IsLeftOf (ls ++ x) c) (sym (filter-append (is_among ka) xs ys))
          (subst (λ (x : List Line). IsLeftOf x c) (append_assoc ls first (filter (is_among ka) ys))
          (subst (λ (k : List Line). IsLeftOf ((ls ++ first) ++ filter (is_among k) ys) c) p.same
          (q.left (ls ++ first) (p.left ls is))));
    }

-- to no lines more belongs what belongs to the lines
pub has_same : (ls left : List Line) (cap : Option ℕ) → HasLightest ls left cap
    → HasLightest (ls ++ []) left cap
has_same ls left cap has =
    subst (λ (x : List Line). HasLightest x left cap) (sym (append-nil ls)) has

pub keeps_none : (a : List Line) (cap : Option ℕ) → KeepsLightest a a cap cap []
keeps_none a cap = record { left = λ ls has. has_same ls a cap has }

pub keeps_more : (a b c : List Line) (u v w : Option ℕ) (xs ys : List Line)
    → KeepsLightest a b u v xs → KeepsLightest b c v w ys → KeepsLightest a c u w (xs ++ ys)
keeps_more a b c u v w xs ys p q =
    record {
      left =
          λ ls has. subst (λ (x : List Line). HasLightest x c w) (append_assoc ls xs ys)
          (q.left (ls ++ xs) (p.left ls has));
    }
