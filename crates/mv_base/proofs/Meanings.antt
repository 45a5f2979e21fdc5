-- Meanings that are the same, and those that refine one another.
use Rattle.std.proofs.Common.{◌∙◌, Bool, false, refl}
use Rattle.std.proofs.lemmas.Bool.{false≢true}
use Rattle.mv_base.specs.Meaning.{Meaning, Refines, SameMeaning}

pub SameMeaning-refl : (a : Meaning) → SameMeaning a a
SameMeaning-refl a = record { same = refl; only = λ i s o n r x. x; all = λ i s o n r x. x }

-- what means the same as what means the same means the same
pub SameMeaning-then : (c b a : Meaning) → SameMeaning c b → SameMeaning b a → SameMeaning c a
SameMeaning-then c b a h k =
    record {
      same = h.same ∙ k.same;
      only = λ i s o n r x. k.only i s o n r (h.only i s o n r x);
      all = λ i s o n r x. h.all i s o n r (k.all i s o n r x);
    }

-- what means the same may take the place
pub Refines-from_same : (free : Bool) (b a : Meaning) → SameMeaning b a → Refines free b a
Refines-from_same free b a h =
    record {
      narrows = record { same = h.same; only = λ i s o n r may x. h.only i s o n r x };
      some = λ i s x. record { o = x.o; n = x.n; r = x.r; allowed = h.all i s x.o x.n x.r x.allowed };
    }

pub Refines-refl : (free : Bool) (a : Meaning) → Refines free a a
Refines-refl free a = Refines-from_same free a a (SameMeaning-refl a)

-- what may take the place of what may take the place may take the place
pub Refines-then : (free : Bool) (c b a : Meaning) → Refines free c b → Refines free b a → Refines free c a
Refines-then free c b a h k =
    record {
      narrows = record {
        same = h.narrows.same ∙ k.narrows.same;
        only = λ i s o n r may x. k.narrows.only i s o n r may (h.narrows.only i s o n r (λ t. k.some i s (may t)) x);
      };
      some = λ i s x. h.some i s (k.some i s x);
    }

-- what may take the place without leave may take it with leave
pub Refines-free : (free : Bool) (b a : Meaning) → Refines false b a → Refines free b a
Refines-free free b a h =
    record {
      narrows = record { same = h.narrows.same; only = λ i s o n r may x. h.narrows.only i s o n r (λ t. absurd (false≢true t)) x };
      some = h.some;
    }
