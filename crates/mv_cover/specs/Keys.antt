-- The tests of equality of literals, cubes and lines decide equality: the laws by which all three
-- can be keys.
use Rattle.std.proofs.Common.{◌≡◌, true, List, ap, nat_eq, Decides}
use Rattle.std.proofs.lemmas.Bool.{and_parts, and_from}
use Rattle.std.specs.Cmp.{IsEquivalence, IsPartialEquivalence, partial_equiv_from_equiv, decided, unsigned_Decides}
use Rattle.std.specs.Cmp.Lexicographic.{pointwise_decides}
use Rattle.mv_cover.specs.Literal.{Lit}
use Rattle.mv_cover.specs.declared.line.Line.{Line}
use Rattle.mv_cover.specs.Equal.{lit_eq, cube_eq, line_eq, cube_fed, line_fed}

-- literals of one net and one set are equal
pub same_lit : (a b : Lit) → a.net.0 ≡ b.net.0 → a.set ≡ b.set → a ≡ b
same_lit a b n s = λ i. record { net = record { 0 = n i }; set = s i }

-- lines of one cube and one output are equal
pub same_line : (a b : Line) → a.cube ≡ b.cube → a.out ≡ b.out → a ≡ b
same_line a b c o = λ i. record { cube = c i; out = o i }

pub lit_eq-Decides : (a b : Lit) → Decides (lit_eq a b) (a ≡ b)
lit_eq-Decides a b = (
  λ h. let p = and_parts (nat_eq a.net.0 b.net.0) (nat_eq a.set b.set) h in
      same_lit a b ((unsigned_Decides a.net.0 b.net.0).0 p.0)
      ((unsigned_Decides a.set b.set).0 p.1),
  λ e. and_from (nat_eq a.net.0 b.net.0) (nat_eq a.set b.set)
      ((unsigned_Decides a.net.0 b.net.0).1 (ap (λ (l : Lit). l.net.0) e))
      ((unsigned_Decides a.set b.set).1 (ap (λ (l : Lit). l.set) e)),
)

pub cube_eq-Decides : (a b : List Lit) → Decides (cube_eq a b) (a ≡ b)
cube_eq-Decides = pointwise_decides lit_eq-Decides

pub line_eq-Decides : (a b : Line) → Decides (line_eq a b) (a ≡ b)
line_eq-Decides a b = (
  λ h. let p = and_parts (cube_eq a.cube b.cube) (nat_eq a.out b.out) h in
      same_line a b ((cube_eq-Decides a.cube b.cube).0 p.0) ((unsigned_Decides a.out b.out).0 p.1),
  λ e. and_from (cube_eq a.cube b.cube) (nat_eq a.out b.out)
      ((cube_eq-Decides a.cube b.cube).1 (ap (λ (l : Line). l.cube) e))
      ((unsigned_Decides a.out b.out).1 (ap (λ (l : Line). l.out) e)),
)

-- the laws of the comparisons
pub cube_eq-equiv : IsEquivalence cube_eq
cube_eq-equiv = decided cube_eq cube_eq-Decides

pub cube_eq-partial_equiv : IsPartialEquivalence cube_eq
cube_eq-partial_equiv = partial_equiv_from_equiv cube_eq-equiv

pub line_eq-equiv : IsEquivalence line_eq
line_eq-equiv = decided line_eq line_eq-Decides

pub line_eq-partial_equiv : IsPartialEquivalence line_eq
line_eq-partial_equiv = partial_equiv_from_equiv line_eq-equiv

-- equal values feed a hash alike
pub cube_fed-same : (a b : List Lit) → cube_eq a b ≡ true → cube_fed a ≡ cube_fed b
cube_fed-same a b h = ap cube_fed ((cube_eq-Decides a b).0 h)

pub line_fed-same : (a b : Line) → line_eq a b ≡ true → line_fed a ≡ line_fed b
line_fed-same a b h = ap line_fed ((line_eq-Decides a b).0 h)
