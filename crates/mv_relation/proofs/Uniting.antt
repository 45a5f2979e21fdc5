-- The points of lines are united one line after another.
use Rattle.std.proofs.Common.{◌≡◌, ◌∙◌, ℕ, zero, suc, ◌+◌, ◌<◌, ◌≤◌, ◌||◌, Bool, true, false, List, [], ◌∷◌, length, get_or, drop, drop-cons, add-one, refl, sym, ap, subst, arith}
use Rattle.std.specs.List.{list_any}
use Rattle.std.proofs.lemmas.List.{drop_all}
use Rattle.std.proofs.lemmas.Bool.{or_left, or_right, ltb-true, lt-ltb}
use Rattle.mv_cover.specs.declared.line.Line.{Line}
use Rattle.mv_cover.specs.Covers.{cube_reads, lines_read}
use Rattle.mv_factors.specs.Families.{Family, Keeps, before}
use Rattle.mv_factors.proofs.Keeping.{Keeps-fewer}
use Rattle.mv_relation.specs.Relations.{AreApart}

or_turn : (a b c : Bool) → (a || (b || c)) ≡ ((a || b) || c)
or_turn true b c = refl
or_turn false b c = refl

or_false : (a : Bool) → (a || false) ≡ a
or_false true = refl
or_false false = refl

-- what is read by a line is read by the lines
line_reads : (ls : List Line) (i : ℕ) (d : Line) (m : ℕ) → i < length ls → cube_reads (get_or ls i d).cube m ≡ true → lines_read ls m ≡ true
line_reads [] i d m low r = absurd (omega arith)
line_reads (l ∷ ls) zero d m low r = or_left (cube_reads l.cube m) (lines_read ls m) r
line_reads (l ∷ ls) (suc i) d m low r = or_right (cube_reads l.cube m) (lines_read ls m) (line_reads ls i d m (omega arith) r)

-- fewer nets are apart, and so they are where the counts are the same
pub apart_fewer : (counts counts' vars : List ℕ) (own : ℕ) (reads fewer : ℕ → Bool) → counts' ≡ counts
    → ((m : ℕ) → fewer m ≡ true → reads m ≡ true) → AreApart counts vars own reads → AreApart counts' vars own fewer
apart_fewer counts counts' vars own reads fewer same within a = record {
  listed = λ m r. a.listed m (within m r);
  within = λ m r. subst (λ (cs : List ℕ). get_or vars m 0 < length cs) (sym same) (a.within m (within m r));
  beside = λ m r. a.beside m (within m r);
  differ = λ m k r s. a.differ m k (within m r) (within k s);
}

pub apart_line : (counts counts' vars : List ℕ) (own : ℕ) (ls : List Line) (i : ℕ) (x : Line) → counts' ≡ counts → i < length ls → x ≡ get_or ls i x
    → AreApart counts vars own (lines_read ls) → AreApart counts' vars own (cube_reads x.cube)
apart_line counts counts' vars own ls i x same low is a =
    apart_fewer counts counts' vars own (lines_read ls) (cube_reads x.cube) same
    (λ m r. line_reads ls i x m low (subst (λ (l : Line). cube_reads l.cube m ≡ true) is r)) a

-- earlier places
pub before_fewer : (f g : Family) (place count : ℕ) → place ≤ count → Keeps f g (before count) → Keeps f g (before place)
before_fewer f g place count low keeps =
    Keeps-fewer f g (before count) (before place)
    (λ k is. let less : k < place = ltb-true k place is in lt-ltb k count (omega arith)) keeps

-- one line more
pub unite_more : (test : Line → Bool) (ls : List Line) (i : ℕ) (x : Line) (start now next : Bool)
    → i < length ls → x ≡ get_or ls i x → (now || list_any test (drop i ls)) ≡ start → next ≡ (now || test x)
    → (next || list_any test (drop (i + 1) ls)) ≡ start
unite_more test ls i x start now next low is before step =
    ap (λ b. b || list_any test (drop (i + 1) ls)) step
    ∙ sym (or_turn now (test x) (list_any test (drop (i + 1) ls)))
    ∙ ap (λ t. now || t)
    (ap (λ (l : Line). test l || list_any test (drop (i + 1) ls)) is
    ∙ ap (λ n. test (get_or ls i x) || list_any test (drop n ls)) (add-one i)
    ∙ sym (ap (list_any test) (drop-cons ls i x low)))
    ∙ before

-- and all of them
pub unite_end : (test : Line → Bool) (ls : List Line) (i : ℕ) (start now : Bool)
    → length ls ≤ i → (now || list_any test (drop i ls)) ≡ start → now ≡ start
unite_end test ls i start now past before =
    sym (or_false now) ∙ ap (λ t. now || list_any test t) (sym (drop_all i ls past)) ∙ before
