-- The first number of a range that passes a test: ranges cut off by what passed before, and the values that covers and nets allow.
use Rattle.std.proofs.Common.{◌≡◌, ◌∙◌, ℕ, ◌+◌, ◌<◌, ◌≤◌, Bool, true, false, ◌&&◌, ◌||◌, not, nat_lt, List, length, get_or, take, Option, Some, None, IsTrue, is_some, sym, ap, subst, ⊎_elim, arith}
use Rattle.std.proofs.Math.Bool.{or-false, and-false}
use Rattle.std.proofs.lemmas.Bool.{cases_Bool, cases_lt, and_from, and_parts, or_left, or_right, false≢true, lt-ltb, ltb-true}
use Rattle.std.proofs.lemmas.List.{take_all}
use Rattle.std.proofs.lemmas.List.Folds.{list_any_more}
use Rattle.mv_base.specs.Set.{has}
use Rattle.mv_cover.specs.Cubes.{matches}
use Rattle.mv_cover.specs.Covers.{some_matches, some_gives, default_gives, allowed}
use Rattle.mv_cover.specs.declared.line.Line.{Line}
use Rattle.mv_cover.specs.declared.cover.Cover.{Cover}
use Rattle.mv_cover.proofs.Absorbing.{matches-any, gives-any}
use Rattle.mv_net.specs.declared.parts.FlatNet.{FlatNet}
use Rattle.mv_net.specs.Nets.{values_in, table_in}
use Rattle.mv_net.specs.Allowed.{net_allows, net_table_allows}
use Rattle.mv_solve.specs.declared.asked.Asked.{Asked}
use Rattle.mv_solve.specs.Asked.{takes}
use Rattle.mv_solve.specs.First.{IsFirst, IsLeast, NoneFrom, IsNarrowed}

-- ---- any tests

pub first_same : (s t : ℕ → Bool) (start end v : ℕ) → ((u : ℕ) → s u ≡ t u) → IsFirst s start end v → IsFirst t start end v
first_same s t start end v e f = record {
  within = f.within;
  from = f.from;
  passes = λ less. sym (e v) ∙ f.passes less;
  none = λ u low less. sym (e u) ∙ f.none u low less;
}

-- the first of either test is the first of the one below the first of the other
pub first_either : (s t : ℕ → Bool) (start end v w : ℕ) → IsFirst s start end v → IsFirst t start v w → IsFirst (λ u. s u || t u) start end w
first_either s t start end v w f g = record {
  within = omega (arith, f.within, g.within);
  from = λ less. ⊎_elim (λ (low : w < v). g.from low) (λ (high : v ≤ w). let e : v < end = omega (arith, g.within) in let h : start ≤ v = f.from e in omega arith) (cases_lt w v);
  passes = λ less.
      ⊎_elim
      (λ (low : w < v). or_right (s w) (t w) (g.passes low))
      (λ (high : v ≤ w).
      let e : v ≡ w = omega (arith, g.within) in
      let P : ℕ → Type 0 = λ u. s u ≡ true in
      or_left (s w) (t w) (subst P e (f.passes (omega arith))))
      (cases_lt w v);
  none = λ u low less. neither (s u) (t u) (f.none u low (omega (arith, g.within))) (g.none u low less);
}
  where
    neither : (a b : Bool) → a ≡ false → b ≡ false → (a || b) ≡ false
    neither a b e d = rw e d

-- ---- the values that lines give

pub gives_more : (at : ℕ → ℕ) (v : ℕ) (ls : List Line) (i : ℕ) (l : Line) → i < length ls → l ≡ get_or ls i l → some_gives at v (take (i + 1) ls) ≡ (some_gives at v (take i ls) || (matches at l.cube && has l.out v))
gives_more at v ls i l lt is =
    let p : Line → Bool = λ (m : Line). matches at m.cube && has m.out v in
    gives-any at v (take (i + 1) ls) ∙ (list_any_more p ls i l lt ∙ λ j. sym (gives-any at v (take i ls)) j || p (sym is j))

pub matches_more : (at : ℕ → ℕ) (ls : List Line) (i : ℕ) (l : Line) → i < length ls → l ≡ get_or ls i l → some_matches at (take (i + 1) ls) ≡ (some_matches at (take i ls) || matches at l.cube)
matches_more at ls i l lt is =
    let p : Line → Bool = λ (m : Line). matches at m.cube in
    matches-any at (take (i + 1) ls) ∙ (list_any_more p ls i l lt ∙ λ j. sym (matches-any at (take i ls)) j || p (sym is j))

-- v is the first value that the lines give, and whether some line's cube holds
pub record IsFirstGiven (at : ℕ → ℕ) (ls : List Line) (start end v : ℕ) (met : Bool) : Type 0 where
  pub first : IsFirst (λ u. some_gives at u ls) start end v
  pub some : met ≡ some_matches at ls

pub given_held : (at : ℕ → ℕ) (ls : List Line) (i : ℕ) (l : Line) (start end v w : ℕ) (met : Bool) → i < length ls → l ≡ get_or ls i l → IsFirstGiven at (take i ls) start end v met → matches at l.cube ≡ true → IsFirst (has l.out) start v w → IsFirstGiven at (take (i + 1) ls) start end w true
given_held at ls i l start end v w met lt is g holds f = record {
  first = first_same (λ u. some_gives at u (take i ls) || has l.out u) (λ u. some_gives at u (take (i + 1) ls)) start end w (λ u. sym (gives_more at u ls i l lt is ∙ ap (λ b. some_gives at u (take i ls) || (b && has l.out u)) holds)) (first_either (λ u. some_gives at u (take i ls)) (has l.out) start end v w g.first f);
  some = sym (matches_more at ls i l lt is ∙ or_right (some_matches at (take i ls)) (matches at l.cube) holds);
}

pub given_not : (at : ℕ → ℕ) (ls : List Line) (i : ℕ) (l : Line) (start end v : ℕ) (met : Bool) → i < length ls → l ≡ get_or ls i l → IsFirstGiven at (take i ls) start end v met → matches at l.cube ≡ false → IsFirstGiven at (take (i + 1) ls) start end v met
given_not at ls i l start end v met lt is g fails = record {
  first = first_same (λ u. some_gives at u (take i ls)) (λ u. some_gives at u (take (i + 1) ls)) start end v (λ u. sym (gives_more at u ls i l lt is ∙ (ap (λ b. some_gives at u (take i ls) || (b && has l.out u)) fails ∙ or-false (some_gives at u (take i ls))))) g.first;
  some = g.some ∙ sym (matches_more at ls i l lt is ∙ (ap (λ b. some_matches at (take i ls) || b) fails ∙ or-false (some_matches at (take i ls))));
}

-- where some line's cube holds the cover allows what the lines give
pub allowed_met : (c : Cover) (at : ℕ → ℕ) (start end v : ℕ) → IsFirstGiven at c.lines start end v true → IsFirst (allowed c at) start end v
unfolding allowed
allowed_met c at start end v g = first_same (λ u. some_gives at u c.lines) (allowed c at) start end v (λ u. sym (ap (λ b. some_gives at u c.lines || (not b && default_gives c.default u)) (sym g.some) ∙ or-false (some_gives at u c.lines))) g.first

pub allowed_bare : (c : Cover) (at : ℕ → ℕ) (start end v : ℕ) (met : Bool) → c.default ≡ None → IsFirstGiven at c.lines start end v met → IsFirst (allowed c at) start end v
unfolding allowed
allowed_bare c at start end v met none g = first_same (λ u. some_gives at u c.lines) (allowed c at) start end v (λ u. sym (ap (λ (d : Option ℕ). some_gives at u c.lines || (not (some_matches at c.lines) && default_gives d u)) none ∙ (ap (λ b. some_gives at u c.lines || b) (and-false (not (some_matches at c.lines))) ∙ or-false (some_gives at u c.lines)))) g.first

pub allowed_default : (c : Cover) (at : ℕ → ℕ) (start end v w out : ℕ) → c.default ≡ Some out → IsFirstGiven at c.lines start end v false → IsFirst (has out) start v w → IsFirst (allowed c at) start end w
unfolding allowed
allowed_default c at start end v w out is g f = first_same (λ u. some_gives at u c.lines || has out u) (allowed c at) start end w (λ u. sym (ap (λ (d : Option ℕ). some_gives at u c.lines || (not (some_matches at c.lines) && default_gives d u)) is ∙ ap (λ b. some_gives at u c.lines || (not b && has out u)) (sym g.some))) (first_either (λ u. some_gives at u c.lines) (has out) start end v w g.first f)

-- ---- the values that a net may have

-- the first of those that will do and that the table allows is the least that the net may have
pub least_found : (f : Option FlatNet) (asked : Asked) (at : ℕ → ℕ) (start low high v : ℕ) → IsTrue (is_some f) → IsNarrowed asked start (values_in f) low high → IsFirst (net_table_allows (table_in f) at) low high v → v < high → IsLeast (λ u. net_allows f at u && takes asked u) start v
least_found None asked at start low high v held n g less = absurd (false≢true held)
least_found (Some f) asked at start low high v held n g less =
    let from : low ≤ v = g.from less in
    let begin : start ≤ low = n.from (omega arith) in
    let few : v < f.values = omega (arith, n.to) in
    record {
      from = omega arith;
      passes = and_from (nat_lt v f.values && net_table_allows f.table at v) (takes asked v) (and_from (nat_lt v f.values) (net_table_allows f.table at v) (lt-ltb v f.values few) (g.passes less)) (n.only v from less);
      none = λ u above below.
          ⊎_elim
          (λ (may : ((nat_lt u f.values && net_table_allows f.table at u) && takes asked u) ≡ true).
          let p = and_parts (nat_lt u f.values && net_table_allows f.table at u) (takes asked u) may in
          let q = and_parts (nat_lt u f.values) (net_table_allows f.table at u) p.0 in
          let in_range = n.all u above (ltb-true u f.values q.0) p.1 in
          absurd (false≢true (sym (g.none u in_range.0 below) ∙ q.1)))
          (λ (not_so : ((nat_lt u f.values && net_table_allows f.table at u) && takes asked u) ≡ false). not_so)
          (cases_Bool ((nat_lt u f.values && net_table_allows f.table at u) && takes asked u));
    }

pub least_none : (f : Option FlatNet) (asked : Asked) (at : ℕ → ℕ) (start low high v : ℕ) → IsTrue (is_some f) → IsNarrowed asked start (values_in f) low high → IsFirst (net_table_allows (table_in f) at) low high v → high ≤ v → NoneFrom (λ u. net_allows f at u && takes asked u) start
least_none None asked at start low high v held n g past = absurd (false≢true held)
least_none (Some f) asked at start low high v held n g past = record {
  none = λ u above.
      ⊎_elim
      (λ (may : ((nat_lt u f.values && net_table_allows f.table at u) && takes asked u) ≡ true).
      let p = and_parts (nat_lt u f.values && net_table_allows f.table at u) (takes asked u) may in
      let q = and_parts (nat_lt u f.values) (net_table_allows f.table at u) p.0 in
      let in_range = n.all u above (ltb-true u f.values q.0) p.1 in
      let less : u < v = omega (arith, in_range.1) in
      absurd (false≢true (sym (g.none u in_range.0 less) ∙ q.1)))
      (λ (not_so : ((nat_lt u f.values && net_table_allows f.table at u) && takes asked u) ≡ false). not_so)
      (cases_Bool ((nat_lt u f.values && net_table_allows f.table at u) && takes asked u));
}

-- at the end of the lines
pub given_all : (c : Cover) (ls : List Line) (at : ℕ → ℕ) (i start end v : ℕ) (met : Bool) → ls ≡ c.lines → length ls ≤ i → IsFirstGiven at (take i ls) start end v met → IsFirstGiven at c.lines start end v met
given_all c ls at i start end v met is past g =
    let P : List Line → Type 0 = λ l. IsFirstGiven at l start end v met in
    subst P (take_all i ls past ∙ is) g

pub met_all : (c : Cover) (ls : List Line) (at : ℕ → ℕ) (i start end v : ℕ) (met : Bool) → ls ≡ c.lines → length ls ≤ i → met ≡ true → IsFirstGiven at (take i ls) start end v met → IsFirst (allowed c at) start end v
met_all c ls at i start end v met is past e g =
    let P : Bool → Type 0 = λ b. IsFirstGiven at c.lines start end v b in
    allowed_met c at start end v (subst P e (given_all c ls at i start end v met is past g))

pub default_all : (c : Cover) (ls : List Line) (at : ℕ → ℕ) (i start end v w out : ℕ) (met : Bool) → ls ≡ c.lines → length ls ≤ i → met ≡ false → c.default ≡ Some out → IsFirstGiven at (take i ls) start end v met → IsFirst (has out) start v w → IsFirst (allowed c at) start end w
default_all c ls at i start end v w out met is past e d g f =
    let P : Bool → Type 0 = λ b. IsFirstGiven at c.lines start end v b in
    allowed_default c at start end v w out d (subst P e (given_all c ls at i start end v met is past g)) f

pub bare_all : (c : Cover) (ls : List Line) (at : ℕ → ℕ) (i start end v : ℕ) (met : Bool) → ls ≡ c.lines → length ls ≤ i → c.default ≡ None → IsFirstGiven at (take i ls) start end v met → IsFirst (allowed c at) start end v
bare_all c ls at i start end v met is past d g = allowed_bare c at start end v met d (given_all c ls at i start end v met is past g)

-- a number of values and a table that are those of the net
pub record IsOfNet (f : Option FlatNet) (count : ℕ) (table : Option Cover) : Type 0 where
  pub held : IsTrue (is_some f)
  pub counts : count ≡ values_in f
  pub is : table ≡ table_in f

pub value_found : (f : Option FlatNet) (count : ℕ) (table : Option Cover) (asked : Asked) (at : ℕ → ℕ) (start low high v : ℕ) → IsOfNet f count table → IsNarrowed asked start count low high → IsFirst (net_table_allows table at) low high v → v < high → IsLeast (λ u. net_allows f at u && takes asked u) start v
value_found f count table asked at start low high v of n g less =
    let P : ℕ → Type 0 = λ k. IsNarrowed asked start k low high in
    let Q : Option Cover → Type 0 = λ t. IsFirst (net_table_allows t at) low high v in
    least_found f asked at start low high v of.held (subst P of.counts n) (subst Q of.is g) less

pub value_none : (f : Option FlatNet) (count : ℕ) (table : Option Cover) (asked : Asked) (at : ℕ → ℕ) (start low high v : ℕ) → IsOfNet f count table → IsNarrowed asked start count low high → IsFirst (net_table_allows table at) low high v → high ≤ v → NoneFrom (λ u. net_allows f at u && takes asked u) start
value_none f count table asked at start low high v of n g past =
    let P : ℕ → Type 0 = λ k. IsNarrowed asked start k low high in
    let Q : Option Cover → Type 0 = λ t. IsFirst (net_table_allows t at) low high v in
    least_none f asked at start low high v of.held (subst P of.counts n) (subst Q of.is g) past
