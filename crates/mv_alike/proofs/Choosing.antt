-- The merge that comes first, from what was found of the values; and that there is one at most.
use Rattle.std.proofs.Common.{◌≡◌, ◌∙◌, ℕ, ◌<◌, ◌≤◌, Bool, true, false, nat_eq, List, Option, Some, None, MatchBool, MatchOption, is_some, length, get_or, refl, sym, ap, subst, arith, ⊎_elim, eqb-true, eq-eqb}
use Rattle.std.proofs.lemmas.Bool.{false≢true, ne_eqb, cases_Bool, cases_lt, MatchBool-at_true, MatchBool-at_false}
use Rattle.std.proofs.lemmas.Option.{same_Some, none-some}
use Rattle.mv_base.specs.declared.number.Value.{Value}
use Rattle.mv_cover.specs.declared.cover.Cover.{Cover}
use Rattle.mv_net.specs.declared.parts.FlatNet.{FlatNet}
use Rattle.mv_net.specs.declared.parts.NetParts.{NetParts}
use Rattle.mv_net.specs.Nets.{slot, values_in, table_in}
use Rattle.mv_alike.specs.Classes.{same, AreClasses}
use Rattle.mv_alike.specs.Given.{IsEachGiven, IsLeastAbsent}
use Rattle.mv_alike.specs.Merges.{IsLeastNeverGiven, GivesEach, AreAlikeInOrder, AreFirstAlike, GoesFirst, IsNextMerge, HasNoMerge}
use Rattle.mv_alike.specs.Pairs.{AreAllApart, IsFirstPair}
use Rattle.mv_alike.specs.declared.next.NextMerge.{NextMerge}
use Rattle.mv_alike.specs.declared.pair.Pair.{Pair}
use Rattle.mv_merging.specs.Verdicts.{cover_has, IsNeverGiven, AreAlike, IsOther, AreMergeable, IsMergeLossless, IsMergeVerdict}
use Rattle.mv_merging.specs.declared.verdict.MergeVerdict.TheVariants.{Lawful}

-- ---- values that are never given

-- the table is the cover
never_from : (nets : List (Option FlatNet)) (n v : ℕ) (c : Cover) → table_in (slot nets n) ≡ Some c → cover_has v c ≡ false → IsNeverGiven nets n v
never_from nets n v c table h = record { each = λ d is. subst (λ e. cover_has v e ≡ false) (same_Some c d (sym table ∙ is)) h }

given_from : (nets : List (Option FlatNet)) (n v : ℕ) (c : Cover) → table_in (slot nets n) ≡ Some c → cover_has v c ≡ true → IsNeverGiven nets n v → ⊥
given_from nets n v c table h never = false≢true (sym (never.each c table) ∙ h)

pub gives_each : (nets : List (Option FlatNet)) (n values : ℕ) (c : Cover) → values ≡ values_in (slot nets n) → table_in (slot nets n) ≡ Some c
    → IsEachGiven values c → GivesEach nets n
gives_each nets n values c is table given = record { each = λ v low. given_from nets n v c table (given.each v (rw is low)) }

pub next_ungiven : (nets : List (Option FlatNet)) (n values : ℕ) (c : Cover) (gone : Value) → values ≡ values_in (slot nets n) → table_in (slot nets n) ≡ Some c
    → 1 < values_in (slot nets n) → IsLeastAbsent values c gone.0 → IsNextMerge nets n (record { gone = gone; into = None })
next_ungiven nets n values c gone is table several least = record {
  table = ap is_some table;
  several = several;
  first = record {
    low = rw is at least.low;
    never = never_from nets n gone.0 c table least.absent;
    least = λ u lt. given_from nets n u c table (least.least u lt);
  };
}

-- a net with one value, or without a table
pub no_merge_few : (nets : List (Option FlatNet)) (n values : ℕ) → values ≡ values_in (slot nets n) → values < 2 → HasNoMerge nets n
no_merge_few nets n values is few = record { none = λ table gone into able lossless. let several = able.several in omega (arith, several, is, few) }

pub no_merge_without : (nets : List (Option FlatNet)) (n : ℕ) → None ≡ table_in (slot nets n) → HasNoMerge nets n
no_merge_without nets n is = record { none = λ table gone into able lossless. false≢true (ap is_some is ∙ table) }

-- ---- values that no table tells apart

-- alike values are of one class
one_class : (nets : List (Option FlatNet)) (n : ℕ) (classes : List ℕ) (u v : ℕ) → AreClasses nets n classes → u < length classes → v < length classes
    → AreAlike nets n u v → get_or classes u 0 ≡ get_or classes v 0
one_class nets n classes u v are lu lv alike = by (same classes u v) refl
  where
    by : (b : Bool) → same classes u v ≡ b → get_or classes u 0 ≡ get_or classes v 0
    by true e = eqb-true (get_or classes u 0) (get_or classes v 0) e
    by false e = absurd (MatchBool-at_false (AreAlike nets n u v) (AreAlike nets n u v → ⊥) e (are.alike u v lu lv) alike)

pub next_none : (nets : List (Option FlatNet)) (n : ℕ) (classes : List ℕ) → AreClasses nets n classes → GivesEach nets n → AreAllApart classes (length classes)
    → HasNoMerge nets n
next_none nets n classes are given apart = record { none = λ table gone into able lossless. by gone into able lossless }
  where
    by : (gone : Value) (into : Option Value) → AreMergeable (values_in (slot nets n)) gone into → IsMergeLossless nets n gone into → ⊥
    by gone None able never = given.each gone.0 able.low never
    by gone (Some into) able alike =
        let li : into.0 < length classes = rw are.long able.other.0 in
        let lg : gone.0 < length classes = rw are.long able.low in
        able.other.1 (sym (apart.alone into.0 li) ∙ (one_class nets n classes into.0 gone.0 are li lg alike ∙ apart.alone gone.0 lg))

pub next_pair : (nets : List (Option FlatNet)) (n : ℕ) (classes : List ℕ) (pair : Pair) → AreClasses nets n classes → is_some (table_in (slot nets n)) ≡ true
    → 1 < values_in (slot nets n) → GivesEach nets n → IsFirstPair classes (length classes) pair
    → IsNextMerge nets n (record { gone = pair.high; into = Some pair.low })
next_pair nets n classes pair are table several given p = record {
  table = table;
  several = several;
  first = (
    given,
    record {
      are = record {
        ordered = p.ordered;
        low = rw are.long at p.high;
        alike = MatchBool-at_true (AreAlike nets n pair.low.0 pair.high.0) (AreAlike nets n pair.low.0 pair.high.0 → ⊥)
            (eq-eqb (get_or classes pair.low.0 0) (get_or classes pair.high.0 0) (own ∙ sym p.class))
            (are.alike pair.low.0 pair.high.0 low p.high);
      };
      first = λ u x two.
          let lx : x < length classes = rw are.long two.low in
          let ordered = two.ordered in
          let lu : u < length classes = omega (arith, ordered, lx) in
          let e = one_class nets n classes u x are lu lx two.alike in
          let le = are.numbered.least u lu in
          let first = p.first x lx (omega (arith, e, le, ordered)) in
          omega (arith, first, e, le);
      second = λ x two.
          let lx : x < length classes = rw are.long two.low in
          let ordered = two.ordered in
          let e = sym (one_class nets n classes pair.low.0 x are low lx two.alike) ∙ own in
          p.second x lx (omega (arith, e, ordered)) e;
    },
  );
}
  where
    low : pair.low.0 < length classes
    low = let o = p.ordered in let h = p.high in omega (arith, o, h)

    own : get_or classes pair.low.0 0 ≡ pair.low.0
    own = ap (λ v. get_or classes v 0) (sym p.class) ∙ (are.numbered.own pair.high.0 p.high ∙ p.class)

-- ---- laws

pub next_lawful : (net : NetParts) (n : ℕ) (next : NextMerge) → IsNextMerge net.nets n next → IsMergeVerdict net n next.gone next.into Lawful
next_lawful net n next is = by next.gone next.into is.first
  where
    by : (gone : Value) (into : Option Value) → GoesFirst net.nets n gone into → IsMergeVerdict net n gone into Lawful
    by gone None first = (record { several = is.several; low = first.low; other = tt }, first.never)
    by gone (Some into) first =
        let o = first.1.are.ordered in
        let l = first.1.are.low in
        (record { several = is.several; low = l; other = (omega (arith, o, l), λ e. omega (arith, e, o)) }, first.1.are.alike)

pub next_unlike_none : (net : NetParts) (n : ℕ) (next : NextMerge) → HasNoMerge net.nets n → IsNextMerge net.nets n next → ⊥
next_unlike_none net n next has is = let l = next_lawful net n next is in has.none is.table next.gone next.into l.0 l.1

same_value : (a b : Value) → a.0 ≡ b.0 → a ≡ b
same_value a b e = λ i. record { 0 = e i }

abbrev merge_of : Value → Option Value → NextMerge
merge_of gone into = record { gone = gone; into = into }

pub next_one : (nets : List (Option FlatNet)) (n : ℕ) (a b : NextMerge) → IsNextMerge nets n a → IsNextMerge nets n b → a ≡ b
next_one nets n a b p q = by a.gone b.gone a.into b.into p.first q.first
  where
    least : (u v : ℕ) → IsLeastNeverGiven nets n u → IsLeastNeverGiven nets n v → u ≤ v
    least u v p q = ⊎_elim (λ (lt : v < u). absurd (p.least v lt q.never)) (λ (le : u ≤ v). le) (cases_lt v u)

    by : (g h : Value) (i j : Option Value) → GoesFirst nets n g i → GoesFirst nets n h j → merge_of g i ≡ merge_of h j
    by g h None None f s =
        let l = least g.0 h.0 f s in
        let r = least h.0 g.0 s f in
        ap (λ v. merge_of v None) (same_value g h (omega (arith, l, r)))
    by g h None (Some j) f s = absurd (s.0.each g.0 f.low f.never)
    by g h (Some i) None f s = absurd (f.0.each h.0 s.low s.never)
    by g h (Some i) (Some j) f s =
        let le = f.1.first j.0 h.0 s.1.are in
        let ge = s.1.first i.0 g.0 f.1.are in
        let low : i.0 ≡ j.0 = omega (arith, le, ge) in
        let le = f.1.second h.0 (subst (λ v. AreAlikeInOrder nets n v h.0) (sym low) s.1.are) in
        let ge = s.1.second g.0 (subst (λ v. AreAlikeInOrder nets n v g.0) low f.1.are) in
        ap (λ v. merge_of v (Some i)) (same_value g h (omega (arith, le, ge))) ∙ ap (λ v. merge_of h (Some v)) (same_value i j low)
