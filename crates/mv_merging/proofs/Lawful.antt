-- What it says of the values, the tables and the net that a verdict is lawful.
use Rattle.std.proofs.Common.{◌≡◌, ◌∙◌, ◌⊎◌, ℕ, ◌+◌, ◌≤◌, Bool, true, false, ◌&&◌, ◌||◌, not, Option, Some, None, List, [], ◌∷◌, inl, inr, refl, sym, ap, subst, ⊎_elim, eqb-true, eq-eqb, arith}
use Rattle.std.specs.List.{list_any}
use Rattle.std.proofs.lemmas.Bool.{cases_eq, false≢true, or_parts}
use Rattle.mv_base.specs.Set.{has}
use Rattle.mv_base.specs.declared.number.Value.{Value}
use Rattle.mv_cover.specs.Literal.{Lit}
use Rattle.mv_cover.specs.declared.cover.Cover.{Cover}
use Rattle.mv_cover.specs.declared.line.Line.{Line}
use Rattle.mv_net.specs.declared.parts.FlatNet.{FlatNet}
use Rattle.mv_net.specs.Nets.{slot, values_in, table_in}
use Rattle.mv_merging.specs.declared.merging.Merging.{Merging}
use Rattle.mv_merging.specs.Nets.{merging_at}
use Rattle.mv_merging.specs.Values.{before, takes_place}
use Rattle.mv_merging.specs.Verdicts.{IsOther, AreMergeable, splits, literal_splits, AreAlike, cover_has, IsNeverGiven, IsMergeLossless}
use Rattle.mv_merging.proofs.Sets.{StandsFor, IsAlike, has_number}
use Rattle.mv_merging.proofs.Giving.{StandsForAll}
use Rattle.mv_merging.proofs.Readers.{LiteralsAlike, LinesAlike}

-- ---- with another value or without

-- the net never has the value that goes, and none takes its place; or one does that no table tells from it
abbrev pub IsEither : List (Option FlatNet) → ℕ → Value → Option Value → Type 0
IsEither nets n gone into = ((into ≡ None) × IsNeverGiven nets n gone.0) ⊎ ((i : Value) × (into ≡ Some i) × AreAlike nets n i.0 gone.0)

pub either : (nets : List (Option FlatNet)) (n : ℕ) (gone : Value) (into : Option Value) → IsMergeLossless nets n gone into → IsEither nets n gone into
either nets n gone None h = inl (refl, h)
either nets n gone (Some i) h = inr (i, refl, h)

-- ---- sets that don't tell the values apart

none_takes : (m : Merging) → m.into ≡ None → (u : ℕ) → takes_place m.into u ≡ true → ⊥
none_takes m e u h = false≢true (sym (ap (λ o. takes_place o u) e) ∙ h)

alike_none : (m : Merging) → m.into ≡ None → (set : ℕ) → IsAlike m set
alike_none m e set = record { same = λ u h. absurd (none_takes m e u h) }

unsplit : (a b : Bool) → ((a && not b) || (not a && b)) ≡ false → a ≡ b
unsplit true true h = refl
unsplit true false h = absurd (false≢true (sym h))
unsplit false true h = absurd (false≢true (sym h))
unsplit false false h = refl

alike_some : (m : Merging) (i : Value) → m.into ≡ Some i → (set : ℕ) → splits i.0 m.gone.0 set ≡ false → IsAlike m set
alike_some m i e set h = record {
  same = λ u t.
      let same : i.0 ≡ u = eqb-true i.0 u (sym (ap (λ o. takes_place o u) e) ∙ t) in
      ap (has set) (sym same) ∙ unsplit (has set i.0) (has set m.gone.0) h;
}

literals_none : (m : Merging) (n : ℕ) → m.into ≡ None → (cube : List Lit) → LiteralsAlike m n cube
literals_none m n e [] = tt
literals_none m n e (l ∷ ls) = (λ t. alike_none m e l.set, literals_none m n e ls)

lines_none : (m : Merging) (n : ℕ) → m.into ≡ None → (ls : List Line) → LinesAlike m n ls
lines_none m n e [] = tt
lines_none m n e (l ∷ ls) = (literals_none m n e l.cube, lines_none m n e ls)

literals_some : (m : Merging) (n : ℕ) (i : Value) → m.into ≡ Some i → (cube : List Lit) → list_any (literal_splits n i.0 m.gone.0) cube ≡ false → LiteralsAlike m n cube
literals_some m n i e [] h = tt
literals_some m n i e (l ∷ ls) h =
    let p = or_parts (literal_splits n i.0 m.gone.0 l) (list_any (literal_splits n i.0 m.gone.0) ls) h in
    (λ t. alike_some m i e l.set (sym (ap (λ b. b && splits i.0 m.gone.0 l.set) t) ∙ p.0), literals_some m n i e ls p.1)

lines_some : (m : Merging) (n : ℕ) (i : Value) → m.into ≡ Some i → (ls : List Line) → list_any (λ (l : Line). list_any (literal_splits n i.0 m.gone.0) l.cube) ls ≡ false → LinesAlike m n ls
lines_some m n i e [] h = tt
lines_some m n i e (l ∷ ls) h =
    let p = or_parts (list_any (literal_splits n i.0 m.gone.0) l.cube) (list_any (λ (k : Line). list_any (literal_splits n i.0 m.gone.0) k.cube) ls) h in
    (literals_some m n i e l.cube p.0, lines_some m n i e ls p.1)

-- ---- values that stand for others

-- one stands for each value that stays
stands_own : (m : Merging) (v : ℕ) → m.gone.0 ≤ m.left → v ≤ m.left → (v ≡ m.gone.0 → ⊥) → (w : ℕ) × StandsFor m v w
stands_own m v gone low ne = let h = has_number m v gone low ne in (h.now, record { low = h.low; is = inl (sym h.was) })

-- and for the one that goes that which takes its place
stands_gone : (m : Merging) (i : Value) (v : ℕ) → m.into ≡ Some i → m.gone.0 ≤ m.left → i.0 ≤ m.left → (i.0 ≡ m.gone.0 → ⊥) → v ≡ m.gone.0 → (w : ℕ) × StandsFor m v w
stands_gone m i v e gone low ne is =
    let h = has_number m i.0 gone low ne in
    (h.now, record { low = h.low; is = inr (is, ap (λ o. takes_place o (before m h.now)) e ∙ eq-eqb i.0 (before m h.now) (sym h.was)) })

module _ (nets : List (Option FlatNet)) (n : ℕ) (gone : Value) (into : Option Value) (able : AreMergeable (values_in (slot nets n)) gone into) (lossless : IsMergeLossless nets n gone into) where
  abbrev m : Merging
  m = merging_at nets n gone into

  -- one value less is left
  pub left_less : m.left + 1 ≡ values_in (slot nets n)
  left_less = let several = able.several in omega arith

  gone_below : gone.0 ≤ m.left
  gone_below = let low = able.low in omega arith

  pub tables_alike : (k : ℕ) (c : Cover) → table_in (slot nets k) ≡ Some c → LinesAlike m n c.lines
  tables_alike k c table =
      ⊎_elim
      (λ (p : (into ≡ None) × IsNeverGiven nets n gone.0). lines_none m n p.0 c.lines)
      (λ (p : (i : Value) × (into ≡ Some i) × AreAlike nets n i.0 gone.0). lines_some m n p.0 p.1 c.lines (p.2.each k c table))
      (either nets n gone into lossless)

  pub values_stand : (c : Cover) → table_in (slot nets n) ≡ Some c → StandsForAll m (values_in (slot nets n)) c
  values_stand c table = record {
    each = λ v low given.
        ⊎_elim
        (λ (e : v ≡ gone.0).
        ⊎_elim
        (λ (p : (into ≡ None) × IsNeverGiven nets n gone.0). absurd (false≢true (sym (p.1.each c table) ∙ (ap (λ u. cover_has u c) (sym e) ∙ given))))
        (λ (p : (i : Value) × (into ≡ Some i) × AreAlike nets n i.0 gone.0).
        let other : IsOther (values_in (slot nets n)) gone (Some p.0) = subst (IsOther (values_in (slot nets n)) gone) p.1 able.other in
        let under = other.0 in
        stands_gone m p.0 v p.1 gone_below (omega arith) other.1 e)
        (either nets n gone into lossless))
        (λ (ne : v ≡ gone.0 → ⊥). stands_own m v gone_below (omega arith) ne)
        (cases_eq v gone.0);
  }
