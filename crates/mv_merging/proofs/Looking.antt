-- What is looked at to tell whether values may be merged: the table of the net, and those of its readers.
use Rattle.std.proofs.Common.{◌≡◌, ◌∙◌, ℕ, Bool, true, false, ◌&&◌, not, nat_eq, List, [], ◌∷◌, Option, Some, None, MatchBool, is_some, ◌<◌, refl, sym, ap, ⊎_elim, eqb-true}
use Rattle.std.specs.List.{list_any}
use Rattle.std.proofs.lemmas.Bool.{cases_Bool, false≢true, or_parts, or_from, or_cases}
use Rattle.mv_base.specs.declared.number.NetId.{NetId}
use Rattle.mv_base.specs.declared.number.Value.{Value}
use Rattle.mv_base.proofs.Lists.{found}
use Rattle.mv_cover.specs.Covers.{cube_reads, lines_read, cover_reads}
use Rattle.mv_cover.specs.Literal.{Lit}
use Rattle.mv_cover.specs.declared.cover.Cover.{Cover}
use Rattle.mv_cover.specs.declared.line.Line.{Line}
use Rattle.mv_graph.specs.Nets.{has_id, IsAscending}
use Rattle.mv_net.specs.declared.parts.FlatNet.{FlatNet}
use Rattle.mv_net.specs.Nets.{slot, table_in, table_reads, net_reads}
use Rattle.mv_merging.specs.Verdicts.{IsOther, AreMergeable, splits, literal_splits, AreAlike, IsNeverGiven, table_has, table_splits}

-- ---- a table that doesn't read the net

cube_unsplit : (n u v : ℕ) (cube : List Lit) → cube_reads cube n ≡ false → list_any (literal_splits n u v) cube ≡ false
cube_unsplit n u v [] h = refl
cube_unsplit n u v (l ∷ ls) h =
    let p = or_parts (nat_eq l.net.0 n) (cube_reads ls n) h in
    or_from (literal_splits n u v l) (list_any (literal_splits n u v) ls) (ap (λ b. b && splits u v l.set) p.0) (cube_unsplit n u v ls p.1)

lines_unsplit : (n u v : ℕ) (ls : List Line) → lines_read ls n ≡ false → list_any (λ (l : Line). list_any (literal_splits n u v) l.cube) ls ≡ false
lines_unsplit n u v [] h = refl
lines_unsplit n u v (l ∷ ls) h =
    let p = or_parts (cube_reads l.cube n) (lines_read ls n) h in
    or_from (list_any (literal_splits n u v) l.cube) (list_any (λ (k : Line). list_any (literal_splits n u v) k.cube) ls) (cube_unsplit n u v l.cube p.0) (lines_unsplit n u v ls p.1)

-- ---- readers

-- where none of a list passes a test a number of the list doesn't
listed_fails : (p : ℕ → Bool) (ns : List NetId) (m : ℕ) → has_id ns m ≡ true → list_any (λ (k : NetId). p k.0) ns ≡ false → p m ≡ false
listed_fails p [] m h none = absurd (false≢true h)
listed_fails p (k ∷ ns) m h none =
    let parts = or_parts (p k.0) (list_any (λ (j : NetId). p j.0) ns) none in
    ⊎_elim
    (λ (here : nat_eq k.0 m ≡ true). ap p (sym (eqb-true k.0 m here)) ∙ parts.0)
    (λ (rest : has_id ns m ≡ true). listed_fails p ns m rest parts.1)
    (or_cases (nat_eq k.0 m) (has_id ns m) h)

pub alike_answer : (some : Bool) (nets : List (Option FlatNet)) (n u v : ℕ) (readers : List NetId) → IsAscending (λ m. net_reads (slot nets m) n) readers
    → some ≡ list_any (λ (k : NetId). table_splits n u v (table_in (slot nets k.0))) readers → MatchBool (not some) (AreAlike nets n u v) (AreAlike nets n u v → ⊥)
alike_answer true nets n u v readers is e = λ alike.
    let f = found (λ (k : NetId). table_splits n u v (table_in (slot nets k.0))) readers (sym e) in
    by_table f.item alike (table_in (slot nets f.item.0)) refl f.passes
  where
    by_table : (k : NetId) → AreAlike nets n u v → (t : Option Cover) → table_in (slot nets k.0) ≡ t → table_splits n u v t ≡ true → ⊥
    by_table k alike None table h = false≢true h
    by_table k alike (Some c) table h = false≢true (sym (alike.each k.0 c table) ∙ h)
alike_answer false nets n u v readers is e = record {
  each = λ m c table.
      ⊎_elim
      (λ (reads : cover_reads c n ≡ true).
      let listed = is.members m ∙ (ap (λ t. table_reads t n) table ∙ reads) in
      sym (ap (table_splits n u v) table) ∙ listed_fails (λ k. table_splits n u v (table_in (slot nets k))) readers m listed (sym e))
      (λ (unread : cover_reads c n ≡ false). lines_unsplit n u v c.lines unread)
      (cases_Bool (cover_reads c n));
}

-- ---- the own table

pub never_answer : (has : Bool) (nets : List (Option FlatNet)) (n v : ℕ) → has ≡ table_has v (table_in (slot nets n)) → MatchBool (not has) (IsNeverGiven nets n v) (IsNeverGiven nets n v → ⊥)
never_answer true nets n v e = λ never. by_table never (table_in (slot nets n)) refl (sym e)
  where
    by_table : IsNeverGiven nets n v → (t : Option Cover) → table_in (slot nets n) ≡ t → table_has v t ≡ true → ⊥
    by_table never None table h = false≢true h
    by_table never (Some c) table h = false≢true (sym (never.each c table) ∙ h)
never_answer false nets n v e = record { each = λ c table. sym (ap (table_has v) table) ∙ sym e }

-- ---- the form

pub mergeable_answer : (other : Bool) (values : ℕ) (gone : Value) (into : Option Value) → 1 < values → gone.0 < values → MatchBool other (IsOther values gone into) (IsOther values gone into → ⊥)
    → MatchBool other (AreMergeable values gone into) (AreMergeable values gone into → ⊥)
mergeable_answer true values gone into several low h = record { several = several; low = low; other = h }
mergeable_answer false values gone into several low h = λ able. h able.other

-- a number that isn't held has no table
pub unheld_splits : (n u v : ℕ) (f : Option FlatNet) → is_some f ≡ false → false ≡ table_splits n u v (table_in f)
unheld_splits n u v None h = refl
unheld_splits n u v (Some f) h = absurd (false≢true (sym h))
