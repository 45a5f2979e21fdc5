-- The covers of a table are covers over the nets: each literal is on one of the nets that the cover may read.
use Rattle.std.proofs.Common.{◌≡◌, ℕ, Bool, true, false, ◌||◌, List, [], ◌∷◌, Option, Some, None, refl, sym, ◌∙◌, ap, arith, ⊎_elim, All}
use Rattle.std.specs.Prelude.{if◌then◌else◌, nat_eq}
use Rattle.std.specs.List.{list_any}
use Rattle.std.proofs.lemmas.Bool.{false≢true, eqb-true, false_from_ne_true, le-ltb, or_cases}
use Rattle.std.proofs.lemmas.List.Elements.{All-head, All-tail}
use Rattle.mv_base.specs.Set.{has, empty, full, Within}
use Rattle.mv_base.specs.declared.number.NetId.{NetId}
use Rattle.mv_base.proofs.Sets.{has-empty, has-full, same_set}
use Rattle.mv_cover.specs.Covers.{cube_reads, lines_read, cover_reads}
use Rattle.mv_cover.specs.Literal.{Lit}
use Rattle.mv_cover.specs.declared.line.Line.{Line}
use Rattle.mv_cover.specs.declared.cover.Cover.{Cover}
use Rattle.mv_rows.specs.declared.column.Column.{Column}
use Rattle.mv_rows.specs.Cubes.{IsPart, AreParts}
use Rattle.mv_rows.specs.Covers.{IsTableLine, IsTableCover}
use Rattle.mv_net.specs.declared.parts.FlatNet.{FlatNet}
use Rattle.mv_net.specs.Nets.{slot, values_in}
use Rattle.mv_net.specs.Formed.{IsReadable, AllLiterals, AllLines, AllCubes, IsCover}

-- ---- the nets that a table's covers may read

-- the net of a column
abbrev pub is_column : List Column → ℕ → Bool
is_column columns n = list_any (λ (c : Column). nat_eq c.net.0 n) columns

-- the mark's net, where there is a mark
abbrev pub is_mark : Option Cover → NetId → ℕ → Bool
is_mark None mark n = false
is_mark (Some c) mark n = nat_eq mark.0 n

-- what is read by a cover over the columns and the mark
abbrev pub is_above : List Column → Option Cover → NetId → ℕ → Bool
is_above columns o mark n = is_column columns n || is_mark o mark n

-- what is read by a cover over the choice net
abbrev pub is_choice : NetId → ℕ → Bool
is_choice choice n = nat_eq choice.0 n

-- how many values each of these has; other nets have none here
abbrev pub count_above : (ℕ → Bool) → (ℕ → ℕ) → ℕ → ℕ
count_above above count n = if above n then count n else 0

-- how many values the net at a number has
abbrev pub values_at : List (Option FlatNet) → ℕ → ℕ
values_at nets n = values_in (slot nets n)

-- each of these can be read
pub record AreReadable (nets : List (Option FlatNet)) (above : ℕ → Bool) : Type 0 where
  pub each : (n : ℕ) → above n ≡ true → IsReadable nets n

-- ---- what covers read

none_within : (s : ℕ) → Within s (full 0) → s ≡ empty
none_within s within =
    same_set s empty (λ v.
    false_from_ne_true (has s v) (λ (y : has s v ≡ true). false≢true (sym (le-ltb v 0 (omega arith)) ∙ (sym (has-full 0 v) ∙ within v y))) ∙ sym (has-empty v))

-- some values, but not all, of a net that has some
part_above : (b : Bool) (k s : ℕ) → IsPart (if b then k else 0) s → (b ≡ true) × IsPart k s
part_above true k s p = (refl, p)
part_above false k s p = absurd (p.values.some (none_within s p.values.within))

module _ (above : ℕ → Bool) (count : ℕ → ℕ) where
  -- a literal of the cube is on one of these nets
  parts_read : (cube : List Lit) (n : ℕ) → AreParts (count_above above count) cube → cube_reads cube n ≡ true → above n ≡ true
  parts_read [] n parts h = absurd (false≢true h)
  parts_read (l ∷ ls) n parts h =
      ⊎_elim
      (λ (y : nat_eq l.net.0 n ≡ true). ap above (sym (eqb-true l.net.0 n y)) ∙ (part_above (above l.net.0) (count l.net.0) l.set parts.0).0)
      (λ (y : cube_reads ls n ≡ true). parts_read ls n parts.1 y)
      (or_cases (nat_eq l.net.0 n) (cube_reads ls n) h)

  lines_above : (values : ℕ) (ls : List Line) (n : ℕ) → All (IsTableLine (count_above above count) values) ls → lines_read ls n ≡ true → above n ≡ true
  lines_above values [] n all h = absurd (false≢true h)
  lines_above values (l ∷ ls) n all h =
      let P : Line → Type 0 = IsTableLine (count_above above count) values in
      ⊎_elim (λ (y : cube_reads l.cube n ≡ true). parts_read l.cube n (All-head P l ls all).parts y)
      (λ (y : lines_read ls n ≡ true). lines_above values ls n (All-tail P l ls all) y)
      (or_cases (cube_reads l.cube n) (lines_read ls n) h)

  -- a cover reads these nets alone
  pub cover_above : (values : ℕ) (c : Cover) (n : ℕ) → IsTableCover (count_above above count) values c → cover_reads c n ≡ true → above n ≡ true
  cover_above values c n is h = lines_above values c.lines n is.lines h

-- ---- covers over the nets

module _ (nets : List (Option FlatNet)) (above : ℕ → Bool) where
  literals_from : (cube : List Lit) → AreReadable nets above → AreParts (count_above above (values_at nets)) cube → AllLiterals nets cube
  literals_from [] readable parts = tt
  literals_from (l ∷ ls) readable parts =
      let p = part_above (above l.net.0) (values_at nets l.net.0) l.set parts.0 in (
        record { readable = readable.each l.net.0 p.0; set = p.1.values; not_full = p.1.not_full },
        literals_from ls readable parts.1,
      )

  cubes_from : (values : ℕ) (ls : List Line) → All (IsTableLine (count_above above (values_at nets)) values) ls → AllCubes ls
  cubes_from values [] all = tt
  cubes_from values (l ∷ ls) all =
      let P : Line → Type 0 = IsTableLine (count_above above (values_at nets)) values in
      ((All-head P l ls all).cube, cubes_from values ls (All-tail P l ls all))

  lines_from : (values : ℕ) (ls : List Line) → AreReadable nets above → All (IsTableLine (count_above above (values_at nets)) values) ls
      → AllLines nets values ls
  lines_from values [] readable all = tt
  lines_from values (l ∷ ls) readable all =
      let P : Line → Type 0 = IsTableLine (count_above above (values_at nets)) values in
      let here = All-head P l ls all in
      (literals_from l.cube readable here.parts, here.out, lines_from values ls readable (All-tail P l ls all))

  pub cover_from : (values : ℕ) (c : Cover) → AreReadable nets above → IsTableCover (count_above above (values_at nets)) values c → IsCover nets values c
  cover_from values c readable is = record {
    cubes = cubes_from values c.lines is.lines;
    lines = lines_from values c.lines readable is.lines;
    differ = is.differ;
    default = is.default;
    met = is.met;
  }
