-- The net's own table behind a merge: what it allows, that it is a cover, and what it reads.
use Rattle.std.proofs.Common.{◌≡◌, ◌∙◌, ℕ, ◌<◌, Bool, true, false, ◌&&◌, ◌||◌, not, nat_eq, Option, Some, None, All, List, [], ◌∷◌, map, inl, inr, refl, sym, ap, subst, ⊎_elim, eq-eqb}
use Rattle.std.specs.List.{list_any}
use Rattle.std.proofs.lemmas.Bool.{or_parts, or_cases, or_left, or_right, or_from, and_parts, and_right, ltb-true, ne_eqb}
use Rattle.std.proofs.lemmas.List.Elements.{All-nil, All-cons, All-head, All-tail}
use Rattle.mv_base.specs.Set.{has, empty}
use Rattle.mv_base.proofs.Sets.{has-full}
use Rattle.mv_cover.specs.Covers.{some_matches, some_gives, default_gives, allowed, cube_reads, cover_reads}
use Rattle.mv_cover.specs.Cubes.{matches, IsCube}
use Rattle.mv_cover.specs.Lines.{IsOutput}
use Rattle.mv_cover.specs.Literal.{Lit}
use Rattle.mv_cover.specs.declared.cover.Cover.{Cover}
use Rattle.mv_cover.specs.declared.line.Line.{Line}
use Rattle.mv_cover.proofs.Absorbing.{allowed-absorbed}
use Rattle.mv_cover.proofs.Members.{member_of}
use Rattle.mv_net.specs.declared.parts.FlatNet.{FlatNet}
use Rattle.mv_net.specs.Formed.{IsLiteral, AllLiterals, IsCover}
use Rattle.mv_merging.specs.declared.merging.Merging.{Merging}
use Rattle.mv_merging.specs.Tables.{output_merged, default_merged, own_merged}
use Rattle.mv_merging.specs.Values.{before, takes_place, merged_set}
use Rattle.mv_merging.specs.Verdicts.{cover_has}
use Rattle.mv_merging.proofs.Sets.{StandsFor, has-merged, merged_output}
use Rattle.mv_merging.proofs.Shapes.{IsLineOver, cover_over, absorbed_cover, absorbed_reads}

-- ---- what it allows

-- either of two, further up
spread : (t c a b g h : Bool) → ((c && (a || (t && b))) || (g || (t && h))) ≡ (((c && a) || g) || (t && ((c && b) || h)))
spread true true true b g h = refl
spread true true false true true h = refl
spread true true false true false h = refl
spread true true false false g h = refl
spread true false a b g h = refl
spread false true true b g h = refl
spread false true false b g h = refl
spread false false a b g h = refl

gives-merged : (m : Merging) (at : ℕ → ℕ) (w : ℕ) (ls : List Line) → w < m.left → some_gives at w (map (output_merged m) ls) ≡ (some_gives at (before m w) ls || (takes_place m.into (before m w) && some_gives at m.gone.0 ls))
gives-merged m at w [] low = sym (and_right (takes_place m.into (before m w)) false refl)
gives-merged m at w (l ∷ ls) low =
    (λ i. (matches at l.cube && has-merged m l.out w low i) || gives-merged m at w ls low i)
    ∙ spread (takes_place m.into (before m w)) (matches at l.cube) (has l.out (before m w)) (has l.out m.gone.0) (some_gives at (before m w) ls) (some_gives at m.gone.0 ls)

matches-merged : (m : Merging) (at : ℕ → ℕ) (ls : List Line) → some_matches at (map (output_merged m) ls) ≡ some_matches at ls
matches-merged m at [] = refl
matches-merged m at (l ∷ ls) = ap (λ b. matches at l.cube || b) (matches-merged m at ls)

default-gives_merged : (m : Merging) (w : ℕ) (d : Option ℕ) → w < m.left → default_gives (default_merged m d) w ≡ (default_gives d (before m w) || (takes_place m.into (before m w) && default_gives d m.gone.0))
default-gives_merged m w None low = sym (and_right (takes_place m.into (before m w)) false refl)
default-gives_merged m w (Some out) low = has-merged m out w low

-- lines and a default, either of two
both : (t n a b d e : Bool) → ((a || (t && b)) || (n && (d || (t && e)))) ≡ ((a || (n && d)) || (t && (b || (n && e))))
both true true true b d e = refl
both true true false true true e = refl
both true true false true false e = refl
both true true false false d e = refl
both true false true b d e = refl
both true false false true d e = refl
both true false false false d e = refl
both false true true b d e = refl
both false true false b true e = refl
both false true false b false e = refl
both false false true b d e = refl
both false false false b d e = refl

cubes-merged : (m : Merging) (ls : List Line) → All (λ (l : Line). IsCube l.cube) ls → All (λ (l : Line). IsCube l.cube) (map (output_merged m) ls)
cubes-merged m [] all = All-nil (λ (l : Line). IsCube l.cube)
cubes-merged m (l ∷ ls) all =
    All-cons (λ (k : Line). IsCube k.cube) (output_merged m l) (map (output_merged m) ls) (All-head (λ (k : Line). IsCube k.cube) l ls all)
    (cubes-merged m ls (All-tail (λ (k : Line). IsCube k.cube) l ls all))

-- the new table allows a value where the old one allows that of which it is the number now, or the one whose place that takes
pub own-allows : (m : Merging) (c : Cover) (at : ℕ → ℕ) (w : ℕ) → All (λ (l : Line). IsCube l.cube) c.lines → w < m.left
    → allowed (own_merged m c) at w ≡ (allowed c at (before m w) || (takes_place m.into (before m w) && allowed c at m.gone.0))
unfolding own_merged allowed
own-allows m c at w cubes low =
    let ls = map (output_merged m) c.lines in
    let raw : Cover = record { lines = ls; default = default_merged m c.default } in
    let none = not (some_matches at c.lines) in
    allowed-absorbed raw (cubes-merged m c.lines cubes) at w
    ∙ ((λ i. gives-merged m at w c.lines low i || (not (matches-merged m at c.lines i) && default-gives_merged m w c.default low i))
    ∙ both (takes_place m.into (before m w)) none (some_gives at (before m w) c.lines) (some_gives at m.gone.0 c.lines) (default_gives c.default (before m w)) (default_gives c.default m.gone.0))

-- it allows what stands for an allowed value
pub own_up : (m : Merging) (c : Cover) (at : ℕ → ℕ) (v w : ℕ) → All (λ (l : Line). IsCube l.cube) c.lines → StandsFor m v w → allowed c at v ≡ true → allowed (own_merged m c) at w ≡ true
own_up m c at v w cubes for h =
    own-allows m c at w cubes for.low
    ∙ ⊎_elim
    (λ (e : v ≡ before m w). or_left (allowed c at (before m w)) (takes_place m.into (before m w) && allowed c at m.gone.0) (ap (allowed c at) (sym e) ∙ h))
    (λ (p : (v ≡ m.gone.0) × (takes_place m.into (before m w) ≡ true)).
    or_right (allowed c at (before m w)) (takes_place m.into (before m w) && allowed c at m.gone.0)
    (ap (λ b. b && allowed c at m.gone.0) p.1 ∙ (ap (allowed c at) (sym p.0) ∙ h)))
    for.is

-- and where it allows a value the old one allows one for which that stands
pub record AllowedBefore (m : Merging) (c : Cover) (at : ℕ → ℕ) (w : ℕ) : Type 0 where
  pub value : ℕ
  pub stands : StandsFor m value w
  pub is_allowed : allowed c at value ≡ true

pub own_down : (m : Merging) (c : Cover) (at : ℕ → ℕ) (w : ℕ) → All (λ (l : Line). IsCube l.cube) c.lines → w < m.left → allowed (own_merged m c) at w ≡ true → AllowedBefore m c at w
own_down m c at w cubes low h =
    ⊎_elim
    (λ (own : allowed c at (before m w) ≡ true). record { value = before m w; stands = record { low = low; is = inl refl }; is_allowed = own })
    (λ (other : (takes_place m.into (before m w) && allowed c at m.gone.0) ≡ true).
    let p = and_parts (takes_place m.into (before m w)) (allowed c at m.gone.0) other in
    record { value = m.gone.0; stands = record { low = low; is = inr (refl, p.0) }; is_allowed = p.1 })
    (or_cases (allowed c at (before m w)) (takes_place m.into (before m w) && allowed c at m.gone.0) (sym (own-allows m c at w cubes low) ∙ h))

-- ---- a value that is never given

never_gives : (at : ℕ → ℕ) (v : ℕ) (ls : List Line) → list_any (λ (l : Line). has l.out v) ls ≡ false → some_gives at v ls ≡ false
never_gives at v [] h = refl
never_gives at v (l ∷ ls) h =
    let p = or_parts (has l.out v) (list_any (λ (k : Line). has k.out v) ls) h in
    or_from (matches at l.cube && has l.out v) (some_gives at v ls) (and_right (matches at l.cube) (has l.out v) p.0) (never_gives at v ls p.1)

pub never_allowed : (c : Cover) (at : ℕ → ℕ) (v : ℕ) → cover_has v c ≡ false → allowed c at v ≡ false
unfolding allowed
never_allowed c at v h =
    let p = or_parts (list_any (λ (l : Line). has l.out v) c.lines) (default_gives c.default v) h in
    or_from (some_gives at v c.lines) (not (some_matches at c.lines) && default_gives c.default v) (never_gives at v c.lines p.0)
    (and_right (not (some_matches at c.lines)) (default_gives c.default v) p.1)

-- ---- that it is a cover

-- each old value that the table can give has a value that stands for it
pub record StandsForAll (m : Merging) (values : ℕ) (c : Cover) : Type 0 where
  pub each : (v : ℕ) → v < values → cover_has v c ≡ true → (w : ℕ) × StandsFor m v w

output_behind : (m : Merging) (values out : ℕ) → IsOutput values out → ((v : ℕ) → v < values → has out v ≡ true → (w : ℕ) × StandsFor m v w) → IsOutput m.left (merged_set m out)
output_behind m values out is each =
    let some = member_of out (ne_eqb out empty is.some) in
    merged_output m out some.0 some.1 (each some.0 (ltb-true some.0 values (sym (has-full values some.0) ∙ is.within some.0 some.1)) some.1)

lines_behind : (m : Merging) (old new : List (Option FlatNet)) (values : ℕ) (reads : ℕ → Bool) (ls : List Line) → All (IsLineOver old values reads) ls
    → ((l : Lit) → reads l.net.0 ≡ true → IsLiteral old l → IsLiteral new l)
    → ((v : ℕ) → v < values → list_any (λ (l : Line). has l.out v) ls ≡ true → (w : ℕ) × StandsFor m v w)
    → All (IsLineOver new m.left reads) (map (output_merged m) ls)
lines_behind m old new values reads [] all literal each = All-nil (IsLineOver new m.left reads)
lines_behind m old new values reads (l ∷ ls) all literal each =
    let is = All-head (IsLineOver old values reads) l ls all in
    All-cons (IsLineOver new m.left reads) (output_merged m l) (map (output_merged m) ls)
    (record {
      cube = is.cube;
      literals = literals l.cube is.only is.literals;
      out = output_behind m values l.out is.out (λ v low h. each v low (or_left (has l.out v) (list_any (λ (k : Line). has k.out v) ls) h));
      only = is.only;
    })
    (lines_behind m old new values reads ls (All-tail (IsLineOver old values reads) l ls all) literal
    (λ v low h. each v low (or_right (has l.out v) (list_any (λ (k : Line). has k.out v) ls) h)))
  where
    literals : (cube : List Lit) → ((k : ℕ) → cube_reads cube k ≡ true → reads k ≡ true) → AllLiterals old cube → AllLiterals new cube
    literals [] only all = tt
    literals (j ∷ js) only all = (
      literal j (only j.net.0 (or_left (nat_eq j.net.0 j.net.0) (cube_reads js j.net.0) (eq-eqb j.net.0 j.net.0 refl))) all.0,
      literals js (λ k h. only k (or_right (nat_eq j.net.0 k) (cube_reads js k) h)) all.1,
    )

module _ (m : Merging) (old new : List (Option FlatNet)) (values : ℕ) (c : Cover) (is : IsCover old values c) (literal : (l : Lit) → cover_reads c l.net.0 ≡ true → IsLiteral old l → IsLiteral new l) (stands : StandsForAll m values c) where
  lines_all : All (IsLineOver new m.left (cover_reads c)) (map (output_merged m) c.lines)
  lines_all =
      lines_behind m old new values (cover_reads c) c.lines (cover_over old values c is) literal
      (λ v low h. stands.each v low (or_left (list_any (λ (l : Line). has l.out v) c.lines) (default_gives c.default v) h))

  default_all : (d : Option ℕ) → c.default ≡ d → (out : ℕ) → default_merged m d ≡ Some out → IsOutput m.left out
  default_all None e out h = absurd (let bad : None ≡ Some out = h in cc)
  default_all (Some set) e out h =
      let same : merged_set m set ≡ out = cc in
      subst (IsOutput m.left) same
      (output_behind m values set (is.default set e)
      (λ v low g. stands.each v low (or_right (list_any (λ (l : Line). has l.out v) c.lines) (default_gives c.default v) (ap (λ o. default_gives o v) e ∙ g))))

  pub own_cover : IsCover new m.left (own_merged m c)
  unfolding own_merged
  own_cover = absorbed_cover new m.left (cover_reads c) (record { lines = map (output_merged m) c.lines; default = default_merged m c.default }) lines_all (default_all c.default refl)

  pub own_reads_only : (k : ℕ) → cover_reads (own_merged m c) k ≡ true → cover_reads c k ≡ true
  unfolding own_merged
  own_reads_only k h = absorbed_reads new m.left (cover_reads c) (record { lines = map (output_merged m) c.lines; default = default_merged m c.default }) lines_all k h
