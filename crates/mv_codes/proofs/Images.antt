-- The table of a bit, and what it allows.
use Rattle.std.proofs.Common.{◌≡◌, ◌∙◌, ℕ, zero, suc, ◌+◌, ◌<◌, Bool, true, false, not, ◌&&◌, ◌||◌, Option, Some, None, List, [], ◌∷◌, map, length, get_or, nat_eq, nat_lt, inl, inr, refl, sym, ap, subst, arith, if◌then◌else◌}
use Rattle.std.specs.Bool.{beq}
use Rattle.std.specs.Cmp.{booleans_Decides}
use Rattle.std.proofs.Math.Bool.{or-false}
use Rattle.std.proofs.lemmas.Bool.{cases_Bool, false≢true, and_parts, and_from, or_cases, or_left, or_right, lt-ltb, le-ltb, ltb-true, eq-eqb, cond-true, cond-false}
use Rattle.std.proofs.lemmas.Bool.Decides.{Decides-ltb}
use Rattle.mv_base.specs.Set.{has, empty, one, join, meet}
use Rattle.mv_base.proofs.Sets.{has-empty, has-one, has-join, has-meet}
use Rattle.mv_cover.specs.declared.line.Line.{Line}
use Rattle.mv_cover.specs.declared.cover.Cover.{Cover}
use Rattle.mv_cover.specs.Cubes.{matches}
use Rattle.mv_cover.specs.Covers.{some_matches, some_gives, default_gives, allowed}
use Rattle.mv_cover.proofs.Covering.{same_number}
use Rattle.mv_cover.proofs.Meets.{order}
use Rattle.mv_cover.proofs.Members.{member_of}
use Rattle.mv_cover.proofs.Sharps.{not_empty}
use Rattle.mv_entry.specs.declared.rule.Code.{Code}
use Rattle.mv_codes.specs.Codes.{bit_number, bit_of}
use Rattle.mv_codes.specs.Tables.{values_with, split_of, bit_if_meet, bit_image, line_bit, default_bit, bit_table}
use Rattle.mv_codes.specs.Rewriting.{AllowsBits}
use Rattle.mv_codes.proofs.Values.{code_bits-get_or}

-- ---- the values with a bit

none : (b : Bool) → (b && false) ≡ false
none true = refl
none false = refl

-- another number is below the next where it is below
below_next : (v n : ℕ) → nat_eq v n ≡ false → nat_lt v n ≡ nat_lt v (n + 1)
below_next v n other =
    elim (order v n) [
      | inl y ↦ y.0 ∙ sym (lt-ltb v (n + 1) (omega (arith, y.1)))
      | inr o ↦
          let ne : v ≡ n → ⊥ = λ e. false≢true (sym other ∙ eq-eqb v n e) in
          o.0 ∙ sym (le-ltb v (n + 1) (omega (arith, o.1, ne)))
    ]

with_one : (s n v : ℕ) (a b : Bool) → has s v ≡ (nat_lt v n && b) → (nat_eq v n ≡ true → b ≡ a) → has (if a then join s (one n) else s) v ≡ (nat_lt v (n + 1) && b)
with_one s n v true b rest here =
    has-join s (one n) v
    ∙ ((λ i. rest i || has-one n v i)
    ∙ elim (cases_Bool (nat_eq v n)) [
      | inl t ↦ let e = same_number v n t in rw (t, here t, lt-ltb v (n + 1) (omega arith)) (or_right (nat_lt v n && true) true refl)
      | inr f ↦ rw f (or-false (nat_lt v n && b) ∙ ap (λ x. x && b) (below_next v n f))
    ])
with_one s n v false b rest here =
    rest
    ∙ elim (cases_Bool (nat_eq v n)) [
      | inl t ↦ rw (here t) (none (nat_lt v n) ∙ sym (none (nat_lt v (n + 1))))
      | inr f ↦ ap (λ x. x && b) (below_next v n f)
    ]

pub has-values_with : (codes : List Code) (k : ℕ) (bit : Bool) (n v : ℕ) → has (values_with codes k bit n) v ≡ (nat_lt v n && beq (bit_of codes k v) bit)
has-values_with codes k bit zero v = has-empty v ∙ sym (ap (λ x. x && beq (bit_of codes k v) bit) (le-ltb v 0 (omega arith)))
has-values_with codes k bit (suc n) v =
    let next : n + 1 ≡ suc n = omega arith in
    with_one (values_with codes k bit n) n v (beq (bit_of codes k n) bit) (beq (bit_of codes k v) bit) (has-values_with codes k bit n v) (λ t. ap (λ x. beq (bit_of codes k x) bit) (same_number v n t))
    ∙ ap (λ m. nat_lt v m && beq (bit_of codes k v) bit) next

-- ---- the bits of values that pass a test

-- some value passes whose code has the bit b at place k
pub record HasBit (codes : List Code) (k b : ℕ) (p : ℕ → Bool) : Type 0 where
  pub v : ℕ
  pub low : v < length codes
  pub passes : p v ≡ true
  pub bit : bit_number (bit_of codes k v) ≡ b

image_down : (codes : List Code) (k set b : ℕ) (bit : Bool) → has (bit_if_meet (bit_number bit) set (values_with codes k bit (length codes))) b ≡ true → HasBit codes k b (has set)
image_down codes k set b bit h =
    let with_bit = values_with codes k bit (length codes) in
    elim (cases_Bool (nat_eq (meet set with_bit) empty)) [
      | inl t ↦ absurd (false≢true (sym (has-empty b) ∙ rw t at h))
      | inr f ↦
          let m = member_of (meet set with_bit) f in
          let in_both = and_parts (has set m.0) (has with_bit m.0) (sym (has-meet set with_bit m.0) ∙ m.1) in
          let coded = and_parts (nat_lt m.0 (length codes)) (beq (bit_of codes k m.0) bit) (sym (has-values_with codes k bit (length codes) m.0) ∙ in_both.1) in
          let same : b ≡ bit_number bit = same_number b (bit_number bit) (sym (has-one (bit_number bit) b) ∙ rw f at h) in
          record {
            v = m.0;
            low = ltb-true m.0 (length codes) coded.0;
            passes = in_both.0;
            bit = ap bit_number ((booleans_Decides (bit_of codes k m.0) bit).0 coded.1) ∙ sym same;
          }
    ]

image_up : (codes : List Code) (k set v : ℕ) (bit : Bool) → v < length codes → has set v ≡ true → bit_of codes k v ≡ bit → has (bit_if_meet (bit_number bit) set (values_with codes k bit (length codes))) (bit_number bit) ≡ true
image_up codes k set v bit low there is =
    let with_bit = values_with codes k bit (length codes) in
    let coded : has with_bit v ≡ true =
    has-values_with codes k bit (length codes) v ∙ and_from (nat_lt v (length codes)) (beq (bit_of codes k v) bit) ((Decides-ltb v (length codes)).1 low) ((booleans_Decides (bit_of codes k v) bit).1 is) in
    let some : nat_eq (meet set with_bit) empty ≡ false = not_empty (meet set with_bit) v (has-meet set with_bit v ∙ and_from (has set v) (has with_bit v) there coded) in
    rw some (has-one (bit_number bit) (bit_number bit) ∙ eq-eqb (bit_number bit) (bit_number bit) refl)

pub bit_image-down : (codes : List Code) (k set b : ℕ) → has (bit_image (split_of codes k) set) b ≡ true → HasBit codes k b (has set)
unfolding bit_image split_of
bit_image-down codes k set b h =
    let zeros = bit_if_meet 0 set (values_with codes k false (length codes)) in
    let ones = bit_if_meet 1 set (values_with codes k true (length codes)) in
    elim (or_cases (has zeros b) (has ones b) (sym (has-join zeros ones b) ∙ h)) [
      | inl z ↦ image_down codes k set b false z
      | inr o ↦ image_down codes k set b true o
    ]

pub bit_image-up : (codes : List Code) (k set v : ℕ) → v < length codes → has set v ≡ true → has (bit_image (split_of codes k) set) (bit_number (bit_of codes k v)) ≡ true
unfolding bit_image split_of
bit_image-up codes k set v low there =
    let zeros = bit_if_meet 0 set (values_with codes k false (length codes)) in
    let ones = bit_if_meet 1 set (values_with codes k true (length codes)) in
    elim (cases_Bool (bit_of codes k v)) [
      | inl t ↦ rw t (has-join zeros ones 1 ∙ or_right (has zeros 1) (has ones 1) (image_up codes k set v true low there t))
      | inr f ↦ rw f (has-join zeros ones 0 ∙ or_left (has zeros 0) (has ones 0) (image_up codes k set v false low there f))
    ]

-- ---- what the table allows

abbrev pub bits_of_lines : List Code → ℕ → List Line → List Line
bits_of_lines codes k ls = map (line_bit (split_of codes k)) ls

some_matches-bits : (codes : List Code) (k : ℕ) (at : ℕ → ℕ) (ls : List Line) → some_matches at (bits_of_lines codes k ls) ≡ some_matches at ls
some_matches-bits codes k at [] = refl
some_matches-bits codes k at (l ∷ ls) = ap (λ b. matches at l.cube || b) (some_matches-bits codes k at ls)

gives_down : (codes : List Code) (k b : ℕ) (at : ℕ → ℕ) (ls : List Line) → some_gives at b (bits_of_lines codes k ls) ≡ true → HasBit codes k b (λ v. some_gives at v ls)
gives_down codes k b at [] h = absurd (false≢true h)
gives_down codes k b at (l ∷ ls) h =
    let out = bit_image (split_of codes k) l.out in
    elim (or_cases (matches at l.cube && has out b) (some_gives at b (bits_of_lines codes k ls)) h) [
      | inl g ↦
          let p = and_parts (matches at l.cube) (has out b) g in
          let d = bit_image-down codes k l.out b p.1 in
          record { v = d.v; low = d.low; passes = or_left (matches at l.cube && has l.out d.v) (some_gives at d.v ls) (and_from (matches at l.cube) (has l.out d.v) p.0 d.passes); bit = d.bit }
      | inr r ↦
          let d = gives_down codes k b at ls r in
          record { v = d.v; low = d.low; passes = or_right (matches at l.cube && has l.out d.v) (some_gives at d.v ls) d.passes; bit = d.bit }
    ]

gives_up : (codes : List Code) (k v : ℕ) (at : ℕ → ℕ) (ls : List Line) → v < length codes → some_gives at v ls ≡ true → some_gives at (bit_number (bit_of codes k v)) (bits_of_lines codes k ls) ≡ true
gives_up codes k v at [] low h = absurd (false≢true h)
gives_up codes k v at (l ∷ ls) low h =
    let b = bit_number (bit_of codes k v) in
    let out = bit_image (split_of codes k) l.out in
    elim (or_cases (matches at l.cube && has l.out v) (some_gives at v ls) h) [
      | inl g ↦
          let p = and_parts (matches at l.cube) (has l.out v) g in
          or_left (matches at l.cube && has out b) (some_gives at b (bits_of_lines codes k ls)) (and_from (matches at l.cube) (has out b) p.0 (bit_image-up codes k l.out v low p.1))
      | inr r ↦ or_right (matches at l.cube && has out b) (some_gives at b (bits_of_lines codes k ls)) (gives_up codes k v at ls low r)
    ]

default_down : (codes : List Code) (k b : ℕ) (o : Option ℕ) → default_gives (default_bit (split_of codes k) o) b ≡ true → HasBit codes k b (default_gives o)
default_down codes k b None h = absurd (false≢true h)
default_down codes k b (Some out) h = bit_image-down codes k out b h

default_up : (codes : List Code) (k v : ℕ) (o : Option ℕ) → v < length codes → default_gives o v ≡ true → default_gives (default_bit (split_of codes k) o) (bit_number (bit_of codes k v)) ≡ true
default_up codes k v None low h = absurd (false≢true h)
default_up codes k v (Some out) low h = bit_image-up codes k out v low h

allowed_down : (codes : List Code) (k b : ℕ) (c : Cover) (at : ℕ → ℕ) → allowed (bit_table codes k c) at b ≡ true → HasBit codes k b (allowed c at)
unfolding bit_table allowed
allowed_down codes k b c at h =
    let lines = bits_of_lines codes k c.lines in
    let default = default_bit (split_of codes k) c.default in
    elim (or_cases (some_gives at b lines) (not (some_matches at lines) && default_gives default b) h) [
      | inl g ↦
          let d = gives_down codes k b at c.lines g in
          record { v = d.v; low = d.low; passes = or_left (some_gives at d.v c.lines) (not (some_matches at c.lines) && default_gives c.default d.v) d.passes; bit = d.bit }
      | inr r ↦
          let p = and_parts (not (some_matches at lines)) (default_gives default b) r in
          let d = default_down codes k b c.default p.1 in
          let missed : not (some_matches at c.lines) ≡ true = ap not (sym (some_matches-bits codes k at c.lines)) ∙ p.0 in
          record {
            v = d.v;
            low = d.low;
            passes = or_right (some_gives at d.v c.lines) (not (some_matches at c.lines) && default_gives c.default d.v) (and_from (not (some_matches at c.lines)) (default_gives c.default d.v) missed d.passes);
            bit = d.bit;
          }
    ]

allowed_up : (codes : List Code) (k v : ℕ) (c : Cover) (at : ℕ → ℕ) → v < length codes → allowed c at v ≡ true → allowed (bit_table codes k c) at (bit_number (bit_of codes k v)) ≡ true
unfolding bit_table allowed
allowed_up codes k v c at low h =
    let b = bit_number (bit_of codes k v) in
    let lines = bits_of_lines codes k c.lines in
    let default = default_bit (split_of codes k) c.default in
    elim (or_cases (some_gives at v c.lines) (not (some_matches at c.lines) && default_gives c.default v) h) [
      | inl g ↦ or_left (some_gives at b lines) (not (some_matches at lines) && default_gives default b) (gives_up codes k v at c.lines low g)
      | inr r ↦
          let p = and_parts (not (some_matches at c.lines)) (default_gives c.default v) r in
          or_right (some_gives at b lines) (not (some_matches at lines) && default_gives default b)
          (and_from (not (some_matches at lines)) (default_gives default b) (ap not (some_matches-bits codes k at c.lines) ∙ p.0) (default_up codes k v c.default low p.1))
    ]

-- the table of a bit allows the bits of the values that the net's table allows
pub bit_allows : (codes : List Code) (k : ℕ) (c : Cover) → AllowsBits codes k c (bit_table codes k c)
bit_allows codes k c = record {
  bits = λ at b. (
    λ h. let d = allowed_down codes k b c at h in (d.v, d.low, d.passes, d.bit),
    λ d. subst (λ x. allowed (bit_table codes k c) at x ≡ true) d.3 (allowed_up codes k d.0 c at d.1 d.2),
  );
}

-- ---- what the code makes of it

bit_of-at : (codes : List Code) (k v : ℕ) (code : Code) → v < length codes → code ≡ get_or codes v code → bit_of codes k v ≡ get_or code.bits k false
unfolding bit_of
bit_of-at codes k v code low here = ap (λ bits. get_or bits k false) (code_bits-get_or codes v code low ∙ ap (λ (x : Code). x.bits) (sym here))

pub values_taken : (codes : List Code) (k v : ℕ) (bit b : Bool) (code : Code) (s t : ℕ) → v < length codes → code ≡ get_or codes v code → b ≡ get_or code.bits k false → s ≡ values_with codes k bit v → beq b bit ≡ true → t ≡ join s (one v) → t ≡ values_with codes k bit (v + 1)
values_taken codes k v bit b code s t low here is before taken put =
    let own : bit_of codes k v ≡ b = bit_of-at codes k v code low here ∙ sym is in
    let next : suc v ≡ v + 1 = omega arith in
    put ∙ ((λ i. join (before i) (one v)) ∙ (sym (cond-true (beq (bit_of codes k v) bit) (join (values_with codes k bit v) (one v)) (values_with codes k bit v) (ap (λ x. beq x bit) own ∙ taken)) ∙ ap (values_with codes k bit) next))

pub values_left : (codes : List Code) (k v : ℕ) (bit b : Bool) (code : Code) (s : ℕ) → v < length codes → code ≡ get_or codes v code → b ≡ get_or code.bits k false → s ≡ values_with codes k bit v → beq b bit ≡ false → s ≡ values_with codes k bit (v + 1)
values_left codes k v bit b code s low here is before other =
    let own : bit_of codes k v ≡ b = bit_of-at codes k v code low here ∙ sym is in
    let next : suc v ≡ v + 1 = omega arith in
    before ∙ (sym (cond-false (beq (bit_of codes k v) bit) (join (values_with codes k bit v) (one v)) (values_with codes k bit v) (ap (λ x. beq x bit) own ∙ other)) ∙ ap (values_with codes k bit) next)
