-- The table of a bit is well formed where the net's table is, and reads the same.
use Rattle.std.proofs.Common.{◌≡◌, ◌∙◌, ℕ, ◌<◌, true, false, not, ◌||◌, Option, Some, None, All, List, [], ◌∷◌, length, nat_eq, refl, sym, ap, subst, arith}
use Rattle.std.specs.List.{list_any}
use Rattle.std.proofs.lemmas.Bool.{false≢true, and_parts, and_from, or_parts, or_from, not-true, not_from_false, false_from_ne_true, ltb-true, ne_eqb}
use Rattle.std.proofs.lemmas.Bool.Decides.{Decides-ltb}
use Rattle.std.proofs.lemmas.List.Elements.{All-head, All-tail, All-map, All-weaker}
use Rattle.mv_base.specs.Set.{has, empty}
use Rattle.mv_base.proofs.Sets.{has-empty, has-full}
use Rattle.mv_cover.specs.declared.line.Line.{Line}
use Rattle.mv_cover.specs.declared.cover.Cover.{Cover}
use Rattle.mv_cover.specs.Cubes.{matches, IsCube}
use Rattle.mv_cover.specs.Covers.{cube_reads, lines_read, cover_reads}
use Rattle.mv_cover.specs.Equal.{cube_eq, line_eq}
use Rattle.mv_cover.specs.Keys.{cube_eq-Decides, line_eq-Decides, same_line}
use Rattle.mv_cover.specs.Lines.{IsOutput, lines_differ}
use Rattle.mv_cover.specs.Plain.{Agree, IsPlainlyDeterministic}
use Rattle.mv_cover.specs.Sharp.{IsCubeOver}
use Rattle.mv_cover.specs.Absorb.{some_bare}
use Rattle.mv_cover.proofs.Meets.{Rises-cube}
use Rattle.mv_cover.proofs.Members.{member_of, point_of}
use Rattle.mv_composite.specs.Inside.{IsCoverOver}
use Rattle.mv_composite.proofs.Formed.{are_cubes}
use Rattle.mv_entry.specs.declared.rule.Code.{Code}
use Rattle.mv_codes.specs.Codes.{bit_number, bit_of}
use Rattle.mv_codes.specs.Tables.{split_of, bit_image, line_bit, default_bit, bit_table}
use Rattle.mv_codes.proofs.Numbers.{bit_low}
use Rattle.mv_codes.proofs.Images.{bit_image-down, bit_image-up, bits_of_lines}

output_bit : (codes : List Code) (k out : ℕ) → IsOutput (length codes) out → IsOutput 2 (bit_image (split_of codes k) out)
output_bit codes k out is =
    let image = bit_image (split_of codes k) out in
    let m = member_of out (ne_eqb out empty is.some) in
    let low : m.0 < length codes = ltb-true m.0 (length codes) (sym (has-full (length codes) m.0) ∙ is.within m.0 m.1) in
    let b = bit_number (bit_of codes k m.0) in
    record {
      some = λ e. false≢true (sym (has-empty b) ∙ (ap (λ s. has s b) (sym e) ∙ bit_image-up codes k out m.0 low m.1));
      within = λ v h.
          let d = bit_image-down codes k out v h in
          has-full 2 v ∙ (Decides-ltb v 2).1 (omega (arith, bit_low (bit_of codes k d.v), d.bit));
    }

default_output : (codes : List Code) (k : ℕ) (o : Option ℕ) → ((out : ℕ) → o ≡ Some out → IsOutput (length codes) out) → (out : ℕ) → default_bit (split_of codes k) o ≡ Some out → IsOutput 2 out
default_output codes k None each out e = absurd (cc)
default_output codes k (Some set) each out e =
    let same : bit_image (split_of codes k) set ≡ out = cc in
    subst (λ s. IsOutput 2 s) same (output_bit codes k set (each set refl))

-- lines with one cube, which can hold, give one set
one_cube : (l m : Line) → IsCube l.cube → Agree l m → l.cube ≡ m.cube → l ≡ m
one_cube l m is agree same =
    let point = point_of 0 l.cube (Rises-cube l.cube is.ascending) is.possible in
    same_line l m same (agree.same point.at point.there (ap (matches point.at) (sym same) ∙ point.there))

none_equal : (codes : List Code) (k : ℕ) (l : Line) (ms : List Line) → IsCube l.cube → All (Agree l) ms → list_any (line_eq l) ms ≡ false → list_any (line_eq (line_bit (split_of codes k) l)) (bits_of_lines codes k ms) ≡ false
none_equal codes k l [] is agree none = refl
none_equal codes k l (m ∷ ms) is agree none =
    let split = split_of codes k in
    let p = or_parts (line_eq l m) (list_any (line_eq l) ms) none in
    let other : line_eq (line_bit split l) (line_bit split m) ≡ false =
    false_from_ne_true (line_eq (line_bit split l) (line_bit split m))
    (λ t.
    let cube = (cube_eq-Decides l.cube m.cube).0 (and_parts (cube_eq l.cube m.cube) (nat_eq (bit_image split l.out) (bit_image split m.out)) t).0 in
    false≢true (sym p.0 ∙ (line_eq-Decides l m).1 (one_cube l m is (All-head (Agree l) m ms agree) cube)))
    in
    or_from (line_eq (line_bit split l) (line_bit split m)) (list_any (line_eq (line_bit split l)) (bits_of_lines codes k ms)) other (none_equal codes k l ms is (All-tail (Agree l) m ms agree) p.1)

differ_bits : (codes : List Code) (k : ℕ) (ls : List Line) → All (λ (l : Line). IsCube l.cube) ls → All (λ l. All (Agree l) ls) ls → lines_differ ls ≡ true → lines_differ (bits_of_lines codes k ls) ≡ true
differ_bits codes k [] are agree differ = refl
differ_bits codes k (l ∷ ls) are agree differ =
    let p = and_parts (not (list_any (line_eq l) ls)) (lines_differ ls) differ in
    let cube = All-head (λ (m : Line). IsCube m.cube) l ls are in
    let first = All-head (λ m. All (Agree m) (l ∷ ls)) l ls agree in
    let rest = All-weaker (λ m. All (Agree m) (l ∷ ls)) (λ m. All (Agree m) ls) (λ m all. All-tail (Agree m) l ls all) ls (All-tail (λ m. All (Agree m) (l ∷ ls)) l ls agree) in
    and_from (not (list_any (line_eq (line_bit (split_of codes k) l)) (bits_of_lines codes k ls))) (lines_differ (bits_of_lines codes k ls))
    (not_from_false (list_any (line_eq (line_bit (split_of codes k) l)) (bits_of_lines codes k ls)) (none_equal codes k l ls cube (All-tail (Agree l) l ls first) (not-true (list_any (line_eq l) ls) p.0)))
    (differ_bits codes k ls (All-tail (λ (m : Line). IsCube m.cube) l ls are) rest p.1)

bare-bits : (codes : List Code) (k : ℕ) (ls : List Line) → some_bare (bits_of_lines codes k ls) ≡ some_bare ls
bare-bits codes k [] = refl
bare-bits codes k (l ∷ ls) = ap (λ b. nat_eq (length l.cube) 0 || b) (bare-bits codes k ls)

-- the table of a bit is well formed where the net's table is, and that is plainly deterministic
pub bit_over : (counts : List ℕ) (codes : List Code) (k : ℕ) (c : Cover) → IsCoverOver counts (length codes) c → IsPlainlyDeterministic c → IsCoverOver counts 2 (bit_table codes k c)
unfolding bit_table
bit_over counts codes k c is plain =
    let split = split_of codes k in
    record {
      cubes = All-map (λ (l : Line). IsCubeOver counts l.cube) (line_bit split) c.lines is.cubes;
      outputs =
          All-map (λ (l : Line). IsOutput 2 l.out) (line_bit split) c.lines
          (All-weaker (λ (l : Line). IsOutput (length codes) l.out) (λ (l : Line). IsOutput 2 (bit_image split l.out)) (λ l it. output_bit codes k l.out it) c.lines is.outputs);
      differ = differ_bits codes k c.lines (are_cubes counts c.lines is.cubes) plain.apart is.differ;
      default = default_output codes k c.default is.default;
      met = λ bare. ap (default_bit split) (is.met (sym (bare-bits codes k c.lines) ∙ bare));
    }

-- ---- what it reads

lines_read-bits : (codes : List Code) (k m : ℕ) (ls : List Line) → lines_read (bits_of_lines codes k ls) m ≡ lines_read ls m
lines_read-bits codes k m [] = refl
lines_read-bits codes k m (l ∷ ls) = ap (λ b. cube_reads l.cube m || b) (lines_read-bits codes k m ls)

pub bit_reads : (codes : List Code) (k m : ℕ) (c : Cover) → cover_reads (bit_table codes k c) m ≡ cover_reads c m
unfolding bit_table
bit_reads codes k m c = lines_read-bits codes k m c.lines
