-- A cover over its fanins, as the rows of a table.
use Rattle.std.proofs.Common.{◌≡◌, ℕ, Bool, true, false, not, ◌&&◌, ◌||◌, List, [], ◌∷◌, map, Option, Some, None, refl, sym, ◌∙◌, ap, arith}
use Rattle.std.specs.Prelude.{nat_eq, nat_lt, option_map}
use Rattle.std.specs.List.{list_all}
use Rattle.std.proofs.lemmas.Bool.{cond-true, cond-false, and_parts, and_from, or_left, or_right, eqb-true, eq-eqb, ne_eqb, cond_both, ltb-true}
use Rattle.std.proofs.Math.Bool.{and-true}
use Rattle.mv_base.specs.Set.{has}
use Rattle.mv_base.proofs.Sets.{has-full}
use Rattle.mv_cover.specs.Literal.{Lit}
use Rattle.mv_cover.specs.declared.line.Line.{Line}
use Rattle.mv_cover.specs.declared.cover.Cover.{Cover}
use Rattle.mv_cover.specs.Cubes.{holds, matches, nets_ascend}
use Rattle.mv_cover.specs.Covers.{some_matches, some_gives, default_gives, allowed, cube_reads, lines_read}
use Rattle.mv_cover.proofs.Meeting.{above, above_tail}
use Rattle.mv_cover.proofs.Walking.{nets_ascend-tail}
use Rattle.mv_design.specs.Tables.{row_matches, some_row_matches, some_row_holds, default_holds, table_allows}
use Rattle.mv_net.specs.declared.parts.FlatNet.{FlatNet}
use Rattle.mv_net.specs.Nets.{slot, values_in}
use Rattle.mv_net.specs.Formed.{AllCubes}
use Rattle.mv_text.specs.Text.{set_in}
use Rattle.mv_text_back.proofs.TextModel.{set_entries, row_said}
use Rattle.mv_text_back.proofs.Numbers.{number_in, passes-at}

-- the value of the net is one of its values
abbrev pub is_low : List (Option FlatNet) → (ℕ → ℕ) → ℕ → Bool
is_low nets at m = nat_lt (at m) (values_in (slot nets m))

-- two tests that tell each other are one
both_ways : (a b : Bool) → (a ≡ true → b ≡ true) → (b ≡ true → a ≡ true) → a ≡ b
both_ways true b f g = sym (f refl)
both_ways false true f g = g refl
both_ways false false f g = refl

-- ---- columns side by side

sides : (sets : ℕ → ℕ) (values : ℕ → ℕ) (ms : List ℕ) → row_matches (map sets ms) (map values ms) ≡ list_all (λ m. has (sets m) (values m)) ms
sides sets values [] = refl
sides sets values (m ∷ ms) = ap (λ b. has (sets m) (values m) && b) (sides sets values ms)

-- ---- the sets of a cube's nets

-- each literal's set is that of its net in the cube
abbrev SetsIn : List (Option FlatNet) → List Lit → List Lit → Type 0
SetsIn nets cube [] = Unit {0}
SetsIn nets cube (l ∷ ls) = (set_in nets cube l.net.0 ≡ l.set) × SetsIn nets cube ls

sets_more : (nets : List (Option FlatNet)) (l : Lit) (cube ls : List Lit) → above l.net.0 ls ≡ true → SetsIn nets cube ls → SetsIn nets (l ∷ cube) ls
unfolding above
sets_more nets l cube [] a s = tt
sets_more nets l cube (m ∷ ls) a s =
    let p = and_parts (nat_lt l.net.0 m.net.0) (list_all (λ (o : Lit). nat_lt l.net.0 o.net.0) ls) a in
    let low = ltb-true l.net.0 m.net.0 p.0 in (
      cond-false (nat_eq l.net.0 m.net.0) l.set (set_in nets cube m.net.0) (ne_eqb l.net.0 m.net.0 (λ e. omega arith)) ∙ s.0,
      sets_more nets l cube ls p.1 s.1,
    )

sets_in : (nets : List (Option FlatNet)) (cube : List Lit) → nets_ascend cube ≡ true → SetsIn nets cube cube
sets_in nets [] e = tt
sets_in nets (l ∷ ls) e = (
  cond-true (nat_eq l.net.0 l.net.0) l.set (set_in nets ls l.net.0) (eq-eqb l.net.0 l.net.0 refl),
  sets_more nets l ls ls (above_tail l.net.0 l ls e (omega arith)) (sets_in nets ls (nets_ascend-tail l ls e)),
)

-- ---- a row matches where the cube does

cube_from_row : (nets : List (Option FlatNet)) (at : ℕ → ℕ) (fanins : List ℕ) (cube ls : List Lit) → SetsIn nets cube ls → ((n : ℕ) → cube_reads ls n ≡ true → number_in n fanins ≡ true) → list_all (λ m. has (set_in nets cube m) (at m)) fanins ≡ true → matches at ls ≡ true
cube_from_row nets at fanins cube [] s sub all = refl
cube_from_row nets at fanins cube (l ∷ ls) s sub all =
    let i = sub l.net.0 (or_left _ _ (eq-eqb l.net.0 l.net.0 refl)) in
    let here : has (set_in nets cube l.net.0) (at l.net.0) ≡ true = passes-at l.net.0 fanins (λ m. has (set_in nets cube m) (at m)) all i in
    and_from _ _ (ap (λ set. has set (at l.net.0)) (sym s.0) ∙ here) (cube_from_row nets at fanins cube ls s.1 (λ n h. sub n (or_right _ _ h)) all)

set_has : (nets : List (Option FlatNet)) (at : ℕ → ℕ) (cube : List Lit) (m : ℕ) → is_low nets at m ≡ true → matches at cube ≡ true → has (set_in nets cube m) (at m) ≡ true
set_has nets at [] m low e = has-full (values_in (slot nets m)) (at m) ∙ low
set_has nets at (l ∷ ls) m low e =
    let p = and_parts (holds at l) (matches at ls) e in
    let P : ℕ → Type 0 = λ set. has set (at m) ≡ true in
    cond_both (nat_eq l.net.0 m) l.set (set_in nets ls m) P (λ y. ap (λ n. has l.set (at n)) (sym (eqb-true l.net.0 m y)) ∙ p.0) (λ _. set_has nets at ls m low p.1)

row_from_cube : (nets : List (Option FlatNet)) (at : ℕ → ℕ) (cube : List Lit) (ms : List ℕ) → list_all (is_low nets at) ms ≡ true → matches at cube ≡ true → list_all (λ m. has (set_in nets cube m) (at m)) ms ≡ true
row_from_cube nets at cube [] low e = refl
row_from_cube nets at cube (m ∷ ms) low e =
    let p = and_parts (is_low nets at m) (list_all (is_low nets at) ms) low in
    and_from _ _ (set_has nets at cube m p.0 e) (row_from_cube nets at cube ms p.1 e)

row_is_cube : (nets : List (Option FlatNet)) (at : ℕ → ℕ) (fanins : List ℕ) (cube : List Lit) → nets_ascend cube ≡ true → ((n : ℕ) → cube_reads cube n ≡ true → number_in n fanins ≡ true) → list_all (is_low nets at) fanins ≡ true → row_matches (map (set_in nets cube) fanins) (map at fanins) ≡ matches at cube
row_is_cube nets at fanins cube up sub low =
    sides (set_in nets cube) at fanins ∙ both_ways _ _ (cube_from_row nets at fanins cube cube (sets_in nets cube up) sub) (row_from_cube nets at cube fanins low)

-- ---- the rows of a cover say what its lines say

-- the lines have cubes over these fanins, and the assignment gives values that the fanins have
record AreOver (nets : List (Option FlatNet)) (at : ℕ → ℕ) (fanins : List ℕ) (ls : List Line) : Type 0 where
  cubes : AllCubes ls
  reads : (n : ℕ) → lines_read ls n ≡ true → number_in n fanins ≡ true
  low : list_all (is_low nets at) fanins ≡ true

first_row : (nets : List (Option FlatNet)) (at : ℕ → ℕ) (fanins : List ℕ) (l : Line) (ls : List Line) → AreOver nets at fanins (l ∷ ls) → row_matches (map (set_in nets l.cube) fanins) (map at fanins) ≡ matches at l.cube
first_row nets at fanins l ls o =
    row_is_cube nets at fanins l.cube o.cubes.0.ascending (λ n h. o.reads n (or_left _ _ h)) o.low

later_rows : (nets : List (Option FlatNet)) (at : ℕ → ℕ) (fanins : List ℕ) (l : Line) (ls : List Line) → AreOver nets at fanins (l ∷ ls) → AreOver nets at fanins ls
later_rows nets at fanins l ls o = record { cubes = o.cubes.1; reads = λ n h. o.reads n (or_right _ _ h); low = o.low }

rows_match : (nets : List (Option FlatNet)) (at : ℕ → ℕ) (fanins : List ℕ) (ls : List Line) → AreOver nets at fanins ls → some_row_matches (map (row_said nets fanins) ls) (map at fanins) ≡ some_matches at ls
rows_match nets at fanins [] o = refl
rows_match nets at fanins (l ∷ ls) o =
    ap (λ b. b || some_row_matches (map (row_said nets fanins) ls) (map at fanins)) (first_row nets at fanins l ls o) ∙ ap (λ b. matches at l.cube || b) (rows_match nets at fanins ls (later_rows nets at fanins l ls o))

rows_hold : (nets : List (Option FlatNet)) (at : ℕ → ℕ) (fanins : List ℕ) (value : ℕ) (ls : List Line) → AreOver nets at fanins ls → some_row_holds (map (row_said nets fanins) ls) (map at fanins) (value ∷ []) ≡ some_gives at value ls
rows_hold nets at fanins value [] o = refl
rows_hold nets at fanins value (l ∷ ls) o =
    let rest = some_row_holds (map (row_said nets fanins) ls) (map at fanins) (value ∷ []) in
    ap (λ b. (b && (has l.out value && true)) || rest) (first_row nets at fanins l ls o) ∙ (ap (λ b. (matches at l.cube && b) || rest) (and-true (has l.out value)) ∙ ap (λ b. (matches at l.cube && has l.out value) || b) (rows_hold nets at fanins value ls (later_rows nets at fanins l ls o)))

default_says : (values : List ℕ) (value : ℕ) (d : Option ℕ) → default_holds (option_map set_entries d) values (value ∷ []) ≡ default_gives d value
default_says values value None = refl
default_says values value (Some out) = and-true (has out value)

-- the table of a cover allows what the cover allows
pub rows_allow : (nets : List (Option FlatNet)) (at : ℕ → ℕ) (fanins : List ℕ) (value : ℕ) (c : Cover) → AllCubes c.lines → ((n : ℕ) → lines_read c.lines n ≡ true → number_in n fanins ≡ true) → list_all (is_low nets at) fanins ≡ true → table_allows (map (row_said nets fanins) c.lines) (option_map set_entries c.default) (map at fanins) (value ∷ []) ≡ allowed c at value
unfolding table_allows allowed
rows_allow nets at fanins value c cubes reads low =
    let o : AreOver nets at fanins c.lines = record { cubes = cubes; reads = reads; low = low } in
    let given = default_holds (option_map set_entries c.default) (map at fanins) (value ∷ []) in
    ap (λ b. b || (not (some_row_matches (map (row_said nets fanins) c.lines) (map at fanins)) && given)) (rows_hold nets at fanins value c.lines o) ∙ (ap (λ b. some_gives at value c.lines || (not b && given)) (rows_match nets at fanins c.lines o) ∙ ap (λ b. some_gives at value c.lines || (not (some_matches at c.lines) && b)) (default_says (map at fanins) value c.default))
