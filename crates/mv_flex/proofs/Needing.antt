-- Where lines have to match: a cover is lawful just where they do.
use Rattle.std.proofs.Common.{◌≡◌, ◌∙◌, ℕ, ◌+◌, ◌<◌, ◌≤◌, Bool, true, false, not, ◌&&◌, ◌||◌, nat_eq, if◌then◌else◌, List, [], ◌∷◌, ◌++◌, get_or, All, Option, Some, refl, sym, ap, subst, ⊎_elim, arith}
use Rattle.std.specs.List.{list_all, list_any}
use Rattle.std.proofs.lemmas.Bool.{cases_Bool, cases_lt, false≢true, or_cases, or_left, or_right, and_parts, and_from, eqb-true, not-true, not_from_false, false_from_ne_true}
use Rattle.std.proofs.Math.Bool.{and-false}
use Rattle.std.proofs.lemmas.List.Elements.{All-contains, All-cons, All-head, All-nil, All-tail}
use Rattle.std.proofs.lemmas.List.Folds.{list_all-append}
use Rattle.mv_base.specs.Set.{has, empty}
use Rattle.mv_base.specs.declared.number.NetId.{NetId}
use Rattle.mv_cover.specs.declared.line.Line.{Line}
use Rattle.mv_cover.specs.declared.cover.Cover.{Cover}
use Rattle.mv_cover.specs.Cubes.{matches}
use Rattle.mv_cover.specs.Covers.{cube_reads, lines_read, cover_reads, default_gives}
use Rattle.mv_cover.proofs.Absorbing.{any_at, find_any}
use Rattle.mv_net.specs.declared.parts.FlatNet.{FlatNet}
use Rattle.mv_net.specs.declared.parts.NetParts.{NetParts}
use Rattle.mv_net.specs.declared.window.Window.{Window}
use Rattle.mv_net.specs.Nets.{slot, table_in, reads_in}
use Rattle.mv_flex.specs.declared.flexibility.Flexibility.{Flexibility}
use Rattle.mv_flex.specs.Spaces.{value_at, digits}
use Rattle.mv_flex.specs.Flex.{IsOverFanins}
use Rattle.mv_flex.specs.Flexibilities.{IsFlex}
use Rattle.mv_flex.specs.Left.{AreLeft, IsLawful, IsLineInside}
use Rattle.mv_flex.specs.Checks.{chooses, default_chooses, CoverOutside, LosesSome}
use Rattle.mv_flex.specs.Places.{space_for, place, needs, ArePlaces, is_matched}
use Rattle.mv_flex.proofs.Allowing.{allowed_by}
use Rattle.mv_flex.proofs.Blocking.{marked_low}
use Rattle.mv_flex.proofs.Checking.{cover_in, cover_out, keeps, keeps_not, line_out, default_from, same_table}
use Rattle.mv_flex.proofs.Leaving.{matching, left_alike}

-- ---- the places

pub places_none : (f : Flexibility) (default : Option ℕ) → ArePlaces f default 0 []
places_none f default = record { each = λ test all j low need. absurd (omega (arith, low)); all = λ test each. refl }

one_there : (test : List ℕ → Bool) (b : Bool) (vs : List ℕ) → list_all test (if b then vs ∷ [] else []) ≡ true → b ≡ true → test vs ≡ true
one_there test true vs all y = (and_parts (test vs) true all).0
one_there test false vs all y = absurd (false≢true y)

one_all : (test : List ℕ → Bool) (b : Bool) (vs : List ℕ) → (b ≡ true → test vs ≡ true) → list_all test (if b then vs ∷ [] else []) ≡ true
one_all test true vs h = and_from (test vs) true (h refl) refl
one_all test false vs h = refl

pub places_more : (f : Flexibility) (default : Option ℕ) (k : ℕ) (places new : List (List ℕ)) → ArePlaces f default k places → new ≡ places ++ (if needs f default k then place f default k ∷ [] else []) → ArePlaces f default (k + 1) new
places_more f default k places new are e = record {
  each = λ test all j low need.
      let both = and_parts (list_all test places) (list_all test (if needs f default k then place f default k ∷ [] else [])) (sym (list_all-append test places (if needs f default k then place f default k ∷ [] else [])) ∙ ap (list_all test) (sym e) ∙ all) in
      ⊎_elim
      (λ (less : j < k). are.each test both.0 j less need)
      (λ (past : k ≤ j).
      let same : j ≡ k = omega (arith, past, low) in
      ap (λ i. test (place f default i)) same ∙ one_there test (needs f default k) (place f default k) both.1 (ap (needs f default) (sym same) ∙ need))
      (cases_lt j k);
  all = λ test each.
      ap (list_all test) e ∙ list_all-append test places (if needs f default k then place f default k ∷ [] else [])
      ∙ and_from (list_all test places) (list_all test (if needs f default k then place f default k ∷ [] else [])) (are.all test (λ j low. each j (omega (arith, low))))
      (one_all test (needs f default k) (place f default k) (each k (omega arith)));
}

-- ---- lawful

-- the assignment of the place with this number, among the pairs or the points
abbrev pub values_by : Flexibility → Bool → ℕ → ℕ → ℕ
values_by f b k = value_at (if b then f.pairs else f.fanins).nets (digits (if b then f.pairs else f.fanins).counts k)

abbrev pub needs_by : Flexibility → Option ℕ → Bool → ℕ → Bool
needs_by f default b k = if b then (get_or f.outside k false && default_gives default (values_by f b k f.net.0)) else chooses f.old (values_by f b k)

-- some line matches at each place at which one has to
abbrev pub IsEnough : Flexibility → Option ℕ → Bool → List Line → Type 0
IsEnough f default b lines =
    (k : ℕ) → k < (if b then f.pairs else f.fanins).size → needs_by f default b k ≡ true → list_any (λ (l : Line). matches (values_by f b k) l.cube) lines ≡ true

-- the line's pairs are in the flexibility, and it reads fanins of n alone
pub record IsFit (nets : List (Option FlatNet)) (w : Window) (n : ℕ) (l : Line) : Type 0 where
  pub inside : IsLineInside nets w n l
  pub over : IsOverFanins nets n (cube_reads l.cube)

read_over : (nets : List (Option FlatNet)) (w : Window) (n : ℕ) (ls : List Line) → All (IsFit nets w n) ls → (m : ℕ) → lines_read ls m ≡ true → reads_in nets n m ≡ true
read_over nets w n [] all m h = absurd (false≢true h)
read_over nets w n (l ∷ ls) all m h =
    ⊎_elim
    (λ (here : cube_reads l.cube m ≡ true). (All-head (IsFit nets w n) l ls all).over.fanins m here)
    (λ (later : lines_read ls m ≡ true). read_over nets w n ls (All-tail (IsFit nets w n) l ls all) m later)
    (or_cases (cube_reads l.cube m) (lines_read ls m) h)

pub all_fit : (nets : List (Option FlatNet)) (w : Window) (n : ℕ) (ls : List Line) → All (IsLineInside nets w n) ls → ((m : ℕ) → lines_read ls m ≡ true → reads_in nets n m ≡ true) → All (IsFit nets w n) ls
all_fit nets w n [] inside over = All-nil (IsFit nets w n)
all_fit nets w n (l ∷ ls) inside over =
    All-cons (IsFit nets w n) l ls
    (record { inside = All-head (IsLineInside nets w n) l ls inside; over = record { fanins = λ m h. over m (or_left (cube_reads l.cube m) (lines_read ls m) h) } })
    (all_fit nets w n ls (All-tail (IsLineInside nets w n) l ls inside) (λ m h. over m (or_right (cube_reads l.cube m) (lines_read ls m) h)))

-- where no line matches, none gives a value
none_gives : (at : ℕ → ℕ) (test : Line → Bool) (ls : List Line) → list_any (λ (l : Line). matches at l.cube) ls ≡ false → list_any (λ (l : Line). matches at l.cube && test l) ls ≡ false
none_gives at test ls none =
    false_from_ne_true (list_any (λ (l : Line). matches at l.cube && test l) ls) (λ some.
    let l = find_any (λ (l : Line). matches at l.cube && test l) ls some in
    false≢true (sym none ∙ any_at (λ (k : Line). matches at k.cube) ls l.x l.there (and_parts (matches at l.x.cube) (test l.x) l.pass).0))

module _ (net : NetParts) (w : Window) (n budget : ℕ) (f : Flexibility) (flex : IsFlex net w n budget f) (default : Option ℕ) (lines : List Line) (fit : All (IsFit net.nets w n) lines) where
  over : IsOverFanins net.nets n (cover_reads (record { lines = lines; default = default }))
  over = record { fanins = read_over net.nets w n lines fit }

  -- a lawful cover has some line that matches where one has to
  pub lawful_enough : (b : Bool) → default_chooses default ≡ b → IsLawful net.nets w n f.old (record { lines = lines; default = default }) → IsEnough f default b lines
  lawful_enough true e lawful k low need =
      ⊎_elim
      (λ (y : list_any (λ (l : Line). matches (values_by f true k) l.cube) lines ≡ true). y)
      (λ (none : list_any (λ (l : Line). matches (values_by f true k) l.cube) lines ≡ false).
      let both = and_parts (get_or f.outside k false) (default_gives default (values_by f true k f.net.0)) need in
      absurd
      (cover_out net w n budget f flex (record { lines = lines; default = default }) over
      (record {
        pair = k;
        outside = both.0;
        allows =
            allowed_by (record { lines = lines; default = default }) (values_by f true k) (values_by f true k f.net.0)
            ∙ or_right (list_any (λ (l : Line). matches (values_by f true k) l.cube && has l.out (values_by f true k f.net.0)) lines)
            (not (list_any (λ (l : Line). matches (values_by f true k) l.cube) lines) && default_gives default (values_by f true k f.net.0))
            (and_from (not (list_any (λ (l : Line). matches (values_by f true k) l.cube) lines)) (default_gives default (values_by f true k f.net.0))
            (not_from_false (list_any (λ (l : Line). matches (values_by f true k) l.cube) lines) none) both.1);
      })
      lawful.inside))
      (cases_Bool (list_any (λ (l : Line). matches (values_by f true k) l.cube) lines))
  lawful_enough false e lawful k low need =
      ⊎_elim
      (λ (y : list_any (λ (l : Line). matches (values_by f false k) l.cube) lines ≡ true). y)
      (λ (none : list_any (λ (l : Line). matches (values_by f false k) l.cube) lines ≡ false).
      let nothing : chooses (record { lines = lines; default = default }) (values_by f false k) ≡ false =
      (λ i. none_gives (values_by f false k) (λ (l : Line). not (nat_eq l.out empty)) lines none i || (not (list_any (λ (l : Line). matches (values_by f false k) l.cube) lines) && e i))
      ∙ and-false (not (list_any (λ (l : Line). matches (values_by f false k) l.cube) lines)) in
      absurd
      (keeps_not net w n budget f flex (record { lines = lines; default = default })
      (record {
        point = k;
        low = low;
        lost =
            and_from (chooses f.old (values_by f false k)) (not (chooses (record { lines = lines; default = default }) (values_by f false k))) need
            (not_from_false (chooses (record { lines = lines; default = default }) (values_by f false k)) nothing);
      })
      lawful.keeps))
      (cases_Bool (list_any (λ (l : Line). matches (values_by f false k) l.cube) lines))

  -- a line that matches chooses
  line_chooses : (at : ℕ → ℕ) → list_any (λ (l : Line). matches at l.cube) lines ≡ true → chooses (record { lines = lines; default = default }) at ≡ true
  line_chooses at some =
      let l = find_any (λ (l : Line). matches at l.cube) lines some in
      let gives : not (nat_eq l.x.out empty) ≡ true =
      not_from_false (nat_eq l.x.out empty)
      (false_from_ne_true (nat_eq l.x.out empty) (λ e. (All-contains (IsFit net.nets w n) lines l.x fit l.there).inside.some (eqb-true l.x.out empty e))) in
      or_left (list_any (λ (k : Line). matches at k.cube && not (nat_eq k.out empty)) lines) (not (list_any (λ (k : Line). matches at k.cube) lines) && default_chooses default)
      (any_at (λ (k : Line). matches at k.cube && not (nat_eq k.out empty)) lines l.x l.there (and_from (matches at l.x.cube) (not (nat_eq l.x.out empty)) l.pass gives))

  -- and where none does, a default that has some value
  default_chosen : (at : ℕ → ℕ) → list_any (λ (l : Line). matches at l.cube) lines ≡ false → default_chooses default ≡ true → chooses (record { lines = lines; default = default }) at ≡ true
  default_chosen at none e =
      or_right (list_any (λ (k : Line). matches at k.cube && not (nat_eq k.out empty)) lines) (not (list_any (λ (k : Line). matches at k.cube) lines) && default_chooses default)
      (and_from (not (list_any (λ (k : Line). matches at k.cube) lines)) (default_chooses default) (not_from_false (list_any (λ (k : Line). matches at k.cube) lines) none) e)

  -- no pair that the default gives is outside, where enough match
  default_inside : (b : Bool) → default_chooses default ≡ b → IsEnough f default b lines → (q : ℕ) → get_or f.outside q false ≡ true → list_any (λ (l : Line). matches (values_by f true q) l.cube) lines ≡ false → default_gives default (values_by f true q f.net.0) ≡ true → ⊥
  default_inside true e enough q marked none gives =
      false≢true
      (sym none
      ∙ enough q (subst (λ k. q < k) flex.long (marked_low f.outside q marked)) (and_from (get_or f.outside q false) (default_gives default (values_by f true q f.net.0)) marked gives))
  default_inside false e enough q marked none gives = false≢true (sym e ∙ default_from default (values_by f true q f.net.0) gives)

  inside_from : (b : Bool) → default_chooses default ≡ b → IsEnough f default b lines → CoverOutside f (record { lines = lines; default = default }) → ⊥
  inside_from b e enough o =
      let at : ℕ → ℕ = values_by f true o.pair in
      let v : ℕ = values_by f true o.pair f.net.0 in
      ⊎_elim
      (λ (line : list_any (λ (l : Line). matches at l.cube && has l.out v) lines ≡ true).
      let l = find_any (λ (l : Line). matches at l.cube && has l.out v) lines line in
      let is = All-contains (IsFit net.nets w n) lines l.x fit l.there in
      line_out net w n budget f flex l.x is.over (record { pair = o.pair; outside = o.outside; allows = l.pass }) is.inside.inside)
      (λ (rest : (not (list_any (λ (l : Line). matches at l.cube) lines) && default_gives default v) ≡ true).
      let both = and_parts (not (list_any (λ (l : Line). matches at l.cube) lines)) (default_gives default v) rest in
      default_inside b e enough o.pair o.outside (not-true (list_any (λ (l : Line). matches at l.cube) lines) both.0) both.1)
      (or_cases (list_any (λ (l : Line). matches at l.cube && has l.out v) lines) (not (list_any (λ (l : Line). matches at l.cube) lines) && default_gives default v)
      (sym (allowed_by (record { lines = lines; default = default }) at v) ∙ o.allows))

  none_chosen : (b : Bool) → default_chooses default ≡ b → IsEnough f default b lines → (k : ℕ) → k < f.fanins.size → list_any (λ (l : Line). matches (values_by f false k) l.cube) lines ≡ false → chooses f.old (values_by f false k) ≡ true → chooses (record { lines = lines; default = default }) (values_by f false k) ≡ true
  none_chosen true e enough k low none old = default_chosen (values_by f false k) none e
  none_chosen false e enough k low none old = absurd (false≢true (sym none ∙ enough k low old))

  -- where the old table chooses, the new one does
  keeps_from : (b : Bool) → default_chooses default ≡ b → IsEnough f default b lines → LosesSome f (record { lines = lines; default = default }) → ⊥
  keeps_from b e enough l =
      let at : ℕ → ℕ = values_by f false l.point in
      let both = and_parts (chooses f.old at) (not (chooses (record { lines = lines; default = default }) at)) l.lost in
      false≢true
      (sym (not-true (chooses (record { lines = lines; default = default }) at) both.1)
      ∙ ⊎_elim
      (λ (some : list_any (λ (k : Line). matches at k.cube) lines ≡ true). line_chooses at some)
      (λ (none : list_any (λ (k : Line). matches at k.cube) lines ≡ false). none_chosen b e enough l.point l.low none both.0)
      (cases_Bool (list_any (λ (k : Line). matches at k.cube) lines)))

  -- a lawful cover is one in which enough match
  pub enough_lawful : (b : Bool) → default_chooses default ≡ b → IsEnough f default b lines → IsLawful net.nets w n f.old (record { lines = lines; default = default })
  enough_lawful b e enough = record {
    inside = cover_in net w n budget f flex (record { lines = lines; default = default }) over (inside_from b e enough);
    keeps = keeps net w n budget f flex (record { lines = lines; default = default }) over (keeps_from b e enough);
  }

-- ---- what is left

-- what is left where enough match is what is left where the rest is lawful
pub lawful_left : (net : NetParts) (w : Window) (n budget : ℕ) (f : Flexibility) → IsFlex net w n budget f → (c : Cover) → IsOverFanins net.nets n (cover_reads c) → All (IsLineInside net.nets w n) c.lines → (nets : List NetId) (places : List (List ℕ)) (left : List Line) → nets ≡ (space_for f c.default).nets → ArePlaces f c.default (space_for f c.default).size places → AreLeft (matching nets places) [] c.lines left → (old : Cover) → table_in (slot net.nets n) ≡ Some old → AreLeft (λ lines. IsLawful net.nets w n old (record { lines = lines; default = c.default })) [] c.lines left
lawful_left net w n budget f flex c over inside nets places left same are a old table =
    subst (λ (o : Cover). AreLeft (λ lines. IsLawful net.nets w n o (record { lines = lines; default = c.default })) [] c.lines left) (same_table f.old old (sym flex.table ∙ table))
    (left_alike (matching nets places) (λ lines. IsLawful net.nets w n f.old (record { lines = lines; default = c.default })) (IsFit net.nets w n) to from [] c.lines left (all_fit net.nets w n c.lines inside over.fanins) a)
  where
    to : (ls : List Line) → All (IsFit net.nets w n) ls → matching nets places ls → IsLawful net.nets w n f.old (record { lines = ls; default = c.default })
    to ls fit enough =
        enough_lawful net w n budget f flex c.default ls fit (default_chooses c.default) refl
        (λ k low need. are.each (is_matched (space_for f c.default).nets ls) (ap (λ ns. list_all (is_matched ns ls) places) (sym same) ∙ enough) k low need)

    from : (ls : List Line) → All (IsFit net.nets w n) ls → IsLawful net.nets w n f.old (record { lines = ls; default = c.default }) → matching nets places ls
    from ls fit lawful =
        ap (λ ns. list_all (is_matched ns ls) places) same
        ∙ are.all (is_matched (space_for f c.default).nets ls) (lawful_enough net w n budget f flex c.default ls fit (default_chooses c.default) refl lawful)
