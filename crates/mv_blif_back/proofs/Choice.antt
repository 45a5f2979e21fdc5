-- The rows of a cover's choice, with the default that they have, allow what the choice allows.
use Rattle.std.proofs.Common.{◌≡◌, ◌∙◌, ℕ, zero, suc, ◌+◌, ◌-◌, ◌<◌, ◌≤◌, Bool, true, false, not, ◌&&◌, ◌||◌, List, [], ◌∷◌, length, map, Option, Some, ⊎_elim, refl, sym, ap, subst, arith}
use Rattle.std.specs.Prelude.{nat_eq, filter}
use Rattle.std.specs.List.{list_all, list_any, range_with_len}
use Rattle.std.proofs.lemmas.Bool.{cond_both, cases_Bool, cases_eq, cond-true, cond-false, or_cases, or_parts, or_left, or_right, eq-eqb, eqb-true, false≢true}
use Rattle.mv_base.specs.Set.{has, one}
use Rattle.mv_cover.specs.Literal.{Lit}
use Rattle.mv_cover.specs.declared.line.Line.{Line}
use Rattle.mv_cover.specs.declared.cover.Cover.{Cover}
use Rattle.mv_cover.specs.Cubes.{matches, nets_ascend}
use Rattle.mv_cover.specs.Covers.{some_matches, some_gives, default_gives, allowed, cube_reads, lines_read, cover_reads}
use Rattle.mv_design.specs.declared.table.Row.{Row}
use Rattle.mv_design.specs.Tables.{row_matches, entries_hold, some_row_matches, some_row_holds, table_allows}
use Rattle.mv_net.specs.declared.parts.FlatNet.{FlatNet}
use Rattle.mv_net.specs.declared.parts.NetParts.{NetParts}
use Rattle.mv_net.specs.Nets.{slot, values_in}
use Rattle.mv_net.specs.Formed.{AllLiterals, AllLines, AllCubes, WellFormed}
use Rattle.mv_net.proofs.Known.{lines_readable, readable_below}
use Rattle.mv_text.specs.Text.{fanins_of}
use Rattle.mv_chosen.specs.Binary.{lacks_one, gives_one, lines_for, binary_choice}
use Rattle.mv_blif_line.specs.Rows.{value_of as said_value}
use Rattle.mv_blif_line.specs.Tables.{row_of}
use Rattle.mv_blif_text.specs.BlifText.{row_words, value_of, digit_of, rows_words, zeros_words, choice_words}
use Rattle.mv_blif_back.specs.Rows.{default_of, one_entry, rows_say, is_low}
use Rattle.mv_blif_back.proofs.Planes.{stands, AreDigits, row-said, row-matches, output-said, digit-value, one_of_two, digit-set}

-- ---- the default of rows

-- the row of a line, and those of lines
abbrev pub made : List ℕ → Bool → Line → List (List ℕ)
made fanins b l = row_words fanins (digit_of b) l.cube

default_first : (fanins : List ℕ) (b : Bool) (l : Line) (ls : List Line) → default_of (map (made fanins b) (l ∷ ls)) ≡ 1 - value_of b
default_first fanins b l ls = ap (λ w. 1 - said_value w) (output-said fanins (digit_of b) l.cube) ∙ ap (λ v. 1 - v) (digit-value b)

default_ones : (fanins : List ℕ) (ls : List Line) → default_of (map (made fanins true) ls) ≡ 0
default_ones fanins [] = refl
default_ones fanins (l ∷ ls) = default_first fanins true l ls

-- ---- lines that give one value

abbrev AllGive : ℕ → List Line → Type 0
AllGive u [] = Unit {0}
AllGive u (l ∷ ls) = (l.out ≡ one u) × AllGive u ls

picked_give : (test : Line → Bool) (u : ℕ) (ls : List Line) → AllGive u (lines_for test u ls)
picked_give test u [] = tt
picked_give test u (l ∷ ls) =
    cond_both (test l) (record { cube = l.cube; out = one u } ∷ lines_for test u ls) (lines_for test u ls) (AllGive u) (λ y. (refl, picked_give test u ls)) (λ n. picked_give test u ls)

one_test : (m s h : Bool) → ((m && h) || (s && h)) ≡ ((m || s) && h)
one_test true true true = refl
one_test true true false = refl
one_test true false true = refl
one_test true false false = refl
one_test false s h = refl

some_give : (at : ℕ → ℕ) (u v : ℕ) (ls : List Line) → AllGive u ls → some_gives at v ls ≡ (some_matches at ls && has (one u) v)
some_give at u v [] give = refl
some_give at u v (l ∷ ls) give =
    ap (λ out. (matches at l.cube && has out v) || some_gives at v ls) give.0
    ∙ (ap (λ b. (matches at l.cube && has (one u) v) || b) (some_give at u v ls give.1) ∙ one_test (matches at l.cube) (some_matches at ls) (has (one u) v))

-- ---- lines whose cubes can be written over fanins

pub record IsFit (fanins : List ℕ) (l : Line) : Type 0 where
  pub up : nets_ascend l.cube ≡ true
  pub digits : AreDigits l.cube
  pub reads : (n : ℕ) → cube_reads l.cube n ≡ true → stands n fanins ≡ true

abbrev pub AreFit : List ℕ → List Line → Type 0
AreFit fanins [] = Unit {0}
AreFit fanins (l ∷ ls) = IsFit fanins l × AreFit fanins ls

picked_fit : (fanins : List ℕ) (test : Line → Bool) (u : ℕ) (ls : List Line) → AreFit fanins ls → AreFit fanins (lines_for test u ls)
picked_fit fanins test u [] fit = tt
picked_fit fanins test u (l ∷ ls) fit =
    let rest = picked_fit fanins test u ls fit.1 in
    cond_both (test l) (record { cube = l.cube; out = one u } ∷ lines_for test u ls) (lines_for test u ls) (AreFit fanins)
    (λ y. (record { up = fit.0.up; digits = fit.0.digits; reads = fit.0.reads }, rest)) (λ n. rest)

module _ (at : ℕ → ℕ) (fanins : List ℕ) (low : list_all (is_low at) fanins ≡ true) where
  row_is : (b : Bool) (l : Line) → IsFit fanins l → row_matches (row_of (made fanins b l)).ins (map at fanins) ≡ matches at l.cube
  row_is b l fit = ap (λ (r : Row). row_matches r.ins (map at fanins)) (row-said fanins b l.cube) ∙ row-matches at fanins l.cube fit.up fit.digits fit.reads low

  rows_match : (b : Bool) (ls : List Line) → AreFit fanins ls → some_row_matches (map row_of (map (made fanins b) ls)) (map at fanins) ≡ some_matches at ls
  rows_match b [] fit = refl
  rows_match b (l ∷ ls) fit =
      ap (λ m. m || some_row_matches (map row_of (map (made fanins b) ls)) (map at fanins)) (row_is b l fit.0) ∙ ap (λ m. matches at l.cube || m) (rows_match b ls fit.1)

  -- the output of a row
  output_is : (b : Bool) (v : ℕ) (l : Line) → entries_hold (map at fanins) (row_of (made fanins b l)).outs (v ∷ []) ≡ has (one (value_of b)) v
  output_is b v l = ap (λ (r : Row). entries_hold (map at fanins) r.outs (v ∷ [])) (row-said fanins b l.cube) ∙ same (has (one (value_of b)) v)
    where
      same : (h : Bool) → (h && true) ≡ h
      same true = refl
      same false = refl

  rows_hold : (b : Bool) (v : ℕ) (ls : List Line) → AreFit fanins ls → some_row_holds (map row_of (map (made fanins b) ls)) (map at fanins) (v ∷ []) ≡ (some_matches at ls && has (one (value_of b)) v)
  rows_hold b v [] fit = refl
  rows_hold b v (l ∷ ls) fit =
      let rest = some_row_holds (map row_of (map (made fanins b) ls)) (map at fanins) (v ∷ []) in
      let outs = entries_hold (map at fanins) (row_of (made fanins b l)).outs (v ∷ []) in
      ap (λ m. (m && outs) || rest) (row_is b l fit.0)
      ∙ (ap (λ h. (matches at l.cube && h) || rest) (output_is b v l)
      ∙ (ap (λ s. (matches at l.cube && has (one (value_of b)) v) || s) (rows_hold b v ls fit.1) ∙ one_test (matches at l.cube) (some_matches at ls) (has (one (value_of b)) v)))

  -- rows of lines that give one value, and another value elsewhere
  rows_allow : (b : Bool) (other v : ℕ) (ls : List Line) → AreFit fanins ls → AllGive (value_of b) ls → default_of (map (made fanins b) ls) ≡ other
      → table_allows (map row_of (map (made fanins b) ls)) (Some (one_entry (default_of (map (made fanins b) ls)))) (map at fanins) (v ∷ []) ≡ allowed (record { lines = ls; default = Some (one other) }) at v
  unfolding table_allows allowed
  rows_allow b other v ls fit give default =
      let rows = map row_of (map (made fanins b) ls) in
      ap (λ d. some_row_holds rows (map at fanins) (v ∷ []) || (not (some_row_matches rows (map at fanins)) && (has (one d) v && true))) default
      ∙ (ap (λ h. h || (not (some_row_matches rows (map at fanins)) && (has (one other) v && true))) (rows_hold b v ls fit ∙ sym (some_give at (value_of b) v ls give))
      ∙ (ap (λ m. some_gives at v ls || (not m && (has (one other) v && true))) (rows_match b ls fit) ∙ ap (λ h. some_gives at v ls || (not (some_matches at ls) && h)) (same (has (one other) v))))
    where
      same : (h : Bool) → (h && true) ≡ h
      same true = refl
      same false = refl

  -- ---- the three kinds of rows

  -- what rows of these words and their default allow
  abbrev allowed_by : List (List (List ℕ)) → ℕ → Bool
  allowed_by rows v = rows_say rows (map at fanins) v

  ones_allow : (v : ℕ) (ls : List Line) → AreFit fanins ls → allowed_by (rows_words fanins true ls) v ≡ allowed (record { lines = lines_for gives_one 1 ls; default = Some (one 0) }) at v
  ones_allow v ls fit =
      let ones = lines_for gives_one 1 ls in
      rows_allow true 0 v ones (picked_fit fanins gives_one 1 ls fit) (picked_give gives_one 1 ls) (default_ones fanins ones)

  default_zeros : (ls : List Line) → list_any lacks_one ls ≡ true → default_of (map (made fanins false) (lines_for lacks_one 0 ls)) ≡ 1
  default_zeros [] some = cc
  default_zeros (l ∷ ls) some =
      let P : List Line → Type 0 = λ ks. default_of (map (made fanins false) ks) ≡ 1 in
      cond_both (lacks_one l) (record { cube = l.cube; out = one 0 } ∷ lines_for lacks_one 0 ls) (lines_for lacks_one 0 ls) P
      (λ y. default_first fanins false (record { cube = l.cube; out = one 0 }) (lines_for lacks_one 0 ls))
      (λ n. default_zeros ls (⊎_elim (λ (y : lacks_one l ≡ true). absurd (false≢true (sym n ∙ y))) (λ (later : list_any lacks_one ls ≡ true). later) (or_cases (lacks_one l) (list_any lacks_one ls) some)))

  none_lacks : (ls : List Line) → list_any lacks_one ls ≡ false → lines_for lacks_one 0 ls ≡ []
  none_lacks [] none = refl
  none_lacks (l ∷ ls) none =
      let p = or_parts (lacks_one l) (list_any lacks_one ls) none in
      cond-false (lacks_one l) _ _ p.0 ∙ none_lacks ls p.1

  -- one row for 1 that matches always
  always_one : (v : ℕ) (ls : List Line) → list_any lacks_one ls ≡ false → allowed_by (row_words fanins 49 [] ∷ []) v ≡ allowed (record { lines = lines_for lacks_one 0 ls; default = Some (one 1) }) at v
  unfolding allowed
  always_one v ls none =
      let all : List Line = record { cube = []; out = one 1 } ∷ [] in
      let fit : AreFit fanins all = (record { up = refl; digits = tt; reads = λ n e. cc }, tt) in
      rows_allow true 0 v all fit (refl, tt) (default_ones fanins all)
      ∙ (first (has (one 1) v) (has (one 0) v) ∙ sym (ap (λ ks. some_gives at v ks || (not (some_matches at ks) && has (one 1) v)) (none_lacks ls none)))
    where
      first : (h o : Bool) → ((h || false) || (false && o)) ≡ h
      first true o = refl
      first false o = refl

  zeros_allow : (v : ℕ) (ls : List Line) → AreFit fanins ls → allowed_by (zeros_words fanins ls) v ≡ allowed (record { lines = lines_for lacks_one 0 ls; default = Some (one 1) }) at v
  zeros_allow v ls fit =
      let zeros = lines_for lacks_one 0 ls in
      cond_both (list_any lacks_one ls) (rows_words fanins false ls) (row_words fanins 49 [] ∷ []) (λ rows. allowed_by rows v ≡ allowed (record { lines = zeros; default = Some (one 1) }) at v)
      (λ some. rows_allow false 1 v zeros (picked_fit fanins lacks_one 0 ls fit) (picked_give lacks_one 0 ls) (default_zeros ls some))
      (λ none. always_one v ls none)

  -- the rows of a cover's choice allow what it allows
  pub choice-allows : (v : ℕ) (c : Cover) → AreFit fanins c.lines → rows_say (choice_words fanins c) (map at fanins) v ≡ allowed (binary_choice c) at v
  unfolding binary_choice
  choice-allows v c fit =
      let ones : Cover = record { lines = lines_for gives_one 1 c.lines; default = Some (one 0) } in
      let zeros : Cover = record { lines = lines_for lacks_one 0 c.lines; default = Some (one 1) } in
      let given = default_gives c.default 1 in
      ⊎_elim
      (λ (y : given ≡ true). ap (λ rows. allowed_by rows v) (cond-true given _ _ y) ∙ (zeros_allow v c.lines fit ∙ ap (λ d. allowed d at v) (sym (cond-true given zeros ones y))))
      (λ (n : given ≡ false). ap (λ rows. allowed_by rows v) (cond-false given _ _ n) ∙ (ones_allow v c.lines fit ∙ ap (λ d. allowed d at v) (sym (cond-false given zeros ones n))))
      (cases_Bool given)

-- ---- the lines of a well-formed network can be written

digits_from : (nets : List (Option FlatNet)) (cube : List Lit) → ((n : ℕ) → values_in (slot nets n) ≤ 2) → AllLiterals nets cube → AreDigits cube
digits_from nets [] few all = tt
digits_from nets (l ∷ ls) few all =
    (digit-set l.set (one_of_two (values_in (slot nets l.net.0)) l.set (few l.net.0) all.0.set all.0.not_full), digits_from nets ls few all.1)

lines_fit : (nets : List (Option FlatNet)) (values : ℕ) (fanins : List ℕ) (ls : List Line) → ((n : ℕ) → values_in (slot nets n) ≤ 2) → AllCubes ls → AllLines nets values ls → ((n : ℕ) → lines_read ls n ≡ true → stands n fanins ≡ true) → AreFit fanins ls
lines_fit nets values fanins [] few cubes all reads = tt
lines_fit nets values fanins (l ∷ ls) few cubes all reads = (
  record { up = cubes.0.ascending; digits = digits_from nets l.cube few all.0; reads = λ n h. reads n (or_left _ _ h) },
  lines_fit nets values fanins ls few cubes.1 all.2 (λ n h. reads n (or_right _ _ h)),
)

kept_stands : (k : ℕ) (p : ℕ → Bool) (ms : List ℕ) → stands k ms ≡ true → p k ≡ true → stands k (filter p ms) ≡ true
kept_stands k p [] s h = cc
kept_stands k p (m ∷ ms) s h =
    let P : List ℕ → Type 0 = λ ks. stands k ks ≡ true in
    ⊎_elim
    (λ (e : nat_eq k m ≡ true). subst P (sym (cond-true (p m) (m ∷ filter p ms) (filter p ms) (ap p (sym (eqb-true k m e)) ∙ h))) (or_left (nat_eq k m) _ e))
    (λ (later : stands k ms ≡ true).
    cond_both (p m) (m ∷ filter p ms) (filter p ms) P (λ y. or_right (nat_eq k m) _ (kept_stands k p ms later h)) (λ n. kept_stands k p ms later h))
    (or_cases (nat_eq k m) (stands k ms) s)

range_stands : (k a n : ℕ) → a ≤ k → k < a + n → stands k (range_with_len a n) ≡ true
range_stands k a zero low high = absurd (omega (arith, low, high))
range_stands k a (suc n) low high =
    ⊎_elim
    (λ (e : k ≡ a). or_left (nat_eq k a) _ (eq-eqb k a e))
    (λ (ne : k ≡ a → ⊥). or_right (nat_eq k a) _ (range_stands k (a + 1) n (omega (arith, low, ne)) (omega (arith, high))))
    (cases_eq k a)

pub cover-fits : (net : NetParts) (n : ℕ) (f : FlatNet) (c : Cover) → WellFormed net → ((m : ℕ) → values_in (slot net.nets m) ≤ 2) → slot net.nets n ≡ Some f → f.table ≡ Some c
    → AreFit (fanins_of (length net.nets) c) c.lines
cover-fits net n f c formed few held table =
    let is = (formed.nets n f held).cover c table in
    lines_fit net.nets f.values (fanins_of (length net.nets) c) c.lines few is.cubes is.lines
    (λ m h.
    let below = readable_below net.nets m (lines_readable net.nets f.values c.lines m is.lines h) in
    kept_stands m (λ k. cover_reads c k) (range_with_len 0 (length net.nets)) (range_stands m 0 (length net.nets) (omega arith) (omega (arith, below))) h)
