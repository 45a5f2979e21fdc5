-- The points of which some point is lacking are those of the pairs outside the flexibility.
use Rattle.std.proofs.Common.{◌≡◌, ◌∙◌, ℕ, zero, suc, ◌+◌, ◌-◌, ◌<◌, ◌≤◌, ◌&&◌, ◌||◌, Bool, true, false, not, nat_eq, List, [], ◌∷◌, length, get_or, is_some, refl, sym, ap, subst, ⊎_elim, arith}
use Rattle.std.specs.Prelude.{MatchBool}
use Rattle.std.proofs.lemmas.Bool.{cases_Bool, cases_eq, cases_lt, true≢false, and_parts, or_cases, or_left, or_right, eq-eqb, eqb-true, not-true}
use Rattle.mv_base.specs.declared.number.NetId.{NetId}
use Rattle.mv_diagram.specs.Quantified.{AgreesOutside}
use Rattle.mv_diagram.specs.Sets.{Point, InRange}
use Rattle.mv_factors.specs.Families.{Family, set_at}
use Rattle.mv_flex.specs.Flex.{AgreesBeside, HasReplacement, InFlex, IsWindowOf}
use Rattle.mv_flex.proofs.Going.{allowed_value}
use Rattle.mv_graph.specs.Nets.{has_id, ids_ascend}
use Rattle.mv_graph.proofs.Nets.{above_first, ascend_tail, has_id-at}
use Rattle.mv_net.specs.declared.parts.NetParts.{NetParts}
use Rattle.mv_net.specs.declared.window.Window.{Window}
use Rattle.mv_net.specs.Nets.{slot, table_in, values_in, reads_in}
use Rattle.mv_relation.specs.Relations.{assigned, in_relation}
use Rattle.mv_wide.specs.Families.{AddsLacking, AreRelations, IsInEach, IsInOthers, IsLacking, IsNearEach}
use Rattle.mv_wide.specs.Plans.{AreVarsOf, is_beside, is_hidden}
use Rattle.mv_wide.specs.Outsides.{IsOutside}
use Rattle.mv_wide.specs.Windows.{AreWindowVars, is_inside}
use Rattle.mv_wide.proofs.Counting.{place_in}
use Rattle.mv_wide.proofs.Framing.{has_table, input_inside, inputs_apart, output_table, own_table, read_inside, table_inside}
use Rattle.mv_wide.proofs.Pointing.{allows_at, assigned_range, at_point, at_var, not_among, point, point_behind, point_range}

abbrev pub zero_id : NetId
zero_id = record { 0 = 0 }

-- ---- ascending numbers stand at one place each

ascends : (xs : List NetId) (i j : ℕ) → ids_ascend xs ≡ true → i < j → j < length xs → (get_or xs i zero_id).0 < (get_or xs j zero_id).0
ascends [] i j up low inside = absurd (omega (arith, inside))
ascends (x ∷ xs) i zero up low inside = absurd (omega (arith, low))
ascends (x ∷ xs) zero (suc j) up low inside = above_first x xs (get_or xs j zero_id).0 up (has_id-at xs j zero_id (omega (arith, inside)))
ascends (x ∷ xs) (suc i) (suc j) up low inside = ascends xs i j (ascend_tail x xs up) (omega (arith, low)) (omega (arith, inside))

one_place : (xs : List NetId) (i j : ℕ) → ids_ascend xs ≡ true → i < length xs → j < length xs → (get_or xs i zero_id).0 ≡ (get_or xs j zero_id).0 → i ≡ j
one_place xs i j up low inside same =
    ⊎_elim
    (λ (less : i < j). absurd (omega (arith, same, ascends xs i j up less inside)))
    (λ (more : j ≤ i).
    ⊎_elim (λ (equal : i ≡ j). equal)
    (λ (apart : i ≡ j → ⊥).
    let less : j < i = omega arith in
    absurd (omega (arith, same, ascends xs j i up less low)))
    (cases_eq i j))
    (cases_lt i j)

-- ---- the tests of the plan

hidden_table : (w : Window) (m : ℕ) → is_hidden w m ≡ true → has_id w.tables m ≡ true
hidden_table w m is = (and_parts (has_id w.tables m) (not (has_id w.outputs m)) is).0

and_no : (a b : Bool) → (a ≡ true → b ≡ true → ⊥) → (a && b) ≡ false
and_no true true h = absurd (h refl refl)
and_no true false h = refl
and_no false b h = refl

and_right_no : (a b : Bool) → a ≡ true → (a && b) ≡ false → b ≡ false
and_right_no true b y h = h
and_right_no false b y h = absurd (true≢false (sym y))

not_no : (b : Bool) → not b ≡ false → b ≡ true
not_no true h = refl
not_no false h = sym h

module _ (net : NetParts) (w : Window) (n : ℕ) (window : IsWindowOf net n w) (tabled : is_some (table_in (slot net.nets n)) ≡ true)
    (counts vars : List ℕ) (are : AreWindowVars net.nets w counts vars) (hidden beside : ℕ → Bool)
    (of_hidden : AreVarsOf (is_hidden w) vars hidden) (of_beside : AreVarsOf (is_beside net.nets w n) vars beside) where
  own : has_id w.tables n ≡ true
  own = own_table net w n window tabled

  hidden_inside : (m : ℕ) → is_hidden w m ≡ true → is_inside w m ≡ true
  hidden_inside m is = table_inside net w n window m (hidden_table w m is)

  beside_inside : (m : ℕ) → is_beside net.nets w n m ≡ true → is_inside w m ≡ true
  beside_inside m is = (and_parts (is_inside w m) (not (reads_in net.nets n m || nat_eq n m)) is).0

  -- n and what it reads are kept
  kept_read : (m : ℕ) → (reads_in net.nets n m || nat_eq n m) ≡ true → is_beside net.nets w n m ≡ false
  kept_read m is = and_no (is_inside w m) (not (reads_in net.nets n m || nat_eq n m)) (λ y no. true≢false (sym is ∙ not-true (reads_in net.nets n m || nat_eq n m) no))

  -- inputs and outputs are shown
  input_shown : (m : ℕ) → has_id w.inputs m ≡ true → is_hidden w m ≡ false
  input_shown m input = and_no (has_id w.tables m) (not (has_id w.outputs m)) (λ table no. inputs_apart net w n window m input table)

  output_shown : (m : ℕ) → has_id w.outputs m ≡ true → is_hidden w m ≡ false
  output_shown m output =
      and_no (has_id w.tables m) (not (has_id w.outputs m)) (λ table no. true≢false (sym output ∙ not-true (has_id w.outputs m) no))

  module _ (f g : Family) (place : ℕ) (same : f.contents.counts ≡ counts) (rel : AreRelations net.nets vars w.tables (length w.tables) f 1)
      (inside : place < length w.tables) (here : (get_or w.tables place zero_id).0 ≡ n)
      (none : (p : Point) → set_at f 0 p ≡ false) (adds : AddsLacking f g (length w.tables) (1 + place) hidden beside) where
    there : (p : Point) → InRange counts p → InRange f.contents.counts p
    there p range = subst (λ (cs : List ℕ). InRange cs p) (sym same) range

    back : (p : Point) → InRange f.contents.counts p → InRange counts p
    back p range = subst (λ (cs : List ℕ). InRange cs p) same range

    relation : (k : ℕ) (p : Point) → k < length w.tables → InRange counts p
        → set_at f (1 + k) p ≡ in_relation net.nets vars (get_or w.tables k zero_id).0 p
    relation k p low range = rel.each k zero_id p low (there p range)

    -- a point is in each set where each table agrees
    each_agrees : (q : Point) → InRange counts q → IsInEach f 1 (length w.tables + 1) q → (m : ℕ) → has_id w.tables m ≡ true
        → in_relation net.nets vars m q ≡ true
    each_agrees q range each m listed =
        let k = place_in w.tables m zero_id listed in
        subst (λ x. in_relation net.nets vars x q ≡ true) k.2
        (sym (relation k.0 q k.1 range) ∙ each.each (1 + k.0) (omega arith) (omega (arith, k.1)))

    agrees_each : (q : Point) → InRange counts q → ((m : ℕ) → has_id w.tables m ≡ true → in_relation net.nets vars m q ≡ true)
        → IsInEach f 1 (length w.tables + 1) q
    agrees_each q range agrees = record {
      each = λ k first last.
          let again : 1 + (k - 1) ≡ k = omega (arith, first) in
          let low : k - 1 < length w.tables = omega (arith, first, last) in
          ap (λ j. set_at f j q) (sym again) ∙ relation (k - 1) q low range
          ∙ agrees (get_or w.tables (k - 1) zero_id).0 (has_id-at w.tables (k - 1) zero_id low);
    }

    -- and in all but one where each table but n's does
    others_agree : (q : Point) → InRange counts q → IsInOthers f (length w.tables) (1 + place) q → (m : ℕ) → (m ≡ n → ⊥) → has_id w.tables m ≡ true
        → in_relation net.nets vars m q ≡ true
    others_agree q range others m apart listed =
        let k = place_in w.tables m zero_id listed in
        let other : 1 + k.0 ≡ 1 + place → ⊥ = λ e.
        let e' : k.0 ≡ place = omega (arith, e) in
        apart (sym k.2 ∙ (ap (λ j. (get_or w.tables j zero_id).0) e' ∙ here)) in
        subst (λ x. in_relation net.nets vars x q ≡ true) k.2
        (sym (relation k.0 q k.1 range) ∙ others.each (1 + k.0) (omega arith) (omega (arith, k.1)) other)

    agree_others : (q : Point) → InRange counts q
        → ((m : ℕ) → (m ≡ n → ⊥) → has_id w.tables m ≡ true → in_relation net.nets vars m q ≡ true)
        → IsInOthers f (length w.tables) (1 + place) q
    agree_others q range agree = record {
      each = λ k first last apart.
          let again : 1 + (k - 1) ≡ k = omega (arith, first) in
          let low : k - 1 < length w.tables = omega (arith, first, last) in
          let other : (get_or w.tables (k - 1) zero_id).0 ≡ n → ⊥ = λ e.
          let e' : k - 1 ≡ place = one_place w.tables (k - 1) place window.is.tables.ascending low inside (e ∙ sym here) in
          apart (sym again ∙ ap (λ j. 1 + j) e') in
          ap (λ j. set_at f j q) (sym again) ∙ relation (k - 1) q low range
          ∙ agree (get_or w.tables (k - 1) zero_id).0 other (has_id-at w.tables (k - 1) zero_id low);
    }

    -- ---- what is lacking is outside

    module _ (p : Point) (range : InRange counts p) (l : IsLacking f (length w.tables) (1 + place) hidden beside p)
        (flex : InFlex net.nets w n (assigned vars p) (assigned vars p n)) where
      over : InRange counts l.other
      over = back l.other l.range

      kept : (m : ℕ) → is_inside w m ≡ true → is_beside net.nets w n m ≡ false → assigned vars l.other m ≡ assigned vars p m
      kept m within fails =
          sym (l.agrees.each (get_or vars m 0) (not_among net w n window counts vars are (is_beside net.nets w n) beside of_beside beside_inside m within fails))

      beside_all : AgreesBeside net.nets w n (assigned vars l.other)
      beside_all = record {
        inputs = λ m input. assigned_range net w n window counts vars are l.other over m (input_inside net w n window m input);
        here = assigned_range net w n window counts vars are l.other over n (table_inside net w n window n own);
        tables = others_agree l.other over l.others;
      }

      replaced : HasReplacement net.nets w (assigned vars l.other)
      replaced =
          flex.replaced (assigned vars l.other) beside_all
          (λ m reads. kept m (read_inside net w n window n m own reads) (kept_read m (or_left (reads_in net.nets n m) (nat_eq n m) reads)))
          (kept n (table_inside net w n window n own) (kept_read n (or_right (reads_in net.nets n n) (nat_eq n n) (eq-eqb n n refl))))

      given_low : (m : ℕ) → is_inside w m ≡ true → replaced.given m < values_in (slot net.nets m)
      given_low m within =
          ⊎_elim
          (λ (table : has_id w.tables m ≡ true).
          allowed_value (slot net.nets m) replaced.given (replaced.given m) (has_table net w n window m table) (replaced.agrees.tables m table))
          (λ (input : has_id w.inputs m ≡ true). replaced.agrees.inputs m input)
          (or_cases (has_id w.tables m) (has_id w.inputs m) within)

      abbrev z : Point
      z = point net w n window counts vars are replaced.given l.other

      shown_same : (m : ℕ) → is_inside w m ≡ true → is_hidden w m ≡ false → replaced.given m ≡ assigned vars l.other m
      shown_same m within shown =
          ⊎_elim
          (λ (table : has_id w.tables m ≡ true).
          replaced.outputs m (not_no (has_id w.outputs m) (and_right_no (has_id w.tables m) (not (has_id w.outputs m)) table shown)))
          (λ (input : has_id w.inputs m ≡ true). replaced.inputs m input)
          (or_cases (has_id w.tables m) (has_id w.inputs m) within)

      z_agrees : AgreesOutside hidden l.other z
      z_agrees = record {
        each = λ v no.
            ⊎_elim
            (λ (low : v < length counts).
            let m = are.all v low in
            let shown : is_hidden w m.net ≡ false =
            ⊎_elim
            (λ (yes : is_hidden w m.net ≡ true). absurd (true≢false (sym (of_hidden.all m.net yes) ∙ (ap hidden m.is ∙ no))))
            (λ (n : is_hidden w m.net ≡ false). n) (cases_Bool (is_hidden w m.net)) in
            ap l.other (sym m.is) ∙ sym (shown_same m.net m.passes shown)
            ∙ sym (at_var net w n window counts vars are replaced.given l.other m.net v m.passes m.is))
            (λ (high : length counts ≤ v). sym (point_behind net w n window counts vars are replaced.given l.other v high))
            (cases_lt v (length counts));
      }

      lacking_out : ⊥
      lacking_out =
          let z_range = point_range net w n window counts vars are replaced.given l.other given_low in
          l.none (record {
            other = z;
            range = there z z_range;
            agrees = z_agrees;
            each = agrees_each z z_range (λ m listed.
                allows_at net w n window counts vars are replaced.given l.other m listed ∙ replaced.agrees.tables m listed);
          })

    -- ---- what isn't, isn't

    module _ (p : Point) (range : InRange counts p) (out : set_at g 0 p ≡ false) (x : ℕ → ℕ) (agrees : AgreesBeside net.nets w n x)
        (fanins : (m : ℕ) → reads_in net.nets n m ≡ true → x m ≡ assigned vars p m) (value : x n ≡ assigned vars p n) where
      x_low : (m : ℕ) → is_inside w m ≡ true → x m < values_in (slot net.nets m)
      x_low m within =
          ⊎_elim
          (λ (table : has_id w.tables m ≡ true).
          ⊎_elim (λ (e : m ≡ n). subst (λ k. x k < values_in (slot net.nets k)) (sym e) agrees.here)
          (λ (apart : m ≡ n → ⊥).
          allowed_value (slot net.nets m) x (x m) (has_table net w n window m table) (agrees.tables m apart table))
          (cases_eq m n))
          (λ (input : has_id w.inputs m ≡ true). agrees.inputs m input)
          (or_cases (has_id w.tables m) (has_id w.inputs m) within)

      abbrev q : Point
      q = point net w n window counts vars are x p

      q_range : InRange counts q
      q_range = point_range net w n window counts vars are x p x_low

      x_kept : (m : ℕ) → is_inside w m ≡ true → is_beside net.nets w n m ≡ false → x m ≡ assigned vars p m
      x_kept m within fails =
          let read = not_no (reads_in net.nets n m || nat_eq n m)
          (and_right_no (is_inside w m) (not (reads_in net.nets n m || nat_eq n m)) within fails) in
          ⊎_elim (λ (reads : reads_in net.nets n m ≡ true). fanins m reads)
          (λ (e : nat_eq n m ≡ true). subst (λ k. x k ≡ assigned vars p k) (eqb-true n m e) value)
          (or_cases (reads_in net.nets n m) (nat_eq n m) read)

      q_agrees : AgreesOutside beside p q
      q_agrees = record {
        each = λ v no.
            ⊎_elim
            (λ (low : v < length counts).
            let m = are.all v low in
            let shown : is_beside net.nets w n m.net ≡ false =
            ⊎_elim
            (λ (yes : is_beside net.nets w n m.net ≡ true). absurd (true≢false (sym (of_beside.all m.net yes) ∙ (ap beside m.is ∙ no))))
            (λ (n' : is_beside net.nets w n m.net ≡ false). n') (cases_Bool (is_beside net.nets w n m.net)) in
            ap p (sym m.is) ∙ sym (x_kept m.net m.passes shown) ∙ sym (at_var net w n window counts vars are x p m.net v m.passes m.is))
            (λ (high : length counts ≤ v). sym (point_behind net w n window counts vars are x p v high))
            (cases_lt v (length counts));
      }

      from_near : IsNearEach f (length w.tables + 1) hidden q → HasReplacement net.nets w x
      from_near near =
          let near_range = back near.other near.range in
          let shown : (m : ℕ) → is_inside w m ≡ true → is_hidden w m ≡ false → assigned vars near.other m ≡ x m = λ m within fails.
          sym (near.agrees.each (get_or vars m 0) (not_among net w n window counts vars are (is_hidden w) hidden of_hidden hidden_inside m within fails))
          ∙ at_point net w n window counts vars are x p m within in
          record {
            given = assigned vars near.other;
            agrees = record {
              inputs = λ m input. assigned_range net w n window counts vars are near.other near_range m (input_inside net w n window m input);
              tables = each_agrees near.other near_range near.each;
            };
            inputs = λ m input. shown m (input_inside net w n window m input) (input_shown m input);
            outputs = λ m output. shown m (table_inside net w n window m (output_table net w n window m output)) (output_shown m output);
          }

      has_replacement : HasReplacement net.nets w x
      has_replacement =
          ⊎_elim (λ (yes : set_at g 0 p ≡ true). absurd (true≢false (sym yes ∙ out)))
          (λ (near : IsNearEach f (length w.tables + 1) hidden q). from_near near)
          (adds.all p q (there p range) (there q q_range) q_agrees
          (agree_others q q_range (λ m apart listed. allows_at net w n window counts vars are x p m listed ∙ agrees.tables m apart listed)))

    in_flex : (p : Point) → InRange counts p → set_at g 0 p ≡ false → InFlex net.nets w n (assigned vars p) (assigned vars p n)
    in_flex p range out = record {
      pair = record {
        point = record { fanins = λ m reads. assigned_range net w n window counts vars are p range m (read_inside net w n window n m own reads) };
        value = assigned_range net w n window counts vars are p range n (table_inside net w n window n own);
      };
      replaced = λ x agrees fanins value. has_replacement p range out x agrees fanins value;
    }

    pub outside : IsOutside net.nets w n counts vars (λ p. set_at g 0 p)
    outside = record {
      each = λ p range.
          ⊎_elim
          (λ (yes : set_at g 0 p ≡ true).
          subst (λ b. MatchBool b (InFlex net.nets w n (assigned vars p) (assigned vars p n) → ⊥) (InFlex net.nets w n (assigned vars p) (assigned vars p n)))
          (sym yes)
          (⊎_elim (λ (old : set_at f 0 p ≡ true). absurd (true≢false (sym old ∙ none p)))
          (λ (l : IsLacking f (length w.tables) (1 + place) hidden beside p). lacking_out p range l)
          (adds.only p (there p range) yes)))
          (λ (no : set_at g 0 p ≡ false).
          subst (λ b. MatchBool b (InFlex net.nets w n (assigned vars p) (assigned vars p n) → ⊥) (InFlex net.nets w n (assigned vars p) (assigned vars p n)))
          (sym no) (in_flex p range no))
          (cases_Bool (set_at g 0 p));
    }
