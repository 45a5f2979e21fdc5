-- Rows of cubes: their bytes, and what a row says of its inputs and its output.
use Rattle.std.proofs.Common.{◌≡◌, ◌∙◌, ℕ, ◌<◌, ◌≤◌, zero, suc, Bool, true, false, ◌&&◌, ◌||◌, ◌==◌, List, [], ◌∷◌, ◌⊎◌, inl, inr, ⊎_elim, map, refl, sym, ap, subst, arith}
use Rattle.std.specs.Prelude.{nat_eq, nat_lt, if◌then◌else◌}
use Rattle.std.specs.List.{list_all, list_any}
use Rattle.std.proofs.lemmas.Bool.{cond_both, cases_Bool, and_parts, or_cases, or_left, or_right, eqb-true, eq-eqb, ne_eqb, cond-true, cond-false, ltb-true, lt-ltb, le-ltb, false_from_ne_true}
use Rattle.mv_base.specs.Set.{has, one, full, empty}
use Rattle.mv_base.proofs.Sets.{has-empty, has-one, has-full, same_set}
use Rattle.mv_cover.specs.Literal.{Lit}
use Rattle.mv_cover.specs.Cubes.{holds, matches, nets_ascend}
use Rattle.mv_cover.specs.Covers.{cube_reads}
use Rattle.mv_cover.specs.Lines.{IsOutput}
use Rattle.mv_cover.proofs.Meeting.{above, above_tail}
use Rattle.mv_cover.proofs.Walking.{nets_ascend-tail}
use Rattle.mv_design.specs.declared.table.Entry.TheVariants.{Set}
use Rattle.mv_design.specs.declared.table.Row.{Row}
use Rattle.mv_design.specs.Tables.{row_matches}
use Rattle.mv_blif_line.specs.Rows.{is_plane_byte, plane_of, output_of, value_of as said_value}
use Rattle.mv_blif_line.specs.Tables.{byte_set, row_of}
use Rattle.mv_blif_back.specs.Rows.{is_low}
use Rattle.mv_blif_text.specs.BlifText.{set_digit, plane_byte, row_words, value_of, digit_of}

-- ---- bytes

pub plane-byte : (cube : List Lit) (m : ℕ) → is_plane_byte (plane_byte cube m) ≡ true
plane-byte [] m = refl
plane-byte (l ∷ ls) m =
    let P : ℕ → Type 0 = λ b. is_plane_byte b ≡ true in
    cond_both (nat_eq l.net.0 m) (set_digit l.set) (plane_byte ls m) P
    (λ y. cond_both (l.set == one 0) 48 49 P (λ z. refl) (λ z. refl))
    (λ n. plane-byte ls m)

-- what each of the three bytes passes, a byte of a plane passes
pub plane-pass : (q : ℕ → Bool) → q 48 ≡ true → q 49 ≡ true → q 45 ≡ true → (b : ℕ) → is_plane_byte b ≡ true → q b ≡ true
plane-pass q nought first dash b h =
    ⊎_elim
    (λ (digit : ((b == 48) || (b == 49)) ≡ true).
    ⊎_elim
    (λ (y : (b == 48) ≡ true). ap q (eqb-true b 48 y) ∙ nought)
    (λ (y : (b == 49) ≡ true). ap q (eqb-true b 49 y) ∙ first)
    (or_cases (b == 48) (b == 49) digit))
    (λ (y : (b == 45) ≡ true). ap q (eqb-true b 45 y) ∙ dash)
    (or_cases ((b == 48) || (b == 49)) (b == 45) h)

-- ---- sets of one of two values

-- some, but not all of two values at most
pub one_of_two : (values set : ℕ) → values ≤ 2 → IsOutput values set → (set ≡ full values → ⊥) → (set ≡ one 0) ⊎ (set ≡ one 1)
one_of_two values set few is some =
    ⊎_elim
    (λ (y : has set 0 ≡ true).
    ⊎_elim
    (λ (z : has set 1 ≡ true). absurd (some (same_set set (full values) (all y z))))
    (λ (z : has set 1 ≡ false). inl (same_set set (one 0) (zero_alone y z)))
    (cases_Bool (has set 1)))
    (λ (y : has set 0 ≡ false).
    ⊎_elim
    (λ (z : has set 1 ≡ true). inr (same_set set (one 1) (one_alone y z)))
    (λ (z : has set 1 ≡ false). absurd (is.some (same_set set empty (none y z))))
    (cases_Bool (has set 1)))
    (cases_Bool (has set 0))
  where
    past : (v : ℕ) → has set (suc (suc v)) ≡ false
    past v =
        false_from_ne_true _
        (λ y. let low : suc (suc v) < values = ltb-true _ _ (sym (has-full values (suc (suc v))) ∙ is.within (suc (suc v)) y) in absurd (omega (arith, low, few)))

    within : (v : ℕ) → has set v ≡ true → v < values
    within v y = ltb-true _ _ (sym (has-full values v) ∙ is.within v y)

    all : has set 0 ≡ true → has set 1 ≡ true → (v : ℕ) → has set v ≡ has (full values) v
    all y z zero = y ∙ sym (has-full values 0 ∙ lt-ltb 0 values (within 0 y))
    all y z (suc zero) = z ∙ sym (has-full values 1 ∙ lt-ltb 1 values (within 1 z))
    all y z (suc (suc v)) = past v ∙ sym (has-full values (suc (suc v)) ∙ le-ltb (suc (suc v)) values (omega (arith, few)))

    zero_alone : has set 0 ≡ true → has set 1 ≡ false → (v : ℕ) → has set v ≡ has (one 0) v
    zero_alone y z zero = y ∙ sym (has-one 0 0)
    zero_alone y z (suc zero) = z ∙ sym (has-one 0 1)
    zero_alone y z (suc (suc v)) = past v ∙ sym (has-one 0 (suc (suc v)) ∙ ne_eqb _ 0 (λ e. omega (arith, e)))

    one_alone : has set 0 ≡ false → has set 1 ≡ true → (v : ℕ) → has set v ≡ has (one 1) v
    one_alone y z zero = y ∙ sym (has-one 1 0)
    one_alone y z (suc zero) = z ∙ sym (has-one 1 1)
    one_alone y z (suc (suc v)) = past v ∙ sym (has-one 1 (suc (suc v)) ∙ ne_eqb _ 1 (λ e. omega (arith, e)))

    none : has set 0 ≡ false → has set 1 ≡ false → (v : ℕ) → has set v ≡ has empty v
    none y z zero = y ∙ sym (has-empty 0)
    none y z (suc zero) = z ∙ sym (has-empty 1)
    none y z (suc (suc v)) = past v ∙ sym (has-empty (suc (suc v)))

-- the digit of such a set says it
pub digit-set : (set : ℕ) → (set ≡ one 0) ⊎ (set ≡ one 1) → byte_set (set_digit set) ≡ set
unfolding one full
digit-set set two =
    ⊎_elim
    (λ (z : set ≡ one 0). subst (λ s. byte_set (set_digit s) ≡ s) (sym z) refl)
    (λ (o : set ≡ one 1). subst (λ s. byte_set (set_digit s) ≡ s) (sym o) refl)
    two

-- ---- rows

-- the set that a row of the cube says of a net
abbrev pub plane_set : List Lit → ℕ → ℕ
plane_set cube m = byte_set (plane_byte cube m)

fused : (f g : ℕ → ℕ) (ms : List ℕ) → map f (map g ms) ≡ map (λ m. f (g m)) ms
fused f g [] = refl
fused f g (m ∷ ms) = ap (λ ns. f (g m) ∷ ns) (fused f g ms)

-- the row that its words say
abbrev pub row_said : List ℕ → Bool → List Lit → Row
row_said fanins b cube = record { ins = map (plane_set cube) fanins; outs = Set (one (value_of b)) ∷ [] }

pub digit-value : (b : Bool) → said_value (digit_of b ∷ []) ≡ value_of b
digit-value true = refl
digit-value false = refl

pub row-said : (fanins : List ℕ) (b : Bool) (cube : List Lit) → row_of (row_words fanins (digit_of b) cube) ≡ row_said fanins b cube
row-said [] b cube = ap (λ v. record { ins = []; outs = Set (one v) ∷ [] }) (digit-value b)
row-said (m ∷ ms) b cube =
    ap (λ v. record { ins = map byte_set (map (plane_byte cube) (m ∷ ms)); outs = Set (one v) ∷ [] }) (digit-value b)
    ∙ ap (λ sets. record { ins = sets; outs = Set (one (value_of b)) ∷ [] }) (fused byte_set (plane_byte cube) (m ∷ ms))

pub output-said : (fanins : List ℕ) (digit : ℕ) (cube : List Lit) → output_of (row_words fanins digit cube) ≡ digit ∷ []
output-said [] digit cube = refl
output-said (m ∷ ms) digit cube = refl

pub plane-said : (fanins : List ℕ) (digit : ℕ) (cube : List Lit) → plane_of (row_words fanins digit cube) ≡ map (plane_byte cube) fanins
plane-said [] digit cube = refl
plane-said (m ∷ ms) digit cube = refl

-- ---- when a row matches

abbrev pub stands : ℕ → List ℕ → Bool
stands k ms = list_any (nat_eq k) ms

columns : (sets values : ℕ → ℕ) (ms : List ℕ) → row_matches (map sets ms) (map values ms) ≡ list_all (λ m. has (sets m) (values m)) ms
columns sets values [] = refl
columns sets values (m ∷ ms) = ap (λ b. has (sets m) (values m) && b) (columns sets values ms)

-- a test that is changed at one of these: it is one more condition, where it held there
put_true : (k : ℕ) (x : Bool) (q : ℕ → Bool) (ms : List ℕ) → x ≡ true → q k ≡ true → list_all (λ m. if nat_eq k m then x else q m) ms ≡ list_all q ms
put_true k x q [] y h = refl
put_true k x q (m ∷ ms) y h =
    let here : (if nat_eq k m then x else q m) ≡ q m = cond_both (nat_eq k m) x (q m) (λ b. b ≡ q m) (λ e. y ∙ sym (ap q (sym (eqb-true k m e)) ∙ h)) (λ n. refl) in
    ap (λ b. b && list_all (λ n. if nat_eq k n then x else q n) ms) here ∙ ap (λ b. q m && b) (put_true k x q ms y h)

put_false : (k : ℕ) (x : Bool) (q : ℕ → Bool) (ms : List ℕ) → x ≡ false → stands k ms ≡ true → list_all (λ m. if nat_eq k m then x else q m) ms ≡ false
put_false k x q [] n s = cc
put_false k x q (m ∷ ms) n s =
    let rest = list_all (λ i. if nat_eq k i then x else q i) ms in
    ⊎_elim
    (λ (e : nat_eq k m ≡ true). ap (λ b. b && rest) (cond-true (nat_eq k m) x (q m) e ∙ n))
    (λ (later : stands k ms ≡ true). ap (λ b. (if nat_eq k m then x else q m) && b) (put_false k x q ms n later) ∙ no (if nat_eq k m then x else q m))
    (or_cases (nat_eq k m) (stands k ms) s)
  where
    no : (b : Bool) → (b && false) ≡ false
    no true = refl
    no false = refl

put_test : (k : ℕ) (x : Bool) (q : ℕ → Bool) (ms : List ℕ) → q k ≡ true → stands k ms ≡ true → list_all (λ m. if nat_eq k m then x else q m) ms ≡ (x && list_all q ms)
put_test k x q ms h s =
    ⊎_elim
    (λ (y : x ≡ true). put_true k x q ms y h ∙ ap (λ b. b && list_all q ms) (sym y))
    (λ (n : x ≡ false). put_false k x q ms n s ∙ ap (λ b. b && list_all q ms) (sym n))
    (cases_Bool x)

-- a literal's set is one of two, as such a row writes it
abbrev pub AreDigits : List Lit → Type 0
AreDigits [] = Unit {0}
AreDigits (l ∷ ls) = (byte_set (set_digit l.set) ≡ l.set) × AreDigits ls

low_at : (at : ℕ → ℕ) (k : ℕ) (ms : List ℕ) → stands k ms ≡ true → list_all (is_low at) ms ≡ true → is_low at k ≡ true
low_at at k [] s low = cc
low_at at k (m ∷ ms) s low =
    let p = and_parts (is_low at m) (list_all (is_low at) ms) low in
    ⊎_elim (λ (e : nat_eq k m ≡ true). ap (is_low at) (eqb-true k m e) ∙ p.0) (λ (later : stands k ms ≡ true). low_at at k ms later p.1) (or_cases (nat_eq k m) (stands k ms) s)

-- where a cube has no literal on a net, its rows say both values of it
unread_plane : (k : ℕ) (ls : List Lit) → above k ls ≡ true → plane_byte ls k ≡ 45
unfolding above
unread_plane k [] a = refl
unread_plane k (l ∷ ls) a =
    let p = and_parts (nat_lt k l.net.0) (list_all (λ (o : Lit). nat_lt k o.net.0) ls) a in
    let high : k < l.net.0 = ltb-true k l.net.0 p.0 in
    cond-false (nat_eq l.net.0 k) _ _ (ne_eqb l.net.0 k (λ e. omega (arith, e, high))) ∙ unread_plane k ls p.1

two_has : (v : ℕ) → has (byte_set 45) v ≡ nat_lt v 2
two_has v = has-full 2 v

same_tests : (p q : ℕ → Bool) (ms : List ℕ) → ((m : ℕ) → p m ≡ q m) → list_all p ms ≡ list_all q ms
same_tests p q [] same = refl
same_tests p q (m ∷ ms) same = ap (λ b. b && list_all p ms) (same m) ∙ ap (λ b. q m && b) (same_tests p q ms same)

plane_holds : (at : ℕ → ℕ) (fanins : List ℕ) (cube : List Lit) → nets_ascend cube ≡ true → AreDigits cube → ((n : ℕ) → cube_reads cube n ≡ true → stands n fanins ≡ true) → list_all (is_low at) fanins ≡ true
    → list_all (λ m. has (plane_set cube m) (at m)) fanins ≡ matches at cube
plane_holds at fanins [] up digits sub low = same_tests _ (is_low at) fanins (λ m. two_has (at m)) ∙ low
plane_holds at fanins (l ∷ ls) up digits sub low =
    let k = l.net.0 in
    let q : ℕ → Bool = λ m. has (plane_set ls m) (at m) in
    let s : stands k fanins ≡ true = sub k (or_left _ _ (eq-eqb k k refl)) in
    let free : q k ≡ true = ap (λ b. has (byte_set b) (at k)) (unread_plane k ls (above_tail k l ls up (omega arith))) ∙ (two_has (at k) ∙ low_at at k fanins s low) in
    let each : (m : ℕ) → has (plane_set (l ∷ ls) m) (at m) ≡ (if nat_eq k m then holds at l else q m)
    = λ m. ⊎_elim
    (λ (e : nat_eq k m ≡ true).
    ap (λ b. has (byte_set b) (at m)) (cond-true (nat_eq k m) (set_digit l.set) (plane_byte ls m) e)
    ∙ (ap (λ set. has set (at m)) digits.0
    ∙ (ap (λ n. has l.set (at n)) (sym (eqb-true k m e)) ∙ sym (cond-true (nat_eq k m) (holds at l) (q m) e))))
    (λ (n : nat_eq k m ≡ false).
    ap (λ b. has (byte_set b) (at m)) (cond-false (nat_eq k m) (set_digit l.set) (plane_byte ls m) n) ∙ sym (cond-false (nat_eq k m) (holds at l) (q m) n))
    (cases_Bool (nat_eq k m)) in
    same_tests _ _ fanins each
    ∙ (put_test k (holds at l) q fanins free s
    ∙ ap (λ b. holds at l && b) (plane_holds at fanins ls (nets_ascend-tail l ls up) digits.1 (λ n h. sub n (or_right _ _ h)) low))

-- a row matches where its cube does
pub row-matches : (at : ℕ → ℕ) (fanins : List ℕ) (cube : List Lit) → nets_ascend cube ≡ true → AreDigits cube → ((n : ℕ) → cube_reads cube n ≡ true → stands n fanins ≡ true) → list_all (is_low at) fanins ≡ true
    → row_matches (map (plane_set cube) fanins) (map at fanins) ≡ matches at cube
row-matches at fanins cube up digits sub low = columns (plane_set cube) at fanins ∙ plane_holds at fanins cube up digits sub low
