-- The literals of each value's lines, line by line, and the value that has the most.
use Rattle.std.proofs.Common.{◌≡◌, ◌∙◌, ℕ, ◌+◌, ◌<◌, ◌≤◌, ◌^◌, Bool, true, false, not, Option, Some, None, List, [], ◌∷◌, ◌++◌, length, take, drop, get_or, nat_eq, nat_lt, inl, inr, refl, sym, ap, subst, ⊎_elim, arith}
use Rattle.std.specs.Prelude.{◌↔◌, count_ones, slice_index, slice_set, IsNone}
use Rattle.std.specs.Option.{IsSome}
use Rattle.std.specs.List.{All, filter}
use Rattle.std.specs.Cmp.{unsigned_Decides}
use Rattle.std.proofs.lemmas.Bool.{cases_Bool, cases_eq, cases_lt, eq-eqb, ne_eqb, false≢true, lt-ltb, ltb-true}
use Rattle.std.proofs.lemmas.List.{take_more, get_or-set_same, get_or-set_other, take-append-drop}
use Rattle.std.proofs.lemmas.List.Elements.{All-get_or}
use Rattle.std.proofs.lemmas.List.Elements.{All-rest, filter-append}
use Rattle.std.proofs.Math.ListN.{length-set}
use Rattle.mv_base.specs.declared.number.Value.{Value}
use Rattle.mv_base.specs.Set.{has, empty, one, full}
use Rattle.mv_base.proofs.Sets.{has-empty, has-one, has-full, count-empty, one_from_count}
use Rattle.mv_cover.specs.declared.line.Line.{Line}
use Rattle.mv_cover.specs.Covers.{literal_count}
use Rattle.mv_cover.specs.Lines.{IsOutput}
use Rattle.mv_cover.specs.Plain.{GivesOne}
use Rattle.mv_cover.proofs.Members.{member_of}
use Rattle.mv_default.specs.Taken.{IsCostliest, lines_of_value, literals_of_value}
use Rattle.mv_default.specs.Summing.{AreSums, IsGreatest}
use Rattle.mv_default.proofs.Parted.{literals_both, literals-parted}

-- ---- sets of one value

-- the sets of two values are equal where the values are
pub one-same : (u v : ℕ) → one u ≡ one v → u ≡ v
one-same u v e =
    (unsigned_Decides u v).0 (sym (has-one v u) ∙ (ap (λ s. has s u) (sym e) ∙ (has-one u u ∙ (unsigned_Decides u u).1 refl)))

-- a set of one value has a least one
pub lone_found : (o : Option Value) (s : ℕ) → (IsNone o ↔ (s ≡ empty)) → count_ones s ≡ 1 → IsSome o
lone_found None s none single = let e : 0 ≡ 1 = sym count-empty ∙ (ap count_ones (sym (none.0 refl)) ∙ single) in absurd (omega (arith, e))
lone_found (Some v) s none single = refl

-- ---- one line more

pub more_there : (v : ℕ) (ls : List Line) (l : Line) → l.out ≡ one v → literals_of_value v (ls ++ l ∷ []) ≡ literals_of_value v ls + length l.cube
more_there v ls l is =
    let t = eq-eqb l.out (one v) is in
    let split = filter-append (λ (k : Line). nat_eq k.out (one v)) ls (l ∷ []) in
    let here : literals_of_value v (l ∷ []) ≡ length l.cube = rw t (omega arith) in
    ap literal_count split ∙ (literals_both (lines_of_value v ls) (lines_of_value v (l ∷ [])) ∙ ap (λ n. literals_of_value v ls + n) here)

pub more_elsewhere : (v : ℕ) (ls : List Line) (l : Line) → (l.out ≡ one v → ⊥) → literals_of_value v (ls ++ l ∷ []) ≡ literals_of_value v ls
more_elsewhere v ls l isnt =
    let f = ne_eqb l.out (one v) isnt in
    let split = filter-append (λ (k : Line). nat_eq k.out (one v)) ls (l ∷ []) in
    let here : literals_of_value v (l ∷ []) ≡ 0 = rw f refl in
    let both = literals_both (lines_of_value v ls) (lines_of_value v (l ∷ [])) in
    ap literal_count split ∙ omega (arith, here, both)

-- no line yet
pub sums_none : (values : ℕ) (sums : List ℕ) → length sums ≡ values → ((v : ℕ) → slice_index sums v ≡ 0) → (ls : List Line) → AreSums (take 0 ls) values sums
sums_none values sums long zeros ls = record { long = long; each = λ v low. zeros v }

-- a line more, of the value at the place
pub sums_more : (ls : List Line) (values : ℕ) (sums now : List ℕ) (l : Line) (place size : ℕ) → AreSums ls values sums → l.out ≡ one place → place < values → size ≡ length l.cube
    → now ≡ slice_set sums place (slice_index sums place + size) → AreSums (ls ++ l ∷ []) values now
sums_more ls values sums now l place size are is low sized now_is = record {
  long = ap length now_is ∙ (length-set sums place (slice_index sums place + size) ∙ are.long);
  each = λ v below.
      ⊎_elim
      (λ (e : v ≡ place).
      let there : slice_index now place ≡ slice_index sums place + size =
      ap (λ (s : List ℕ). slice_index s place) now_is ∙ get_or-set_same sums place (slice_index sums place + size) 0 (omega (arith, are.long)) in
      let more = more_there place ls l is in
      let was = are.each place low in
      subst (λ u. slice_index now u ≡ literals_of_value u (ls ++ l ∷ [])) (sym e) (omega (arith, there, more, was, sized)))
      (λ (ne : v ≡ place → ⊥).
      ap (λ (s : List ℕ). slice_index s v) now_is
      ∙ (get_or-set_other sums place v (slice_index sums place + size) 0 ne
      ∙ (are.each v below ∙ sym (more_elsewhere v ls l (λ out. ne (one-same v place (sym out ∙ is)))))))
      (cases_eq v place);
}

-- a value's lines have no more literals than all
pub value_fewer : (v : ℕ) (ls : List Line) → literals_of_value v ls ≤ literal_count ls
value_fewer v ls = let e = literals-parted v ls in omega (arith, e)

-- the first lines have no more literals than all
pub first_fewer : (i : ℕ) (ls : List Line) → literal_count (take i ls) ≤ literal_count ls
first_fewer i ls =
    let both = literals_both (take i ls) (drop i ls) in
    let all = ap literal_count (take-append-drop i ls) in
    omega (arith, both, all)

-- ---- the lines by their places

-- the value of a line is one of the net's
pub value_below : (values out v : ℕ) → IsOutput values out → out ≡ one v → v < values
value_below values out v output is =
    let there : has out v ≡ true = ap (λ s. has s v) is ∙ (has-one v v ∙ (unsigned_Decides v v).1 refl) in
    ltb-true v values (sym (has-full values v) ∙ output.within v there)

module _ (ls : List Line) (values i : ℕ) (sums now : List ℕ) (l : Line) (place size : ℕ) (low : i < length ls) (here : l ≡ get_or ls i l)
    (within : All (λ (l : Line). IsOutput values l.out) ls) (is : l.out ≡ one place) (are : AreSums (take i ls) values sums) where
  line_at : take (i + 1) ls ≡ take i ls ++ l ∷ []
  line_at = take_more ls i l low ∙ ap (λ k. take i ls ++ k ∷ []) (sym here)

  pub place_below : place < values
  place_below =
      value_below values l.out place
      (subst (λ (k : Line). IsOutput values k.out) (sym here) (All-get_or (λ (l : Line). IsOutput values l.out) ls i l low within)) is

  -- the sum so far, and that of the line with it, are no more than all literals
  pub sum_fits : size ≡ length l.cube → slice_index sums place + size ≤ literal_count ls
  sum_fits sized =
      let was = are.each place place_below in
      let more = more_there place (take i ls) l is in
      let fewer = value_fewer place (take i ls ++ l ∷ []) in
      let first = first_fewer (i + 1) ls in
      let at = ap literal_count line_at in
      omega (arith, was, more, fewer, first, at, sized)

  pub sums_next : size ≡ length l.cube → now ≡ slice_set sums place (slice_index sums place + size) → AreSums (take (i + 1) ls) values now
  sums_next sized now_is =
      subst (λ ks. AreSums ks values now) (sym line_at) (sums_more (take i ls) values sums now l place size are is place_below sized now_is)

-- ---- the greatest

-- no line gives a value that the net hasn't
unused : (values u : ℕ) (ls : List Line) → values ≤ u → All (λ (l : Line). IsOutput values l.out) ls → literals_of_value u ls ≡ 0
unused values u [] past within = refl
unused values u (l ∷ ls) past within =
    let f = ne_eqb l.out (one u) (λ e. let low = value_below values l.out u (within 0 l (omega arith)) e in omega (arith, low, past)) in
    rw f (unused values u ls past (All-rest (λ (l : Line). IsOutput values l.out) l ls (l ∷ ls) refl within))

pub costliest_of : (ls : List Line) (values : ℕ) (sums : List ℕ) (v : ℕ) → All (λ (l : Line). IsOutput values l.out) ls → AreSums ls values sums → IsGreatest sums v → IsCostliest ls v
costliest_of ls values sums v within are greatest =
    let there : v < values = omega (arith, greatest.there, are.long) in
    let here = are.each v there in
    record {
      most = λ u.
          ⊎_elim
          (λ (low : u < values). let e = are.each u low in let most = greatest.most u (omega (arith, are.long)) in omega (arith, e, most, here))
          (λ (past : values ≤ u). let e = unused values u ls past within in omega (arith, e))
          (cases_lt u values);
      least = λ u before. let e = are.each u (omega (arith, before, there)) in let first = greatest.first u before in omega (arith, e, first, here);
    }

-- where there is a line the net has a value
pub values_there : (ls : List Line) (values : ℕ) → 0 < length ls → All (λ (l : Line). IsOutput values l.out) ls → 0 < values
values_there [] values some within = absurd (omega (arith, some))
values_there (l ∷ ls) values some within =
    let here : IsOutput values l.out = within 0 l (omega arith) in
    let m = member_of l.out (ne_eqb l.out empty here.some) in
    let low = ltb-true m.0 values (sym (has-full values m.0) ∙ here.within m.0 m.1) in
    omega (arith, low)

-- ---- where some line has a literal

-- the value of a set of one value
lone_value : (s : ℕ) → count_ones s ≡ 1 → (v : ℕ) × (s ≡ one v)
lone_value s single =
    let m = member_of s (ne_eqb s empty (λ e. let no : 0 ≡ 1 = sym count-empty ∙ (ap count_ones (sym e) ∙ single) in omega (arith, no))) in
    (m.0, one_from_count s m.0 m.1 single)

-- some value's lines have one
pub some_value : (ls : List Line) → All GivesOne ls → 0 < literal_count ls → (v : ℕ) × (0 < literals_of_value v ls)
some_value [] single some = absurd (omega (arith, some))
some_value (l ∷ ls) single some =
    ⊎_elim
    (λ (here : 0 < length l.cube).
    let v = lone_value l.out (single 0 l (omega arith)) in
    let t = eq-eqb l.out (one v.0) v.1 in
    let more : 0 < literals_of_value v.0 (l ∷ ls) = rw t (omega (arith, here)) in
    (v.0, more))
    (λ (none : length l.cube ≤ 0).
    let rest = some_value ls (All-rest GivesOne l ls (l ∷ ls) refl single) (omega (arith, some, none)) in
    let more : 0 < literals_of_value rest.0 (l ∷ ls) =
    elim (cases_Bool (nat_eq l.out (one rest.0))) [
      | inl t ↦ let e = rest.1 in rw t (omega (arith, e))
      | inr f ↦ rw f rest.1
    ]
    in
    (rest.0, more))
    (cases_lt 0 (length l.cube))

-- a value whose lines have a literal is one of the net's
lines_below : (values v : ℕ) (ls : List Line) → All (λ (l : Line). IsOutput values l.out) ls → 0 < literals_of_value v ls → v < values
lines_below values v ls within some =
    ⊎_elim
    (λ (low : v < values). low)
    (λ (past : values ≤ v). let e = unused values v ls past within in absurd (omega (arith, e, some)))
    (cases_lt v values)

-- so is the costliest, where some line has a literal
pub costliest_below : (values : ℕ) (ls : List Line) (v : ℕ) → All (λ (l : Line). IsOutput values l.out) ls → All GivesOne ls → 0 < literal_count ls → IsCostliest ls v → v < values
costliest_below values ls v within single some costliest =
    let w = some_value ls single some in
    let most = costliest.most w.0 in
    lines_below values v ls within (omega (arith, w.1, most))

-- a value of a net, alone, is an output
pub one_output : (values v : ℕ) → v < values → IsOutput values (one v)
one_output values v low = record {
  some = λ e. false≢true (sym (has-empty v) ∙ (ap (λ s. has s v) (sym e) ∙ (has-one v v ∙ (unsigned_Decides v v).1 refl)));
  within = λ u t. has-full values u ∙ lt-ltb u values (subst (λ w. w < values) (sym ((unsigned_Decides u v).0 (sym (has-one v u) ∙ t))) low);
}
