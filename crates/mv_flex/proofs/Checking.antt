-- What the checks of lines and covers say of the flexibility.
use Rattle.std.proofs.Common.{◌≡◌, ◌∙◌, ℕ, zero, suc, ◌<◌, ◌≤◌, ◌^◌, Bool, true, false, not, ◌&&◌, ◌||◌, nat_eq, List, get_or, Option, Some, None, refl, sym, ap, subst, ⊎_elim, arith}
use Rattle.std.specs.List.{list_any}
use Rattle.std.proofs.lemmas.Bool.{cases_Bool, cases_lt, false≢true, or_cases, or_left, or_right, and_parts, and_from, eqb-true, eq-eqb, not-true, not_from_false, false_from_ne_true}
use Rattle.std.proofs.Math.Nat.{lt-suc_self}
use Rattle.std.proofs.Math.Pow.{pow-lt}
use Rattle.mv_base.specs.Set.{has, empty}
use Rattle.mv_base.proofs.Sets.{has-empty, has_above, same_set}
use Rattle.mv_graph.specs.Nets.{has_id}
use Rattle.mv_cover.specs.declared.line.Line.{Line}
use Rattle.mv_cover.specs.declared.cover.Cover.{Cover}
use Rattle.mv_cover.specs.Cubes.{matches}
use Rattle.mv_cover.specs.Covers.{allowed, cube_reads, cover_reads, default_gives}
use Rattle.mv_cover.proofs.Absorbing.{any_at, find_any}
use Rattle.mv_net.specs.declared.parts.FlatNet.{FlatNet}
use Rattle.mv_net.specs.declared.parts.NetParts.{NetParts}
use Rattle.mv_net.specs.declared.window.Window.{Window}
use Rattle.mv_net.specs.Nets.{slot, values_in, table_reads, reads_in}
use Rattle.mv_net.specs.Total.{AllowsValue}
use Rattle.mv_net.proofs.Local.{matches-local, allowed-local}
use Rattle.mv_flex.specs.declared.flexibility.Flexibility.{Flexibility}
use Rattle.mv_flex.specs.Spaces.{value_at, digits, code, AreBelow}
use Rattle.mv_flex.specs.Plans.{counts_of, values_of}
use Rattle.mv_flex.specs.Flex.{AgreesBeside, HasReplacement, IsFaninPoint, IsPair, InFlex, LineInFlex, CoverInFlex, KeepsChoice, IsOverFanins}
use Rattle.mv_flex.specs.Flexibilities.{IsFlex}
use Rattle.mv_flex.specs.Checks.{chooses, default_chooses, pair_values, point_values, LineOutside, CoverOutside, LosesSome}
use Rattle.mv_flex.proofs.Numbering.{value_at-map, digits-code}
use Rattle.mv_flex.proofs.Assigning.{value_at-below, search_below}
use Rattle.mv_flex.proofs.Allowing.{allowed_by}
use Rattle.mv_flex.proofs.Going.{numbered, digits_low}

-- ---- covers that allow some value

power_above : (n : ℕ) → n < 2 ^ n
power_above zero = omega arith
power_above (suc n) = omega (arith, power_above n, pow-lt (lt-suc_self n))

-- a set that isn't empty has a member
member_of : (s : ℕ) → nat_eq s empty ≡ false → (v : ℕ) × (has s v ≡ true)
member_of s some =
    ⊎_elim
    (λ (found : (v : ℕ) × (v < s) × (has s v ≡ true)). (found.0, found.2))
    (λ (none : (v : ℕ) → v < s → has s v ≡ false).
    let same : s ≡ empty =
    same_set s empty
    (λ v.
    ⊎_elim
    (λ (low : v < s). none v low ∙ sym (has-empty v))
    (λ (high : s ≤ v). has_above s s v (power_above s) high ∙ sym (has-empty v))
    (cases_lt v s)) in
    absurd (false≢true (sym some ∙ eq-eqb s empty same)))
    (search_below (has s) s)

-- and one with a member isn't empty
not_empty : (s v : ℕ) → has s v ≡ true → not (nat_eq s empty) ≡ true
not_empty s v h =
    not_from_false (nat_eq s empty) (false_from_ne_true (nat_eq s empty) (λ e. false≢true (sym (has-empty v) ∙ ap (λ k. has k v) (sym (eqb-true s empty e)) ∙ h)))

default_some : (d : Option ℕ) → default_chooses d ≡ true → (v : ℕ) × (default_gives d v ≡ true)
default_some None h = absurd (false≢true h)
default_some (Some out) h = member_of out (not-true (nat_eq out empty) h)

pub default_from : (d : Option ℕ) (v : ℕ) → default_gives d v ≡ true → default_chooses d ≡ true
default_from None v h = absurd (false≢true h)
default_from (Some out) v h = not_empty out v h

pub allows_some : (c : Cover) (at : ℕ → ℕ) → chooses c at ≡ true → AllowsValue c at
allows_some c at h =
    ⊎_elim
    (λ (line : list_any (λ (l : Line). matches at l.cube && not (nat_eq l.out empty)) c.lines ≡ true).
    let l = find_any (λ (l : Line). matches at l.cube && not (nat_eq l.out empty)) c.lines line in
    let both = and_parts (matches at l.x.cube) (not (nat_eq l.x.out empty)) l.pass in
    let v = member_of l.x.out (not-true (nat_eq l.x.out empty) both.1) in
    record {
      value = v.0;
      is_allowed =
          allowed_by c at v.0
          ∙ or_left (list_any (λ (k : Line). matches at k.cube && has k.out v.0) c.lines) (not (list_any (λ (k : Line). matches at k.cube) c.lines) && default_gives c.default v.0)
          (any_at (λ (k : Line). matches at k.cube && has k.out v.0) c.lines l.x l.there (and_from (matches at l.x.cube) (has l.x.out v.0) both.0 v.1));
    })
    (λ (default : (not (list_any (λ (l : Line). matches at l.cube) c.lines) && default_chooses c.default) ≡ true).
    let both = and_parts (not (list_any (λ (l : Line). matches at l.cube) c.lines)) (default_chooses c.default) default in
    let v = default_some c.default both.1 in
    record {
      value = v.0;
      is_allowed =
          allowed_by c at v.0
          ∙ or_right (list_any (λ (k : Line). matches at k.cube && has k.out v.0) c.lines) (not (list_any (λ (k : Line). matches at k.cube) c.lines) && default_gives c.default v.0)
          (and_from (not (list_any (λ (k : Line). matches at k.cube) c.lines)) (default_gives c.default v.0) both.0 v.1);
    })
    (or_cases (list_any (λ (l : Line). matches at l.cube && not (nat_eq l.out empty)) c.lines) (not (list_any (λ (l : Line). matches at l.cube) c.lines) && default_chooses c.default) h)

pub some_chosen : (c : Cover) (at : ℕ → ℕ) → AllowsValue c at → chooses c at ≡ true
some_chosen c at a =
    ⊎_elim
    (λ (line : list_any (λ (l : Line). matches at l.cube && has l.out a.value) c.lines ≡ true).
    let l = find_any (λ (l : Line). matches at l.cube && has l.out a.value) c.lines line in
    let both = and_parts (matches at l.x.cube) (has l.x.out a.value) l.pass in
    or_left (list_any (λ (k : Line). matches at k.cube && not (nat_eq k.out empty)) c.lines) (not (list_any (λ (k : Line). matches at k.cube) c.lines) && default_chooses c.default)
    (any_at (λ (k : Line). matches at k.cube && not (nat_eq k.out empty)) c.lines l.x l.there (and_from (matches at l.x.cube) (not (nat_eq l.x.out empty)) both.0 (not_empty l.x.out a.value both.1))))
    (λ (default : (not (list_any (λ (l : Line). matches at l.cube) c.lines) && default_gives c.default a.value) ≡ true).
    let both = and_parts (not (list_any (λ (l : Line). matches at l.cube) c.lines)) (default_gives c.default a.value) default in
    or_right (list_any (λ (k : Line). matches at k.cube && not (nat_eq k.out empty)) c.lines) (not (list_any (λ (k : Line). matches at k.cube) c.lines) && default_chooses c.default)
    (and_from (not (list_any (λ (k : Line). matches at k.cube) c.lines)) (default_chooses c.default) both.0 (default_from c.default a.value both.1)))
    (or_cases (list_any (λ (l : Line). matches at l.cube && has l.out a.value) c.lines) (not (list_any (λ (l : Line). matches at l.cube) c.lines) && default_gives c.default a.value) (sym (allowed_by c at a.value) ∙ a.is_allowed))

-- ---- pairs

-- the test of an assignment and a value depends on the fanins of n and the value
pub record IsLocal (nets : List (Option FlatNet)) (n : ℕ) (test : (ℕ → ℕ) → ℕ → Bool) : Type 0 where
  pub same : (x y : ℕ → ℕ) (v : ℕ) → ((m : ℕ) → reads_in nets n m ≡ true → x m ≡ y m) → test x v ≡ test y v

pub line_local : (nets : List (Option FlatNet)) (n : ℕ) (l : Line) → IsOverFanins nets n (cube_reads l.cube) → IsLocal nets n (λ at v. matches at l.cube && has l.out v)
line_local nets n l over = record { same = λ x y v h. ap (λ b. b && has l.out v) (matches-local l.cube x y (λ m r. h m (over.fanins m r))) }

pub cover_local : (nets : List (Option FlatNet)) (n : ℕ) (c : Cover) → IsOverFanins nets n (cover_reads c) → IsLocal nets n (allowed c)
cover_local nets n c over = record { same = λ x y v h. allowed-local c x y v (λ m r. h m (over.fanins m r)) }

module _ (net : NetParts) (w : Window) (n budget : ℕ) (f : Flexibility) (flex : IsFlex net w n budget f) where
  pairs_have : (m : ℕ) → has_id f.pairs.nets m ≡ (nat_eq f.net.0 m || has_id f.fanins.nets m)
  pairs_have m = ap (λ l. has_id l m) flex.pairs.list

  here_in : has_id f.pairs.nets n ≡ true
  here_in = pairs_have n ∙ or_left (nat_eq f.net.0 n) (has_id f.fanins.nets n) (eq-eqb f.net.0 n flex.id)

  fanin_in : (m : ℕ) → reads_in net.nets n m ≡ true → has_id f.pairs.nets m ≡ true
  fanin_in m r = pairs_have m ∙ or_right (nat_eq f.net.0 m) (has_id f.fanins.nets m) (flex.reads m ∙ r)

  -- the pair of an assignment that agrees gives the fanins and n the assignment's values
  pair_is : (at : ℕ → ℕ) (q : ℕ) → AgreesBeside net.nets w n at → code f.pairs.counts (values_of at f.pairs.nets) ≡ q → (m : ℕ) → has_id f.pairs.nets m ≡ true → pair_values f q m ≡ at m
  pair_is at q agrees e m y =
      ap (λ l. value_at f.pairs.nets l m) (ap (digits f.pairs.counts) (sym e) ∙ digits-code f.pairs.counts (values_of at f.pairs.nets) (flex.below at agrees))
      ∙ value_at-map at f.pairs.nets m y

  pair_here : (at : ℕ → ℕ) (q : ℕ) → AgreesBeside net.nets w n at → code f.pairs.counts (values_of at f.pairs.nets) ≡ q → pair_values f q f.net.0 ≡ at n
  pair_here at q agrees e = ap (pair_values f q) flex.id ∙ pair_is at q agrees e n here_in

  -- a test at a pair is the test at the assignment
  pair_test : (test : (ℕ → ℕ) → ℕ → Bool) → IsLocal net.nets n test → (at : ℕ → ℕ) (q : ℕ) → AgreesBeside net.nets w n at → code f.pairs.counts (values_of at f.pairs.nets) ≡ q → test (pair_values f q) (pair_values f q f.net.0) ≡ test at (at n)
  pair_test test local at q agrees e =
      local.same (pair_values f q) at (pair_values f q f.net.0) (λ m r. pair_is at q agrees e m (fanin_in m r)) ∙ ap (test at) (pair_here at q agrees e)

  -- where the test passes at no pair outside, each pair at which it passes is in the flexibility
  pub test_in : (test : (ℕ → ℕ) → ℕ → Bool) → IsLocal net.nets n test → ((q : ℕ) → get_or f.outside q false ≡ true → test (pair_values f q) (pair_values f q f.net.0) ≡ true → ⊥) → (at : ℕ → ℕ) (v : ℕ) → IsPair net.nets n at v → test at v ≡ true → InFlex net.nets w n at v
  test_in test local none at v pair passes = record {
    pair = pair;
    replaced = λ x agrees same e.
        ⊎_elim
        (λ (marked : get_or f.outside (code f.pairs.counts (values_of x f.pairs.nets)) false ≡ true).
        absurd
        (none (code f.pairs.counts (values_of x f.pairs.nets)) marked
        (pair_test test local x (code f.pairs.counts (values_of x f.pairs.nets)) agrees refl ∙ local.same x at (x n) same ∙ ap (test at) e ∙ passes)))
        (λ (r : HasReplacement net.nets w x). r)
        (flex.all x agrees);
  }

  -- an assignment that agrees is in range at the fanins
  agrees_point : (at : ℕ → ℕ) → AgreesBeside net.nets w n at → IsFaninPoint net.nets n at
  agrees_point at agrees = record {
    fanins = λ m r.
        subst (λ k. k < values_in (slot net.nets m)) (value_at-map at f.pairs.nets m (fanin_in m r))
        (value_at-below (λ k. values_in (slot net.nets k)) f.pairs.nets (values_of at f.pairs.nets) m
        (subst (λ l. AreBelow l (values_of at f.pairs.nets)) (flex.pairs.counts ∙ ap (counts_of net.nets) (sym flex.pairs.list)) (flex.below at agrees)) (fanin_in m r));
  }

  -- and where it passes at one, not each
  pub test_out : (test : (ℕ → ℕ) → ℕ → Bool) → IsLocal net.nets n test → (q : ℕ) → get_or f.outside q false ≡ true → test (pair_values f q) (pair_values f q f.net.0) ≡ true → ((at : ℕ → ℕ) (v : ℕ) → IsPair net.nets n at v → test at v ≡ true → InFlex net.nets w n at v) → ⊥
  test_out test local q marked passes all =
      let o = flex.only q marked in
      o.alone ((all o.at (o.at n) (record { point = agrees_point o.at o.agrees; value = o.agrees.here }) (sym (pair_test test local o.at q o.agrees o.pair) ∙ passes)).replaced o.at o.agrees (λ m r. refl) refl)

  pub line_in : (l : Line) → IsOverFanins net.nets n (cube_reads l.cube) → (LineOutside f l → ⊥) → LineInFlex net.nets w n l
  line_in l over none = record {
    each = λ at v pair m h.
        test_in (λ x u. matches x l.cube && has l.out u) (line_local net.nets n l over) (λ q y t. none (record { pair = q; outside = y; allows = t })) at v pair
        (and_from (matches at l.cube) (has l.out v) m h);
  }

  pub line_out : (l : Line) → IsOverFanins net.nets n (cube_reads l.cube) → LineOutside f l → LineInFlex net.nets w n l → ⊥
  line_out l over o all =
      test_out (λ x u. matches x l.cube && has l.out u) (line_local net.nets n l over) o.pair o.outside o.allows
      (λ at v pair t. let both = and_parts (matches at l.cube) (has l.out v) t in all.each at v pair both.0 both.1)

  pub cover_in : (c : Cover) → IsOverFanins net.nets n (cover_reads c) → (CoverOutside f c → ⊥) → CoverInFlex net.nets w n c
  cover_in c over none = record {
    each = λ at v pair t. test_in (allowed c) (cover_local net.nets n c over) (λ q y a. none (record { pair = q; outside = y; allows = a })) at v pair t;
  }

  pub cover_out : (c : Cover) → IsOverFanins net.nets n (cover_reads c) → CoverOutside f c → CoverInFlex net.nets w n c → ⊥
  cover_out c over o all = test_out (allowed c) (cover_local net.nets n c over) o.pair o.outside o.allows all.each

  -- ---- points of the fanins

  -- the old table is over the fanins
  old_over : IsOverFanins net.nets n (cover_reads f.old)
  old_over = record { fanins = λ m r. ap (λ t. table_reads t m) flex.table ∙ r }

  -- a cover allows something at assignments with the same values at the fanins
  some_moved : (c : Cover) → IsOverFanins net.nets n (cover_reads c) → (x y : ℕ → ℕ) → ((m : ℕ) → reads_in net.nets n m ≡ true → x m ≡ y m) → AllowsValue c x → AllowsValue c y
  some_moved c over x y same a = record { value = a.value; is_allowed = sym ((cover_local net.nets n c over).same x y a.value same) ∙ a.is_allowed }

  pub keeps : (new : Cover) → IsOverFanins net.nets n (cover_reads new) → (LosesSome f new → ⊥) → KeepsChoice net.nets n f.old new
  keeps new over none = record {
    each = λ at point some.
        let k = numbered net.nets f.fanins.nets f.fanins at flex.fanins (λ m y. point.fanins m (sym (flex.reads m) ∙ y)) in
        let same : (m : ℕ) → reads_in net.nets n m ≡ true → point_values f k.0 m ≡ at m =
        λ m r. ap (λ l. value_at f.fanins.nets l m) k.2 ∙ value_at-map at f.fanins.nets m (flex.reads m ∙ r) in
        ⊎_elim
        (λ (y : chooses new at ≡ true). allows_some new at y)
        (λ (no : chooses new at ≡ false).
        absurd
        (none
        (record {
          point = k.0;
          low = k.1;
          lost =
              and_from (chooses f.old (point_values f k.0)) (not (chooses new (point_values f k.0)))
              (some_chosen f.old (point_values f k.0) (some_moved f.old old_over at (point_values f k.0) (λ m r. sym (same m r)) some))
              (not_from_false (chooses new (point_values f k.0))
              (false_from_ne_true (chooses new (point_values f k.0)) (λ y. false≢true (sym no ∙ some_chosen new at (some_moved new over (point_values f k.0) at same (allows_some new (point_values f k.0) y))))));
        })))
        (cases_Bool (chooses new at));
  }

  pub keeps_not : (new : Cover) → LosesSome f new → KeepsChoice net.nets n f.old new → ⊥
  keeps_not new l keep =
      let both = and_parts (chooses f.old (point_values f l.point)) (not (chooses new (point_values f l.point))) l.lost in
      let point : IsFaninPoint net.nets n (point_values f l.point) =
      record {
        fanins = λ m r.
            value_at-below (λ k. values_in (slot net.nets k)) f.fanins.nets (digits f.fanins.counts l.point) m (digits_low net.nets f.fanins.nets f.fanins l.point flex.fanins) (flex.reads m ∙ r);
      } in
      false≢true (sym (not-true (chooses new (point_values f l.point)) both.1) ∙ some_chosen new (point_values f l.point) (keep.each (point_values f l.point) point (allows_some f.old (point_values f l.point) both.0)))

cover_in_table : Cover → Option Cover → Cover
cover_in_table d None = d
cover_in_table d (Some c) = c

-- a net has one table
pub same_table : (a b : Cover) → Some a ≡ Some b → a ≡ b
unfolding cover_in_table
same_table a b e = ap (cover_in_table a) e
