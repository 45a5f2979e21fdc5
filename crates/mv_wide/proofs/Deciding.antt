-- What the points of the first set say of lines and covers.
use Rattle.std.proofs.Common.{◌≡◌, ◌∙◌, ℕ, ◌<◌, ◌&&◌, ◌||◌, Bool, true, false, not, nat_eq, cond, List, [], ◌∷◌, length, get_or, Option, Some, None, is_some, refl, sym, ap, subst, ⊎_elim}
use Rattle.std.specs.Prelude.{MatchBool}
use Rattle.std.specs.List.{list_all, list_any}
use Rattle.std.proofs.lemmas.Bool.{cases_Bool, true≢false, and_from, and_parts, or_left, or_right, or_cases, eq-eqb, eqb-true, ne_eqb, not-true, not_from_false}
use Rattle.mv_base.specs.Set.{has, one}
use Rattle.mv_base.proofs.Sets.{has-one}
use Rattle.mv_base.specs.declared.number.NetId.{NetId}
use Rattle.mv_cover.specs.Literal.{Lit}
use Rattle.mv_cover.specs.declared.line.Line.{Line}
use Rattle.mv_cover.specs.declared.cover.Cover.{Cover}
use Rattle.mv_cover.specs.Cubes.{matches}
use Rattle.mv_cover.specs.Covers.{allowed, cover_reads, cube_reads}
use Rattle.mv_cover.proofs.Absorbing.{matches-any}
use Rattle.mv_diagram.specs.Sets.{Point, InRange}
use Rattle.mv_factors.specs.Families.{set_at}
use Rattle.mv_flex.specs.declared.verdict.Verdict.{Verdict}
use Rattle.mv_flex.specs.declared.verdict.Verdict.TheVariants.{Outside, Lost, Lawful}
use Rattle.mv_flex.specs.Checks.{chooses as flex_chooses, default_chooses}
use Rattle.mv_flex.specs.Flex.{CoverInFlex, InFlex, IsOverFanins, IsPair, IsVerdict, KeepsChoice, LineInFlex, LineInFlexWith, literals_beside}
use Rattle.mv_flex.proofs.Checking.{IsLocal, allows_some, cover_local, line_local, same_table, some_chosen}
use Rattle.mv_graph.specs.Nets.{has_id}
use Rattle.mv_net.specs.declared.parts.NetParts.{NetParts}
use Rattle.mv_net.specs.declared.window.Window.{Window}
use Rattle.mv_net.specs.Nets.{slot, table_in, table_reads, values_in, reads_in}
use Rattle.mv_net.specs.Total.{AllowsValue}
use Rattle.mv_net.proofs.Known.{values_some}
use Rattle.mv_net.proofs.Local.{allowed-local, matches-local}
use Rattle.mv_relation.specs.Relations.{assigned, chooses, has_some}
use Rattle.mv_wide.specs.Choosing.{AreListed, Hits, all_hold_but, and_in, in_line}
use Rattle.mv_wide.specs.Judging.{AllowsOutside, IsJudged, LosesChoice, gives, reads_among}
use Rattle.mv_wide.specs.Wides.{IsWide, Wide}
use Rattle.mv_wide.specs.Windows.{is_inside}
use Rattle.mv_wide.proofs.Framing.{inside_held, own_table, read_inside, table_inside}
use Rattle.mv_wide.proofs.Pointing.{assigned_range, at_point, point, point_range}

match_true : (b : Bool) (P Q : Type 0) → MatchBool b P Q → b ≡ true → P
match_true true P Q h e = h
match_true false P Q h e = absurd (true≢false (sym e))

match_false : (b : Bool) (P Q : Type 0) → MatchBool b P Q → b ≡ false → Q
match_false true P Q h e = absurd (true≢false e)
match_false false P Q h e = h

pub match_weaker : (b : Bool) (P Q R S : Type 0) → (P → R) → (Q → S) → MatchBool b P Q → MatchBool b R S
match_weaker true P Q R S f g h = f h
match_weaker false P Q R S f g h = g h

pub match_turned : (b : Bool) (P Q R S : Type 0) → (P → S) → (Q → R) → MatchBool b P Q → MatchBool (not b) R S
match_turned true P Q R S f g h = f h
match_turned false P Q R S f g h = g h

-- ---- literals that are left out

all_beside : (at : ℕ → ℕ) (m : NetId) (cube : List Lit) → all_hold_but (Some m) at cube ≡ matches at (literals_beside m.0 cube)
all_beside at m [] = refl
all_beside at m (l ∷ ls) =
    ⊎_elim
    (λ (gone : nat_eq l.net.0 m.0 ≡ true).
    (λ i. (gone i || has l.set (at l.net.0)) && all_hold_but (Some m) at ls)
    ∙ (all_beside at m ls ∙ (λ i. matches at (cond (not (sym gone i)) (l ∷ literals_beside m.0 ls) (literals_beside m.0 ls)))))
    (λ (kept : nat_eq l.net.0 m.0 ≡ false).
    (λ i. (kept i || has l.set (at l.net.0)) && all_hold_but (Some m) at ls)
    ∙ (ap (λ b. has l.set (at l.net.0) && b) (all_beside at m ls)
    ∙ (λ i. matches at (cond (not (sym kept i)) (l ∷ literals_beside m.0 ls) (literals_beside m.0 ls)))))
    (cases_Bool (nat_eq l.net.0 m.0))

beside_reads : (m : ℕ) (cube : List Lit) (k : ℕ) → cube_reads (literals_beside m cube) k ≡ true → cube_reads cube k ≡ true
beside_reads m [] k is = is
beside_reads m (l ∷ ls) k is =
    ⊎_elim
    (λ (gone : nat_eq l.net.0 m ≡ true).
    or_right (nat_eq l.net.0 k) (cube_reads ls k)
    (beside_reads m ls k (sym (λ i. cube_reads (cond (not (gone i)) (l ∷ literals_beside m ls) (literals_beside m ls)) k) ∙ is)))
    (λ (kept : nat_eq l.net.0 m ≡ false).
    ⊎_elim (λ (here : nat_eq l.net.0 k ≡ true). or_left (nat_eq l.net.0 k) (cube_reads ls k) here)
    (λ (rest : cube_reads (literals_beside m ls) k ≡ true). or_right (nat_eq l.net.0 k) (cube_reads ls k) (beside_reads m ls k rest))
    (or_cases (nat_eq l.net.0 k) (cube_reads (literals_beside m ls) k)
    (sym (λ i. cube_reads (cond (not (kept i)) (l ∷ literals_beside m ls) (literals_beside m ls)) k) ∙ is)))
    (cases_Bool (nat_eq l.net.0 m))

-- ---- covers that allow some value

default_same : (d : Option ℕ) → has_some d ≡ default_chooses d
default_same None = refl
default_same (Some out) = refl

chooses_same : (c : Cover) (at : ℕ → ℕ) → chooses c at ≡ flex_chooses c at
chooses_same c at = λ i.
    list_any (λ (l : Line). matches at l.cube && has_some (Some l.out)) c.lines || (not (matches-any at c.lines i) && default_same c.default i)

module _ (net : NetParts) (w : Window) (n : ℕ) (f : Wide) (is : IsWide net w n f) where
  abbrev counts : List ℕ
  counts = f.frame.counts.items

  abbrev vars : List ℕ
  vars = f.frame.vars.items

  abbrev outside : Point → Bool
  outside p = set_at f.family 0 p

  own_listed : has_id w.tables n ≡ true
  own_listed = own_table net w n is.window (ap is_some is.frame.table)

  own_inside : is_inside w n ≡ true
  own_inside = table_inside net w n is.window n own_listed

  fanin_inside : (m : ℕ) → reads_in net.nets n m ≡ true → is_inside w m ≡ true
  fanin_inside m reads = read_inside net w n is.window n m own_listed reads

  alone : reads_in net.nets n n ≡ true → ⊥
  alone reads = is.formed.acyclic.none n (record { path = []; goes = reads })

  apart : (m : ℕ) → reads_in net.nets n m ≡ true → nat_eq m n ≡ false
  apart m reads = ne_eqb m n (λ e. alone (subst (λ k. reads_in net.nets n k ≡ true) e reads))

  -- ---- the point of a pair

  abbrev given : (ℕ → ℕ) → ℕ → ℕ → ℕ
  given at v m = cond (nat_eq m n) v (cond (reads_in net.nets n m) (at m) 0)

  given_own : (at : ℕ → ℕ) (v : ℕ) → given at v n ≡ v
  given_own at v = λ i. cond (eq-eqb n n refl i) v (cond (reads_in net.nets n n) (at n) 0)

  given_fanin : (at : ℕ → ℕ) (v m : ℕ) → reads_in net.nets n m ≡ true → given at v m ≡ at m
  given_fanin at v m reads = (λ i. cond (apart m reads i) v (cond (reads_in net.nets n m) (at m) 0)) ∙ (λ i. cond (reads i) (at m) 0)

  given_low : (at : ℕ → ℕ) (v : ℕ) → IsPair net.nets n at v → (m : ℕ) → is_inside w m ≡ true → given at v m < values_in (slot net.nets m)
  given_low at v pair m inside =
      ⊎_elim
      (λ (e : nat_eq m n ≡ true).
      let same = eqb-true m n e in
      subst (λ k. given at v k < values_in (slot net.nets k)) (sym same) (subst (λ k. k < values_in (slot net.nets n)) (sym (given_own at v)) pair.value))
      (λ (other : nat_eq m n ≡ false).
      ⊎_elim
      (λ (reads : reads_in net.nets n m ≡ true).
      subst (λ k. k < values_in (slot net.nets m)) (sym (given_fanin at v m reads)) (pair.point.fanins m reads))
      (λ (unread : reads_in net.nets n m ≡ false).
      subst (λ k. k < values_in (slot net.nets m))
      (sym ((λ i. cond (other i) v (cond (reads_in net.nets n m) (at m) 0)) ∙ (λ i. cond (unread i) (at m) 0)))
      (values_some net m is.formed (inside_held net w n is.window is.formed m inside)))
      (cases_Bool (reads_in net.nets n m)))
      (cases_Bool (nat_eq m n))

  abbrev pair_point : (ℕ → ℕ) → ℕ → Point
  pair_point at v = point net w n is.window counts vars is.frame.vars (given at v) (λ k. 0)

  pair_range : (at : ℕ → ℕ) (v : ℕ) → IsPair net.nets n at v → InRange counts (pair_point at v)
  pair_range at v pair = point_range net w n is.window counts vars is.frame.vars (given at v) (λ k. 0) (given_low at v pair)

  at_own : (at : ℕ → ℕ) (v : ℕ) → assigned vars (pair_point at v) n ≡ v
  at_own at v = at_point net w n is.window counts vars is.frame.vars (given at v) (λ k. 0) n own_inside ∙ given_own at v

  at_fanin : (at : ℕ → ℕ) (v m : ℕ) → reads_in net.nets n m ≡ true → assigned vars (pair_point at v) m ≡ at m
  at_fanin at v m reads =
      at_point net w n is.window counts vars is.frame.vars (given at v) (λ k. 0) m (fanin_inside m reads) ∙ given_fanin at v m reads

  point_pair : (p : Point) → InRange counts p → IsPair net.nets n (assigned vars p) (assigned vars p n)
  point_pair p range = record {
    point = record { fanins = λ m reads. assigned_range net w n is.window counts vars is.frame.vars p range m (fanin_inside m reads) };
    value = assigned_range net w n is.window counts vars is.frame.vars p range n own_inside;
  }

  -- a pair is in the flexibility where its point isn't outside
  moved : (at : ℕ → ℕ) (v : ℕ) → IsPair net.nets n at v
      → InFlex net.nets w n (assigned vars (pair_point at v)) (assigned vars (pair_point at v) n) → InFlex net.nets w n at v
  moved at v pair flex = record {
    pair = pair;
    replaced = λ x agrees fanins value.
        flex.replaced x agrees (λ m reads. fanins m reads ∙ sym (at_fanin at v m reads)) (value ∙ sym (at_own at v));
  }

  -- ---- tests of pairs

  module _ (test : (ℕ → ℕ) → ℕ → Bool) (local : IsLocal net.nets n test) (t : Point → Bool)
      (same : (p : Point) → InRange counts p → t p ≡ test (assigned vars p) (assigned vars p n)) where
    hit_out : Hits counts outside t → ((at : ℕ → ℕ) (v : ℕ) → IsPair net.nets n at v → test at v ≡ true → InFlex net.nets w n at v) → ⊥
    hit_out h all =
        match_true (outside h.point) (InFlex net.nets w n (assigned vars h.point) (assigned vars h.point n) → ⊥)
        (InFlex net.nets w n (assigned vars h.point) (assigned vars h.point n)) (is.outside.each h.point h.range) h.is
        (all (assigned vars h.point) (assigned vars h.point n) (point_pair h.point h.range) (sym (same h.point h.range) ∙ h.passes))

    no_hit : (Hits counts outside t → ⊥) → (at : ℕ → ℕ) (v : ℕ) → IsPair net.nets n at v → test at v ≡ true → InFlex net.nets w n at v
    no_hit none at v pair passes =
        let p : Point = pair_point at v in
        let range = pair_range at v pair in
        let chosen : t p ≡ true =
        same p range ∙ local.same (assigned vars p) at (assigned vars p n) (λ m reads. at_fanin at v m reads) ∙ ap (test at) (at_own at v) ∙ passes in
        ⊎_elim (λ (out : outside p ≡ true). absurd (none (record { point = p; range = range; passes = chosen; is = out })))
        (λ (within : outside p ≡ false).
        moved at v pair
        (match_false (outside p) (InFlex net.nets w n (assigned vars p) (assigned vars p n) → ⊥)
        (InFlex net.nets w n (assigned vars p) (assigned vars p n)) (is.outside.each p range) within))
        (cases_Bool (outside p))

  -- the value of n
  own_value : (p : Point) → p f.frame.own ≡ assigned vars p n
  own_value p = ap p is.frame.own

  pub listed : (reads : ℕ → Bool) → IsOverFanins net.nets n reads → AreListed counts vars reads
  listed reads over = record {
    listed = λ m r. (is.frame.vars.each m (fanin_inside m (over.fanins m r))).listed;
    within = λ m r. (is.frame.vars.each m (fanin_inside m (over.fanins m r))).within;
  }

  -- ---- lines

  module _ (l : Line) (over : IsOverFanins net.nets n (cube_reads l.cube)) where
    line_test : (ℕ → ℕ) → ℕ → Bool
    line_test at v = matches at l.cube && has l.out v

    line_same : (p : Point) → InRange counts p → in_line None vars f.frame.own l p ≡ (matches (assigned vars p) l.cube && has l.out (assigned vars p n))
    line_same p range = ap (λ v. matches (assigned vars p) l.cube && has l.out v) (own_value p)

    pub line_hit : Hits counts outside (in_line None vars f.frame.own l) → LineInFlex net.nets w n l → ⊥
    line_hit h flex =
        hit_out (λ at v. matches at l.cube && has l.out v) (line_local net.nets n l over) (in_line None vars f.frame.own l) line_same h
        (λ at v pair passes.
        let parts = and_parts (matches at l.cube) (has l.out v) passes in
        flex.each at v pair parts.0 parts.1)

    pub line_missed : (Hits counts outside (in_line None vars f.frame.own l) → ⊥) → LineInFlex net.nets w n l
    line_missed none = record {
      each = λ at v pair met out.
          no_hit (λ at v. matches at l.cube && has l.out v) (line_local net.nets n l over) (in_line None vars f.frame.own l) line_same none at v pair
          (and_from (matches at l.cube) (has l.out v) met out);
    }

    pub line_told : (hits : Bool)
        → (AreListed counts vars (cube_reads l.cube)
        → MatchBool hits (Hits counts outside (in_line None vars f.frame.own l)) (Hits counts outside (in_line None vars f.frame.own l) → ⊥))
        → MatchBool (not hits) (LineInFlex net.nets w n l) (LineInFlex net.nets w n l → ⊥)
    line_told hits told =
        match_turned hits (Hits counts outside (in_line None vars f.frame.own l)) (Hits counts outside (in_line None vars f.frame.own l) → ⊥)
        (LineInFlex net.nets w n l) (LineInFlex net.nets w n l → ⊥) line_hit line_missed (told (listed (cube_reads l.cube) over))

    module _ (m : NetId) (reads : reads_in net.nets n m.0 ≡ true) (u : ℕ) where
      abbrev with_test : (ℕ → ℕ) → ℕ → Bool
      with_test at v = (matches at (literals_beside m.0 l.cube) && has l.out v) && has (one u) (at m.0)

      abbrev with_set : Point → Bool
      with_set = and_in (in_line (Some m) vars f.frame.own l) (get_or vars m.0 0) (one u)

      with_local : IsLocal net.nets n with_test
      with_local = record {
        same = λ x y v h.
            let met = matches-local (literals_beside m.0 l.cube) x y (λ k r. h k (over.fanins k (beside_reads m.0 l.cube k r))) in
            λ i. (met i && has l.out v) && has (one u) (h m.0 reads i);
      }

      with_same : (p : Point) → InRange counts p → with_set p ≡ with_test (assigned vars p) (assigned vars p n)
      with_same p range = λ i. (all_beside (assigned vars p) m l.cube i && has l.out (own_value p i)) && has (one u) (p (get_or vars m.0 0))

      pub value_hit : Hits counts outside with_set → LineInFlexWith net.nets w n l m.0 u → ⊥
      value_hit h flex =
          hit_out with_test with_local with_set with_same h
          (λ at v pair passes.
          let parts = and_parts (matches at (literals_beside m.0 l.cube) && has l.out v) (has (one u) (at m.0)) passes in
          let met = and_parts (matches at (literals_beside m.0 l.cube)) (has l.out v) parts.0 in
          flex.each at v pair (eqb-true (at m.0) u (sym (has-one u (at m.0)) ∙ parts.1)) met.0 met.1)

      pub value_missed : (Hits counts outside with_set → ⊥) → LineInFlexWith net.nets w n l m.0 u
      value_missed none = record {
        each = λ at v pair here met out.
            no_hit with_test with_local with_set with_same none at v pair
            (and_from (matches at (literals_beside m.0 l.cube) && has l.out v) (has (one u) (at m.0))
            (and_from (matches at (literals_beside m.0 l.cube)) (has l.out v) met out) (has-one u (at m.0) ∙ eq-eqb (at m.0) u here));
      }

    pub values_told : (m : NetId) → reads_in net.nets n m.0 ≡ true → (blocked : ℕ)
        → (m.0 < length vars → get_or vars m.0 0 < length counts → AreListed counts vars (cube_reads l.cube)
        → (u : ℕ) → MatchBool (has blocked u) (Hits counts outside (and_in (in_line (Some m) vars f.frame.own l) (get_or vars m.0 0) (one u)))
        (Hits counts outside (and_in (in_line (Some m) vars f.frame.own l) (get_or vars m.0 0) (one u)) → ⊥))
        → (u : ℕ) → MatchBool (has blocked u) (LineInFlexWith net.nets w n l m.0 u → ⊥) (LineInFlexWith net.nets w n l m.0 u)
    values_told m reads blocked told u =
        let var = is.frame.vars.each m.0 (fanin_inside m.0 reads) in
        match_weaker (has blocked u) (Hits counts outside (and_in (in_line (Some m) vars f.frame.own l) (get_or vars m.0 0) (one u)))
        (Hits counts outside (and_in (in_line (Some m) vars f.frame.own l) (get_or vars m.0 0) (one u)) → ⊥) (LineInFlexWith net.nets w n l m.0 u → ⊥)
        (LineInFlexWith net.nets w n l m.0 u) (value_hit m reads u) (value_missed m reads u) (told var.listed var.within (listed (cube_reads l.cube) over) u)

  -- ---- covers

  module _ (c : Cover) (over : IsOverFanins net.nets n (cover_reads c)) where
    cover_same : (p : Point) → InRange counts p → gives f.frame c p ≡ allowed c (assigned vars p) (assigned vars p n)
    cover_same p range = ap (allowed c (assigned vars p)) (own_value p)

    cover_hit : AllowsOutside f.family f.frame c → CoverInFlex net.nets w n c → ⊥
    cover_hit h flex = hit_out (allowed c) (cover_local net.nets n c over) (gives f.frame c) cover_same h (λ at v pair passes. flex.each at v pair passes)

    cover_missed : (AllowsOutside f.family f.frame c → ⊥) → CoverInFlex net.nets w n c
    cover_missed none = record {
      each = λ at v pair passes. no_hit (allowed c) (cover_local net.nets n c over) (gives f.frame c) cover_same none at v pair passes;
    }

    -- the table reads fanins alone, too
    old_over : (m : ℕ) → cover_reads f.frame.table m ≡ true → reads_in net.nets n m ≡ true
    old_over m r = subst (λ (t : Option Cover). table_reads t m ≡ true) (sym is.frame.table) r

    moved_value : (d : Cover) (x y : ℕ → ℕ) → ((m : ℕ) → cover_reads d m ≡ true → x m ≡ y m) → AllowsValue d x → AllowsValue d y
    moved_value d x y same a = record { value = a.value; is_allowed = sym (allowed-local d x y a.value same) ∙ a.is_allowed }

    chosen_value : (d : Cover) (at : ℕ → ℕ) → AllowsValue d at → chooses d at ≡ true
    chosen_value d at a = chooses_same d at ∙ some_chosen d at a

    value_chosen : (d : Cover) (at : ℕ → ℕ) → chooses d at ≡ true → AllowsValue d at
    value_chosen d at h = allows_some d at (sym (chooses_same d at) ∙ h)

    lost : LosesChoice f.frame c → KeepsChoice net.nets n f.frame.table c → ⊥
    lost h keeps =
        let at : ℕ → ℕ = assigned vars h.point in
        let new = chosen_value c at (keeps.each at (point_pair h.point h.range).point (value_chosen f.frame.table at h.is)) in
        true≢false (sym new ∙ not-true (chooses c at) h.passes)

    kept : (LosesChoice f.frame c → ⊥) → KeepsChoice net.nets n f.frame.table c
    kept none = record {
      each = λ at point old.
          let pair : IsPair net.nets n at 0 = record {
            point = point;
            value = values_some net n is.formed (inside_held net w n is.window is.formed n own_inside);
          } in
          let p : Point = pair_point at 0 in
          let there = chosen_value f.frame.table (assigned vars p)
          (moved_value f.frame.table at (assigned vars p) (λ m r. sym (at_fanin at 0 m (old_over m r))) old) in
          ⊎_elim
          (λ (some : chooses c (assigned vars p) ≡ true).
          moved_value c (assigned vars p) at (λ m r. at_fanin at 0 m (over.fanins m r)) (value_chosen c (assigned vars p) some))
          (λ (nothing : chooses c (assigned vars p) ≡ false).
          absurd (none (record {
            point = p;
            range = pair_range at 0 pair;
            passes = not_from_false (chooses c (assigned vars p)) nothing;
            is = there;
          })))
          (cases_Bool (chooses c (assigned vars p)));
    }

    verdict_of_frame : (verdict : Verdict) → IsJudged f.family f.frame c verdict → IsVerdict net.nets w n f.frame.table c verdict
    verdict_of_frame Outside h = λ flex. h (λ hit. cover_hit hit flex)
    verdict_of_frame Lost h = (cover_missed h.0, λ keeps. h.1 (λ hit. lost hit keeps))
    verdict_of_frame Lawful h = (cover_missed h.0, kept h.1)

    pub verdict_is : (old : Cover) → table_in (slot net.nets n) ≡ Some old → (verdict : Verdict) → IsJudged f.family f.frame c verdict
        → IsVerdict net.nets w n old c verdict
    verdict_is old table verdict h =
        subst (λ (o : Cover). IsVerdict net.nets w n o c verdict) (same_table f.frame.table old (sym is.frame.table ∙ table)) (verdict_of_frame verdict h)

    -- and so the cover reads nets among the fanins alone
    pub among : reads_among f.frame.fanins.items c ≡ true
    among = by_lines c.lines (λ m r. is.frame.fanins m ∙ over.fanins m r)
      where
        by_lits : (ls : List Lit) → ((m : ℕ) → cube_reads ls m ≡ true → has_id f.frame.fanins.items m ≡ true)
            → list_all (λ (k : Lit). has_id f.frame.fanins.items k.net.0) ls ≡ true
        by_lits [] h = refl
        by_lits (l ∷ ls) h =
            and_from (has_id f.frame.fanins.items l.net.0) (list_all (λ (k : Lit). has_id f.frame.fanins.items k.net.0) ls)
            (h l.net.0 (or_left (nat_eq l.net.0 l.net.0) (cube_reads ls l.net.0) (eq-eqb l.net.0 l.net.0 refl)))
            (by_lits ls (λ m r. h m (or_right (nat_eq l.net.0 m) (cube_reads ls m) r)))

        by_lines : (ls : List Line) → ((m : ℕ) → cover_reads (record { lines = ls; default = None }) m ≡ true → has_id f.frame.fanins.items m ≡ true)
            → reads_among f.frame.fanins.items (record { lines = ls; default = None }) ≡ true
        by_lines [] h = refl
        by_lines (l ∷ ls) h =
            and_from (list_all (λ (k : Lit). has_id f.frame.fanins.items k.net.0) l.cube)
            (reads_among f.frame.fanins.items (record { lines = ls; default = None }))
            (by_lits l.cube (λ m r. h m (or_left (cube_reads l.cube m) (cover_reads (record { lines = ls; default = None }) m) r)))
            (by_lines ls (λ m r. h m (or_right (cube_reads l.cube m) (cover_reads (record { lines = ls; default = None }) m) r)))

    pub verdict_told : (old : Cover) → table_in (slot net.nets n) ≡ Some old → (verdict : Verdict)
        → (reads_among f.frame.fanins.items c ≡ true → IsJudged f.family f.frame c verdict) → IsVerdict net.nets w n old c verdict
    verdict_told old table verdict told = verdict_is old table verdict (told among)
