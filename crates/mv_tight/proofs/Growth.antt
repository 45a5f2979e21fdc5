-- A line grows within the flexibility, net by net, until no value can be put into it.
use Rattle.std.proofs.Common.{◌≡◌, ◌∙◌, ℕ, ◌+◌, ◌<◌, ◌≤◌, true, false, not, ◌||◌, nat_eq, List, [], ◌∷◌, ◌++◌, length, get_or, take, All, Option, is_some, MatchBool, refl, sym, ap, subst, ⊎_elim, arith}
use Rattle.std.specs.List.{list_all}
use Rattle.std.proofs.lemmas.Bool.{cases_Bool, false≢true, or_cases, or_left, or_right, or_parts, and_parts, and_from, eqb-true, eq-eqb, ne_eqb, lt-ltb, ltb-true, not-true, not_from_false, false_from_ne_true, MatchBool-at_true, MatchBool-at_false}
use Rattle.std.proofs.lemmas.List.{take_all, take_more}
use Rattle.std.proofs.lemmas.List.Elements.{All-cons, All-head, All-nil, All-tail}
use Rattle.std.proofs.lemmas.List.Folds.{list_all-append, list_any-append, list_any_at}
use Rattle.mv_base.specs.Set.{has, one, join, minus, full, empty}
use Rattle.mv_base.proofs.Sets.{has-empty, has-full, has-join, has-minus, has-one, same_set}
use Rattle.mv_cover.specs.Literal.{Lit}
use Rattle.mv_cover.specs.Cubes.{holds, matches, IsCube}
use Rattle.mv_cover.specs.Covers.{cube_reads}
use Rattle.mv_cover.specs.declared.line.Line.{Line}
use Rattle.mv_cover.proofs.Meets.{Rises, Rises-cube}
use Rattle.mv_flex.specs.Flex.{IsOverFanins, LineInFlex, LineInFlexWith, literals_beside}
use Rattle.mv_net.specs.Formed.{AllLiterals, IsLiteral}
use Rattle.mv_net.specs.Index.{is_held}
use Rattle.mv_net.specs.Nets.{slot, values_in, reads_in}
use Rattle.mv_net.specs.declared.parts.FlatNet.{FlatNet}
use Rattle.mv_net.specs.declared.window.Window.{Window}
use Rattle.mv_tight.proofs.Putting.{all_put, beside_all, down, some_put, up}
use Rattle.mv_tight.proofs.Some.{cube_within, literal_chain, literal_same, some_chain, some_same}
use Rattle.mv_tight.specs.Growing.{joined, put_in, AreGrown, IsFullLiteral, IsGrownAt, IsGrownWhole, IsUnderGrowth}
use Rattle.mv_tight.specs.Tight.{with_value, AreSome, IsGrownLiteral}

-- ---- literals as lists

pub all_literals : (nets : List (Option FlatNet)) (c : List Lit) → AllLiterals nets c → All (IsLiteral nets) c
all_literals nets [] a = All-nil (IsLiteral nets)
all_literals nets (l ∷ ls) a = All-cons (IsLiteral nets) l ls a.0 (all_literals nets ls a.1)

pub literals_all : (nets : List (Option FlatNet)) (c : List Lit) → All (IsLiteral nets) c → AllLiterals nets c
literals_all nets [] a = tt
literals_all nets (l ∷ ls) a = (All-head (IsLiteral nets) l ls a, literals_all nets ls (All-tail (IsLiteral nets) l ls a))

all_both : (P Q R : Lit → Type 0) → ((l : Lit) → P l → Q l → R l) → (c : List Lit) → All P c → All Q c → All R c
all_both P Q R f [] p q = All-nil R
all_both P Q R f (l ∷ ls) p q = All-cons R l ls (f l (All-head P l ls p) (All-head Q l ls q)) (all_both P Q R f ls (All-tail P l ls p) (All-tail Q l ls q))

pub literal_held : (nets : List (Option FlatNet)) (c : List Lit) (i : ℕ) (l : Lit) → i < length c → l ≡ get_or c i l → AllLiterals nets c → is_held nets l.net.0 ≡ true
literal_held nets c i l low is a =
    let lit : IsLiteral nets l = subst (IsLiteral nets) (sym is) (all_literals nets c a i l low) in
    ap is_some lit.readable.held

-- ---- cubes in parts

at_split : (P : Lit → Type 0) (front : List Lit) (l : Lit) (back : List Lit) → All P (front ++ l ∷ back) → P l
at_split P [] l back a = All-head P l back a
at_split P (x ∷ front) l back a = at_split P front l back (All-tail P x (front ++ l ∷ back) a)

-- where no literal is on the net, all hold
without_on : (m : ℕ) (at : ℕ → ℕ) (c : List Lit) → cube_reads c m ≡ false → list_all (λ (k : Lit). nat_eq k.net.0 m || holds at k) c ≡ true → matches at c ≡ true
without_on m at [] none h = refl
without_on m at (l ∷ ls) none h =
    let parts = or_parts (nat_eq l.net.0 m) (cube_reads ls m) none in
    let both = and_parts (nat_eq l.net.0 m || holds at l) (list_all (λ (k : Lit). nat_eq k.net.0 m || holds at k) ls) h in
    and_from (holds at l) (matches at ls)
    (⊎_elim
    (λ (y : nat_eq l.net.0 m ≡ true). absurd (false≢true (sym parts.0 ∙ y)))
    (λ (k : holds at l ≡ true). k)
    (or_cases (nat_eq l.net.0 m) (holds at l) both.0))
    (without_on m at ls parts.1 both.1)

rises_apart : (k m : ℕ) (c : List Lit) → Rises k c → m < k → cube_reads c m ≡ false
rises_apart k m [] r low = refl
rises_apart k m (l ∷ ls) r low =
    let here : nat_eq l.net.0 m ≡ false = ne_eqb l.net.0 m (λ e. omega (arith, e, r.0, low)) in
    let rest : cube_reads ls m ≡ false = rises_apart (l.net.0 + 1) m ls r.1 (omega (arith, r.0, low)) in
    λ i. here i || rest i

rises_low : (k : ℕ) (front : List Lit) (l : Lit) (back : List Lit) → Rises k (front ++ l ∷ back) → k ≤ l.net.0
rises_low k [] l back r = r.0
rises_low k (x ∷ front) l back r = let h : x.net.0 + 1 ≤ l.net.0 = rises_low (x.net.0 + 1) front l back r.1 in omega (arith, r.0, h)

front_apart : (k : ℕ) (front : List Lit) (l : Lit) (back : List Lit) → Rises k (front ++ l ∷ back) → cube_reads front l.net.0 ≡ false
front_apart k [] l back r = refl
front_apart k (x ∷ front) l back r =
    let h : x.net.0 + 1 ≤ l.net.0 = rises_low (x.net.0 + 1) front l back r.1 in
    let here : nat_eq x.net.0 l.net.0 ≡ false = ne_eqb x.net.0 l.net.0 (λ e. omega (arith, e, h)) in
    let rest : cube_reads front l.net.0 ≡ false = front_apart (x.net.0 + 1) front l back r.1 in
    λ i. here i || rest i

back_apart : (k : ℕ) (front : List Lit) (l : Lit) (back : List Lit) → Rises k (front ++ l ∷ back) → cube_reads back l.net.0 ≡ false
back_apart k [] l back r = rises_apart (l.net.0 + 1) l.net.0 back r.1 (omega arith)
back_apart k (x ∷ front) l back r = back_apart (x.net.0 + 1) front l back r.1

-- ---- one net

module _ (nets : List (Option FlatNet)) (w : Window) (n : ℕ) where
  -- what a flexibility says of the values that are blocked
  pub grown_at : (m : ℕ) (old new : Line) (blocked : ℕ) → ((u : ℕ) → MatchBool (has blocked u) (LineInFlexWith nets w n old m u → ⊥) (LineInFlexWith nets w n old m u)) → new.cube ≡ put_in m (minus (full (values_in (slot nets m))) blocked) (full (values_in (slot nets m))) old.cube → new.out ≡ old.out → IsGrownAt nets w n m old new
  grown_at m old new blocked says cube out = record {
    values = minus (full (values_in (slot nets m))) blocked;
    cube = cube;
    out = out;
    low = λ u h. ltb-true u (values_in (slot nets m)) (sym (has-full (values_in (slot nets m)) u) ∙ (parts u h).0);
    may = λ u h. MatchBool-at_false (LineInFlexWith nets w n old m u → ⊥) (LineInFlexWith nets w n old m u) (not-true (has blocked u) (parts u h).1) (says u);
    must = λ u low h.
        MatchBool-at_true (LineInFlexWith nets w n old m u → ⊥) (LineInFlexWith nets w n old m u)
        (⊎_elim
        (λ (y : has blocked u ≡ true). y)
        (λ (f : has blocked u ≡ false).
        absurd
        (false≢true
        (sym h ∙ has-minus (full (values_in (slot nets m))) blocked u
        ∙ and_from (has (full (values_in (slot nets m))) u) (not (has blocked u)) (has-full (values_in (slot nets m)) u ∙ lt-ltb u (values_in (slot nets m)) low) (not_from_false (has blocked u) f))))
        (cases_Bool (has blocked u)))
        (says u);
  }
    where
      parts : (u : ℕ) → has (minus (full (values_in (slot nets m))) blocked) u ≡ true → (has (full (values_in (slot nets m))) u ≡ true) × (not (has blocked u) ≡ true)
      parts u h = and_parts (has (full (values_in (slot nets m))) u) (not (has blocked u)) (sym (has-minus (full (values_in (slot nets m))) blocked u) ∙ h)

  -- the line that has grown at one net is within the flexibility
  still_inside : (m : ℕ) (old new : Line) → reads_in nets n m ≡ true → LineInFlex nets w n old → IsGrownAt nets w n m old new → LineInFlex nets w n new
  still_inside m old new reads inside g = record {
    each = λ at v pair h o.
        let whole : has (full (values_in (slot nets m))) (at m) ≡ true =
        has-full (values_in (slot nets m)) (at m) ∙ lt-ltb (at m) (values_in (slot nets m)) (pair.point.fanins m reads) in
        let parts = down m g.values (full (values_in (slot nets m))) at old.cube whole (ap (matches at) (sym g.cube) ∙ h) in
        let gives : has old.out v ≡ true = ap (λ s. has s v) (sym g.out) ∙ o in
        ⊎_elim
        (λ (a : has g.values (at m) ≡ true). (g.may (at m) a).each at v pair refl (beside_all m at old.cube ∙ parts.0) gives)
        (λ (b : matches at old.cube ≡ true). inside.each at v pair b gives)
        parts.1;
  }

  -- what could not be put into the line can't be put into it when it has grown
  still_full : (m k u : ℕ) (old new : Line) → IsGrownAt nets w n m old new → LineInFlexWith nets w n new k u → LineInFlexWith nets w n old k u
  still_full m k u old new g all = record {
    each = λ at v pair e h o.
        all.each at v pair e
        (ap (λ c. matches at (literals_beside k c)) g.cube ∙ beside_all k at (put_in m g.values (full (values_in (slot nets m))) old.cube)
        ∙ up m g.values (full (values_in (slot nets m))) k at old.cube (sym (beside_all k at old.cube) ∙ h))
        (ap (λ s. has s v) g.out ∙ o);
  }

  more_literal : (m values : ℕ) (l : Lit) → ((u : ℕ) → has values u ≡ true → u < values_in (slot nets m)) → IsLiteral nets l → nat_eq l.net.0 m ≡ true → nat_eq (join l.set values) (full (values_in (slot nets m))) ≡ false → IsLiteral nets (joined values l)
  more_literal m values l low is here lacks =
      let e : l.net.0 ≡ m = eqb-true l.net.0 m here in
      record {
        readable = is.readable;
        set = record {
          some = λ none.
              is.set.some
              (none_of l.set (λ v h. false≢true (sym (has-empty v) ∙ ap (λ s. has s v) (sym none) ∙ has-join l.set values v ∙ or_left (has l.set v) (has values v) h)));
          within = λ v h.
              ⊎_elim
              (λ (a : has l.set v ≡ true). is.set.within v a)
              (λ (b : has values v ≡ true). has-full (values_in (slot nets l.net.0)) v ∙ lt-ltb v (values_in (slot nets l.net.0)) (subst (λ k. v < values_in (slot nets k)) (sym e) (low v b)))
              (or_cases (has l.set v) (has values v) (sym (has-join l.set values v) ∙ h));
        };
        not_full = λ all.
            false≢true (sym lacks ∙ eq-eqb (join l.set values) (full (values_in (slot nets m))) (all ∙ ap (λ k. full (values_in (slot nets k))) e));
      }
    where
      none_of : (s : ℕ) → ((v : ℕ) → has s v ≡ true → ⊥) → s ≡ empty
      none_of s none = same_set s empty (λ v. false_from_ne_true (has s v) (none v) ∙ sym (has-empty v))

  -- ---- net by net

  pub growth_begun : (l new : Line) → new ≡ l → LineInFlex nets w n l → AllLiterals nets l.cube → IsUnderGrowth nets w n l new 0
  growth_begun l new e inside literals =
      subst (λ k. IsUnderGrowth nets w n l k 0) (sym e)
      (record {
        out = refl;
        inside = inside;
        cube = some_same IsGrownLiteral literal_same l.cube;
        literals = all_literals nets l.cube literals;
        full = all_both (IsLiteral nets) (IsLiteral nets) (λ (lit : Lit). cube_reads (take 0 l.cube) lit.net.0 ≡ true → IsFullLiteral nets w n l lit) (λ lit p q read. absurd (false≢true read)) l.cube (all_literals nets l.cube literals) (all_literals nets l.cube literals);
      })

  pub growth_more : (l old new : Line) (i : ℕ) (lit : Lit) → i < length l.cube → lit ≡ get_or l.cube i lit → IsOverFanins nets n (cube_reads l.cube) → IsUnderGrowth nets w n l old i → (reads_in nets n lit.net.0 ≡ true → IsOverFanins nets n (cube_reads old.cube) → IsGrownAt nets w n lit.net.0 old new) → IsUnderGrowth nets w n l new (i + 1)
  growth_more l old new i lit low is over under grown = record {
    out = g.out ∙ under.out;
    inside = still_inside lit.net.0 old new reads under.inside g;
    cube =
        some_chain IsGrownLiteral literal_chain l.cube old.cube new.cube under.cube
        (subst (AreSome IsGrownLiteral old.cube) (sym g.cube) (some_put lit.net.0 g.values (full (values_in (slot nets lit.net.0))) old.cube));
    literals =
        subst (All (IsLiteral nets)) (sym g.cube)
        (all_put lit.net.0 g.values (full (values_in (slot nets lit.net.0))) (IsLiteral nets) (IsLiteral nets) (λ k a other. a) (λ k a here lacks. more_literal lit.net.0 g.values k g.low a here lacks) old.cube under.literals);
    full =
        subst (All (λ (k : Lit). cube_reads (take (i + 1) l.cube) k.net.0 ≡ true → IsFullLiteral nets w n new k)) (sym g.cube)
        (all_put lit.net.0 g.values (full (values_in (slot nets lit.net.0))) (λ (k : Lit). cube_reads (take i l.cube) k.net.0 ≡ true → IsFullLiteral nets w n old k)
        (λ (k : Lit). cube_reads (take (i + 1) l.cube) k.net.0 ≡ true → IsFullLiteral nets w n new k)
        (λ k before apart read u small lacks all_in.
        before (earlier k.net.0 apart read) u small lacks (still_full lit.net.0 k.net.0 u old new g all_in))
        (λ k before here lacks read u small lacks_u all_in.
        let e : k.net.0 ≡ lit.net.0 = eqb-true k.net.0 lit.net.0 here in
        g.must u (subst (λ j. u < values_in (slot nets j)) e small)
        (false_from_ne_true (has g.values u) (λ y. false≢true (sym lacks_u ∙ has-join k.set g.values u ∙ or_right (has k.set u) (has g.values u) y)))
        (subst (λ j. LineInFlexWith nets w n old j u) e (still_full lit.net.0 k.net.0 u old new g all_in)))
        old.cube under.full);
  }
    where
      read_here : cube_reads l.cube lit.net.0 ≡ true
      read_here = list_any_at (λ (k : Lit). nat_eq k.net.0 lit.net.0) l.cube i lit low (ap (λ (k : Lit). nat_eq k.net.0 lit.net.0) (sym is) ∙ eq-eqb lit.net.0 lit.net.0 refl)

      reads : reads_in nets n lit.net.0 ≡ true
      reads = over.fanins lit.net.0 read_here

      g : IsGrownAt nets w n lit.net.0 old new
      g = grown reads (record { fanins = λ k h. over.fanins k (cube_within l.cube old.cube under.cube k h) })

      earlier : (k : ℕ) → nat_eq k lit.net.0 ≡ false → cube_reads (take (i + 1) l.cube) k ≡ true → cube_reads (take i l.cube) k ≡ true
      earlier k apart read =
          let split : take (i + 1) l.cube ≡ take i l.cube ++ lit ∷ [] = take_more l.cube i lit low ∙ (λ j. take i l.cube ++ sym is j ∷ []) in
          ⊎_elim
          (λ (a : cube_reads (take i l.cube) k ≡ true). a)
          (λ (b : (nat_eq lit.net.0 k || false) ≡ true).
          ⊎_elim
          (λ (y : nat_eq lit.net.0 k ≡ true). absurd (false≢true (sym apart ∙ eq-eqb k lit.net.0 (sym (eqb-true lit.net.0 k y)))))
          (λ (no_more : false ≡ true). absurd (false≢true no_more))
          (or_cases (nat_eq lit.net.0 k) false b))
          (or_cases (cube_reads (take i l.cube) k) (cube_reads (lit ∷ []) k) (sym (list_any-append (λ (j : Lit). nat_eq j.net.0 k) (take i l.cube) (lit ∷ [])) ∙ ap (λ c. cube_reads c k) (sym split) ∙ read))

  pub growth_done : (l new : Line) (i : ℕ) → length l.cube ≤ i → IsCube new.cube → IsUnderGrowth nets w n l new i → IsGrownWhole nets w n l new
  growth_done l new i past is under = record {
    formed = is;
    out = under.out;
    inside = under.inside;
    cube = under.cube;
    literals = under.literals;
    full = record {
      none = λ front lit back u split low lacks more.
          let rises : Rises 0 (front ++ lit ∷ back) = subst (Rises 0) split (Rises-cube new.cube is.ascending) in
          let here : cube_reads new.cube lit.net.0 ≡ true =
          ap (λ c. cube_reads c lit.net.0) split ∙ list_any-append (λ (k : Lit). nat_eq k.net.0 lit.net.0) front (lit ∷ back)
          ∙ or_right (cube_reads front lit.net.0) (cube_reads (lit ∷ back) lit.net.0)
          (or_left (nat_eq lit.net.0 lit.net.0) (cube_reads back lit.net.0) (eq-eqb lit.net.0 lit.net.0 refl)) in
          let old_reads : cube_reads (take i l.cube) lit.net.0 ≡ true =
          ap (λ c. cube_reads c lit.net.0) (take_all i l.cube past) ∙ cube_within l.cube new.cube under.cube lit.net.0 here in
          at_split (λ (k : Lit). cube_reads (take i l.cube) k.net.0 ≡ true → IsFullLiteral nets w n new k) front lit back
          (subst (All (λ (k : Lit). cube_reads (take i l.cube) k.net.0 ≡ true → IsFullLiteral nets w n new k)) split under.full) old_reads u low lacks
          (record {
            each = λ at v pair e h o.
                let tests =
                and_parts (list_all (λ (k : Lit). nat_eq k.net.0 lit.net.0 || holds at k) front) (list_all (λ (k : Lit). nat_eq k.net.0 lit.net.0 || holds at k) (lit ∷ back))
                (sym (list_all-append (λ (k : Lit). nat_eq k.net.0 lit.net.0 || holds at k) front (lit ∷ back))
                ∙ ap (list_all (λ (k : Lit). nat_eq k.net.0 lit.net.0 || holds at k)) (sym split) ∙ sym (beside_all lit.net.0 at new.cube) ∙ h) in
                let back_tests = (and_parts (nat_eq lit.net.0 lit.net.0 || holds at lit) (list_all (λ (k : Lit). nat_eq k.net.0 lit.net.0 || holds at k) back) tests.1).1 in
                more.each at v pair
                (list_all-append (holds at) front (with_value lit u ∷ back)
                ∙ and_from (matches at front) (matches at (with_value lit u ∷ back)) (without_on lit.net.0 at front (front_apart 0 front lit back rises) tests.0)
                (and_from (holds at (with_value lit u)) (matches at back)
                (has-join lit.set (one u) (at lit.net.0) ∙ or_right (has lit.set (at lit.net.0)) (has (one u) (at lit.net.0)) (has-one u (at lit.net.0) ∙ eq-eqb (at lit.net.0) u e))
                (without_on lit.net.0 at back (back_apart 0 front lit back rises) back_tests)))
                o;
          });
    };
  }

-- ---- all lines

pub are_more : (nets : List (Option FlatNet)) (w : Window) (n : ℕ) (ls gs : List Line) (l g : Line) → AreGrown nets w n ls gs → IsGrownWhole nets w n l g → AreGrown nets w n (ls ++ l ∷ []) (gs ++ g ∷ [])
are_more nets w n [] [] l g a whole = (whole, tt)
are_more nets w n [] (y ∷ ys) l g a whole = absurd a
are_more nets w n (x ∷ xs) [] l g a whole = absurd a
are_more nets w n (x ∷ xs) (y ∷ ys) l g a whole = (a.0, are_more nets w n xs ys l g a.1 whole)

pub grown_more : (nets : List (Option FlatNet)) (w : Window) (n : ℕ) (ls gs new : List Line) (i : ℕ) (l g : Line) → i < length ls → l ≡ get_or ls i l → AreGrown nets w n (take i ls) gs → IsGrownWhole nets w n l g → new ≡ gs ++ g ∷ [] → AreGrown nets w n (take (i + 1) ls) new
grown_more nets w n ls gs new i l g low is a whole e =
    subst (AreGrown nets w n (take (i + 1) ls)) (sym e)
    (subst (λ k. AreGrown nets w n k (gs ++ g ∷ [])) (sym (take_more ls i l low ∙ (λ j. take i ls ++ sym is j ∷ []))) (are_more nets w n (take i ls) gs l g a whole))
