-- What lines and tables say of nets, for what is known of others.
use Rattle.std.proofs.Common.{◌≡◌, ◌∙◌, ℕ, ◌+◌, ◌<◌, ◌≤◌, Bool, true, false, ◌&&◌, ◌||◌, not, nat_eq, nat_lt, List, [], ◌∷◌, length, get_or, set, take, Option, Some, None, is_some, MatchOption, refl, sym, ap, subst, ⊎_elim, eqb-true, arith}
use Rattle.std.specs.List.{list_any}
use Rattle.std.proofs.Math.Bool.{or-false, and-false}
use Rattle.std.proofs.lemmas.Bool.{cases_Bool, cases_eq, cases_order, and_parts, or_left, or_right, or_cases, false≢true, not-true, ltb-true}
use Rattle.std.proofs.lemmas.List.{take_all}
use Rattle.mv_base.specs.declared.number.NetId.{NetId}
use Rattle.mv_base.specs.declared.number.Value.{Value}
use Rattle.mv_base.specs.Set.{has}
use Rattle.mv_graph.specs.Sorting.{net_at}
use Rattle.mv_graph.proofs.Columns.{id_at}
use Rattle.mv_cover.specs.Literal.{Lit}
use Rattle.mv_cover.specs.Cubes.{holds, matches}
use Rattle.mv_cover.specs.Covers.{cube_reads, lines_read, cover_reads, some_matches, some_gives, default_gives, allowed}
use Rattle.mv_cover.specs.declared.line.Line.{Line}
use Rattle.mv_cover.specs.declared.cover.Cover.{Cover}
use Rattle.mv_net.specs.declared.parts.FlatNet.{FlatNet}
use Rattle.mv_net.specs.Nets.{slot, values_in, table_in, table_reads, net_reads, reads_in}
use Rattle.mv_net.specs.Index.{is_held}
use Rattle.mv_net.specs.Allowed.{net_allows, net_table_allows, Agrees}
use Rattle.mv_net.specs.Order.{IsOrder}
use Rattle.mv_solve.specs.declared.asked.Asked.{Asked}
use Rattle.mv_solve.specs.declared.asked.Asked.TheVariants.{Only}
use Rattle.mv_solve.specs.Asked.{takes, asked_of}
use Rattle.mv_solve.specs.First.{IsFirst}
use Rattle.mv_solve.specs.Known.{may_match, must_match, may_give, Knows, IsKnown, IsTold, IsMatch, IsNoMatch, RefusesFrom, IsOnly, IsOnlyValue, IsOpen, IsOnlyLine, AreReadsHeld}
use Rattle.mv_solve.proofs.Firsts.{gives_more, matches_more}
use Rattle.mv_solve.proofs.Orders.{has_first, has_at, reads_before}
use Rattle.mv_solve.proofs.Knowing.{knows_less, may_false, must_true, line_read, line_fails, known_more, known_then}

-- ---- the values that the lines can't give

-- no line up to a place gives a value from `start` on and below `first`, and where that is sure, one of them holds
pub record IsPassed (known : List Asked) (ls : List Line) (i start end first : ℕ) (sure : Bool) : Type 0 where
  pub within : first ≤ end
  pub none : (to : ℕ → ℕ) → Knows (lines_read ls) known to → (v : ℕ) → start ≤ v → v < first → some_gives to v (take i ls) ≡ false
  pub some : sure ≡ true → (to : ℕ → ℕ) → Knows (lines_read ls) known to → some_matches to (take i ls) ≡ true

-- what is known of the nets of lines is known of those of one
pub knows_line : (known : List Asked) (ls : List Line) (i : ℕ) (l : Line) (to : ℕ → ℕ) → i < length ls → l ≡ get_or ls i l → Knows (lines_read ls) known to → Knows (cube_reads l.cube) known to
knows_line known ls i l to lt is k = knows_less (cube_reads l.cube) (lines_read ls) known to (λ m h. line_read ls i l l m lt is h) k

some_stays : (to : ℕ → ℕ) (ls : List Line) (i : ℕ) (l : Line) → i < length ls → l ≡ get_or ls i l → some_matches to (take i ls) ≡ true → some_matches to (take (i + 1) ls) ≡ true
some_stays to ls i l lt is h = matches_more to ls i l lt is ∙ or_left (some_matches to (take i ls)) (matches to l.cube) h

-- a line that can't hold
pub passed_not : (known : List Asked) (ls : List Line) (i : ℕ) (l : Line) (start end first : ℕ) (sure : Bool) → i < length ls → l ≡ get_or ls i l → IsPassed known ls i start end first sure → may_match known l.cube ≡ false → IsPassed known ls (i + 1) start end first sure
passed_not known ls i l start end first sure lt is p fails = record {
  within = p.within;
  none = λ to k v low less.
      let not_so = may_false known l.cube to (knows_line known ls i l to lt is k) fails in
      gives_more to v ls i l lt is ∙ (ap (λ b. some_gives to v (take i ls) || (b && has l.out v)) not_so ∙ (or-false (some_gives to v (take i ls)) ∙ p.none to k v low less));
  some = λ e to k. some_stays to ls i l lt is (p.some e to k);
}

-- a line that may hold, and one that does
pub passed_may : (known : List Asked) (ls : List Line) (i : ℕ) (l : Line) (start end first next : ℕ) (sure : Bool) → i < length ls → l ≡ get_or ls i l → IsPassed known ls i start end first sure → IsFirst (has l.out) start first next → IsPassed known ls (i + 1) start end next sure
passed_may known ls i l start end first next sure lt is p f = record {
  within = omega (arith, f.within, p.within);
  none = λ to k v low less.
      gives_more to v ls i l lt is ∙ (ap (λ b. b || (matches to l.cube && has l.out v)) (p.none to k v low (omega (arith, f.within))) ∙ (ap (λ b. matches to l.cube && b) (f.none v low less) ∙ and-false (matches to l.cube)));
  some = λ e to k. some_stays to ls i l lt is (p.some e to k);
}

pub passed_must : (known : List Asked) (ls : List Line) (i : ℕ) (l : Line) (start end first next : ℕ) (sure : Bool) → i < length ls → l ≡ get_or ls i l → IsPassed known ls i start end first sure → IsFirst (has l.out) start first next → must_match known l.cube ≡ true → IsPassed known ls (i + 1) start end next true
passed_must known ls i l start end first next sure lt is p f must =
    let q = passed_may known ls i l start end first next sure lt is p f in
    record {
      within = q.within;
      none = q.none;
      some = λ e to k. matches_more to ls i l lt is ∙ or_right (some_matches to (take i ls)) (matches to l.cube) (must_true known l.cube to (knows_line known ls i l to lt is k) must);
    }

-- at the end of the lines
passed_none : (known : List Asked) (ls : List Line) (i start end first : ℕ) (sure : Bool) → length ls ≤ i → IsPassed known ls i start end first sure → (to : ℕ → ℕ) → Knows (lines_read ls) known to → (v : ℕ) → start ≤ v → v < first → some_gives to v ls ≡ false
passed_none known ls i start end first sure past p to k v low less = ap (some_gives to v) (sym (take_all i ls past)) ∙ p.none to k v low less

knows_same : (known : List Asked) (c : Cover) (ls : List Line) (to : ℕ → ℕ) → ls ≡ c.lines → Knows (cover_reads c) known to → Knows (lines_read ls) known to
knows_same known c ls to is k = let P : List Line → Type 0 = λ xs. Knows (lines_read xs) known to in subst P (sym is) k

pub refuses_met : (known : List Asked) (c : Cover) (ls : List Line) (i start end first : ℕ) (sure : Bool) → ls ≡ c.lines → length ls ≤ i → sure ≡ true → IsPassed known ls i start end first sure → RefusesFrom known c start first
unfolding allowed
refuses_met known c ls i start end first sure is past e p = record {
  none = λ to k v low less.
      let kl = knows_same known c ls to is k in
      let none : some_gives to v c.lines ≡ false = ap (some_gives to v) (sym is) ∙ passed_none known ls i start end first sure past p to kl v low less in
      let some : some_matches to c.lines ≡ true = ap (some_matches to) (sym is) ∙ (ap (some_matches to) (sym (take_all i ls past)) ∙ p.some e to kl) in
      ap (λ b. b || (not (some_matches to c.lines) && default_gives c.default v)) none ∙ ap (λ b. not b && default_gives c.default v) some;
}

pub refuses_default : (known : List Asked) (c : Cover) (ls : List Line) (i start end first next out : ℕ) (sure : Bool) → ls ≡ c.lines → length ls ≤ i → c.default ≡ Some out → IsPassed known ls i start end first sure → IsFirst (has out) start first next → RefusesFrom known c start next
unfolding allowed
refuses_default known c ls i start end first next out sure is past d p f = record {
  none = λ to k v low less.
      let kl = knows_same known c ls to is k in
      let none : some_gives to v c.lines ≡ false = ap (some_gives to v) (sym is) ∙ passed_none known ls i start end first sure past p to kl v low (omega (arith, f.within)) in
      let not_so : default_gives c.default v ≡ false = ap (λ (o : Option ℕ). default_gives o v) d ∙ f.none v low less in
      ap (λ b. b || (not (some_matches to c.lines) && default_gives c.default v)) none ∙ (ap (λ b. not (some_matches to c.lines) && b) not_so ∙ and-false (not (some_matches to c.lines)));
}

pub refuses_bare : (known : List Asked) (c : Cover) (ls : List Line) (i start end first : ℕ) (sure : Bool) → ls ≡ c.lines → length ls ≤ i → c.default ≡ None → IsPassed known ls i start end first sure → RefusesFrom known c start first
unfolding allowed
refuses_bare known c ls i start end first sure is past d p = record {
  none = λ to k v low less.
      let kl = knows_same known c ls to is k in
      let none : some_gives to v c.lines ≡ false = ap (some_gives to v) (sym is) ∙ passed_none known ls i start end first sure past p to kl v low less in
      let not_so : default_gives c.default v ≡ false = ap (λ (o : Option ℕ). default_gives o v) d in
      ap (λ b. b || (not (some_matches to c.lines) && default_gives c.default v)) none ∙ (ap (λ b. not (some_matches to c.lines) && b) not_so ∙ and-false (not (some_matches to c.lines)));
}

-- where each value but one is refused it is the only one
pub only_found : (f : Option FlatNet) (known : List Asked) (c : Cover) (count first next : ℕ) → is_some f ≡ true → count ≡ values_in f → Some c ≡ table_in f → RefusesFrom known c 0 first → RefusesFrom known c (first + 1) next → count ≤ next → (to : ℕ → ℕ) → Knows (net_reads f) known to → (w : ℕ) → net_allows f to w ≡ true → w ≡ first
only_found None known c count first next held counts is low high past to k w may = absurd (false≢true held)
only_found (Some f) known c count first next held counts is low high past to k w may =
    let p = and_parts (nat_lt w f.values) (net_table_allows f.table to w) may in
    let few : w < f.values = ltb-true w f.values p.0 in
    let P : Option Cover → Type 0 = λ t. net_table_allows t to w ≡ true in
    let yes : allowed c to w ≡ true = subst P (sym is) p.1 in
    let Q : Option Cover → Type 0 = λ t. Knows (table_reads t) known to in
    let kc : Knows (cover_reads c) known to = subst Q (sym is) k in
    ⊎_elim
    (λ (e : w ≡ first). e)
    (⊎_elim
    (λ (l : w < first). absurd (false≢true (sym (low.none to kc w (omega arith) l) ∙ yes)))
    (λ (g : first < w). absurd (false≢true (sym (high.none to kc w (omega arith) (omega (arith, few, counts))) ∙ yes))))
    (cases_order w first)

-- a value that a net has in an assignment is one of its values
pub low_value : (f : Option FlatNet) (to : ℕ → ℕ) (v : ℕ) → is_some f ≡ true → net_allows f to v ≡ true → v < values_in f
low_value None to v held may = absurd (false≢true held)
low_value (Some f) to v held may = ltb-true v f.values (and_parts (nat_lt v f.values) (net_table_allows f.table to v) may).0

-- the only value that is left to a literal's net
pub told_value : (nets : List (Option FlatNet)) (known : List Asked) (l : Lit) (b : Bool) (count v : ℕ) (to : ℕ → ℕ) → is_held nets l.net.0 ≡ true → count ≡ values_in (slot nets l.net.0) → IsTold nets known l b → IsOnlyValue (has l.set) b count v → Agrees nets to → Knows (is_held nets) known to → to l.net.0 ≡ v
told_value nets known l b count v to held counts t o g k =
    let low = low_value (slot nets l.net.0) to (to l.net.0) held (g.each l.net.0) in
    o.only (to l.net.0) (omega (arith, low, counts)) (t.told to g k)

-- ---- the only value that passes

-- no value below `count` does
pub record IsNoValue (test : ℕ → Bool) (b : Bool) (count : ℕ) : Type 0 where
  pub none : (u : ℕ) → u < count → test u ≡ b → ⊥

pub no_value_more : (test : ℕ → Bool) (b : Bool) (count : ℕ) → (test count ≡ b → ⊥) → IsNoValue test b count → IsNoValue test b (count + 1)
no_value_more test b count fails p = record {
  none = λ u less e.
      ⊎_elim
      (λ (here : u ≡ count). fails (ap test (sym here) ∙ e))
      (λ (ne : u ≡ count → ⊥). p.none u (omega arith) e)
      (cases_eq u count);
}

pub only_value_more : (test : ℕ → Bool) (b : Bool) (count v : ℕ) → (test count ≡ b → ⊥) → IsOnlyValue test b count v → IsOnlyValue test b (count + 1) v
only_value_more test b count v fails p = record {
  only = λ u less e.
      ⊎_elim
      (λ (here : u ≡ count). absurd (fails (ap test (sym here) ∙ e)))
      (λ (ne : u ≡ count → ⊥). p.only u (omega arith) e)
      (cases_eq u count);
}

pub first_value : (test : ℕ → Bool) (b : Bool) (count : ℕ) → IsNoValue test b count → IsOnlyValue test b (count + 1) count
first_value test b count p = record {
  only = λ u less e.
      ⊎_elim
      (λ (here : u ≡ count). here)
      (λ (ne : u ≡ count → ⊥). absurd (p.none u (omega arith) e))
      (cases_eq u count);
}

-- ---- the only open literal of a cube

-- of the first literals at most this one is open
pub record IsOpenSoFar (known : List Asked) (cube : List Lit) (i : ℕ) (l : Lit) : Type 0 where
  pub reads : cube_reads cube l.net.0 ≡ true
  pub only : (to : ℕ → ℕ) → Knows (cube_reads cube) known to → holds to l ≡ true → matches to (take i cube) ≡ true

-- the first literals hold
pub record IsShut (known : List Asked) (cube : List Lit) (i : ℕ) : Type 0 where
  pub all : (to : ℕ → ℕ) → Knows (cube_reads cube) known to → matches to (take i cube) ≡ true

-- ---- the only line that may give a value

pub record IsOnlySoFar (known : List Asked) (ls : List Line) (i v : ℕ) (l : Line) : Type 0 where
  pub reads : (m : ℕ) → cube_reads l.cube m ≡ true → lines_read ls m ≡ true
  pub only : (to : ℕ → ℕ) → Knows (lines_read ls) known to → some_gives to v (take i ls) ≡ true → matches to l.cube ≡ true

pub record IsNoneSoFar (known : List Asked) (ls : List Line) (i v : ℕ) : Type 0 where
  pub none : (to : ℕ → ℕ) → Knows (lines_read ls) known to → some_gives to v (take i ls) ≡ false

-- a line that may not give the value adds nothing
give_none : (known : List Asked) (ls : List Line) (i v : ℕ) (l : Line) (to : ℕ → ℕ) → i < length ls → l ≡ get_or ls i l → may_give known v l ≡ false → Knows (lines_read ls) known to → (matches to l.cube && has l.out v) ≡ false
give_none known ls i v l to lt is not_so k =
    ⊎_elim
    (λ (h : has l.out v ≡ true).
    let fails = may_false known l.cube to (knows_line known ls i l to lt is k) (ap (λ b. b && may_match known l.cube) (sym h) ∙ not_so) in
    ap (λ b. b && has l.out v) fails)
    (λ (h : has l.out v ≡ false). ap (λ b. matches to l.cube && b) h ∙ and-false (matches to l.cube))
    (cases_Bool (has l.out v))

pub none_more : (known : List Asked) (ls : List Line) (i v : ℕ) (l : Line) → i < length ls → l ≡ get_or ls i l → may_give known v l ≡ false → IsNoneSoFar known ls i v → IsNoneSoFar known ls (i + 1) v
none_more known ls i v l lt is not_so p = record {
  none = λ to k. gives_more to v ls i l lt is ∙ (ap (λ b. some_gives to v (take i ls) || b) (give_none known ls i v l to lt is not_so k) ∙ (or-false (some_gives to v (take i ls)) ∙ p.none to k));
}

pub one_more : (known : List Asked) (ls : List Line) (i v : ℕ) (l x : Line) → i < length ls → l ≡ get_or ls i l → may_give known v l ≡ false → IsOnlySoFar known ls i v x → IsOnlySoFar known ls (i + 1) v x
one_more known ls i v l x lt is not_so p = record {
  reads = p.reads;
  only = λ to k h. p.only to k (sym (gives_more to v ls i l lt is ∙ (ap (λ b. some_gives to v (take i ls) || b) (give_none known ls i v l to lt is not_so k) ∙ or-false (some_gives to v (take i ls)))) ∙ h);
}

pub first_one : (known : List Asked) (ls : List Line) (i v : ℕ) (l : Line) → i < length ls → l ≡ get_or ls i l → IsNoneSoFar known ls i v → IsOnlySoFar known ls (i + 1) v l
first_one known ls i v l lt is p = record {
  reads = λ m h. line_read ls i l l m lt is h;
  only = λ to k h.
      ⊎_elim
      (λ (before : some_gives to v (take i ls) ≡ true). absurd (false≢true (sym (p.none to k) ∙ before)))
      (λ (here : (matches to l.cube && has l.out v) ≡ true). (and_parts (matches to l.cube) (has l.out v) here).0)
      (or_cases (some_gives to v (take i ls)) (matches to l.cube && has l.out v) (sym (gives_more to v ls i l lt is) ∙ h));
}

pub only_line_all : (known : List Asked) (ls : List Line) (i v : ℕ) (l : Line) → length ls ≤ i → IsOnlySoFar known ls i v l → IsOnlyLine known ls v l
only_line_all known ls i v l past p = record {
  reads = p.reads;
  only = λ to k h. p.only to k (ap (some_gives to v) (take_all i ls past) ∙ h);
}

or_none : (a b : Bool) → (a || b) ≡ false → (a ≡ false) × (b ≡ false)
or_none true b e = absurd (false≢true (sym e))
or_none false b e = (refl, e)

-- no line of these may give the value, so none does
pub gives_none : (known : List Asked) (ls : List Line) (v : ℕ) (to : ℕ → ℕ) → Knows (lines_read ls) known to → list_any (may_give known v) ls ≡ false → some_gives to v ls ≡ false
gives_none known [] v to k none = refl
gives_none known (l ∷ ls) v to k none =
    let p = or_none (may_give known v l) (list_any (may_give known v) ls) none in
    let kr = knows_less (lines_read ls) (lines_read (l ∷ ls)) known to (λ m h. or_right (cube_reads l.cube m) (lines_read ls m) h) k in
    ap (λ b. b || some_gives to v ls) (give_none known (l ∷ ls) 0 v l to (omega arith) refl p.0 k) ∙ gives_none known ls v to kr p.1

-- ---- options

pub none_there : {X : Type 0} (o : Option X) (P : Type 0) (Q : X → Type 0) → is_some o ≡ false → MatchOption o P Q → P
none_there None P Q e m = m
none_there (Some x) P Q e m = absurd (false≢true (sym e))

pub match_more : {X : Type 0} (o : Option X) (P R : Type 0) (Q S : X → Type 0) → (P → R) → ((x : X) → Q x → S x) → MatchOption o P Q → MatchOption o R S
match_more None P R Q S f g m = f m
match_more (Some x) P R Q S f g m = g x m

-- ---- what the value of a net takes

value_told : (known : List Asked) (n : ℕ) (v : Value) (to : ℕ → ℕ) → asked_of known n ≡ Only v → takes (asked_of known n) (to n) ≡ true → to n ≡ v.0
value_told known n v to is t = eqb-true (to n) v.0 (ap (λ a. takes a (to n)) (sym is) ∙ t)

table_has : (f : Option FlatNet) (c : Cover) (to : ℕ → ℕ) (w : ℕ) → is_some f ≡ true → Some c ≡ table_in f → net_allows f to w ≡ true → allowed c to w ≡ true
table_has None c to w held is may = absurd (false≢true held)
table_has (Some f) c to w held is may =
    let P : Option Cover → Type 0 = λ t. net_table_allows t to w ≡ true in
    subst P (sym is) (and_parts (nat_lt w f.values) (net_table_allows f.table to w) may).1

-- the table of a net whose value is known allows it
allows_value : (nets : List (Option FlatNet)) (known : List Asked) (n : ℕ) (v : Value) (c : Cover) (to : ℕ → ℕ) → is_held nets n ≡ true → Some c ≡ table_in (slot nets n) → asked_of known n ≡ Only v → Agrees nets to → Knows (is_held nets) known to → allowed c to v.0 ≡ true
allows_value nets known n v c to held table is g k =
    let P : ℕ → Type 0 = λ w. allowed c to w ≡ true in
    subst P (value_told known n v to is (k.each n held)) (table_has (slot nets n) c to (to n) held table (g.each n))

lines_held : (nets : List (Option FlatNet)) (n : ℕ) (c : Cover) (ls : List Line) (m : ℕ) → Some c ≡ table_in (slot nets n) → ls ≡ c.lines → AreReadsHeld nets → lines_read ls m ≡ true → is_held nets m ≡ true
lines_held nets n c ls m table same r h = r.each n m (ap (λ t. table_reads t m) (sym table) ∙ (ap (λ xs. lines_read xs m) (sym same) ∙ h))

-- only the default gives the value
pub way_by_default : (nets : List (Option FlatNet)) (known : List Asked) (n : ℕ) (v : Value) (c : Cover) (ls : List Line) → is_held nets n ≡ true → Some c ≡ table_in (slot nets n) → ls ≡ c.lines → AreReadsHeld nets → asked_of known n ≡ Only v → list_any (may_give known v.0) ls ≡ false → IsNoMatch nets known ls
unfolding allowed
way_by_default nets known n v c ls held table same r is none = record {
  held = λ m h. lines_held nets n c ls m table same r h;
  told = λ to g k.
      let kl : Knows (lines_read ls) known to = knows_less (lines_read ls) (is_held nets) known to (λ m h. lines_held nets n c ls m table same r h) k in
      let no_line : some_gives to v.0 c.lines ≡ false = ap (some_gives to v.0) (sym same) ∙ gives_none known ls v.0 to kl none in
      let yes : (some_gives to v.0 c.lines || (not (some_matches to c.lines) && default_gives c.default v.0)) ≡ true = allows_value nets known n v c to held table is g k in
      let rest : (not (some_matches to c.lines) && default_gives c.default v.0) ≡ true = ap (λ b. b || (not (some_matches to c.lines) && default_gives c.default v.0)) (sym no_line) ∙ yes in
      ap (some_matches to) same ∙ not-true (some_matches to c.lines) (and_parts (not (some_matches to c.lines)) (default_gives c.default v.0) rest).0;
}

-- only a line does
pub way_by_line : (nets : List (Option FlatNet)) (known : List Asked) (n : ℕ) (v : Value) (c : Cover) (ls : List Line) (l : Line) → is_held nets n ≡ true → Some c ≡ table_in (slot nets n) → ls ≡ c.lines → AreReadsHeld nets → asked_of known n ≡ Only v → default_gives c.default v.0 ≡ false → IsOnlyLine known ls v.0 l → IsMatch nets known l.cube
unfolding allowed
way_by_line nets known n v c ls l held table same r is none only = record {
  held = λ m h. lines_held nets n c ls m table same r (only.reads m h);
  told = λ to g k.
      let kl : Knows (lines_read ls) known to = knows_less (lines_read ls) (is_held nets) known to (λ m h. lines_held nets n c ls m table same r h) k in
      let yes : (some_gives to v.0 c.lines || (not (some_matches to c.lines) && default_gives c.default v.0)) ≡ true = allows_value nets known n v c to held table is g k in
      ⊎_elim
      (λ (h : some_gives to v.0 c.lines ≡ true). only.only to kl (ap (some_gives to v.0) same ∙ h))
      (λ (h : (not (some_matches to c.lines) && default_gives c.default v.0) ≡ true). absurd (false≢true (sym none ∙ (and_parts (not (some_matches to c.lines)) (default_gives c.default v.0) h).1)))
      (or_cases (some_gives to v.0 c.lines) (not (some_matches to c.lines) && default_gives c.default v.0) yes);
}

-- where no line's cube holds, the only open literal of one doesn't
pub open_told : (nets : List (Option FlatNet)) (first known : List Asked) (ls : List Line) (i : ℕ) (l : Line) (cube : List Lit) (o : Lit) → i < length ls → l ≡ get_or ls i l → cube ≡ l.cube → IsKnown nets first known → IsNoMatch nets first ls → IsOpen known cube o → IsTold nets known o false
open_told nets first known ls i l cube o lt is same grown none only = record {
  told = λ to g k.
      let reads : (m : ℕ) → cube_reads cube m ≡ true → is_held nets m ≡ true = λ m h. none.held m (line_read ls i l l m lt is (ap (λ xs. cube_reads xs m) (sym same) ∙ h)) in
      let fails : matches to l.cube ≡ false = line_fails ls i l l to lt is (none.told to g (grown.more to k)) in
      ⊎_elim
      (λ (h : holds to o ≡ true). absurd (false≢true (sym fails ∙ (ap (matches to) (sym same) ∙ only.only to (knows_less (cube_reads cube) (is_held nets) known to reads k) h))))
      (λ (h : holds to o ≡ false). h)
      (cases_Bool (holds to o));
}

pub open_held : (nets : List (Option FlatNet)) (first known : List Asked) (ls : List Line) (i : ℕ) (l : Line) (cube : List Lit) (o : Lit) → i < length ls → l ≡ get_or ls i l → cube ≡ l.cube → IsNoMatch nets first ls → IsOpen known cube o → is_held nets o.net.0 ≡ true
open_held nets first known ls i l cube o lt is same none only = none.held o.net.0 (line_read ls i l l o.net.0 lt is (ap (λ xs. cube_reads xs o.net.0) (sym same) ∙ only.reads))

-- ---- orders

-- what a net of an order reads is held
pub reads_held : (nets : List (Option FlatNet)) (order : List NetId) → IsOrder nets order → AreReadsHeld nets
reads_held nets order o = record {
  each = λ n m r.
      let held : is_held nets n ≡ true = reader_held (slot nets n) m r in
      let p = id_at order n (o.members n ∙ held) in
      let P : ℕ → Type 0 = λ k. reads_in nets k m ≡ true in
      sym (o.members m) ∙ has_first order p.0 m (reads_before nets order p.0 m o (omega (arith, p.1)) (subst P (sym p.2) r));
}
  where
    reader_held : (f : Option FlatNet) (m : ℕ) → net_reads f m ≡ true → is_some f ≡ true
    reader_held None m r = absurd (false≢true r)
    reader_held (Some f) m r = refl

-- a net of an order is held
pub member_held : (nets : List (Option FlatNet)) (order : List NetId) (i : ℕ) → IsOrder nets order → i < length order → is_held nets (net_at order i) ≡ true
member_held nets order i o lt = sym (o.members (net_at order i)) ∙ has_at order i lt

-- the only value that its fanins leave a net
pub only_noted : (nets : List (Option FlatNet)) (order : List NetId) (first known : List Asked) (i v : ℕ) (a : Asked) → IsOrder nets order → i < length order → net_at order i < length known → IsKnown nets first known → IsOnly nets known (net_at order i) v → ((u : ℕ) → takes a u ≡ (takes (asked_of known (net_at order i)) u && nat_eq u v)) → IsKnown nets first (set known (net_at order i) a)
only_noted nets order first known i v a o lt room grown only and =
    let n = net_at order i in
    known_then nets first known (set known n a) grown (known_more nets known n v a room (member_held nets order i o lt) (λ to g k. only.only to (knows_less (reads_in nets n) (is_held nets) known to (λ m r. (reads_held nets order o).each n m r) k) (to n) (g.each n)) and)
