-- When a table allows some value at every point, and which values it can allow.
use Rattle.std.proofs.Common.{◌≡◌, ◌∙◌, ℕ, ◌<◌, ◌≤◌, Bool, true, false, ◌&&◌, not, nat_lt, List, [], ◌∷◌, map, get_or, Option, Some, None, IsTrue, is_some, Result, Ok, Err, IfOk, MatchBool, refl, sym, ap, subst, ⊎_elim, arith}
use Rattle.std.proofs.lemmas.Bool.{cases_Bool, or_cases, or_parts, or_from, or_left, or_right, and_parts, and_from, and_left, and_right, false≢true, ltb-true, lt-ltb}
use Rattle.mv_base.specs.Set.{has, IsSet}
use Rattle.mv_base.specs.declared.limits.TheConstants.{MAX_VALUES}
use Rattle.mv_base.proofs.Lists.{none_from}
use Rattle.mv_base.proofs.Sets.{has-full, least_of}
use Rattle.mv_cover.specs.declared.cover.Cover.{Cover}
use Rattle.mv_cover.specs.declared.line.Line.{Line}
use Rattle.mv_cover.specs.Cubes.{matches}
use Rattle.mv_cover.specs.Covers.{allowed, some_gives, some_matches, default_gives}
use Rattle.mv_cover.specs.Covering.{IsPoint, AreWithin, CoversAll, MissesSome}
use Rattle.mv_cover.specs.Lines.{IsOutput}
use Rattle.mv_net.specs.declared.parts.FlatNet.{FlatNet}
use Rattle.mv_net.specs.declared.parts.NetParts.{NetParts}
use Rattle.mv_net.specs.Nets.{slot, values_in, table_in, table_reads}
use Rattle.mv_net.specs.Formed.{AllLines, IsCover, WellFormed}
use Rattle.mv_net.specs.Allowed.{net_allows, net_table_allows}
use Rattle.mv_net.specs.Total.{AllowsValue, IsTotal, IsTotalNet}
use Rattle.mv_net.proofs.Known.{counts_at, reads_readable, values_some}

-- ---- the values of an output

output_below : (values out v : ℕ) → IsOutput values out → has out v ≡ true → v < values
output_below values out v is h = ltb-true v values (sym (has-full values v) ∙ is.within v h)

-- a value of the set
record HasSome (out : ℕ) : Type 0 where
  pub value : ℕ
  pub has : has out value ≡ true

output_some : (values out : ℕ) → values ≤ MAX_VALUES → IsOutput values out → HasSome out
output_some values out few is =
    let set : IsSet out = record { below = λ v h. let low : v < values = output_below values out v is h in omega arith } in
    let least = least_of out set is.some in
    record { value = least.0; has = least.1.member }

-- ---- a cover allows values of its net alone

-- what a line or the default gives is a value of the net
given_below : (nets : List (Option FlatNet)) (values : ℕ) (at : ℕ → ℕ) (v : ℕ) (ls : List Line) → AllLines nets values ls → some_gives at v ls ≡ true → v < values
given_below nets values at v [] all h = absurd (false≢true h)
given_below nets values at v (l ∷ ls) all h =
    ⊎_elim
    (λ (y : (matches at l.cube && has l.out v) ≡ true). output_below values l.out v all.1 (and_parts (matches at l.cube) (has l.out v) y).1)
    (λ (rest : some_gives at v ls ≡ true). given_below nets values at v ls all.2 rest)
    (or_cases (matches at l.cube && has l.out v) (some_gives at v ls) h)

default_below : (values v : ℕ) (default : Option ℕ) → ((out : ℕ) → default ≡ Some out → IsOutput values out) → default_gives default v ≡ true → v < values
default_below values v None is h = absurd (false≢true h)
default_below values v (Some out) is h = output_below values out v (is out refl) h

pub allowed_below : (nets : List (Option FlatNet)) (values : ℕ) (c : Cover) (at : ℕ → ℕ) (v : ℕ) → IsCover nets values c → allowed c at v ≡ true → v < values
unfolding allowed
allowed_below nets values c at v is h =
    ⊎_elim
    (λ (given : some_gives at v c.lines ≡ true). given_below nets values at v c.lines is.lines given)
    (λ (d : (not (some_matches at c.lines) && default_gives c.default v) ≡ true). default_below values v c.default is.default (and_parts (not (some_matches at c.lines)) (default_gives c.default v) d).1)
    (or_cases (some_gives at v c.lines) (not (some_matches at c.lines) && default_gives c.default v) h)

-- ---- when it allows some value

-- a value that some line gives
record GivesSome (at : ℕ → ℕ) (ls : List Line) : Type 0 where
  pub value : ℕ
  pub gives : some_gives at value ls ≡ true

-- one does, if one matches
gives_some : (nets : List (Option FlatNet)) (values : ℕ) (at : ℕ → ℕ) (ls : List Line) → values ≤ MAX_VALUES → AllLines nets values ls → some_matches at ls ≡ true → GivesSome at ls
gives_some nets values at [] few all h = absurd (false≢true h)
gives_some nets values at (l ∷ ls) few all h =
    ⊎_elim
    (λ (y : matches at l.cube ≡ true).
    let some = output_some values l.out few all.1 in
    record { value = some.value; gives = or_left (matches at l.cube && has l.out some.value) (some_gives at some.value ls) (and_from (matches at l.cube) (has l.out some.value) y some.has) })
    (λ (rest : some_matches at ls ≡ true).
    let some = gives_some nets values at ls few all.2 rest in
    record { value = some.value; gives = or_right (matches at l.cube && has l.out some.value) (some_gives at some.value ls) some.gives })
    (or_cases (matches at l.cube) (some_matches at ls) h)

-- no line gives a value where none matches
none_gives : (at : ℕ → ℕ) (v : ℕ) (ls : List Line) → some_matches at ls ≡ false → some_gives at v ls ≡ false
none_gives at v [] h = refl
none_gives at v (l ∷ ls) h =
    let p = or_parts (matches at l.cube) (some_matches at ls) h in
    or_from (matches at l.cube && has l.out v) (some_gives at v ls) (and_left (matches at l.cube) (has l.out v) p.0) (none_gives at v ls p.1)

allows_matched : (nets : List (Option FlatNet)) (values : ℕ) (c : Cover) (at : ℕ → ℕ) → values ≤ MAX_VALUES → IsCover nets values c → some_matches at c.lines ≡ true → AllowsValue c at
unfolding allowed
allows_matched nets values c at few is h =
    let some = gives_some nets values at c.lines few is.lines h in
    record { value = some.value; is_allowed = or_left (some_gives at some.value c.lines) (not (some_matches at c.lines) && default_gives c.default some.value) some.gives }

-- a cover is total if its lines match every point, or if it has a default
pub IsTotal-covered : (nets : List (Option FlatNet)) (values : ℕ) (c : Cover) → values ≤ MAX_VALUES → IsCover nets values c → CoversAll (map values_in nets) c.lines → IsTotal nets c
IsTotal-covered nets values c few is covers = record { some = λ at p. allows_matched nets values c at few is (covers.each at p) }

pub IsTotal-default : (nets : List (Option FlatNet)) (values out : ℕ) (c : Cover) → values ≤ MAX_VALUES → IsCover nets values c → c.default ≡ Some out → IsTotal nets c
unfolding allowed
IsTotal-default nets values out c few is e = record {
  some = λ at p.
      ⊎_elim
      (λ (y : some_matches at c.lines ≡ true). allows_matched nets values c at few is y)
      (λ (f : some_matches at c.lines ≡ false).
      let some = output_some values out few (is.default out e) in
      let given : default_gives c.default some.value ≡ true = ap (λ d. default_gives d some.value) e ∙ some.has in
      record { value = some.value; is_allowed = or_right (some_gives at some.value c.lines) (not (some_matches at c.lines) && default_gives c.default some.value) (and_from (not (some_matches at c.lines)) (default_gives c.default some.value) (ap not f) given) })
      (cases_Bool (some_matches at c.lines));
}

-- lines that miss a point leave a table without default without a value there
pub not_total : (nets : List (Option FlatNet)) (c : Cover) → c.default ≡ None → MissesSome (map values_in nets) c.lines → IsTotal nets c → ⊥
unfolding allowed
not_total nets c e misses total =
    let some = total.some misses.at misses.point in
    let none : allowed c misses.at some.value ≡ false = or_from _ _ (none_gives misses.at some.value c.lines misses.missed) (and_right _ _ (ap (λ d. default_gives d some.value) e)) in
    false≢true (sym none ∙ some.is_allowed)

-- nets of which fewer have values have more points, so a table that is total over them was so
pub IsTotal-before : (old new : List (Option FlatNet)) (c : Cover) → ((n : ℕ) → 0 < values_in (slot new n) → values_in (slot new n) ≡ values_in (slot old n)) → IsTotal new c → IsTotal old c
IsTotal-before old new c same total = record {
  some = λ at p. total.some at (record {
    below = λ n some.
        let e = same n (subst (λ k. 0 < k) (counts_at new n) some) in
        let count : get_or (map values_in new) n 0 ≡ get_or (map values_in old) n 0 = counts_at new n ∙ (e ∙ sym (counts_at old n)) in
        subst (λ k. at n < k) (sym count) (p.below n (subst (λ k. 0 < k) count some));
  });
}

-- ---- the nets of a well-formed network

-- each net that a table reads has values
pub within_counts : (net : NetParts) (n : ℕ) (c : Cover) → WellFormed net → table_in (slot net.nets n) ≡ Some c → AreWithin (map values_in net.nets) c.lines
within_counts net n c formed table = record {
  valued = λ m r.
      let is = reads_readable net n m formed (ap (λ t. table_reads t m) table ∙ r) in
      subst (λ k. 0 < k) (sym (counts_at net.nets m)) (values_some net m formed (ap (λ f. is_some f) is.held));
}

-- a value that the net at a number allows
pub record NetAllowsSome (nets : List (Option FlatNet)) (n : ℕ) (at : ℕ → ℕ) : Type 0 where
  pub value : ℕ
  pub is_allowed : IsTrue (net_allows (slot nets n) at value)

-- a net with a total table has one at every point
pub total_allows : (net : NetParts) (n : ℕ) (at : ℕ → ℕ) → WellFormed net → IsTotalNet net.nets n → IsPoint (map values_in net.nets) at → NetAllowsSome net.nets n at
total_allows net n at formed total point =
    let f = total.net in
    let some = total.total.some at point in
    let below : some.value < f.values = allowed_below net.nets f.values total.cover at some.value ((formed.nets n f total.held).cover total.cover total.table) some.is_allowed in
    let allows : net_allows (Some f) at some.value ≡ true = and_from (nat_lt some.value f.values) (net_table_allows f.table at some.value) (lt-ltb some.value f.values below) (ap (λ t. net_table_allows t at some.value) total.table ∙ some.is_allowed) in
    record { value = some.value; is_allowed = ap (λ g. net_allows g at some.value) total.held ∙ allows }

-- ---- what is looked at to tell whether a net's table is total

-- the net at a number has this table
record HasCover (nets : List (Option FlatNet)) (n : ℕ) (c : Cover) : Type 0 where
  pub net : FlatNet
  pub held : slot nets n ≡ Some net
  pub table : net.table ≡ Some c

has_cover : (nets : List (Option FlatNet)) (n : ℕ) (c : Cover) → table_in (slot nets n) ≡ Some c → HasCover nets n c
has_cover nets n c e = by_slot (slot nets n) refl e
  where
    by_slot : (f : Option FlatNet) → slot nets n ≡ f → table_in f ≡ Some c → HasCover nets n c
    by_slot None held table = cc
    by_slot (Some f) held table = record { net = f; held = held; table = table }

-- a total table makes a total net, and the other way round
net_total : (nets : List (Option FlatNet)) (n : ℕ) (c : Cover) → HasCover nets n c → IsTotal nets c → IsTotalNet nets n
net_total nets n c has total = record { net = has.net; held = has.held; cover = c; table = has.table; total = total }

table_total : (nets : List (Option FlatNet)) (n : ℕ) (c : Cover) → table_in (slot nets n) ≡ Some c → IsTotalNet nets n → IsTotal nets c
table_total nets n c e total =
    let same : Some total.cover ≡ Some c = sym (ap table_in total.held ∙ total.table) ∙ e in
    let covers : total.cover ≡ c = cc in
    subst (IsTotal nets) covers total.total

-- a table with a default is total
pub default_total : (net : NetParts) (n : ℕ) (c : Cover) → WellFormed net → table_in (slot net.nets n) ≡ Some c → is_some c.default ≡ true → IsTotalNet net.nets n
default_total net n c formed e some = by_default c.default refl some
  where
    by_default : (default : Option ℕ) → c.default ≡ default → is_some default ≡ true → IsTotalNet net.nets n
    by_default None d h = cc
    by_default (Some out) d h =
        let has = has_cover net.nets n c e in
        let is = formed.nets n has.net has.held in
        net_total net.nets n c has (IsTotal-default net.nets has.net.values out c is.few (is.cover c has.table) d)

-- one without is total if its lines match every point
pub lines_total : (all : Bool) (net : NetParts) (n : ℕ) (c : Cover) → WellFormed net → table_in (slot net.nets n) ≡ Some c → is_some c.default ≡ false → MatchBool all (CoversAll (map values_in net.nets) c.lines) (MissesSome (map values_in net.nets) c.lines) → MatchBool all (IsTotalNet net.nets n) (IsTotalNet net.nets n → ⊥)
lines_total true net n c formed e none covers =
    let has = has_cover net.nets n c e in
    let is = formed.nets n has.net has.held in
    net_total net.nets n c has (IsTotal-covered net.nets has.net.values c is.few (is.cover c has.table) covers)
lines_total false net n c formed e none misses =
    λ total. not_total net.nets c (none_from c.default none) misses (table_total net.nets n c e total)

-- the same of what is answered over the counts that are kept
pub total_answer : {E : Type 0} (result : Result Bool E) (net : NetParts) (n : ℕ) (c : Cover) (counts : List ℕ) → WellFormed net → table_in (slot net.nets n) ≡ Some c → is_some c.default ≡ false → counts ≡ map values_in net.nets → IfOk result (λ all. MatchBool all (CoversAll counts c.lines) (MissesSome counts c.lines)) → IfOk result (λ total. MatchBool total (IsTotalNet net.nets n) (IsTotalNet net.nets n → ⊥))
total_answer (Ok all) net n c counts formed e none same h =
    lines_total all net n c formed e none (subst (λ (ks : List ℕ). MatchBool all (CoversAll ks c.lines) (MissesSome ks c.lines)) same h)
total_answer (Err f) net n c counts formed e none same h = h
