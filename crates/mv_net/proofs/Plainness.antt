-- Tables of a simple form, as they are found.
use Rattle.std.proofs.Common.{◌≡◌, ◌∙◌, ℕ, ◌+◌, ◌<◌, ◌≤◌, Bool, true, false, nat_lt, List, [], ◌∷◌, length, take, get_or, Option, Some, None, All, Contains, is_some, refl, sym, ap, subst, ⊎_elim, eq-eqb, eqb-true, arith}
use Rattle.std.specs.Prelude.{◌==◌, ◌||◌, nat_eq, MatchBool}
use Rattle.std.proofs.lemmas.Bool.{false≢true, cases_Bool, or_cases, or_left, ltb-true, lt-ltb, false_from_ne_true}
use Rattle.std.proofs.Math.Bool.{or-false}
use Rattle.std.proofs.lemmas.List.{take_more}
use Rattle.std.proofs.lemmas.List.Folds.{list_any-append, list_any_at}
use Rattle.std.proofs.lemmas.Option.{same_Some, none-some, slice_get_within, get_or_from_slice_get}
use Rattle.mv_base.specs.declared.number.NetId.{NetId}
use Rattle.mv_base.specs.Set.{has, one, empty, full, join}
use Rattle.mv_base.proofs.Sets.{has-one, has-empty, has-full, has-join, same_set}
use Rattle.mv_base.proofs.Lists.{found}
use Rattle.mv_cover.specs.declared.cover.Cover.{Cover}
use Rattle.mv_cover.specs.declared.line.Line.{Line}
use Rattle.mv_cover.specs.Literal.{Lit}
use Rattle.mv_cover.specs.Covers.{cube_reads, lines_read}
use Rattle.mv_cover.specs.Plain.{IsPlainlyDeterministic}
use Rattle.mv_net.specs.declared.parts.FlatNet.{FlatNet}
use Rattle.mv_net.specs.declared.parts.NetParts.{NetParts}
use Rattle.mv_net.specs.Nets.{slot, values_in, table_in, table_reads}
use Rattle.mv_net.specs.Formed.{AllLines, IsCover, WellFormed}
use Rattle.mv_net.specs.Index.{is_held}
use Rattle.mv_net.specs.Plain.{IsPlainNet, IsPlainConstant, IsPlainBuffer, IsCopy, AreCopies, copy_line, steady_set, first_literal, first_net, some_has}
use Rattle.mv_net.proofs.Known.{reads_readable}

-- ---- a table that is plainly deterministic

same_cover : (o : Option Cover) (c d : Cover) → o ≡ Some c → o ≡ Some d → c ≡ d
same_cover o c d e f = same_Some c d (sym e ∙ f)

pub plain_answer : (nets : List (Option FlatNet)) (n : ℕ) (c : Cover) (b : Bool) → table_in (slot nets n) ≡ Some c → MatchBool b (IsPlainlyDeterministic c) (IsPlainlyDeterministic c → ⊥) → MatchBool b (IsPlainNet nets n) (IsPlainNet nets n → ⊥)
plain_answer nets n c true e h = record { cover = c; table = e; plain = h }
plain_answer nets n c false e h = λ p. h (subst IsPlainlyDeterministic (same_cover (table_in (slot nets n)) p.cover c p.table e) p.plain)

pub no_plain : (nets : List (Option FlatNet)) (n : ℕ) → table_in (slot nets n) ≡ None → IsPlainNet nets n → ⊥
no_plain nets n e p = none-some p.cover (sym e ∙ p.table)

-- ---- one value

pub one_same : (u v : ℕ) → has (one v) u ≡ true → u ≡ v
one_same u v h = eqb-true u v (sym (has-one v u) ∙ h)

pub one_has : (v : ℕ) → has (one v) v ≡ true
one_has v = has-one v v ∙ eq-eqb v v refl

pub empty_no_one : (s : ℕ) → s ≡ empty → (v : ℕ) → s ≡ one v → ⊥
empty_no_one s e v o = false≢true (sym (has-empty v) ∙ (ap (λ t. has t v) (sym e ∙ o) ∙ one_has v))

pub other_no_one : (s least : ℕ) → has s least ≡ true → (s ≡ one least → ⊥) → (v : ℕ) → s ≡ one v → ⊥
other_no_one s least h ne v o = ne (o ∙ ap one (sym (one_same least v (ap (λ t. has t least) (sym o) ∙ h))))

-- ---- a constant

pub no_constant : (nets : List (Option FlatNet)) (n v : ℕ) → table_in (slot nets n) ≡ None → IsPlainConstant nets n v → ⊥
no_constant nets n v e p = none-some p.cover (sym e ∙ p.table)

-- a constant's table gives its value
pub constant_gives : (nets : List (Option FlatNet)) (n v : ℕ) (c : Cover) → table_in (slot nets n) ≡ Some c → IsPlainConstant nets n v → steady_set c.lines c.default ≡ Some (one v)
constant_gives nets n v c e p = ap (λ (d : Cover). steady_set d.lines d.default) (sym (same_cover (table_in (slot nets n)) p.cover c p.table e)) ∙ p.gives

-- ---- a buffer

pub no_buffer : (nets : List (Option FlatNet)) (n m : ℕ) → table_in (slot nets n) ≡ None → IsPlainBuffer nets n m → ⊥
no_buffer nets n m e p = none-some p.cover (sym e ∙ p.table)

-- the cover of a net
cover_of : (net : NetParts) (n : ℕ) (c : Cover) → WellFormed net → table_in (slot net.nets n) ≡ Some c → IsCover net.nets (values_in (slot net.nets n)) c
cover_of net n c formed e = by_slot (slot net.nets n) refl e
  where
    by_slot : (f : Option FlatNet) → slot net.nets n ≡ f → table_in f ≡ Some c → IsCover net.nets (values_in f) c
    by_slot None is t = absurd (none-some c t)
    by_slot (Some f) is t = (formed.nets n f is).cover c t

given_below : (nets : List (Option FlatNet)) (values v : ℕ) (ls : List Line) → AllLines nets values ls → some_has ls v ≡ true → v < values
given_below nets values v [] all h = absurd (false≢true h)
given_below nets values v (l ∷ ls) all h =
    ⊎_elim
    (λ (y : has l.out v ≡ true). ltb-true v values (sym (has-full values v) ∙ all.1.within v y))
    (λ (rest : some_has ls v ≡ true). given_below nets values v ls all.2 rest)
    (or_cases (has l.out v) (some_has ls v) h)

-- the copy that gives a value
copies_every : (values m : ℕ) (ls : List Line) → AreCopies values m ls → (v : ℕ) → v < values → Contains ls (copy_line m v)
copies_every values m ls a v low =
    let f = found (λ (l : Line). has l.out v) ls (a.every v ∙ lt-ltb v values low) in
    let inside = slice_get_within ls f.place f.item f.at in
    let copy : IsCopy m f.item = subst (IsCopy m) (get_or_from_slice_get ls f.place f.item f.item f.at) (a.only f.place f.item inside) in
    let same : v ≡ copy.value = one_same v copy.value (ap (λ (l : Line). has l.out v) (sym copy.is) ∙ f.passes) in
    let is : f.item ≡ copy_line m v = copy.is ∙ ap (copy_line m) (sym same) in
    (f.place, inside, get_or_from_slice_get ls f.place f.item (copy_line m v) f.at ∙ is)

-- the copies of a buffer
buffer_copies : (net : NetParts) (n m : ℕ) (c : Cover) → WellFormed net → table_in (slot net.nets n) ≡ Some c → IsPlainBuffer net.nets n m → AreCopies (values_in (slot net.nets n)) m c.lines
buffer_copies net n m c formed e p =
    let same : p.cover ≡ c = same_cover (table_in (slot net.nets n)) p.cover c p.table e in
    let values = values_in (slot net.nets n) in
    let has_line : (v : ℕ) → v < values → some_has c.lines v ≡ true = λ v low.
    let at = subst (λ (d : Cover). Contains d.lines (copy_line m v)) same (p.every v low) in
    list_any_at (λ (l : Line). has l.out v) c.lines at.0 (copy_line m v) at.1 (ap (λ (l : Line). has l.out v) at.2 ∙ one_has v) in
    record {
      some = p.some;
      only = subst (λ (d : Cover). All (IsCopy m) d.lines) same p.only;
      every = λ v. ⊎_elim
          (λ (y : nat_lt v values ≡ true). has_line v (ltb-true v values y) ∙ sym y)
          (λ (f : nat_lt v values ≡ false).
          false_from_ne_true (some_has c.lines v) (λ h. false≢true (sym f ∙ lt-ltb v values (given_below net.nets values v c.lines (cover_of net n c formed e).lines h))) ∙ sym f)
          (cases_Bool (nat_lt v values));
    }

-- the net that a buffer copies is that of its first literal
copies_first : (values m : ℕ) (ls : List Line) → AreCopies values m ls → first_net ls ≡ Some (record { 0 = m })
copies_first values m [] a = let s = a.some in let low : 0 < values = omega arith in absurd (false≢true (a.every 0 ∙ lt-ltb 0 values low))
copies_first values m (l ∷ ls) a =
    let copy : IsCopy m l = a.only 0 l (omega arith) in
    ap (λ (k : Line). first_literal k.cube) copy.is

literal_read : (cube : List Lit) (r : NetId) → first_literal cube ≡ Some r → cube_reads cube r.0 ≡ true
literal_read [] r e = absurd (none-some r e)
literal_read (l ∷ ls) r e =
    let same : l.net ≡ r = same_Some l.net r e in
    or_left (nat_eq l.net.0 r.0) (cube_reads ls r.0) (eq-eqb l.net.0 r.0 (ap (λ (k : NetId). k.0) same))

first_read : (ls : List Line) (r : NetId) → first_net ls ≡ Some r → lines_read ls r.0 ≡ true
first_read [] r e = absurd (none-some r e)
first_read (l ∷ ls) r e = or_left (cube_reads l.cube r.0) (lines_read ls r.0) (literal_read l.cube r e)

pub first_held : (net : NetParts) (n : ℕ) (c : Cover) (r : NetId) → WellFormed net → table_in (slot net.nets n) ≡ Some c → first_net c.lines ≡ Some r → is_held net.nets r.0 ≡ true
first_held net n c r formed e f = ap is_some (reads_readable net n r.0 formed (ap (λ t. table_reads t r.0) e ∙ first_read c.lines r f)).held

pub no_first : (net : NetParts) (n m : ℕ) (c : Cover) → WellFormed net → table_in (slot net.nets n) ≡ Some c → first_net c.lines ≡ None → IsPlainBuffer net.nets n m → ⊥
no_first net n m c formed e f p = none-some (record { 0 = m }) (sym f ∙ copies_first _ m c.lines (buffer_copies net n m c formed e p))

first_is : (net : NetParts) (n m : ℕ) (c : Cover) (r : NetId) → WellFormed net → table_in (slot net.nets n) ≡ Some c → first_net c.lines ≡ Some r → IsPlainBuffer net.nets n m → m ≡ r.0
first_is net n m c r formed e f p = ap (λ (k : NetId). k.0) (same_Some (record { 0 = m }) r (sym (copies_first _ m c.lines (buffer_copies net n m c formed e p)) ∙ f))

pub buffer_found : (nets : List (Option FlatNet)) (n m : ℕ) (c : Cover) → table_in (slot nets n) ≡ Some c → c.default ≡ None → values_in (slot nets m) ≡ values_in (slot nets n) → AreCopies (values_in (slot nets n)) m c.lines → IsPlainBuffer nets n m
buffer_found nets n m c e none same a = record {
  cover = c;
  table = e;
  bare = none;
  some = a.some;
  same = same;
  only = a.only;
  every = copies_every (values_in (slot nets n)) m c.lines a;
}

-- a buffer of the first literal's net meets what is asked of it
pub record Meets (nets : List (Option FlatNet)) (n : ℕ) (c : Cover) (r : NetId) : Type 0 where
  pub same : values_in (slot nets r.0) ≡ values_in (slot nets n)
  pub bare : c.default ≡ None
  pub copies : AreCopies (values_in (slot nets n)) r.0 c.lines

pub buffer_meets : (net : NetParts) (n m : ℕ) (c : Cover) (r : NetId) → WellFormed net → table_in (slot net.nets n) ≡ Some c → first_net c.lines ≡ Some r → IsPlainBuffer net.nets n m → Meets net.nets n c r
buffer_meets net n m c r formed e f p =
    let is : m ≡ r.0 = first_is net n m c r formed e f p in
    record {
      same = ap (λ k. values_in (slot net.nets k)) (sym is) ∙ p.same;
      bare = ap (λ (d : Cover). d.default) (sym (same_cover (table_in (slot net.nets n)) p.cover c p.table e)) ∙ p.bare;
      copies = subst (λ k. AreCopies (values_in (slot net.nets n)) k c.lines) is (buffer_copies net n m c formed e p);
    }

-- ---- copies

-- together the lines give what the set has
pub copies_answer : (values m s : ℕ) (ls : List Line) (b : Bool) → 2 ≤ values → ((v : ℕ) → has s v ≡ some_has ls v) → All (IsCopy m) ls → b ≡ (s == full values) → MatchBool b (AreCopies values m ls) (AreCopies values m ls → ⊥)
copies_answer values m s ls true some given only e = record {
  some = some;
  only = only;
  every = λ v. sym (given v) ∙ (ap (λ t. has t v) (eqb-true s (full values) (sym e)) ∙ has-full values v);
}
copies_answer values m s ls false some given only e = λ a. false≢true (e ∙ eq-eqb s (full values) (same_set s (full values) (λ v. given v ∙ (a.every v ∙ sym (has-full values v)))))

pub given_more : (ls : List Line) (i v s new : ℕ) (l : Line) → i < length ls → l ≡ get_or ls i l → new ≡ join s l.out → has s v ≡ some_has (take i ls) v → has new v ≡ some_has (take (i + 1) ls) v
given_more ls i v s new l lt is e h =
    ap (λ t. has t v) e
    ∙ (has-join s l.out v
    ∙ (ap (λ b. b || has l.out v) h
    ∙ sym (ap (λ k. some_has k v) (take_more ls i l lt) ∙ (list_any-append (λ (k : Line). has k.out v) (take i ls) (get_or ls i l ∷ []) ∙ ap (λ b. some_has (take i ls) v || b) (or-false (has (get_or ls i l).out v) ∙ ap (λ (k : Line). has k.out v) (sym is))))))
