-- What is known of nets: cubes that may and that must hold by it, and how it grows.
use Rattle.std.proofs.Common.{◌≡◌, ◌↔◌, ◌∙◌, ℕ, zero, suc, ◌<◌, Bool, true, false, ◌&&◌, nat_eq, List, [], ◌∷◌, length, get_or, set, Option, MatchBool, refl, sym, ap, subst, ⊎_elim, eq-eqb, eqb-true, arith, get_or-set_same, get_or-set_other}
use Rattle.std.proofs.lemmas.Bool.{cases_Bool, cases_eq, and_from, and_parts, or_left, or_right, false≢true}
use Rattle.std.proofs.lemmas.List.{length-set}
use Rattle.mv_base.specs.declared.number.NetId.{NetId}
use Rattle.mv_base.specs.Set.{has}
use Rattle.mv_cover.specs.Literal.{Lit}
use Rattle.mv_cover.specs.Cubes.{holds, matches}
use Rattle.mv_cover.specs.Covers.{cube_reads, lines_read, some_matches}
use Rattle.mv_cover.specs.declared.line.Line.{Line}
use Rattle.mv_net.specs.declared.parts.FlatNet.{FlatNet}
use Rattle.mv_net.specs.Index.{is_held}
use Rattle.mv_net.specs.Allowed.{Agrees}
use Rattle.mv_graph.specs.Nets.{has_id}
use Rattle.mv_solve.specs.declared.asked.Asked.{Asked}
use Rattle.mv_solve.specs.declared.asked.Asked.TheVariants.{Anything, Only, Nothing}
use Rattle.mv_solve.specs.Asked.{takes, asked_of, HasAsked, IsSolution, NoSolution}
use Rattle.mv_solve.specs.Known.{may_be_in, must_be_in, may_match, must_match, Knows, IsKnown, HasPlaces}

-- ---- what is known of the nets of a cube

pub knows_less : (s t : ℕ → Bool) (known : List Asked) (to : ℕ → ℕ) → ((m : ℕ) → s m ≡ true → t m ≡ true) → Knows t known to → Knows s known to
knows_less s t known to h k = record { each = λ m e. k.each m (h m e) }

may_take : (a : Asked) (s v : ℕ) → takes a v ≡ true → has s v ≡ true → may_be_in a s ≡ true
may_take Anything s v t h = refl
may_take (Only u) s v t h = let P : ℕ → Type 0 = λ k. has s k ≡ true in subst P (eqb-true v u.0 t) h
may_take Nothing s v t h = refl

must_take : (a : Asked) (s v : ℕ) → takes a v ≡ true → must_be_in a s ≡ true → has s v ≡ true
must_take Anything s v t h = absurd (false≢true h)
must_take (Only u) s v t h = let P : ℕ → Type 0 = λ k. has s k ≡ true in subst P (sym (eqb-true v u.0 t)) h
must_take Nothing s v t h = absurd (false≢true h)

first_reads : (l : Lit) (cube : List Lit) → cube_reads (l ∷ cube) l.net.0 ≡ true
first_reads l cube = or_left (nat_eq l.net.0 l.net.0) (cube_reads cube l.net.0) (eq-eqb l.net.0 l.net.0 refl)

rest_reads : (l : Lit) (cube : List Lit) (m : ℕ) → cube_reads cube m ≡ true → cube_reads (l ∷ cube) m ≡ true
rest_reads l cube m h = or_right (nat_eq l.net.0 m) (cube_reads cube m) h

-- a cube that holds may hold
pub may_true : (known : List Asked) (cube : List Lit) (to : ℕ → ℕ) → Knows (cube_reads cube) known to → matches to cube ≡ true → may_match known cube ≡ true
may_true known [] to k h = refl
may_true known (l ∷ cube) to k h =
    let p = and_parts (holds to l) (matches to cube) h in
    and_from (may_be_in (asked_of known l.net.0) l.set) (may_match known cube) (may_take (asked_of known l.net.0) l.set (to l.net.0) (k.each l.net.0 (first_reads l cube)) p.0) (may_true known cube to (knows_less (cube_reads cube) (cube_reads (l ∷ cube)) known to (rest_reads l cube) k) p.1)

-- a cube that must hold holds
pub must_true : (known : List Asked) (cube : List Lit) (to : ℕ → ℕ) → Knows (cube_reads cube) known to → must_match known cube ≡ true → matches to cube ≡ true
must_true known [] to k h = refl
must_true known (l ∷ cube) to k h =
    let p = and_parts (must_be_in (asked_of known l.net.0) l.set) (must_match known cube) h in
    and_from (holds to l) (matches to cube) (must_take (asked_of known l.net.0) l.set (to l.net.0) (k.each l.net.0 (first_reads l cube)) p.0) (must_true known cube to (knows_less (cube_reads cube) (cube_reads (l ∷ cube)) known to (rest_reads l cube) k) p.1)

-- a cube that can't hold doesn't
pub may_false : (known : List Asked) (cube : List Lit) (to : ℕ → ℕ) → Knows (cube_reads cube) known to → may_match known cube ≡ false → matches to cube ≡ false
may_false known cube to k none = ⊎_elim
    (λ (h : matches to cube ≡ true). absurd (false≢true (sym none ∙ may_true known cube to k h)))
    (λ (h : matches to cube ≡ false). h)
    (cases_Bool (matches to cube))

-- a literal that must hold does
pub literal_must : (known : List Asked) (l : Lit) (to : ℕ → ℕ) → takes (asked_of known l.net.0) (to l.net.0) ≡ true → must_be_in (asked_of known l.net.0) l.set ≡ true → holds to l ≡ true
literal_must known l to t h = must_take (asked_of known l.net.0) l.set (to l.net.0) t h

-- ---- places in cubes and lines

-- the literal at a place is on a net that the cube reads
pub literal_read : (cube : List Lit) (i : ℕ) (l d : Lit) → i < length cube → l ≡ get_or cube i d → cube_reads cube l.net.0 ≡ true
literal_read [] i l d lt is = absurd (omega arith)
literal_read (m ∷ cube) zero l d lt is = or_left (nat_eq m.net.0 l.net.0) (cube_reads cube l.net.0) (eq-eqb m.net.0 l.net.0 (ap (λ (k : Lit). k.net.0) (sym is)))
literal_read (m ∷ cube) (suc i) l d lt is = or_right (nat_eq m.net.0 l.net.0) (cube_reads cube l.net.0) (literal_read cube i l d (omega arith) is)

-- what the line at a place reads the lines do
pub line_read : (ls : List Line) (i : ℕ) (l d : Line) (m : ℕ) → i < length ls → l ≡ get_or ls i d → cube_reads l.cube m ≡ true → lines_read ls m ≡ true
line_read [] i l d m lt is h = absurd (omega arith)
line_read (k ∷ ls) zero l d m lt is h = or_left (cube_reads k.cube m) (lines_read ls m) (ap (λ (x : Line). cube_reads x.cube m) (sym is) ∙ h)
line_read (k ∷ ls) (suc i) l d m lt is h = or_right (cube_reads k.cube m) (lines_read ls m) (line_read ls i l d m (omega arith) is h)

-- each literal of a cube that holds does
pub literal_holds : (cube : List Lit) (i : ℕ) (l d : Lit) (to : ℕ → ℕ) → i < length cube → l ≡ get_or cube i d → matches to cube ≡ true → holds to l ≡ true
literal_holds [] i l d to lt is h = absurd (omega arith)
literal_holds (m ∷ cube) zero l d to lt is h = ap (holds to) is ∙ (and_parts (holds to m) (matches to cube) h).0
literal_holds (m ∷ cube) (suc i) l d to lt is h = literal_holds cube i l d to (omega arith) is (and_parts (holds to m) (matches to cube) h).1

-- where no line's cube holds, that at a place doesn't
pub line_fails : (ls : List Line) (i : ℕ) (l d : Line) (to : ℕ → ℕ) → i < length ls → l ≡ get_or ls i d → some_matches to ls ≡ false → matches to l.cube ≡ false
line_fails ls i l d to lt is none = ⊎_elim
    (λ (h : matches to l.cube ≡ true). absurd (false≢true (sym none ∙ some ls i lt is h)))
    (λ (h : matches to l.cube ≡ false). h)
    (cases_Bool (matches to l.cube))
  where
    some : (ls : List Line) (i : ℕ) → i < length ls → l ≡ get_or ls i d → matches to l.cube ≡ true → some_matches to ls ≡ true
    some [] i lt is h = absurd (omega arith)
    some (k ∷ ls) zero lt is h = or_left (matches to k.cube) (some_matches to ls) (ap (λ (x : Line). matches to x.cube) (sym is) ∙ h)
    some (k ∷ ls) (suc i) lt is h = or_right (matches to k.cube) (some_matches to ls) (some ls i (omega arith) is h)

-- ---- what is known grows

pub known_same : (nets : List (Option FlatNet)) (known : List Asked) → IsKnown nets known known
known_same nets known = record { long = refl; more = λ to k. k; holds = λ to a k. k }

pub known_then : (nets : List (Option FlatNet)) (a b c : List Asked) → IsKnown nets a b → IsKnown nets b c → IsKnown nets a c
known_then nets a b c p q = record {
  long = q.long ∙ p.long;
  more = λ to k. p.more to (q.more to k);
  holds = λ to g k. q.holds to g (p.holds to g k);
}

-- one more value is known
pub known_more : (nets : List (Option FlatNet)) (known : List Asked) (n v : ℕ) (a : Asked) → n < length known → is_held nets n ≡ true → ((to : ℕ → ℕ) → Agrees nets to → Knows (is_held nets) known to → to n ≡ v) → ((u : ℕ) → takes a u ≡ (takes (asked_of known n) u && nat_eq u v)) → IsKnown nets known (set known n a)
known_more nets known n v a lt held only and = record {
  long = length-set known n a;
  more = λ to k. record {
    each = λ m h.
        ⊎_elim
        (λ (e : m ≡ n).
        let P : ℕ → Type 0 = λ j. takes (asked_of known j) (to j) ≡ true in
        let now : takes a (to n) ≡ true = ap (λ b. takes b (to n)) (sym (get_or-set_same known n a Anything lt)) ∙ k.each n held in
        subst P (sym e) (and_parts (takes (asked_of known n) (to n)) (nat_eq (to n) v) (sym (and (to n)) ∙ now)).0)
        (λ (ne : m ≡ n → ⊥). ap (λ b. takes b (to m)) (sym (get_or-set_other known n m a Anything ne)) ∙ k.each m h)
        (cases_eq m n);
  };
  holds = λ to g k. record {
    each = λ m h.
        ⊎_elim
        (λ (e : m ≡ n).
        let P : ℕ → Type 0 = λ j. takes (asked_of (set known n a) j) (to j) ≡ true in
        let both = and_from (takes (asked_of known n) (to n)) (nat_eq (to n) v) (k.each n held) (eq-eqb (to n) v (only to g k)) in
        subst P (sym e) (ap (λ b. takes b (to n)) (get_or-set_same known n a Anything lt) ∙ (and (to n) ∙ both)))
        (λ (ne : m ≡ n → ⊥). ap (λ b. takes b (to m)) (get_or-set_other known n m a Anything ne) ∙ k.each m h)
        (cases_eq m n);
  };
}

pub places_kept : (nets : List (Option FlatNet)) (a b : List Asked) → IsKnown nets a b → HasPlaces nets a → HasPlaces nets b
places_kept nets a b k p = record { each = λ m h. omega (arith, p.each m h, k.long) }

-- ---- the same solutions

pub asked_known : (nets : List (Option FlatNet)) (order : List NetId) (asked : List Asked) (at : ℕ → ℕ) → ((n : ℕ) → has_id order n ≡ is_held nets n) → HasAsked order asked at → Knows (is_held nets) asked at
asked_known nets order asked at members h = record { each = λ m held. h.each m (members m ∙ held) }

pub known_asked : (nets : List (Option FlatNet)) (order : List NetId) (asked : List Asked) (at : ℕ → ℕ) → ((n : ℕ) → has_id order n ≡ is_held nets n) → Knows (is_held nets) asked at → HasAsked order asked at
known_asked nets order asked at members k = record { each = λ m h. k.each m (sym (members m) ∙ h) }

-- the solutions for what is known, on a way, are those for what is asked
pub same_solutions : (nets : List (Option FlatNet)) (order way : List NetId) (asked known : List Asked) (at : ℕ → ℕ) (b : Bool) → ((n : ℕ) → has_id order n ≡ is_held nets n) → ((n : ℕ) → has_id way n ≡ is_held nets n) → IsKnown nets asked known → MatchBool b (IsSolution nets way known at) (NoSolution nets way known) → MatchBool b (IsSolution nets order asked at) (NoSolution nets order asked)
same_solutions nets order way asked known at true o w k s = record {
  agrees = s.agrees;
  asks = known_asked nets order asked at o (k.more at (asked_known nets way known at w s.asks));
}
same_solutions nets order way asked known at false o w k s = record {
  none = λ to sol. s.none to (record {
    agrees = sol.agrees;
    asks = known_asked nets way known to w (k.holds to sol.agrees (asked_known nets order asked to o sol.asks));
  });
}

-- one value more is asked for
pub asked_more : (order : List NetId) (asked : List Asked) (n v : ℕ) (a : Asked) → n < length asked → has_id order n ≡ true → ((u : ℕ) → takes a u ≡ (takes (asked_of asked n) u && nat_eq u v)) → (at : ℕ → ℕ) → HasAsked order (set asked n a) at ↔ (HasAsked order asked at × (at n ≡ v))
asked_more order asked n v a lt here and at =
    let now : asked_of (set asked n a) n ≡ a = get_or-set_same asked n a Anything lt in (
      λ h.
          let both = and_parts (takes (asked_of asked n) (at n)) (nat_eq (at n) v) (sym (and (at n)) ∙ (ap (λ b. takes b (at n)) (sym now) ∙ h.each n here)) in (
            record {
              each = λ m e.
                  ⊎_elim
                  (λ (is : m ≡ n). let P : ℕ → Type 0 = λ k. takes (asked_of asked k) (at k) ≡ true in subst P (sym is) both.0)
                  (λ (ne : m ≡ n → ⊥). ap (λ b. takes b (at m)) (sym (get_or-set_other asked n m a Anything ne)) ∙ h.each m e)
                  (cases_eq m n);
            },
            eqb-true (at n) v both.1,
          ),
      λ p. record {
        each = λ m e.
            ⊎_elim
            (λ (is : m ≡ n).
            let P : ℕ → Type 0 = λ k. takes (asked_of (set asked n a) k) (at k) ≡ true in
            subst P (sym is) (ap (λ b. takes b (at n)) now ∙ (and (at n) ∙ and_from (takes (asked_of asked n) (at n)) (nat_eq (at n) v) (p.0.each n here) (eq-eqb (at n) v p.1))))
            (λ (ne : m ≡ n → ⊥). ap (λ b. takes b (at m)) (get_or-set_other asked n m a Anything ne) ∙ p.0.each m e)
            (cases_eq m n);
      },
    )
