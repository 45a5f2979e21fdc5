-- What words say, value by value.
use Rattle.std.proofs.Common.{◌≡◌, ℕ, ◌+◌, ◌-◌, ◌≤◌, Bool, not, ◌&&◌, ◌||◌, IsTrue, List, [], ◌∷◌, ◌++◌, length, take, Option, Some, None, Result, Ok, Err, refl, sym, ◌∙◌, ap, inl, inr, arith, append_assoc, length-append, All}
use Rattle.std.specs.Prelude.{◌==◌, nat_le, nat_lt, codes, if◌then◌else◌}
use Rattle.std.specs.List.{list_any}
use Rattle.std.proofs.Math.Seq.{take-append_seam}
use Rattle.std.proofs.Math.Bool.{or-false, or_assoc}
use Rattle.std.proofs.lemmas.Bool.{cases_Bool, cond-true, cond-false, and_parts, or_cases, or_parts, eqb-true}
use Rattle.std.proofs.lemmas.Bool.Decides.{nat_tests}
use Rattle.std.proofs.lemmas.List.Elements.{All-nil, All-cons}
use Rattle.mv_base.specs.Names.{same_word, place_of, is_value_name}
use Rattle.mv_base.specs.Set.{has, empty, one, full, join, minus}
use Rattle.mv_base.proofs.Sets.{has-empty, has-one, has-full, has-join, has-minus}
use Rattle.mv_lex.specs.Words.{is_bang, opens, front, behind}
use Rattle.mv_word.specs.declared.fault.EntryFault.{EntryFault}
use Rattle.mv_word.specs.declared.fault.EntryFault.TheVariants.{Unknown, Equal}
use Rattle.mv_word.specs.Entries.{span, span_of, parts_range, range_from, range_of, one_or, item_of, with_item, items_of, list_of, named_or, plain_of, base_of, opposite, opposites, word_set}
use Rattle.mv_word.specs.Says.{Says, IsRange, IsItem, in_brackets, items_in, some_has, item_has}
use Rattle.mv_word.proofs.Turns.{opposites-err}
use Rattle.mv_word.proofs.LawfulNames.{is_bracket, ValueName, value_name-has, first-other}

-- `-` says all values
pub full-set : (values : List (List ℕ)) → word_set values (codes "-") ≡ Ok (full (length values))
unfolding word_set plain_of
full-set values = refl

pub says_all : (values : List (List ℕ)) → Says values (codes "-") (λ v. nat_lt v (length values))
says_all values = record { set = full (length values); said = full-set values; members = has-full (length values) }

-- a value's name says itself
pub named-set : (values : List (List ℕ)) (w : List ℕ) (v : ℕ) → ValueName w → place_of w values ≡ Some v → word_set values w ≡ Ok (one v)
unfolding word_set plain_of
named-set values [] v name e = absurd (let s = name.net.some in omega arith)
named-set values (b ∷ bs) v name e =
    let k = or_parts (is_bracket b) (list_any is_bracket bs) name.bracket in
    let p = or_parts ((b == 40) || (b == 41) || (b == 123)) (b == 125) k.0 in
    let q = or_parts ((b == 40) || (b == 41)) (b == 123) p.0 in
    let r = or_parts (b == 40) (b == 41) q.0 in
    rw (first-other 33 b bs name.bang, first-other 61 b bs name.equal, r.0, q.1, name.dash, e) refl

pub says_name : (values : List (List ℕ)) (w : List ℕ) (at : ℕ) → IsTrue (is_value_name w) → place_of w values ≡ Some at → Says values w (λ v. v == at)
says_name values w at lawful place = record { set = one at; said = named-set values w at (value_name-has w lawful) place; members = has-one at }

-- ---- words with `!` in front

-- a word without its `!` that says a set says it in any word
named-anywhere : (one_word other : List ℕ) (place : Option ℕ) (s : ℕ) → named_or one_word place ≡ Ok s → named_or other place ≡ Ok s
named-anywhere one_word other None s e = cc
named-anywhere one_word other (Some v) s e = e

plain-anywhere : (values : List (List ℕ)) (one_word other word : List ℕ) (s : ℕ) → plain_of values one_word word ≡ Ok s → plain_of values other word ≡ Ok s
unfolding plain_of
plain-anywhere values one_word other word s e =
    elim (cases_Bool (same_word word (codes "-"))) [
      | inl y ↦ cond-true _ _ _ y ∙ (sym (cond-true _ _ _ y) ∙ e)
      | inr n ↦ cond-false _ _ _ n ∙ named-anywhere one_word other (place_of word values) s (sym (cond-false _ _ _ n) ∙ e)
    ]

base-anywhere : (values : List (List ℕ)) (one_word other rest : List ℕ) (s : ℕ) → base_of values one_word rest ≡ Ok s → base_of values other rest ≡ Ok s
base-anywhere values one_word other [] s e = cc
base-anywhere values one_word other (b ∷ bytes) s e =
    elim (cases_Bool (opens b)) [
      | inl y ↦ cond-true _ _ _ y ∙ (sym (cond-true _ _ _ y) ∙ e)
      | inr n ↦ cond-false _ _ _ n ∙ other_kind (sym (cond-false _ _ _ n) ∙ e)
    ]
  where
    other_kind : (if b == 61 then Err (Equal bytes) else plain_of values one_word (b ∷ bytes)) ≡ Ok s → (if b == 61 then Err (Equal bytes) else plain_of values other (b ∷ bytes)) ≡ Ok s
    other_kind h =
        elim (cases_Bool (b == 61)) [
          | inl y ↦ cond-true _ _ _ y ∙ (sym (cond-true _ _ _ y) ∙ h)
          | inr n ↦ cond-false _ _ _ n ∙ plain-anywhere values one_word other (b ∷ bytes) s (sym (cond-false _ _ _ n) ∙ h)
        ]

turned-anywhere : (count n s : ℕ) (said other : Result ℕ EntryFault) → ((t : ℕ) → said ≡ Ok t → other ≡ Ok t) → opposites count n said ≡ Ok s → opposites count n other ≡ Ok s
turned-anywhere count n s (Ok t) other h e = ap (opposites count n) (h t refl) ∙ e
turned-anywhere count n s (Err f) other h e = let fault = opposites-err count n f in cc

-- with one more `!` the word says what it lacked
lacking-set : (values : List (List ℕ)) (w : List ℕ) (s : ℕ) → word_set values w ≡ Ok s → word_set values (33 ∷ w) ≡ Ok (minus (full (length values)) s)
unfolding word_set
lacking-set values w s e =
    ap (opposite (length values)) (turned-anywhere (length values) (length (front is_bang w)) s (base_of values w (behind is_bang w)) (base_of values (33 ∷ w) (behind is_bang w)) (base-anywhere values w (33 ∷ w) (behind is_bang w)) e)

pub says_lacks : (values : List (List ℕ)) (w : List ℕ) (p : ℕ → Bool) → Says values w p → Says values (33 ∷ w) (λ v. nat_lt v (length values) && not (p v))
says_lacks values w p h = record {
  set = minus (full (length values)) h.set;
  said = lacking-set values w h.set h.said;
  members = λ v. has-minus (full (length values)) h.set v ∙ rw (has-full (length values) v, h.members v) refl;
}

-- ---- items in brackets

between : (first last v : ℕ) → (nat_lt v (last + 1) && not (nat_lt v first)) ≡ (nat_le first v && nat_le v last)
between first last v = grind (arith, nat_tests)

-- two places that part a range
record AreEnds (p q : Option ℕ) (s : ℕ) : Type 0 where
  first : ℕ
  last : ℕ
  begins : p ≡ Some first
  ends : q ≡ Some last
  forwards : first ≤ last
  members : (v : ℕ) → has s v ≡ (nat_le first v && nat_le v last)

some_same : (a b : ℕ) → Some a ≡ Some b → a ≡ b
some_same a b e = cc

ends_of : (p q : Option ℕ) (s : ℕ) → span_of p q ≡ Some s → AreEnds p q s
unfolding span
ends_of None q s e = cc
ends_of (Some first) None s e = cc
ends_of (Some first) (Some last) s e =
    elim (cases_Bool (nat_le first last)) [
      | inl y ↦
          let same : minus (full (last + 1)) (full first) ≡ s = some_same _ _ (sym (cond-true (nat_le first last) _ _ y) ∙ e) in
          record {
            first = first;
            last = last;
            begins = refl;
            ends = refl;
            forwards = grind (arith, nat_tests, y);
            members = λ v. rw (← same, has-minus (full (last + 1)) (full first) v, has-full (last + 1) v, has-full first v) (between first last v);
          }
      | inr n ↦ let none : None ≡ Some s = sym (cond-false (nat_le first last) _ _ n) ∙ e in cc
    ]

-- an item that is cut says a range
record IsCutRange (values : List (List ℕ)) (item : List ℕ) (s : ℕ) : Type 0 where
  before : List ℕ
  behind : List ℕ
  parts : item ≡ before ++ 45 ∷ behind
  are : AreEnds (place_of before values) (place_of behind values) s

cut_range : (values : List (List ℕ)) (before bytes : List ℕ) (s : ℕ) → range_from values before bytes ≡ Some s → IsCutRange values (before ++ bytes) s
cut_range values before [] s e = cc
cut_range values before (b ∷ bytes) s e =
    elim (cases_Bool (parts_range values before b bytes)) [
      | inl y ↦
          let hyphen : b ≡ 45 = eqb-true b 45 (and_parts _ _ (and_parts _ _ y).0).0 in
          record {
            before = before;
            behind = bytes;
            parts = ap (λ c. before ++ c ∷ bytes) hyphen;
            are = ends_of (place_of before values) (place_of bytes values) s (sym (cond-true _ _ _ y) ∙ e);
          }
      | inr n ↦ rw (← append_assoc before (b ∷ []) bytes) (cut_range values (before ++ b ∷ []) bytes s (sym (cond-false _ _ _ n) ∙ e))
    ]

-- an item that says a set is a value's name or a range
is_item : (values : List (List ℕ)) (item : List ℕ) (s : ℕ) → item_of values item ≡ Some s → IsItem values item
unfolding item_of range_of
is_item values item s e = by_place (place_of item values) refl
  where
    has_all : (v : ℕ) → item_has values v item ≡ has s v
    has_all v = ap (λ o. some_has o v) e

    by_place : (o : Option ℕ) → place_of item values ≡ o → IsItem values item
    by_place (Some at) place =
        let same : one at ≡ s = some_same _ _ (ap (λ o. one_or o (range_of values item)) (sym place) ∙ e) in
        inl record { value = at; named = place; members = λ v. has_all v ∙ rw (← same) (has-one at v) }
    by_place None place = inr (a_range (cut_range values [] item s (ap (λ o. one_or o (range_of values item)) (sym place) ∙ e)))
      where
        a_range : IsCutRange values item s → IsRange values item
        a_range r = record {
          before = r.before;
          behind = r.behind;
          parts = r.parts;
          first = r.are.first;
          last = r.are.last;
          begins = r.are.begins;
          ends = r.are.ends;
          forwards = r.are.forwards;
          members = λ v. has_all v ∙ r.are.members v;
        }

-- ---- lists of items

-- the items of a list that says a set: each says one, and all of them are joined
record AreJoined (values : List (List ℕ)) (set : ℕ) (items : List (List ℕ)) (s : ℕ) : Type 0 where
  are : All (IsItem values) items
  members : (v : ℕ) → has s v ≡ (has set v || list_any (item_has values v) items)

joined_more : (values : List (List ℕ)) (set : ℕ) (item : List ℕ) (items : List (List ℕ)) (s : ℕ) → ((next : ℕ) → items_of values next items ≡ Ok s → AreJoined values next items s) → items_of values set (item ∷ items) ≡ Ok s → AreJoined values set (item ∷ items) s
joined_more values set item items s rest e = by_item (item_of values item) refl
  where
    by_item : (o : Option ℕ) → item_of values item ≡ o → AreJoined values set (item ∷ items) s
    by_item None said = let none : Err (Unknown item) ≡ Ok s = ap (λ o. with_item item o (λ more. items_of values (join set more) items)) (sym said) ∙ e in cc
    by_item (Some more) said =
        let r = rest (join set more) (ap (λ o. with_item item o (λ m. items_of values (join set m) items)) (sym said) ∙ e) in
        record {
          are = All-cons (IsItem values) item items (is_item values item more said) r.are;
          members = λ v. r.members v ∙ (ap (λ b. b || list_any (item_has values v) items) (has-join set more v) ∙ (or_assoc (has set v) (has more v) (list_any (item_has values v) items) ∙ ap (λ o. has set v || (some_has o v || list_any (item_has values v) items)) (sym said)));
        }

joined : (values : List (List ℕ)) (set : ℕ) (items : List (List ℕ)) (s : ℕ) → items_of values set items ≡ Ok s → AreJoined values set items s
joined values set [] s e =
    record {
      are = All-nil (IsItem values);
      members = λ v. ap (λ t. has t v) (ok_same s set (Ok set) e refl) ∙ sym (or-false (has set v));
    }
  where
    ok_same : (a b : ℕ) (said : Result ℕ EntryFault) → said ≡ Ok a → said ≡ Ok b → a ≡ b
    ok_same a b said h k = cc
joined values set (item ∷ items) s e = joined_more values set item items s (λ next. joined values next items s) e

inner : (bytes : List ℕ) (c : ℕ) → take (length (bytes ++ c ∷ []) - 1) (bytes ++ c ∷ []) ≡ bytes
inner bytes c =
    let size : length (bytes ++ c ∷ []) - 1 ≡ length bytes = omega (arith, length-append bytes (c ∷ [])) in
    rw size (take-append_seam bytes (c ∷ []))

-- a list in brackets says what its items say
pub listed-set : (values : List (List ℕ)) (b : ℕ) (inside : List ℕ) → IsTrue (opens b) → word_set values (in_brackets b inside) ≡ list_of values inside
unfolding word_set
listed-set values b inside opening =
    elim (or_cases (b == 40) (b == 123) opening) [
      | inl y ↦ rw (eqb-true b 40 y) (ap (list_of values) (inner inside 41))
      | inr y ↦ rw (eqb-true b 123 y) (ap (list_of values) (inner inside 125))
    ]

joined_inside : (values : List (List ℕ)) (b : ℕ) (inside : List ℕ) (s : ℕ) → IsTrue (opens b) → word_set values (in_brackets b inside) ≡ Ok s → AreJoined values empty (items_in inside) s
unfolding list_of
joined_inside values b inside s opening e = joined values empty (items_in inside) s (sym (listed-set values b inside opening) ∙ e)

pub says_list : (values : List (List ℕ)) (b : ℕ) (inside : List ℕ) (s : ℕ) → IsTrue (opens b) → word_set values (in_brackets b inside) ≡ Ok s → (v : ℕ) → has s v ≡ list_any (item_has values v) (items_in inside)
says_list values b inside s opening e v =
    (joined_inside values b inside s opening e).members v ∙ ap (λ x. x || list_any (item_has values v) (items_in inside)) (has-empty v)

pub are_items : (values : List (List ℕ)) (b : ℕ) (inside : List ℕ) (s : ℕ) → IsTrue (opens b) → word_set values (in_brackets b inside) ≡ Ok s → All (IsItem values) (items_in inside)
are_items values b inside s opening e = (joined_inside values b inside s opening e).are
