-- The nets of an instance's model that aren't bound, by number.
use Rattle.std.proofs.Common.{◌≡◌, ℕ, zero, suc, ◌+◌, ◌-◌, ◌<◌, ◌≤◌, Bool, true, false, not, ◌||◌, Option, Some, None, is_some, List, [], ◌∷◌, ◌++◌, length, get_or, map, filter, take, drop, All, refl, sym, ◌∙◌, ap, subst, arith, ⊎_elim}
use Rattle.std.specs.Prelude.{nat_eq, if◌then◌else◌}
use Rattle.std.specs.List.{list_any, flat_map, range_with_len, slice_get}
use Rattle.std.specs.List.Sorted.{IsPermutation}
use Rattle.std.proofs.lemmas.Bool.{false≢true, cases_Bool}
use Rattle.std.proofs.lemmas.Bool.Decides.{nat_tests}
use Rattle.std.proofs.lemmas.List.{drop_more, map-append}
use Rattle.std.proofs.lemmas.List.FromFn.{fill_by_all}
use Rattle.std.proofs.lemmas.List.Elements.{All-append, All-cons, All-nil, All-get_or, All-tail}
use Rattle.std.proofs.lemmas.List.Folds.{list_any-append}
use Rattle.std.proofs.lemmas.List.Sorted.{All-permutation, list_any-IsPermutation}
use Rattle.std.proofs.lemmas.Option.{slice_get-get_or, same_Some}
use Rattle.mv_base.specs.Names.{same_word, place_of, IsDistinct}
use Rattle.mv_base.proofs.NameLemmas.{IsPlace-from_place, place_of-at, same_word_is, same_word_refl, is_some-place_of, among-at}
use Rattle.mv_design.specs.declared.design.Bind.{Bind}
use Rattle.mv_tree.specs.Places.{actual_of, is_bound}
use Rattle.mv_unfold.specs.declared.spans.Span.{Span}
use Rattle.mv_unfold.specs.Locals.{IsSpan, span_numbers, is_other, AreBetween, listed, stop_of, cut, AreOwn}

-- ---- the net with a number is bound

pub is_bound-cons : (b : Bind) (bs : List Bind) (net : List ℕ) → is_bound (b ∷ bs) net ≡ (same_word net b.formal || is_bound bs net)
is_bound-cons b bs net = split (same_word net b.formal)
  where
    split : (c : Bool) → is_some (if c then Some b.actual else actual_of bs net) ≡ (c || is_bound bs net)
    split true = refl
    split false = refl

same_number : (n : ℕ) → nat_eq n n ≡ true
same_number n = grind (arith, nat_tests)

number_is : (n k : ℕ) → nat_eq n k ≡ true → n ≡ k
number_is n k e = grind (arith, nat_tests)

same_numbers : (nets : List (List ℕ)) (k n : ℕ) (formal : List ℕ) → IsDistinct nets → n < length nets → place_of formal nets ≡ Some k
    → nat_eq n k ≡ same_word (get_or nets n []) formal
same_numbers nets k n formal d lt e =
    let here : slice_get nets n ≡ Some (get_or nets n []) = slice_get-get_or nets n [] lt in
    let there = IsPlace-from_place formal nets k e in
    ⊎_elim
    (λ (y : same_word (get_or nets n []) formal ≡ true).
    let same : k ≡ n = same_Some k n (sym e ∙ place_of-at nets n formal d (here ∙ ap Some (same_word_is (get_or nets n []) formal y))) in
    ap (nat_eq n) same ∙ (same_number n ∙ sym y))
    (λ (f : same_word (get_or nets n []) formal ≡ false).
    ⊎_elim
    (λ (y : nat_eq n k ≡ true).
    let is : get_or nets n [] ≡ formal = same_Some (get_or nets n []) formal (sym here ∙ (ap (slice_get nets) (number_is n k y) ∙ there.found)) in
    absurd (false≢true (sym f ∙ (ap (same_word (get_or nets n [])) (sym is) ∙ same_word_refl (get_or nets n [])))))
    (λ (g : nat_eq n k ≡ false). g ∙ sym f)
    (cases_Bool (nat_eq n k)))
    (cases_Bool (same_word (get_or nets n []) formal))

or_nothing : (b : Bool) → (b || false) ≡ b
or_nothing true = refl
or_nothing false = refl

stop_tested : (nets : List (List ℕ)) (n : ℕ) (formal : List ℕ) (o : Option ℕ) → IsDistinct nets → n < length nets → place_of formal nets ≡ o
    → list_any (nat_eq n) (listed o) ≡ same_word (get_or nets n []) formal
stop_tested nets n formal (Some k) d lt e = or_nothing (nat_eq n k) ∙ same_numbers nets k n formal d lt e
stop_tested nets n formal None d lt e =
    ⊎_elim
    (λ (y : same_word (get_or nets n []) formal ≡ true).
    let is : slice_get nets n ≡ Some formal = slice_get-get_or nets n [] lt ∙ ap Some (same_word_is (get_or nets n []) formal y) in
    absurd (false≢true (sym (ap is_some e) ∙ (is_some-place_of formal nets ∙ among-at nets n formal is))))
    (λ (f : same_word (get_or nets n []) formal ≡ false). sym f)
    (cases_Bool (same_word (get_or nets n []) formal))

-- a net is bound where its number is that of a bound formal
stops_tested : (nets : List (List ℕ)) (binds : List Bind) (n : ℕ) → IsDistinct nets → n < length nets
    → list_any (nat_eq n) (flat_map (stop_of nets) binds) ≡ is_bound binds (get_or nets n [])
stops_tested nets [] n d lt = refl
stops_tested nets (b ∷ bs) n d lt =
    list_any-append (nat_eq n) (stop_of nets b) (flat_map (stop_of nets) bs)
    ∙ (ap (λ x. x || list_any (nat_eq n) (flat_map (stop_of nets) bs)) (stop_tested nets n b.formal (place_of b.formal nets) d lt refl)
    ∙ (ap (λ x. same_word (get_or nets n []) b.formal || x) (stops_tested nets bs n d lt) ∙ sym (is_bound-cons b bs (get_or nets n []))))

stop_below : (nets : List (List ℕ)) (formal : List ℕ) (o : Option ℕ) → place_of formal nets ≡ o → All (λ n. n < length nets) (listed o)
stop_below nets formal (Some k) e = All-cons (λ n. n < length nets) k [] (IsPlace-from_place formal nets k e).within (All-nil (λ n. n < length nets))
stop_below nets formal None e = All-nil (λ n. n < length nets)

stops_below : (nets : List (List ℕ)) (binds : List Bind) → All (λ n. n < length nets) (flat_map (stop_of nets) binds)
stops_below nets [] = All-nil (λ n. n < length nets)
stops_below nets (b ∷ bs) =
    All-append (λ n. n < length nets) (stop_of nets b) (flat_map (stop_of nets) bs)
    (stop_below nets b.formal (place_of b.formal nets) refl) (stops_below nets bs)

-- the stops in order
pub sorted_below : (nets : List (List ℕ)) (binds : List Bind) (sorted : List ℕ) (count : ℕ) → IsPermutation (flat_map (stop_of nets) binds) sorted → count ≡ length nets
    → All (λ n. n < count) sorted
sorted_below nets binds sorted count m e =
    subst (λ k. All (λ n. n < k) sorted) (sym e) (All-permutation (λ n. n < length nets) (flat_map (stop_of nets) binds) sorted m (stops_below nets binds))

-- ---- names and numbers

abbrev name_at : List (List ℕ) → ℕ → List ℕ
name_at nets k = get_or nets k []

-- the names of numbers that pass a test are those that pass it by name
named_range : (nets : List (List ℕ)) (q : List ℕ → Bool) (p : ℕ → Bool) (a n : ℕ) → ((k : ℕ) → a ≤ k → k < a + n → q (name_at nets k) ≡ p k)
    → filter q (map (name_at nets) (range_with_len a n)) ≡ map (name_at nets) (filter p (range_with_len a n))
named_range nets q p a zero h = refl
named_range nets q p a (suc n) h =
    split (p a) (q (name_at nets a)) refl (h a (omega arith) (omega arith)) (named_range nets q p (a + 1) n (λ k l g. h k (omega arith) (omega arith)))
  where
    split : (b c : Bool) → p a ≡ b → c ≡ p a
        → filter q (map (name_at nets) (range_with_len (a + 1) n)) ≡ map (name_at nets) (filter p (range_with_len (a + 1) n))
        → (if c then name_at nets a ∷ filter q (map (name_at nets) (range_with_len (a + 1) n)) else filter q (map (name_at nets) (range_with_len (a + 1) n)))
        ≡ map (name_at nets) (if p a then a ∷ filter p (range_with_len (a + 1) n) else filter p (range_with_len (a + 1) n))
    split true c e f r = rw (f, e) (ap (λ ws. name_at nets a ∷ ws) r)
    split false c e f r = rw (f, e) r

cut_numbers : (nets : List (List ℕ)) (a n : ℕ) → a + n ≤ length nets → take n (drop a nets) ≡ map (name_at nets) (range_with_len a n)
cut_numbers nets a zero h = refl
cut_numbers nets a (suc n) h =
    ap (take (suc n)) (drop_more nets a [] (omega arith)) ∙ ap (λ ws. name_at nets a ∷ ws) (cut_numbers nets (a + 1) n (omega arith))

spans_cut : (nets : List (List ℕ)) (spans : List Span) → All (IsSpan (length nets)) spans
    → flat_map (cut nets) spans ≡ map (name_at nets) (flat_map span_numbers spans)
spans_cut nets [] all = refl
spans_cut nets (s ∷ ss) all =
    let here = All-get_or (IsSpan (length nets)) (s ∷ ss) 0 s (omega arith) all in
    let low = here.some in
    let high = here.within in
    ap (λ ws. ws ++ flat_map (cut nets) ss) (cut_numbers nets s.start (s.end - s.start) (omega arith))
    ∙ (ap (λ ws. map (name_at nets) (span_numbers s) ++ ws) (spans_cut nets ss (All-tail (IsSpan (length nets)) s ss all))
    ∙ sym (map-append (name_at nets) (span_numbers s) (flat_map span_numbers ss)))

-- the spans between the stops are those of the nets that aren't bound
pub owned : (nets : List (List ℕ)) (binds : List Bind) (sorted : List ℕ) (count : ℕ) (spans : List Span) → IsDistinct nets
    → IsPermutation (flat_map (stop_of nets) binds) sorted → count ≡ length nets → AreBetween sorted count spans → AreOwn nets binds spans
owned nets binds sorted count spans d m e h =
    let within : All (IsSpan (length nets)) spans = subst (λ k. All (IsSpan k) spans) e h.within in
    let q : List ℕ → Bool = λ net. not (is_bound binds net) in
    let tested : (k : ℕ) → 0 ≤ k → k < 0 + length nets → q (name_at nets k) ≡ is_other sorted k =
    λ k l g.
    ap not
    (sym (stops_tested nets binds k d (omega arith)) ∙ list_any-IsPermutation (nat_eq k) (flat_map (stop_of nets) binds) sorted m) in
    let all : nets ≡ map (name_at nets) (range_with_len 0 (length nets)) = fill_by_all (name_at nets) nets (length nets) [] refl (λ k l. refl) in
    record {
      within = within;
      are =
          spans_cut nets spans within
          ∙ (ap (map (name_at nets)) (h.are ∙ ap (λ k. filter (is_other sorted) (range_with_len 0 k)) e)
          ∙ (sym (named_range nets q (is_other sorted) 0 (length nets) tested) ∙ ap (filter q) (sym all)));
    }
