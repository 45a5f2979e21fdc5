-- The spans between numbers that ascend are those of the other numbers.
use Rattle.std.proofs.Common.{◌≡◌, ℕ, zero, suc, ◌+◌, ◌-◌, ◌<◌, ◌≤◌, Bool, true, false, not, List, [], ◌∷◌, ◌++◌, length, get_or, filter, All, refl, sym, ◌∙◌, ap, subst, arith}
use Rattle.std.specs.Prelude.{nat_eq, nat_lt, if◌then◌else◌}
use Rattle.std.specs.List.{flat_map, range_with_len}
use Rattle.std.specs.List.Sorted.{IsNonDecreasing}
use Rattle.std.proofs.lemmas.Bool.Decides.{nat_tests}
use Rattle.std.proofs.lemmas.Grind.{flat_map-append}
use Rattle.std.proofs.lemmas.List.{append-nil}
use Rattle.std.proofs.lemmas.List.Elements.{All-append, All-cons, All-from_get_or, All-get_or, All-nil, filter-append}
use Rattle.std.proofs.lemmas.List.Folds.{list_any_at, list_any_none}
use Rattle.mv_unfold.specs.declared.spans.Span.{Span}
use Rattle.mv_unfold.specs.Locals.{IsSpan, span_numbers, span_between, is_other, AreBetween}

-- ---- numbers from one up to another

range_split : (a m n : ℕ) → range_with_len a (m + n) ≡ range_with_len a m ++ range_with_len (a + m) n
range_split a zero n =
    let e : zero + n ≡ n = omega arith in
    let f : a ≡ a + zero = omega arith in
    ap (range_with_len a) e ∙ ap (λ b. range_with_len b n) f
range_split a (suc m) n =
    let e : suc m + n ≡ suc (m + n) = omega arith in
    let f : (a + 1) + m ≡ a + suc m = omega arith in
    ap (range_with_len a) e ∙ ap (λ ns. a ∷ ns) (range_split (a + 1) m n ∙ ap (λ b. range_with_len (a + 1) m ++ range_with_len b n) f)

range_from_zero : (m n : ℕ) → range_with_len 0 (m + n) ≡ range_with_len 0 m ++ range_with_len m n
range_from_zero m n = range_split 0 m n ∙ ap (λ b. range_with_len 0 m ++ range_with_len b n) (omega arith)

-- numbers that all pass a test
range_kept : (p : ℕ → Bool) (a n : ℕ) → ((k : ℕ) → a ≤ k → k < a + n → p k ≡ true) → filter p (range_with_len a n) ≡ range_with_len a n
range_kept p a zero h = refl
range_kept p a (suc n) h = rw (h a (omega arith) (omega arith)) (ap (λ ns. a ∷ ns) (range_kept p (a + 1) n (λ k l g. h k (omega arith) (omega arith))))

one_gone : (p : ℕ → Bool) (a : ℕ) → p a ≡ false → filter p (range_with_len a 1) ≡ []
one_gone p a e = rw e refl

-- ---- spans

between_numbers : (start end : ℕ) → flat_map span_numbers (span_between start end) ≡ range_with_len start (end - start)
between_numbers start end = split (nat_lt start end) refl
  where
    none : (n : ℕ) → n ≡ 0 → [] ≡ range_with_len start n
    none n e = ap (range_with_len start) (sym e)

    split : (b : Bool) → nat_lt start end ≡ b
        → flat_map span_numbers (if b then record { start = start; end = end } ∷ [] else []) ≡ range_with_len start (end - start)
    split true e = append-nil (range_with_len start (end - start))
    split false e = none (end - start) (grind (arith, nat_tests))

between_within : (start end count : ℕ) → end ≤ count → All (IsSpan count) (span_between start end)
between_within start end count h = split (nat_lt start end) refl
  where
    split : (b : Bool) → nat_lt start end ≡ b → All (IsSpan count) (if b then record { start = start; end = end } ∷ [] else [])
    split true e =
        let s : Span = record { start = start; end = end } in
        All-cons (IsSpan count) s [] (record { some = grind (arith, nat_tests); within = h }) (All-nil (IsSpan count))
    split false e = All-nil (IsSpan count)

-- the spans of the numbers up to a start, which is behind i of the stops
pub record IsCutTo (stops : List ℕ) (count : ℕ) (spans : List Span) (i start : ℕ) : Type 0 where
  pub within : All (IsSpan count) spans
  pub are : flat_map span_numbers spans ≡ filter (is_other stops) (range_with_len 0 start)
  pub passed : (j : ℕ) → j < i → get_or stops j 0 < start
  pub ahead : (j : ℕ) → i ≤ j → j < length stops → start ≤ get_or stops j 0 + 1
  pub low : start ≤ count

not_stopped : (stops : List ℕ) (i start end n : ℕ) → ((j : ℕ) → j < i → get_or stops j 0 < start) → ((j : ℕ) → i ≤ j → j < length stops → end ≤ get_or stops j 0)
    → start ≤ n → n < end → is_other stops n ≡ true
not_stopped stops i start end n passed ahead low high =
    ap not (list_any_none (nat_eq n) stops (All-from_get_or (λ m. nat_eq n m ≡ false) stops 0 (λ j lt. other j lt (nat_lt j i) refl)))
  where
    other : (j : ℕ) → j < length stops → (b : Bool) → nat_lt j i ≡ b → nat_eq n (get_or stops j 0) ≡ false
    other j lt true e = let l = passed j (grind (arith, nat_tests)) in grind (arith, nat_tests)
    other j lt false e = let l = ahead j (grind (arith, nat_tests)) lt in grind (arith, nat_tests)

-- the numbers up to the next stop
reached : (stops : List ℕ) (count : ℕ) (spans : List Span) (i start end : ℕ) → IsCutTo stops count spans i start → start ≤ end
    → ((j : ℕ) → i ≤ j → j < length stops → end ≤ get_or stops j 0)
    → flat_map span_numbers (spans ++ span_between start end) ≡ filter (is_other stops) (range_with_len 0 end)
reached stops count spans i start end h low ahead =
    let p = is_other stops in
    let long : end ≡ start + (end - start) = omega arith in
    let r : range_with_len 0 end ≡ range_with_len 0 start ++ range_with_len start (end - start) =
    ap (range_with_len 0) long ∙ range_from_zero start (end - start) in
    flat_map-append span_numbers spans (span_between start end)
    ∙ (ap (λ ns. ns ++ flat_map span_numbers (span_between start end)) h.are
    ∙ (ap (λ ns. filter p (range_with_len 0 start) ++ ns)
    (between_numbers start end ∙ sym (range_kept p start (end - start) (λ k l g. not_stopped stops i start end k h.passed ahead l (omega arith))))
    ∙ (sym (filter-append p (range_with_len 0 start) (range_with_len start (end - start))) ∙ ap (filter p) (sym r))))

pub cut_none : (stops : List ℕ) (count : ℕ) → IsCutTo stops count [] 0 0
cut_none stops count = record {
  within = All-nil (IsSpan count);
  are = refl;
  passed = λ j h. absurd (omega arith);
  ahead = λ j h l. omega arith;
  low = omega arith;
}

more_within : (count : ℕ) (spans : List Span) (start end : ℕ) → All (IsSpan count) spans → end ≤ count → All (IsSpan count) (spans ++ span_between start end)
more_within count spans start end a h = All-append (IsSpan count) spans (span_between start end) a (between_within start end count h)

-- one more stop
pub cut_more : (stops : List ℕ) (count : ℕ) (spans : List Span) (i start stop : ℕ) → IsNonDecreasing stops → All (λ n. n < count) stops
    → IsCutTo stops count spans i start → i < length stops → stop ≡ get_or stops i 0 → IsCutTo stops count (spans ++ span_between start stop) (i + 1) (stop + 1)
cut_more stops count spans i start stop up below h lt is =
    let p = is_other stops in
    let low : stop < count = subst (λ n. n < count) (sym is) (All-get_or (λ n. n < count) stops i 0 lt below) in
    let near : start ≤ stop + 1 = let l = h.ahead i (omega arith) lt in omega arith in
    let later : (j : ℕ) → i ≤ j → j < length stops → stop ≤ get_or stops j 0 = λ j l g. let u = up i j 0 l g in omega arith in
    let known : p stop ≡ false = ap not (list_any_at (nat_eq stop) stops i 0 lt (ap (nat_eq stop) (sym is) ∙ same stop)) in
    let one : range_with_len 0 (stop + 1) ≡ range_with_len 0 stop ++ range_with_len stop 1 = range_from_zero stop 1 in
    let without : filter p (range_with_len 0 (stop + 1)) ≡ filter p (range_with_len 0 stop) =
    ap (filter p) one
    ∙ (filter-append p (range_with_len 0 stop) (range_with_len stop 1)
    ∙ (ap (λ ns. filter p (range_with_len 0 stop) ++ ns) (one_gone p stop known) ∙ append-nil (filter p (range_with_len 0 stop)))) in
    record {
      within = more_within count spans start stop h.within (omega arith);
      are = split (nat_lt stop start) refl without near later;
      passed = λ j l. before j l (nat_lt j i) refl;
      ahead = λ j l g. let u = up i j 0 (omega arith) g in omega arith;
      low = omega arith;
    }
  where
    same : (n : ℕ) → nat_eq n n ≡ true
    same n = grind (arith, nat_tests)

    before : (j : ℕ) → j < i + 1 → (b : Bool) → nat_lt j i ≡ b → get_or stops j 0 < stop + 1
    before j l b e = let u = up j i 0 (omega arith) lt in omega arith

    split : (b : Bool) → nat_lt stop start ≡ b → filter (is_other stops) (range_with_len 0 (stop + 1)) ≡ filter (is_other stops) (range_with_len 0 stop)
        → start ≤ stop + 1 → ((j : ℕ) → i ≤ j → j < length stops → stop ≤ get_or stops j 0)
        → flat_map span_numbers (spans ++ span_between start stop) ≡ filter (is_other stops) (range_with_len 0 (stop + 1))
    split true e without near later =
        let f : start ≡ stop + 1 = grind (arith, nat_tests) in
        let g : stop - start ≡ 0 = omega arith in
        flat_map-append span_numbers spans (span_between start stop)
        ∙ (ap (λ ns. flat_map span_numbers spans ++ ns) (between_numbers start stop ∙ ap (range_with_len start) g)
        ∙ (append-nil (flat_map span_numbers spans) ∙ (h.are ∙ ap (λ n. filter (is_other stops) (range_with_len 0 n)) f)))
    split false e without near later = reached stops count spans i start stop h (grind (arith, nat_tests)) later ∙ sym without

-- behind the last stop
pub cut_all : (stops : List ℕ) (count : ℕ) (spans : List Span) (i start : ℕ) → IsCutTo stops count spans i start → length stops ≤ i
    → AreBetween stops count (spans ++ span_between start count)
cut_all stops count spans i start h all = record {
  within = more_within count spans start count h.within (omega arith);
  are = reached stops count spans i start count h h.low (λ j l g. absurd (omega arith));
}
