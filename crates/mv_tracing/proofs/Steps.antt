-- Steps that some assignment shows, decided and put one after the other.
use Rattle.std.proofs.Common.{◌≡◌, ◌∙◌, ℕ, zero, suc, ◌+◌, ◌<◌, ◌≤◌, ◌-◌, Bool, true, false, List, [], ◌∷◌, ◌++◌, Option, Some, None, Result, Ok, Err, length, length-append, map, set, codes, decimal, refl, sym, ap, subst, arith, append_assoc, ⊎_elim}
use Rattle.std.specs.Prelude.{◌↔◌, MatchBool, slice_index}
use Rattle.std.specs.List.{enumerate_from}
use Rattle.std.proofs.lemmas.Bool.{cases_eq}
use Rattle.std.proofs.lemmas.Grind.{get_or-set_at}
use Rattle.std.proofs.lemmas.List.{append-nil, get_or-set_other, length-map, map-set}
use Rattle.std.proofs.lemmas.List.Elements.{All-from_recursion, recursion_from_All}
use Rattle.mv_base.specs.declared.number.Value.{Value}
use Rattle.mv_base.specs.declared.outside.Failed.{Failed}
use Rattle.mv_base.specs.Outside.{Written, Appends}
use Rattle.mv_base.proofs.Gains.{appends, same}
use Rattle.mv_lex.specs.Text.{line_text}
use Rattle.mv_net.specs.declared.parts.FlatNet.{FlatNet}
use Rattle.mv_net.specs.declared.parts.NetParts.{NetParts}
use Rattle.mv_page.specs.Page.{AddsPiece, Paged, paged}
use Rattle.mv_page.proofs.Adding.{adds}
use Rattle.mv_page.proofs.Paging.{ends, ends_cut}
use Rattle.mv_solve.specs.Asked.{HasAsked, IsSolution, NoSolution}
use Rattle.mv_solve.specs.Search.{Search}
use Rattle.mv_trace.specs.Answer.{at_of, net_value, names_line, step_line, words_from, yes_text}
use Rattle.mv_trace.specs.declared.run.RunStep.{RunStep}
use Rattle.mv_trace.specs.Given.{Shows, given_values}
use Rattle.mv_tracing.specs.Giving.{AsksFor, HasValues}
use Rattle.mv_tracing.specs.Steps.{AllShown, IsStepShown, PutsStep, PutsSteps, PutsYes, steps_text}
use Rattle.mv_tracing.specs.Traced.{AreShownFrom}

-- ---- one step, decided

module _ (net : NetParts) (run : List RunStep) (k : ℕ) where
  -- what is asked of the solver is what the step gives
  asks_still : (a b c : Search) → AsksFor a b (given_values net run k) → c.order ≡ b.order → c.asked ≡ b.asked → (at : ℕ → ℕ) → HasAsked c.order c.asked at ↔ HasValues at (given_values net run k)
  asks_still a b c g order asked =
      subst (λ o. (at : ℕ → ℕ) → HasAsked o c.asked at ↔ HasValues at (given_values net run k)) (sym order)
      (subst (λ s. (at : ℕ → ℕ) → HasAsked b.order s at ↔ HasValues at (given_values net run k)) (sym asked) g.asked)

  by_answer : (c : Search) (at : ℕ → ℕ) (answer : Bool) → ((to : ℕ → ℕ) → HasAsked c.order c.asked to ↔ HasValues to (given_values net run k))
      → MatchBool answer (IsSolution net.nets c.order c.asked at) (NoSolution net.nets c.order c.asked) → MatchBool answer (Shows net (given_values net run k) at) (IsStepShown net run k → ⊥)
  by_answer c at true asks h =
      record { agrees = h.agrees; has = All-from_recursion (λ (p : ℕ × ℕ). at p.0 ≡ p.1) (given_values net run k) ((asks at).0 h.asks) }
  by_answer c at false asks h =
      λ s. h.none s.at (record { agrees = s.shows.agrees; asks = (asks s.at).1 (recursion_from_All (λ (p : ℕ × ℕ). s.at p.0 ≡ p.1) (given_values net run k) s.shows.has) })

  pub decided : (a b c : Search) (at : ℕ → ℕ) (answer : Bool) → AsksFor a b (given_values net run k) → c.order ≡ b.order → c.asked ≡ b.asked
      → MatchBool answer (IsSolution net.nets c.order c.asked at) (NoSolution net.nets c.order c.asked) → MatchBool answer (Shows net (given_values net run k) at) (IsStepShown net run k → ⊥)
  decided a b c at answer g order asked h = by_answer c at answer (asks_still a b c g order asked) h

  -- a step that some assignment shows is found again
  pub found_again : (at : ℕ → ℕ) (answer : Bool) → IsStepShown net run k → MatchBool answer (Shows net (given_values net run k) at) (IsStepShown net run k → ⊥) → Shows net (given_values net run k) at
  found_again at true s h = h
  found_again at false s h = absurd (h s)

-- ---- all steps

pub shown_more : (net : NetParts) (run : List RunStep) (k : ℕ) → ((j : ℕ) → j < k → IsStepShown net run j) → IsStepShown net run k → (j : ℕ) → j < k + 1 → IsStepShown net run j
shown_more net run k before here j low =
    ⊎_elim (λ (e : j ≡ k). subst (IsStepShown net run) (sym e) here) (λ (ne : j ≡ k → ⊥). before j (omega (arith, ne))) (cases_eq j k)

-- assignments for the steps that are left
pub shown_from : (net : NetParts) (run : List RunStep) (m k : ℕ) → k + m ≡ length run → AllShown net run → (ats : List (ℕ → ℕ)) × AreShownFrom net run k ats
shown_from net run zero k e all = ([], omega arith)
shown_from net run (suc m) k e all =
    let s = all.each k (omega arith) in
    let rest = shown_from net run m (k + 1) (omega arith) all in
    (s.at ∷ rest.0, (s.shows, rest.1))

-- ---- the values of a step

-- the value of one net more is kept
pub kept_more : (values : List Value) (found : List ℕ) (n : ℕ) (v : Value) → n < length values → v.0 ≡ slice_index found n → ((m : ℕ) → m < n → at_of (map (λ (w : Value). w.0) values) m ≡ slice_index found m)
    → (m : ℕ) → m < n + 1 → at_of (map (λ (w : Value). w.0) (set values n v)) m ≡ slice_index found m
kept_more values found n v low is before m at =
    let numbers = map (λ (w : Value). w.0) values in
    let long : length numbers ≡ length values = length-map values (λ (w : Value). w.0) in
    let one : at_of (map (λ (w : Value). w.0) (set values n v)) m ≡ at_of (set numbers n v.0) m = ap (λ (l : List ℕ). at_of l m) (map-set (λ (w : Value). w.0) values n v) in
    ⊎_elim
    (λ (e : m ≡ n). one ∙ (get_or-set_at numbers n m v.0 0 e (omega arith) ∙ (is ∙ ap (slice_index found) (sym e))))
    (λ (ne : m ≡ n → ⊥). one ∙ (get_or-set_other numbers n m v.0 0 ne ∙ before m (omega (arith, ne))))
    (cases_eq m n)

-- ---- the line of a step

-- assignments that are the same at the numbers of nets have the same words
same_words : (at to : ℕ → ℕ) (nets : List (Option FlatNet)) (n : ℕ) → ((m : ℕ) → m < n + length nets → at m ≡ to m) → words_from (net_value at) (enumerate_from n nets) ≡ words_from (net_value to) (enumerate_from n nets)
same_words at to [] n e = refl
same_words at to (None ∷ fs) n e = same_words at to fs (n + 1) (λ m low. e m (omega arith))
same_words at to (Some f ∷ fs) n e =
    let here : net_value at n f ≡ net_value to n f = ap decimal (e n (omega arith)) in
    let rest = same_words at to fs (n + 1) (λ m low. e m (omega arith)) in
    λ i. here i ∷ rest i

pub same_line : (at to : ℕ → ℕ) (nets : List (Option FlatNet)) (k : ℕ) → ((m : ℕ) → m < length nets → at m ≡ to m) → step_line nets k at ≡ step_line nets k to
same_line at to nets k e =
    ap (λ ws. line_text (codes "step" ∷ decimal k ∷ ws)) (same_words at to nets 0 (λ m low. e m (omega arith)))

-- ---- the lines of all steps

text_both : (nets : List (Option FlatNet)) (n : ℕ) (ats rest : List (ℕ → ℕ)) → steps_text nets n (ats ++ rest) ≡ steps_text nets n ats ++ steps_text nets (n + length ats) rest
text_both nets n [] rest = let same : n ≡ n + 0 = omega arith in ap (λ m. steps_text nets m rest) same
text_both nets n (at ∷ ats) rest =
    let deeper : (n + 1) + length ats ≡ n + suc (length ats) = omega arith in
    ap (λ t. step_line nets n at ++ t) (text_both nets (n + 1) ats rest)
    ∙ (sym (append_assoc (step_line nets n at) (steps_text nets (n + 1) ats) (steps_text nets ((n + 1) + length ats) rest))
    ∙ ap (λ m. (step_line nets n at ++ steps_text nets (n + 1) ats) ++ steps_text nets m rest) deeper)

-- the lines before step k are put
pub record PutSoFar (net : NetParts) (run : List RunStep) (k : ℕ) (old now : Paged) : Type 0 where
  pub ats : List (ℕ → ℕ)
  pub long : length ats ≡ k
  pub goes : (rest : List (ℕ → ℕ)) → AreShownFrom net run k rest → AreShownFrom net run 0 (ats ++ rest)
  pub puts : AddsPiece old now (steps_text net.nets 0 ats) (Ok tt)

module _ (net : NetParts) (run : List RunStep) where
  pub put_none : (a : Paged) → PutSoFar net run 0 a a
  put_none a = record { ats = []; long = refl; goes = λ rest h. h; puts = adds.nothing a }

  -- the text of the steps so far and of the others
  whole_text : (k : ℕ) (ats rest : List (ℕ → ℕ)) → length ats ≡ k → steps_text net.nets 0 ats ++ steps_text net.nets k rest ≡ steps_text net.nets 0 (ats ++ rest)
  whole_text k ats rest e =
      let same : k ≡ 0 + length ats = omega arith in
      ap (λ m. steps_text net.nets 0 ats ++ steps_text net.nets m rest) same ∙ sym (text_both net.nets 0 ats rest)

  pub put_more : (k : ℕ) (a b c : Paged) → PutSoFar net run k a b → PutsStep net run k b c (Ok tt) → PutSoFar net run (k + 1) a c
  put_more k a b c p s = record {
    ats = p.ats ++ s.at ∷ [];
    long = length-append p.ats (s.at ∷ []) ∙ ap (λ n. n + 1) p.long;
    goes = λ rest h. subst (AreShownFrom net run 0) (sym (append_assoc p.ats (s.at ∷ []) rest)) (p.goes (s.at ∷ rest) (s.shows, h));
    puts =
        same adds
        (ap (λ t. steps_text net.nets 0 p.ats ++ t) (sym (append-nil (step_line net.nets k s.at))) ∙ whole_text k p.ats (s.at ∷ []) p.long)
        (adds.more a b c (steps_text net.nets 0 p.ats) (step_line net.nets k s.at) (Ok tt) p.puts s.puts);
  }

  pub put_cut : (k : ℕ) (a b c : Paged) (e : Failed) → k < length run → AllShown net run → PutSoFar net run k a b → PutsStep net run k b c (Err e) → PutsSteps net run a c (Err e)
  put_cut k a b c e low all p s =
      let others = shown_from net run (length run - (k + 1)) (k + 1) (omega arith) all in
      let rest = steps_text net.nets (k + 1) others.0 in
      record {
        ats = p.ats ++ s.at ∷ others.0;
        shown = p.goes (s.at ∷ others.0) (s.shows, others.1);
        puts =
            same adds (whole_text k p.ats (s.at ∷ others.0) p.long)
            (adds.more a b c (steps_text net.nets 0 p.ats) (step_line net.nets k s.at ++ rest) (Err e) p.puts (adds.cut b c (step_line net.nets k s.at) rest e s.puts));
      }

  pub put_all : (k : ℕ) (a b : Paged) → length run ≤ k → k ≤ length run → PutSoFar net run k a b → PutsSteps net run a b (Ok tt)
  put_all k a b high low p = record {
    ats = p.ats;
    shown = subst (AreShownFrom net run 0) (append-nil p.ats) (p.goes [] (omega arith));
    puts = p.puts;
  }

-- ---- the whole answer

yes_is : (nets : List (Option FlatNet)) (ats : List (ℕ → ℕ)) → codes "yes\n" ++ (names_line nets ++ steps_text nets 0 ats) ≡ yes_text nets ats
unfolding yes_text
yes_is nets ats = refl

module _ (net : NetParts) (run : List RunStep) (a : Written) (page : List ℕ) where
  -- a call for the names failed
  pub puts_names : (b : Written) (held : List ℕ) (e : Failed) → AllShown net run → page ≡ codes "yes\n" → AddsPiece (paged a page) (paged b held) (names_line net.nets) (Err e) → PutsYes net run a b (Err e)
  puts_names b held e all begins p =
      let others = shown_from net run (length run) 0 (omega arith) all in
      let rest = steps_text net.nets 0 others.0 in
      let P : List ℕ → Type 0 = λ z. AddsPiece (paged a z) (paged b held) (names_line net.nets ++ rest) (Err e) in
      record {
        ats = others.0;
        shown = others.1;
        puts = same appends (yes_is net.nets others.0) (ends_cut a b (codes "yes\n") held (names_line net.nets ++ rest) e (subst P begins (adds.cut (paged a page) (paged b held) (names_line net.nets) rest e p)));
      }

  module _ (b : Written) (named : List ℕ) (c : Written) (held : List ℕ) (begins : page ≡ codes "yes\n") (names : AddsPiece (paged a page) (paged b named) (names_line net.nets) (Ok tt)) where
    both : {r : Result (Unit {0}) Failed} (s : PutsSteps net run (paged b named) (paged c held) r) → AddsPiece (paged a (codes "yes\n")) (paged c held) (names_line net.nets ++ steps_text net.nets 0 s.ats) r
    both {r = r} s =
        let P : List ℕ → Type 0 = λ z. AddsPiece (paged a z) (paged c held) (names_line net.nets ++ steps_text net.nets 0 s.ats) r in
        subst P begins (adds.more (paged a page) (paged b named) (paged c held) (names_line net.nets) (steps_text net.nets 0 s.ats) r names s.puts)

    -- a call for the steps failed
    pub yes_cut : (e : Failed) → PutsSteps net run (paged b named) (paged c held) (Err e) → PutsYes net run a c (Err e)
    yes_cut e s = record {
      ats = s.ats;
      shown = s.shown;
      puts = same appends (yes_is net.nets s.ats) (ends_cut a c (codes "yes\n") held (names_line net.nets ++ steps_text net.nets 0 s.ats) e (both s));
    }

    -- all was put, and the last page handed on
    pub yes_put : (d : Written) (r : Result (Unit {0}) Failed) → PutsSteps net run (paged b named) (paged c held) (Ok tt) → Appends c d held r → PutsYes net run a d r
    yes_put d r s last = record {
      ats = s.ats;
      shown = s.shown;
      puts = same appends (yes_is net.nets s.ats) (ends a c d (codes "yes\n") held (names_line net.nets ++ steps_text net.nets 0 s.ats) r (both s) last);
    }
