-- Quotients one after another, and their cubes put to those that are left.
use Rattle.std.proofs.Common.{◌≡◌, ◌∙◌, ℕ, suc, ◌+◌, ◌<◌, ◌⊎◌, List, [], ◌∷◌, ◌++◌, length, get_or, take, filter, Bool, true, false, not, Contains, inl, inr, refl, sym, ap, subst, arith}
use Rattle.std.proofs.lemmas.List.{map-append, append-nil}
use Rattle.std.proofs.lemmas.Bool.{cond-true, cond-false}
use Rattle.std.proofs.Math.Seq.{take-suc}
use Rattle.std.proofs.lemmas.List.Elements.{All-nil, All-push, All-contains, All-weaker, All-contains_itself, Contains-append_left, Contains-push, filter-append}
use Rattle.indexmap.specs.IndexSet.{insert_all}
use Rattle.mv_cover.specs.Literal.{Lit}
use Rattle.mv_cover.specs.Equal.{line_eq}
use Rattle.mv_cover.specs.Keys.{line_eq-Decides}
use Rattle.mv_cover.specs.declared.line.Line.{Line}
use Rattle.mv_kernels.proofs.Lists.{Contains-none, Contains-first, Contains-behind, Contains-cons_cases, Contains-map, Contains-from_map, insert_all-keeps, insert_all-has, insert_all-each}
use Rattle.mv_divide.specs.declared.part.Part.{Part}
use Rattle.mv_divide.specs.declared.quotient.Quotient.{Quotient}
use Rattle.mv_divide.specs.Division.{IsQuotient}
use Rattle.mv_divide.specs.Tables.{AreQuotients}
use Rattle.mv_divide.specs.Grouped.{left_lines, IsLeftLine, AreLeft, kept}

-- ---- one more at the end of a list

take_more : {X : Type 0} (xs : List X) (i : ℕ) (x : X) → i < length xs → x ≡ get_or xs i x → take (i + 1) xs ≡ take i xs ++ x ∷ []
take_more xs i x low is =
    let next : i + 1 ≡ suc i = omega arith in
    ap (λ n. take n xs) next ∙ (take-suc xs i x low ∙ ap (λ y. take i xs ++ y ∷ []) (sym is))

-- a member of a list with one more is that one or was there
last_cases : {X : Type 0} (xs : List X) (x y : X) → Contains (xs ++ x ∷ []) y → (x ≡ y) ⊎ Contains xs y
last_cases [] x y h =
    elim (Contains-cons_cases y x [] h) [ inl e ↦ inl e | inr t ↦ absurd (Contains-none y t) ]
last_cases (z ∷ zs) x y h =
    elim (Contains-cons_cases y z (zs ++ x ∷ []) h) [
      | inl e ↦ inr (subst (λ w. Contains (z ∷ zs) w) e (Contains-first z zs))
      | inr t ↦ elim (last_cases zs x y t) [ inl e ↦ inl e | inr u ↦ inr (Contains-behind y z zs u) ]
    ]

-- ---- quotients

-- what a quotient is said of the covers
abbrev OfPart : List Part → List (List Lit) → Quotient → Type 0
OfPart parts divisor q = (p : Part) × Contains parts p × (p.out ≡ q.out) × IsQuotient p.cover divisor q.cubes

pub none_quotients : (divisor : List (List Lit)) → AreQuotients [] divisor []
none_quotients divisor = record { outs = refl; each = All-nil (OfPart [] divisor) }

pub quotients_more : (parts : List Part) (i : ℕ) (part : Part) (divisor : List (List Lit)) (old : List Quotient) (q : Quotient) → i < length parts → part ≡ get_or parts i part → part.out ≡ q.out → IsQuotient part.cover divisor q.cubes → AreQuotients (take i parts) divisor old → AreQuotients (take (i + 1) parts) divisor (old ++ q ∷ [])
quotients_more parts i part divisor old q low is out quotient a =
    let more = take_more parts i part low is in
    let wider : (x : Quotient) → OfPart (take i parts) divisor x → OfPart (take i parts ++ part ∷ []) divisor x = λ x h. (h.0, Contains-append_left (take i parts) (part ∷ []) h.0 h.1, h.2, h.3) in
    subst (λ (ps : List Part). AreQuotients ps divisor (old ++ q ∷ [])) (sym more)
    (record {
      outs =
          map-append (λ (x : Quotient). x.out) old (q ∷ []) ∙
          ((λ j. a.outs j ++ sym out j ∷ []) ∙ sym (map-append (λ (p : Part). p.out) (take i parts) (part ∷ [])));
      each =
          All-push (OfPart (take i parts ++ part ∷ []) divisor) old q
          (All-weaker (OfPart (take i parts) divisor) (OfPart (take i parts ++ part ∷ []) divisor) wider old a.each)
          (part, Contains-push (take i parts) part, out, quotient);
    })

-- ---- what is left

pub none_left : AreLeft [] []
none_left = record { only = All-nil (IsLeftLine []); all = λ l h. absurd (Contains-none h.quotient h.there) }

pub left_more : (quotients : List Quotient) (i : ℕ) (q : Quotient) (old new : List Line) → i < length quotients → q ≡ get_or quotients i q → new ≡ insert_all line_eq old (left_lines q) → AreLeft (take i quotients) old → AreLeft (take (i + 1) quotients) new
left_more quotients i q old new low is put a =
    let before = take i quotients in
    let line_of : List Lit → Line = λ s. record { cube = s; out = q.out } in
    subst (λ (qs : List Quotient). AreLeft qs new) (sym (take_more quotients i q low is))
    (subst (λ (ls : List Line). AreLeft (before ++ q ∷ []) ls) (sym put)
    (record {
      only =
          insert_all-each line_eq (IsLeftLine (before ++ q ∷ [])) old (left_lines q)
          (All-weaker (IsLeftLine before) (IsLeftLine (before ++ q ∷ []))
          (λ l h. record { quotient = h.quotient; there = Contains-append_left before (q ∷ []) h.quotient h.there; out = h.out; cube = h.cube }) old a.only)
          (All-weaker (Contains (left_lines q)) (IsLeftLine (before ++ q ∷ []))
          (λ l h.
          let m = Contains-from_map line_of q.cubes l h in
          record {
            quotient = q;
            there = Contains-push before q;
            out = sym (ap (λ (x : Line). x.out) m.2);
            cube = subst (λ (s : List Lit). Contains q.cubes s) (sym (ap (λ (x : Line). x.cube) m.2)) m.1;
          }) (left_lines q) (All-contains_itself (left_lines q)));
      all = λ l h.
          elim (last_cases before q h.quotient h.there) [
            | inr t ↦ insert_all-keeps line_eq old (left_lines q) l (a.all l (record { quotient = h.quotient; there = t; out = h.out; cube = h.cube }))
            | inl e ↦
                let cube : Contains q.cubes l.cube = subst (λ (x : Quotient). Contains x.cubes l.cube) (sym e) h.cube in
                let out : q.out ≡ l.out = ap (λ (x : Quotient). x.out) e ∙ h.out in
                let line : line_of l.cube ≡ l = λ j. record { cube = l.cube; out = out j } in
                All-contains (Contains (insert_all line_eq old (left_lines q))) (left_lines q) l
                (insert_all-has line_eq (λ x y g. (line_eq-Decides x y).0 g) old (left_lines q))
                (subst (Contains (left_lines q)) line (Contains-map line_of q.cubes l.cube cube))
          ];
    }))

-- ---- what is kept

pub kept_more : (q : Line → Bool) (lines : List Line) (i : ℕ) (x : Line) (old new : List Line) (b : Bool) → i < length lines → x ≡ get_or lines i x → b ≡ q x → new ≡ kept old x b → old ≡ filter (λ (l : Line). not (q l)) (take i lines) → new ≡ filter (λ (l : Line). not (q l)) (take (i + 1) lines)
kept_more q lines i x old new b low at is put e =
    let p : Line → Bool = λ l. not (q l) in
    let more : filter p (take (i + 1) lines) ≡ filter p (take i lines) ++ filter p (x ∷ []) =
    ap (filter p) (take_more lines i x low at) ∙ filter-append p (take i lines) (x ∷ []) in
    put ∙ (by b is ∙ sym more)
  where
    by : (c : Bool) → c ≡ q x → kept old x c ≡ filter (λ (l : Line). not (q l)) (take i lines) ++ filter (λ (l : Line). not (q l)) (x ∷ [])
    by true t =
        e ∙ (sym (append-nil (filter (λ (l : Line). not (q l)) (take i lines))) ∙
        ap (λ (ls : List Line). filter (λ (l : Line). not (q l)) (take i lines) ++ ls) (sym (cond-false (not (q x)) (x ∷ []) [] (sym (ap not t)))))
    by false f =
        ap (λ (ls : List Line). ls ++ x ∷ []) e ∙
        ap (λ (ls : List Line). filter (λ (l : Line). not (q l)) (take i lines) ++ ls) (sym (cond-true (not (q x)) (x ∷ []) [] (sym (ap not f))))
