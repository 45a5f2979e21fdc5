-- The values of each net behind a line: a net keeps its first declaration, and a net of the line has the values that the
-- line says, since a line that says others is refused.
use Rattle.std.proofs.Common.{◌≡◌, ℕ, Bool, true, false, not, ◌||◌, List, [], ◌∷◌, ◌++◌, refl, ap, sym, subst, ◌∙◌, ⊎_elim}
use Rattle.std.specs.Prelude.{if◌then◌else◌}
use Rattle.std.proofs.lemmas.Bool.{cases_Bool, cond-true, cond-false, cond_both, or_cases, or_parts, or_from, or_left, or_right, and_cases, not-true, not-false, not_from_false, false≢true}
use Rattle.std.proofs.lemmas.List.{map-append}
use Rattle.std.proofs.lemmas.Slice.Eq.{slice_eq-Decides, bytes_eq-Decides}
use Rattle.mv_base.specs.Names.{same_word, among}
use Rattle.mv_base.proofs.NameLemmas.{same_word_is, among-append, place_of-none}
use Rattle.mv_design.specs.declared.design.Decl.{Decl}
use Rattle.mv_fault.specs.declared.fault.ParseFault.TheVariants.{Redeclared}
use Rattle.mv_fault.specs.Tells.{when}
use Rattle.mv_fault.proofs.Nothing.{left-nothing, right-nothing, when-nothing}
use Rattle.mv_design.specs.Values.{values_of, declared_of, two_values}
use Rattle.mv_decl.specs.Nets.{with_decl, with_decls}
use Rattle.mv_decl.specs.Line.{decls_for, same_values, is_redeclared, redeclared_faults}
use Rattle.mv_decl.proofs.Kept.{not_found}

-- ---- one more declaration

chosen : {A : Type 0} (b c : Bool) (v r m : A) → (if b then v else (if c then r else m)) ≡ (if b || c then (if b then v else r) else m)
chosen true c v r m = refl
chosen false c v r m = refl

values_of-append : (net : List ℕ) (ds more : List Decl) → values_of (ds ++ more) net ≡ (if among net (declared_of ds) then values_of ds net else values_of more net)
values_of-append net [] more = refl
values_of-append net (d ∷ ds) more =
    ap (λ (r : List (List ℕ)). if same_word net d.net then d.values else r) (values_of-append net ds more) ∙ chosen (same_word net d.net) (among net (declared_of ds)) d.values (values_of ds net) (values_of more net)

undeclared : (net : List ℕ) (ds : List Decl) → among net (declared_of ds) ≡ false → values_of ds net ≡ two_values
undeclared net ds e = not_found ds net (place_of-none net (declared_of ds) e)

among_push : (net : List ℕ) (ds : List Decl) (d : Decl) → among net (declared_of (ds ++ d ∷ [])) ≡ (among net (declared_of ds) || (same_word net d.net || false))
among_push net ds d = ap (among net) (map-append (λ (x : Decl). x.net) ds (d ∷ [])) ∙ among-append net (declared_of ds) (d.net ∷ [])

-- a declared net keeps its values and stays declared
kept_one : (net : List ℕ) (ds : List Decl) (d : Decl) → among net (declared_of ds) ≡ true → values_of (with_decl ds d) net ≡ values_of ds net
unfolding with_decl
kept_one net ds d e =
    cond_both (among d.net (declared_of ds)) ds (ds ++ d ∷ []) (λ x. values_of x net ≡ values_of ds net) (λ _. refl) (λ _. values_of-append net ds (d ∷ []) ∙ cond-true _ _ _ e)

still_one : (net : List ℕ) (ds : List Decl) (d : Decl) → among net (declared_of ds) ≡ true → among net (declared_of (with_decl ds d)) ≡ true
unfolding with_decl
still_one net ds d e =
    cond_both (among d.net (declared_of ds)) ds (ds ++ d ∷ []) (λ x. among net (declared_of x) ≡ true) (λ _. e) (λ _. among_push net ds d ∙ or_left _ _ e)

-- and so does a net that isn't the one declared
other_push : (net : List ℕ) (ds : List Decl) (d : Decl) → same_word net d.net ≡ false → values_of (ds ++ d ∷ []) net ≡ values_of ds net
other_push net ds d other =
    values_of-append net ds (d ∷ []) ∙ ⊎_elim
    (λ (y : among net (declared_of ds) ≡ true). cond-true _ _ _ y)
    (λ (n : among net (declared_of ds) ≡ false). cond-false _ _ _ n ∙ (cond-false _ _ _ other ∙ sym (undeclared net ds n)))
    (cases_Bool (among net (declared_of ds)))

other_one : (net : List ℕ) (ds : List Decl) (d : Decl) → same_word net d.net ≡ false → values_of (with_decl ds d) net ≡ values_of ds net
unfolding with_decl
other_one net ds d other =
    cond_both (among d.net (declared_of ds)) ds (ds ++ d ∷ []) (λ x. values_of x net ≡ values_of ds net) (λ _. refl) (λ _. other_push net ds d other)

absent_one : (net : List ℕ) (ds : List Decl) (d : Decl) → same_word net d.net ≡ false → among net (declared_of ds) ≡ false → among net (declared_of (with_decl ds d)) ≡ false
unfolding with_decl
absent_one net ds d other e =
    cond_both (among d.net (declared_of ds)) ds (ds ++ d ∷ []) (λ x. among net (declared_of x) ≡ false) (λ _. e) (λ _. among_push net ds d ∙ or_from _ _ e (or_from _ _ other refl))

-- a net that is new has the values declared
record IsNew (net : List ℕ) (ds : List Decl) (d : Decl) : Type 0 where
  value : values_of (with_decl ds d) net ≡ d.values
  declared : among net (declared_of (with_decl ds d)) ≡ true

new_one : (net : List ℕ) (ds : List Decl) (d : Decl) → same_word net d.net ≡ true → among net (declared_of ds) ≡ false → IsNew net ds d
unfolding with_decl
new_one net ds d same e =
    let absent : among d.net (declared_of ds) ≡ false = subst (λ (w : List ℕ). among w (declared_of ds) ≡ false) (same_word_is net d.net same) e in
    let pushed : with_decl ds d ≡ ds ++ d ∷ [] = cond-false _ _ _ absent in
    record {
      value = ap (λ x. values_of x net) pushed ∙ (values_of-append net ds (d ∷ []) ∙ (cond-false _ _ _ e ∙ cond-true _ _ _ same));
      declared = ap (λ x. among net (declared_of x)) pushed ∙ (among_push net ds d ∙ or_right _ _ (or_left _ _ same));
    }

-- ---- a whole line

-- a net that was declared before, or that the line doesn't name, has the values as before
pub kept_line : (nets values : List (List ℕ)) (ds : List Decl) (net : List ℕ) → (among net (declared_of ds) || not (among net nets)) ≡ true → values_of (with_decls ds (decls_for values nets)) net ≡ values_of ds net
kept_line [] values ds net e = refl
kept_line (u ∷ us) values ds net e =
    let d : Decl = record { net = u; values = values } in
    ⊎_elim
    (λ (y : among net (declared_of ds) ≡ true). kept_line us values (with_decl ds d) net (or_left _ _ (still_one net ds d y)) ∙ kept_one net ds d y)
    (λ (n : not (among net (u ∷ us)) ≡ true). (
    let away = or_parts (same_word net u) (among net us) (not-true _ n) in
    kept_line us values (with_decl ds d) net (or_right _ _ (not_from_false _ away.1)) ∙ other_one net ds d away.0
    ))
    (or_cases _ _ e)

-- a net of the line has its values, if it had no others before
said_new : (nets values : List (List ℕ)) (ds : List Decl) (net : List ℕ) → among net nets ≡ true → among net (declared_of ds) ≡ false → values_of (with_decls ds (decls_for values nets)) net ≡ values
said_new [] values ds net e absent = absurd (false≢true e)
said_new (u ∷ us) values ds net e absent =
    let d : Decl = record { net = u; values = values } in
    ⊎_elim
    (λ (here : same_word net u ≡ true). (
    let new = new_one net ds d here absent in
    kept_line us values (with_decl ds d) net (or_left _ _ new.declared) ∙ new.value
    ))
    (λ (other : same_word net u ≡ false). said_new us values (with_decl ds d) net (sym (ap (λ b. b || among net us) other) ∙ e) (absent_one net ds d other absent))
    (cases_Bool (same_word net u))

-- ---- a line without a fault

same_values_is : (a b : List (List ℕ)) → same_values a b ≡ true → a ≡ b
same_values_is a b e = (slice_eq-Decides bytes_eq-Decides a b (same_values a b) refl).0 e

agreed_here : (ds : List Decl) (values : List (List ℕ)) (net : List ℕ) → is_redeclared ds values net ≡ false → among net (declared_of ds) ≡ true → values_of ds net ≡ values
unfolding is_redeclared
agreed_here ds values net e declared =
    ⊎_elim
    (λ (n : among net (declared_of ds) ≡ false). absurd (false≢true (sym n ∙ declared)))
    (λ (s : not (same_values (values_of ds net) values) ≡ false). same_values_is _ _ (not-false _ s))
    (and_cases _ _ e)

agreed : (n : ℕ) (ds : List Decl) (values nets : List (List ℕ)) (net : List ℕ) → redeclared_faults n ds values nets ≡ [] → among net nets ≡ true → among net (declared_of ds) ≡ true → values_of ds net ≡ values
agreed n ds values [] net none e declared = absurd (false≢true e)
agreed n ds values (u ∷ us) net none e declared =
    let first = when (is_redeclared ds values u) (Redeclared n u) in
    let passes : is_redeclared ds values u ≡ false = when-nothing _ _ (left-nothing first (redeclared_faults n ds values us) none) in
    let others : redeclared_faults n ds values us ≡ [] = right-nothing first (redeclared_faults n ds values us) none in
    ⊎_elim
    (λ (here : same_word net u ≡ true). (
    let same = same_word_is net u here in
    ap (values_of ds) same ∙ agreed_here ds values u passes (subst (λ (w : List ℕ). among w (declared_of ds) ≡ true) same declared)
    ))
    (λ (there : among net us ≡ true). agreed n ds values us net others there declared)
    (or_cases _ _ e)

-- each net of the line has the values that the line says
pub said_line : (n : ℕ) (ds : List Decl) (values nets : List (List ℕ)) (net : List ℕ) → redeclared_faults n ds values nets ≡ [] → among net nets ≡ true → values_of (with_decls ds (decls_for values nets)) net ≡ values
said_line n ds values nets net none e =
    ⊎_elim
    (λ (y : among net (declared_of ds) ≡ true). kept_line nets values ds net (or_left _ _ y) ∙ agreed n ds values nets net none e y)
    (λ (absent : among net (declared_of ds) ≡ false). said_new nets values ds net e absent)
    (cases_Bool (among net (declared_of ds)))
