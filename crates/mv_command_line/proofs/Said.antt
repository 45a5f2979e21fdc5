-- What the parts ask for, by the texts that the arguments have.
use Rattle.std.proofs.Common.{◌≡◌, ◌∙◌, ◌⊎◌, inl, inr, ℕ, zero, suc, ◌&&◌, ◌==◌, Bool, true, false, cond, List, [], ◌∷◌, length, Option, Some, None, codes, refl, sym, ap, arith, ⊎_elim}
use Rattle.std.specs.Prelude.{nat_le, option_and_then, slice_get, unwrap_or, is_some}
use Rattle.std.specs.declared.string.String.{String}
use Rattle.std.specs.declared.alloc.Global.{Global}
use Rattle.std.proofs.lemmas.Bool.{and_cases, and_left, and_parts, cases_Bool, false≢true, lt-leb, ne_eqb, true≢false}
use Rattle.clap.specs.Walk.{Text}
use Rattle.mv_command_line.specs.Answers.{IsRefusedBy}
use Rattle.mv_command_line.specs.CommandLine.{Parts, budget_given, draw_asked, draw_with, files_asked, files_in, flag_given, is_stdin, names_asked, of_both, seed_of, size_of}
use Rattle.mv_command_line.specs.Given.{budget_by, counted, draw_by, files_by, names_by, flag_text, has_count, parts_behind, rest_parts}
use Rattle.mv_command_line.specs.declared.task.WordsStop.{WordsStop}
use Rattle.mv_command_line.specs.declared.task.WordsStop.TheVariants.{Refused, Memory}

-- ---- the count of the parts

more_words : (n : ℕ) (t : Bool) (words : List Text) → (length words ≡ n → ⊥) → ((length words == n) && t) ≡ true → ⊥
more_words n t words other e = false≢true (sym (and_left (length words == n) t (ne_eqb (length words) n other)) ∙ e)

none_then : {A B : Type 0} (o : Option A) → option_and_then {T = A} {U = B} (λ _. None) o ≡ None
none_then None = refl
none_then (Some x) = refl

-- whether the flag is given
abbrev pub is_given : ℕ → Bool
is_given zero = false
is_given (suc n) = true

-- a flag whose text tells how often it stands is given if it does
pub flag_said : (often : ℕ) (text : Option Text) (given : Bool) → text ≡ Some (flag_text often) → (text ≡ Some (codes "true") → given ≡ true)
    → (text ≡ Some (codes "false") → given ≡ false) → given ≡ is_given often
flag_said zero text given e set unset = unset e
flag_said (suc n) text given e set unset = set e

-- what stands once at most is given as its text says, and else it is refused
flag_once : (often : ℕ) → nat_le often 1 ≡ true → flag_given often ≡ Some (is_given often)
flag_once zero e = refl
flag_once (suc zero) e = refl
flag_once (suc (suc n)) e = absurd (false≢true (sym (lt-leb (suc (suc n)) 1 (omega arith)) ∙ e))

flag_again : (often : ℕ) → nat_le often 1 ≡ false → flag_given often ≡ None
flag_again zero e = absurd (true≢false e)
flag_again (suc zero) e = absurd (true≢false e)
flag_again (suc (suc n)) e = refl

value_once : (values : List Text) → nat_le (length values) 1 ≡ true → budget_given values ≡ budget_by (slice_get values 0)
value_once [] e = refl
value_once (v ∷ []) e = refl
value_once (v ∷ u ∷ values) e = absurd (false≢true (sym (lt-leb (length (u ∷ v ∷ values)) 1 (omega arith)) ∙ e))

value_again : (values : List Text) → nat_le (length values) 1 ≡ false → budget_given values ≡ None
value_again [] e = absurd (true≢false e)
value_again (v ∷ []) e = absurd (true≢false e)
value_again (v ∷ u ∷ values) e = refl

-- the parts by what they have
abbrev parts_from : List Text → List Text → ℕ → ℕ → Parts
parts_from words values frees blifs = record { words = words; values = values; frees = frees; blifs = blifs }

-- options of which each stands once at most are given as they say, and else one of them is refused
few_options : (values : List Text) (frees blifs : ℕ) → (nat_le (length values) 1 && (nat_le frees 1 && nat_le blifs 1)) ≡ true
    → (budget_given values ≡ budget_by (slice_get values 0)) × (flag_given frees ≡ Some (is_given frees)) × (flag_given blifs ≡ Some (is_given blifs))
few_options values frees blifs e =
    let one = and_parts (nat_le (length values) 1) (nat_le frees 1 && nat_le blifs 1) e in
    let two = and_parts (nat_le frees 1) (nat_le blifs 1) one.1 in
    (value_once values one.0, flag_once frees two.0, flag_once blifs two.1)

abbrev IsRefused : Option ℕ → Option Bool → Option Bool → Type 0
IsRefused budget free blif = (budget ≡ None) ⊎ ((free ≡ None) ⊎ (blif ≡ None))

many_options : (values : List Text) (frees blifs : ℕ) → (nat_le (length values) 1 && (nat_le frees 1 && nat_le blifs 1)) ≡ false
    → IsRefused (budget_given values) (flag_given frees) (flag_given blifs)
many_options values frees blifs e =
    ⊎_elim (λ (v : nat_le (length values) 1 ≡ false). inl (value_again values v))
    (λ (f : (nat_le frees 1 && nat_le blifs 1) ≡ false). inr
    (⊎_elim (λ (n : nat_le frees 1 ≡ false). inl (flag_again frees n)) (λ (n : nat_le blifs 1 ≡ false). inr (flag_again blifs n))
    (and_cases (nat_le frees 1) (nat_le blifs 1) f)))
    (and_cases (nat_le (length values) 1) (nat_le frees 1 && nat_le blifs 1) e)

-- ---- two names of files

files_are : (words values : List Text) (frees blifs : ℕ) → has_count false (parts_from words values frees blifs) ≡ true
    → files_asked (parts_from words values frees blifs) ≡ files_by (slice_get words 0) (slice_get words 1) (is_given blifs) (is_given frees) (slice_get values 0)
files_are [] values frees blifs e = absurd (false≢true e)
files_are (a ∷ []) values frees blifs e = absurd (false≢true e)
files_are (a ∷ b ∷ []) values frees blifs e =
    let options = few_options values frees blifs e in
    rw (options.0, options.1, options.2) refl
files_are (a ∷ b ∷ c ∷ words) values frees blifs e = absurd (more_words 2 _ (a ∷ b ∷ c ∷ words) (λ h. omega (arith, h)) e)

both_none : {A : Type 0} (t : Bool) → cond {A = Option A} t None None ≡ None
both_none true = refl
both_none false = refl

refused_in_files : (a b : Text) (blif free : Option Bool) (budget : Option ℕ) → IsRefused budget free blif → files_in (a ∷ b ∷ []) blif free budget ≡ None
refused_in_files a b None free budget none = both_none (is_stdin a && is_stdin b)
refused_in_files a b (Some x) None budget none = both_none (is_stdin a && is_stdin b)
refused_in_files a b (Some x) (Some y) None none = both_none (is_stdin a && is_stdin b)
refused_in_files a b (Some x) (Some y) (Some z) (inl none) = absurd (false≢true (sym (ap is_some none)))
refused_in_files a b (Some x) (Some y) (Some z) (inr (inl none)) = absurd (false≢true (sym (ap is_some none)))
refused_in_files a b (Some x) (Some y) (Some z) (inr (inr none)) = absurd (false≢true (sym (ap is_some none)))

no_files : (words values : List Text) (frees blifs : ℕ) → has_count false (parts_from words values frees blifs) ≡ false → files_asked (parts_from words values frees blifs) ≡ None
no_files [] values frees blifs e = refl
no_files (a ∷ []) values frees blifs e = refl
no_files (a ∷ b ∷ []) values frees blifs e = refused_in_files a b _ _ _ (many_options values frees blifs e)
no_files (a ∷ b ∷ c ∷ words) values frees blifs e = refl

-- ---- the same without an option

names_are : (words values : List Text) (frees blifs : ℕ) → has_count false (parts_from words values frees blifs) ≡ true
    → names_asked (parts_from words values frees blifs) ≡ names_by (slice_get words 0) (slice_get words 1) (is_given blifs) (is_given frees) (slice_get values 0)
names_are [] values frees blifs e = absurd (false≢true e)
names_are (a ∷ []) values frees blifs e = absurd (false≢true e)
names_are (a ∷ b ∷ []) [] zero zero e = refl
names_are (a ∷ b ∷ []) (v ∷ values) zero zero e = refl
names_are (a ∷ b ∷ []) values (suc n) zero e = refl
names_are (a ∷ b ∷ []) values frees (suc n) e = refl
names_are (a ∷ b ∷ c ∷ words) values frees blifs e = absurd (more_words 2 _ (a ∷ b ∷ c ∷ words) (λ h. omega (arith, h)) e)

no_names : (words values : List Text) (frees blifs : ℕ) → has_count false (parts_from words values frees blifs) ≡ false → names_asked (parts_from words values frees blifs) ≡ None
no_names [] values frees blifs e = refl
no_names (a ∷ []) values frees blifs e = refl
no_names (a ∷ b ∷ []) [] zero zero e = absurd (true≢false e)
no_names (a ∷ b ∷ []) (v ∷ values) zero zero e = refl
no_names (a ∷ b ∷ []) values (suc n) zero e = refl
no_names (a ∷ b ∷ []) values frees (suc n) e = refl
no_names (a ∷ b ∷ c ∷ words) values frees blifs e = refl

-- ---- a size, a seed and the name of a script

draw_are : (words values : List Text) (frees blifs : ℕ) → has_count true (parts_from words values frees blifs) ≡ true
    → draw_asked (parts_from words values frees blifs)
    ≡ draw_by (slice_get words 0) (slice_get words 1) (slice_get words 2) (is_given blifs) (is_given frees) (slice_get values 0)
draw_are [] values frees blifs e = absurd (false≢true e)
draw_are (a ∷ []) values frees blifs e = absurd (false≢true e)
draw_are (a ∷ b ∷ []) values frees blifs e = absurd (false≢true e)
draw_are (a ∷ b ∷ c ∷ []) values frees zero e =
    let options = few_options values frees 0 e in
    rw (options.0, options.1) refl
draw_are (a ∷ b ∷ c ∷ []) values frees (suc n) e = refl
draw_are (a ∷ b ∷ c ∷ d ∷ words) values frees blifs e = absurd (more_words 3 _ (a ∷ b ∷ c ∷ d ∷ words) (λ h. omega (arith, h)) e)

-- whatever the size and the seed are, what is given beside them is none
all_none : {A : Type 0} (size seed : Text) (o : ℕ → ℕ → Option A) → ((n s : ℕ) → o n s ≡ None)
    → option_and_then (λ n. option_and_then (o n) (seed_of seed)) (size_of size) ≡ None
all_none size seed o none =
    ap (λ f. option_and_then f (size_of size)) (λ i n. (ap (λ g. option_and_then g (seed_of seed)) (λ j s. none n s j) ∙ none_then (seed_of seed)) i)
    ∙ none_then (size_of size)

refused_both : {A : Type 0} (make : Bool → ℕ → A) (free : Option Bool) (budget : Option ℕ) → IsRefused budget free (Some false) → of_both make free budget ≡ None
refused_both make None budget none = refl
refused_both make (Some x) None none = refl
refused_both make (Some x) (Some y) (inl none) = absurd (false≢true (sym (ap is_some none)))
refused_both make (Some x) (Some y) (inr (inl none)) = absurd (false≢true (sym (ap is_some none)))
refused_both make (Some x) (Some y) (inr (inr none)) = absurd (false≢true (sym (ap is_some none)))

no_draw : (words values : List Text) (frees blifs : ℕ) → has_count true (parts_from words values frees blifs) ≡ false → draw_asked (parts_from words values frees blifs) ≡ None
no_draw [] values frees blifs e = refl
no_draw (a ∷ []) values frees blifs e = refl
no_draw (a ∷ b ∷ []) values frees blifs e = refl
no_draw (a ∷ b ∷ c ∷ []) values frees zero e = all_none a b _ (λ n s. refused_both (draw_with n s c) _ _ (many_options values frees 0 e))
no_draw (a ∷ b ∷ c ∷ []) values frees (suc n) e = refl
no_draw (a ∷ b ∷ c ∷ d ∷ words) values frees blifs e = refl

-- ---- what is asked, once the parts are counted

-- parts that are counted are the same ones, and have that count
counted_is : (third : Bool) (q p : Parts) → counted third (Some q) ≡ Some p → (has_count third q ≡ true) × (q ≡ p)
counted_is third q p e = ⊎_elim
    (λ (y : has_count third q ≡ true). (y, ap (λ o. unwrap_or o q) (sym (ap (λ t. cond t (Some q) None) y) ∙ e)))
    (λ (n : has_count third q ≡ false). absurd (false≢true (ap is_some (sym (ap (λ t. cond t (Some q) None) n) ∙ e))))
    (cases_Bool (has_count third q))

not_counted : (third : Bool) (q : Parts) → counted third (Some q) ≡ None → has_count third q ≡ false
not_counted third q e = ⊎_elim
    (λ (y : has_count third q ≡ true). absurd (true≢false (ap is_some (sym (ap (λ t. cond t (Some q) None) y) ∙ e))))
    (λ (n : has_count third q ≡ false). n)
    (cases_Bool (has_count third q))

told_files : (o : Option Parts) (p : Parts) (net other : Option Text) (blif free : Bool) (value : Option Text) → counted false o ≡ Some p → net ≡ slice_get p.words 0
    → other ≡ slice_get p.words 1 → blif ≡ is_given p.blifs → free ≡ is_given p.frees → value ≡ slice_get p.values 0
    → option_and_then files_asked o ≡ files_by net other blif free value
told_files None p net other blif free value e a b g f v = absurd (false≢true (ap is_some e))
told_files (Some q) p net other blif free value e a b g f v =
    let h = counted_is false q p e in
    rw (a, b, g, f, v)
    (files_are q.words q.values q.frees q.blifs h.0
    ∙ ap (λ (r : Parts). files_by (slice_get r.words 0) (slice_get r.words 1) (is_given r.blifs) (is_given r.frees) (slice_get r.values 0)) h.1)

told_names : (o : Option Parts) (p : Parts) (net other : Option Text) (blif free : Bool) (value : Option Text) → counted false o ≡ Some p → net ≡ slice_get p.words 0
    → other ≡ slice_get p.words 1 → blif ≡ is_given p.blifs → free ≡ is_given p.frees → value ≡ slice_get p.values 0
    → option_and_then names_asked o ≡ names_by net other blif free value
told_names None p net other blif free value e a b g f v = absurd (false≢true (ap is_some e))
told_names (Some q) p net other blif free value e a b g f v =
    let h = counted_is false q p e in
    rw (a, b, g, f, v)
    (names_are q.words q.values q.frees q.blifs h.0
    ∙ ap (λ (r : Parts). names_by (slice_get r.words 0) (slice_get r.words 1) (is_given r.blifs) (is_given r.frees) (slice_get r.values 0)) h.1)

told_draw : (o : Option Parts) (p : Parts) (size seed script : Option Text) (blif free : Bool) (value : Option Text) → counted true o ≡ Some p → size ≡ slice_get p.words 0
    → seed ≡ slice_get p.words 1 → script ≡ slice_get p.words 2 → blif ≡ is_given p.blifs → free ≡ is_given p.frees → value ≡ slice_get p.values 0
    → option_and_then draw_asked o ≡ draw_by size seed script blif free value
told_draw None p size seed script blif free value e a b c g f v = absurd (false≢true (ap is_some e))
told_draw (Some q) p size seed script blif free value e a b c g f v =
    let h = counted_is true q p e in
    rw (a, b, c, g, f, v)
    (draw_are q.words q.values q.frees q.blifs h.0
    ∙ ap (λ (r : Parts). draw_by (slice_get r.words 0) (slice_get r.words 1) (slice_get r.words 2) (is_given r.blifs) (is_given r.frees) (slice_get r.values 0)) h.1)

files_lack : (o : Option Parts) → counted false o ≡ None → option_and_then files_asked o ≡ None
files_lack None e = refl
files_lack (Some q) e = no_files q.words q.values q.frees q.blifs (not_counted false q e)

names_lack : (o : Option Parts) → counted false o ≡ None → option_and_then names_asked o ≡ None
names_lack None e = refl
names_lack (Some q) e = no_names q.words q.values q.frees q.blifs (not_counted false q e)

draw_lacks : (o : Option Parts) → counted true o ≡ None → option_and_then draw_asked o ≡ None
draw_lacks None e = refl
draw_lacks (Some q) e = no_draw q.words q.values q.frees q.blifs (not_counted true q e)

refused_files : (o : Option Parts) (stop : WordsStop) → IsRefusedBy (counted false o) stop → IsRefusedBy (option_and_then files_asked o) stop
refused_files o Refused h = files_lack o h
refused_files o Memory h = tt

refused_names : (o : Option Parts) (stop : WordsStop) → IsRefusedBy (counted false o) stop → IsRefusedBy (option_and_then names_asked o) stop
refused_names o Refused h = names_lack o h
refused_names o Memory h = tt

refused_draw : (o : Option Parts) (stop : WordsStop) → IsRefusedBy (counted true o) stop → IsRefusedBy (option_and_then draw_asked o) stop
refused_draw o Refused h = draw_lacks o h
refused_draw o Memory h = tt

-- ---- the same of words

pub files_told : (words : List (String Global)) (p : Parts) (net other : Option Text) (blif free : Bool) (value : Option Text) → parts_behind false words ≡ Some p → net ≡ slice_get p.words 0
    → other ≡ slice_get p.words 1 → blif ≡ is_given p.blifs → free ≡ is_given p.frees → value ≡ slice_get p.values 0
    → option_and_then files_asked (rest_parts words) ≡ files_by net other blif free value
files_told words = told_files (rest_parts words)

pub names_told : (words : List (String Global)) (p : Parts) (net other : Option Text) (blif free : Bool) (value : Option Text) → parts_behind false words ≡ Some p → net ≡ slice_get p.words 0
    → other ≡ slice_get p.words 1 → blif ≡ is_given p.blifs → free ≡ is_given p.frees → value ≡ slice_get p.values 0
    → option_and_then names_asked (rest_parts words) ≡ names_by net other blif free value
names_told words = told_names (rest_parts words)

pub draw_told : (words : List (String Global)) (p : Parts) (size seed script : Option Text) (blif free : Bool) (value : Option Text) → parts_behind true words ≡ Some p → size ≡ slice_get p.words 0
    → seed ≡ slice_get p.words 1 → script ≡ slice_get p.words 2 → blif ≡ is_given p.blifs → free ≡ is_given p.frees → value ≡ slice_get p.values 0
    → option_and_then draw_asked (rest_parts words) ≡ draw_by size seed script blif free value
draw_told words = told_draw (rest_parts words)

pub files_refused : (words : List (String Global)) (stop : WordsStop) → IsRefusedBy (parts_behind false words) stop
    → IsRefusedBy (option_and_then files_asked (rest_parts words)) stop
files_refused words = refused_files (rest_parts words)

pub names_refused : (words : List (String Global)) (stop : WordsStop) → IsRefusedBy (parts_behind false words) stop
    → IsRefusedBy (option_and_then names_asked (rest_parts words)) stop
names_refused words = refused_names (rest_parts words)

pub draw_refused : (words : List (String Global)) (stop : WordsStop) → IsRefusedBy (parts_behind true words) stop
    → IsRefusedBy (option_and_then draw_asked (rest_parts words)) stop
draw_refused words = refused_draw (rest_parts words)
