-- Parts with words, values and flags in front, and their count.
use Rattle.std.proofs.Common.{◌≡◌, ◌∙◌, ℕ, zero, suc, ◌+◌, ◌&&◌, ◌==◌, Bool, true, false, cond, List, [], ◌∷◌, ◌++◌, length, Option, Some, None, refl, sym, ap, ap₂, arith, append_assoc, length-append, ◌≤◌}
use Rattle.std.specs.Prelude.{nat_le}
use Rattle.std.proofs.lemmas.Bool.{and_from, and_left, and_right, false≢true, lt-leb, ne_eqb}
use Rattle.std.proofs.lemmas.List.{append-nil}
use Rattle.clap.specs.Walk.{Text}
use Rattle.mv_command_line.specs.CommandLine.{Parts, only_words, with_value, with_word}
use Rattle.mv_command_line.specs.Given.{counted, has_count}
use Rattle.mv_command_line.proofs.Flags.{Flag, Flags, free, blif, both, count, flags_of, more, no_flags, with_flag}
use Rattle.mv_command_line.proofs.Stands.{once, seldom, wanted}

abbrev pub parts_with : List Text → List Text → Flags → Parts
parts_with words values flags = record { words = words; values = values; frees = flags.frees; blifs = flags.blifs }

abbrev pub joined : List Text → List Text → Flags → Option Parts → Option Parts
joined words values flags None = None
joined words values flags (Some p) = Some (parts_with (words ++ p.words) (values ++ p.values) (both flags (flags_of p)))

pub joined_word : (words values : List Text) (flags : Flags) (w : Text) (parts : Option Parts)
    → joined words values flags (with_word w parts) ≡ joined (words ++ w ∷ []) values flags parts
joined_word words values flags w None = refl
joined_word words values flags w (Some p) = ap (λ l. Some (parts_with l (values ++ p.values) (both flags (flags_of p)))) (sym (append_assoc words (w ∷ []) p.words))

pub joined_value : (words values : List Text) (flags : Flags) (v : Text) (parts : Option Parts)
    → joined words values flags (with_value v parts) ≡ joined words (values ++ v ∷ []) flags parts
joined_value words values flags v None = refl
joined_value words values flags v (Some p) = ap (λ l. Some (parts_with (words ++ p.words) l (both flags (flags_of p)))) (sym (append_assoc values (v ∷ []) p.values))

suc-between : (n m : ℕ) → n + suc m ≡ suc n + m
suc-between n m = omega arith

pub joined_flag : (f : Flag) (words values : List Text) (flags : Flags) (parts : Option Parts)
    → joined words values flags (with_flag f parts) ≡ joined words values (more f flags) parts
joined_flag free words values flags None = refl
joined_flag blif words values flags None = refl
joined_flag free words values flags (Some p) =
    ap (λ n. Some (parts_with (words ++ p.words) (values ++ p.values) (record { frees = n; blifs = flags.blifs + p.blifs }))) (suc-between flags.frees p.frees)
joined_flag blif words values flags (Some p) =
    ap (λ n. Some (parts_with (words ++ p.words) (values ++ p.values) (record { frees = flags.frees + p.frees; blifs = n }))) (suc-between flags.blifs p.blifs)

-- none in front, or none behind
none_before : (flags : Flags) → both no_flags flags ≡ flags
none_before flags =
    let same : (n : ℕ) → 0 + n ≡ n = λ n. omega arith in
    ap₂ (λ n m. record { frees = n; blifs = m }) (same flags.frees) (same flags.blifs)

none_behind : (flags : Flags) → both flags no_flags ≡ flags
none_behind flags =
    let same : (n : ℕ) → n + 0 ≡ n = λ n. omega arith in
    ap₂ (λ n m. record { frees = n; blifs = m }) (same flags.frees) (same flags.blifs)

pub joined_nothing : (parts : Option Parts) → joined [] [] no_flags parts ≡ parts
joined_nothing None = refl
joined_nothing (Some p) = ap (λ flags. Some (parts_with p.words p.values flags)) (none_before (flags_of p))

-- too many words, too many values, or too many flags
none_counted : (third : Bool) (p : Parts) → has_count third p ≡ false → counted third (Some p) ≡ None
none_counted third p e = ap (λ t. cond t (Some p) None) e

pub word_too_many : (third : Bool) (words values : List Text) (flags : Flags) (w : Text) (parts : Option Parts) → (wanted third ≤ length words)
    → counted third (joined words values flags (with_word w parts)) ≡ None
word_too_many third words values flags w None full = refl
word_too_many third words values flags w (Some p) full =
    none_counted third (parts_with (words ++ w ∷ p.words) (values ++ p.values) (both flags (flags_of p)))
    (and_left _ _ (ne_eqb (length (words ++ w ∷ p.words)) (wanted third) (λ e. omega (arith, e, full, length-append words (w ∷ p.words)))))

pub value_too_many : (third : Bool) (words : List Text) (u v : Text) (flags : Flags) (parts : Option Parts)
    → counted third (joined words (u ∷ []) flags (with_value v parts)) ≡ None
value_too_many third words u v flags None = refl
value_too_many third words u v flags (Some p) =
    none_counted third (parts_with (words ++ p.words) (u ∷ v ∷ p.values) (both flags (flags_of p)))
    (and_right _ _ (and_left _ _ (lt-leb (length (u ∷ v ∷ p.values)) 1 (omega arith))))

many_flags : (k n m : ℕ) → k ≡ suc n → nat_le (k + suc m) 1 ≡ false
many_flags k n m e = lt-leb (k + suc m) 1 (omega (arith, e))

flags_too_many : (third : Bool) (words values : List Text) (flags : Flags) → (nat_le flags.frees 1 && nat_le flags.blifs 1) ≡ false → counted third (Some (parts_with words values flags)) ≡ None
flags_too_many third words values flags e =
    none_counted third (parts_with words values flags) (and_right (length words == wanted third) _ (and_right (nat_le (length values) 1) _ e))

pub flag_too_many : (third : Bool) (f : Flag) (words values : List Text) (flags : Flags) (n : ℕ) (parts : Option Parts) → count f flags ≡ suc n
    → counted third (joined words values flags (with_flag f parts)) ≡ None
flag_too_many third free words values flags n None e = refl
flag_too_many third blif words values flags n None e = refl
flag_too_many third free words values flags n (Some p) e =
    flags_too_many third (words ++ p.words) (values ++ p.values) (both flags (more free (flags_of p))) (and_left _ _ (many_flags flags.frees n p.frees e))
flag_too_many third blif words values flags n (Some p) e =
    flags_too_many third (words ++ p.words) (values ++ p.values) (both flags (more blif (flags_of p))) (and_right (nat_le (flags.frees + p.frees) 1) _ (many_flags flags.blifs n p.blifs e))

-- nothing behind them
and_true : (t : Bool) → (t && true) ≡ t
and_true true = refl
and_true false = refl

one_at_most : (values : List Text) → once values ≡ true → nat_le (length values) 1 ≡ true
one_at_most [] one = refl
one_at_most (v ∷ []) one = refl
one_at_most (v ∷ u ∷ values) one = absurd (false≢true one)

seldom_at_most : (n : ℕ) → seldom n ≡ true → nat_le n 1 ≡ true
seldom_at_most zero few = refl
seldom_at_most (suc zero) few = refl
seldom_at_most (suc (suc n)) few = absurd (false≢true few)

pub joined_all : (third : Bool) (words values : List Text) (flags : Flags) → once values ≡ true → ((f : Flag) → seldom (count f flags) ≡ true)
    → counted third (joined words values flags (Some (only_words []))) ≡ cond (length words == wanted third) (Some (parts_with words values flags)) None
joined_all third words values flags one few =
    let whole = parts_with words values flags in
    let flags_seldom = and_from _ _ (seldom_at_most flags.frees (few free)) (seldom_at_most flags.blifs (few blif)) in
    ap₂ (λ l m. counted third (Some (parts_with l m (both flags no_flags)))) (append-nil words) (append-nil values)
    ∙ (ap (λ n. counted third (Some (parts_with words values n))) (none_behind flags)
    ∙ ap (λ t. cond t (Some whole) None)
    (ap (λ t. (length words == wanted third) && t) (and_from _ _ (one_at_most values one) flags_seldom) ∙ and_true (length words == wanted third)))
