-- The commands of a script, item by item.
use Rattle.std.proofs.Common.{◌≡◌, ℕ, ◌+◌, ◌-◌, ◌*◌, ◌≤◌, ◌<◌, ◌^◌, min, append_assoc, List, [], ◌∷◌, ◌++◌, length, get_or, drop, drop-cons, add-one, Some, None, true, false, refl, sym, ◌∙◌, ap, arith, ⊎_elim}
use Rattle.std.specs.Prelude.{nat_lt, if◌then◌else◌}
use Rattle.std.proofs.lemmas.Bool.{cond-true, cond-false, cases_Bool, ltb-true, ltb-false, lt-ltb, le-ltb}
use Rattle.std.proofs.lemmas.Grind.{common_steps}
use Rattle.std.proofs.lemmas.List.{drop_all}
use Rattle.mv_base.specs.declared.limits.TheConstants.{MAX_SCRIPT_COMMANDS}
use Rattle.mv_script.specs.Scripts.{Items, End, Do, Repeat, Better, commands_in, item_counts, passing}
use Rattle.mv_script.specs.Private.{all_capped}

-- a number that stops at the limit, so many times
pub times_capped : (times n : ℕ) → min (times * min n (MAX_SCRIPT_COMMANDS + 1)) (MAX_SCRIPT_COMMANDS + 1) ≡ min (times * n) (MAX_SCRIPT_COMMANDS + 1)
times_capped times n = grind (arith, common_steps)

-- where numbers pass the limit, they do with one limit for each
pub passing_capped : (n : ℕ) (counts places : List ℕ) → n ≤ MAX_SCRIPT_COMMANDS → passing n (all_capped counts) places ≡ passing n counts places
passing_capped n [] places h = refl
passing_capped n (c ∷ cs) [] h = refl
passing_capped n (c ∷ cs) (p ∷ ps) h =
    let capped = min c (MAX_SCRIPT_COMMANDS + 1) in
    ⊎_elim
    (λ (e : nat_lt MAX_SCRIPT_COMMANDS (n + c) ≡ true).
    let more : MAX_SCRIPT_COMMANDS < n + c = ltb-true MAX_SCRIPT_COMMANDS (n + c) e in
    cond-true (nat_lt MAX_SCRIPT_COMMANDS (n + capped)) _ _ (lt-ltb MAX_SCRIPT_COMMANDS (n + capped) (omega arith)) ∙ sym (cond-true (nat_lt MAX_SCRIPT_COMMANDS (n + c)) _ _ e))
    (λ (e : nat_lt MAX_SCRIPT_COMMANDS (n + c) ≡ false).
    let few : n + c ≤ MAX_SCRIPT_COMMANDS = ltb-false MAX_SCRIPT_COMMANDS (n + c) e in
    let same : capped ≡ c = omega arith in
    ap (λ m. if nat_lt MAX_SCRIPT_COMMANDS (n + m) then Some p else passing (n + m) (all_capped cs) ps) same
    ∙ cond-false (nat_lt MAX_SCRIPT_COMMANDS (n + c)) _ _ e ∙ passing_capped (n + c) cs ps few ∙ sym (cond-false (nat_lt MAX_SCRIPT_COMMANDS (n + c)) _ _ e))
    (cases_Bool (nat_lt MAX_SCRIPT_COMMANDS (n + c)))

-- a number beside a place
pub pass_one : (n at c p : ℕ) (counts places : List ℕ) → at < length counts → at < length places → c ≡ get_or counts at 0 → p ≡ get_or places at 0 → passing n (drop at counts) (drop at places) ≡ (if nat_lt MAX_SCRIPT_COMMANDS (n + c) then Some p else passing (n + c) (drop (at + 1) counts) (drop (at + 1) places))
pass_one n at c p counts places h k e f =
    let cs : drop at counts ≡ c ∷ drop (at + 1) counts = rw (add-one, e) (drop-cons counts at 0 h) in
    let ps : drop at places ≡ p ∷ drop (at + 1) places = rw (add-one, f) (drop-cons places at 0 k) in
    ap (λ t. passing n t (drop at places)) cs ∙ ap (λ t. passing n (c ∷ drop (at + 1) counts) t) ps

-- the same, where the sum stops at the greatest number of its type, and the limit isn't passed
pub pass_on : (n at r : ℕ) (counts places : List ℕ) → at < length counts → at < length places → r ≡ min (n + get_or counts at 0) (2 ^ 64 - 1) → r ≤ MAX_SCRIPT_COMMANDS → passing r (drop (at + 1) counts) (drop (at + 1) places) ≡ passing n (drop at counts) (drop at places)
pass_on n at r counts places h k e few =
    let c = get_or counts at 0 in
    let same : r ≡ n + c = omega arith in
    let within : n + c ≤ MAX_SCRIPT_COMMANDS = omega arith in
    ap (λ m. passing m (drop (at + 1) counts) (drop (at + 1) places)) same
    ∙ sym (pass_one n at c (get_or places at 0) counts places h k refl refl ∙ cond-false (nat_lt MAX_SCRIPT_COMMANDS (n + c)) _ _ (le-ltb MAX_SCRIPT_COMMANDS (n + c) within))

-- one number more, of the items of a script
pub counts_more : (counts counts' whole : List ℕ) (items rest : List ℕ) (x n : ℕ) → counts ++ all_capped items ≡ whole → items ≡ n ∷ rest → x ≡ min n (MAX_SCRIPT_COMMANDS + 1) → counts' ≡ counts ++ x ∷ [] → counts' ++ all_capped rest ≡ whole
counts_more counts counts' whole items rest x n all are is more =
    ap (λ t. t ++ all_capped rest) (more ∙ ap (λ y. counts ++ y ∷ []) is) ∙ append_assoc counts (min n (MAX_SCRIPT_COMMANDS + 1) ∷ []) (all_capped rest)
    ∙ sym (ap (λ t. counts ++ all_capped t) are) ∙ all

-- no number is left, or no place
pub pass_none : (n at : ℕ) (counts places : List ℕ) → length counts ≤ at → passing n (drop at counts) (drop at places) ≡ None
pass_none n at counts places h = ap (λ t. passing n t (drop at places)) (drop_all at counts h)

no_place : (n : ℕ) (counts : List ℕ) → passing n counts [] ≡ None
no_place n [] = refl
no_place n (c ∷ cs) = refl

pub pass_end : (n at : ℕ) (counts places : List ℕ) → length places ≤ at → passing n (drop at counts) (drop at places) ≡ None
pass_end n at counts places h = ap (λ t. passing n (drop at counts) t) (drop_all at places h) ∙ no_place n (drop at counts)

pub ruleset passes = (pass_one, pass_on, pass_none, pass_end)

-- ---- where the limit isn't passed

-- the numbers together
abbrev pub total : List ℕ → ℕ
total [] = 0
total (c ∷ cs) = c + total cs

-- these numbers, with so many before them, stay within the limit
pub passes_none : (n : ℕ) (counts places : List ℕ) → passing n counts places ≡ None → length counts ≤ length places → n ≤ MAX_SCRIPT_COMMANDS → n + total counts ≤ MAX_SCRIPT_COMMANDS
passes_none n [] places e h k = omega arith
passes_none n (c ∷ cs) [] e h k = absurd (omega arith)
passes_none n (c ∷ cs) (p ∷ ps) e h k =
    ⊎_elim
    (λ (y : nat_lt MAX_SCRIPT_COMMANDS (n + c) ≡ true).
    let bad : Some p ≡ None = sym (cond-true (nat_lt MAX_SCRIPT_COMMANDS (n + c)) (Some p) (passing (n + c) cs ps) y) ∙ e in absurd cc)
    (λ (y : nat_lt MAX_SCRIPT_COMMANDS (n + c) ≡ false).
    let few : n + c ≤ MAX_SCRIPT_COMMANDS = ltb-false MAX_SCRIPT_COMMANDS (n + c) y in
    let rest = passes_none (n + c) cs ps (sym (cond-false (nat_lt MAX_SCRIPT_COMMANDS (n + c)) (Some p) (passing (n + c) cs ps) y) ∙ e) (omega arith) few in
    omega arith)
    (cases_Bool (nat_lt MAX_SCRIPT_COMMANDS (n + c)))

-- the commands of all items are those of each of them
pub total-item_counts : (items : Items) → total (item_counts items) ≡ commands_in items
total-item_counts End = refl
total-item_counts (Do command rest) = ap (λ n. 1 + n) (total-item_counts rest)
total-item_counts (Repeat times inside rest) = ap (λ n. times * commands_in inside + n) (total-item_counts rest)
total-item_counts (Better inside rest) = ap (λ n. commands_in inside + n) (total-item_counts rest)

-- numbers that stay within the limit pass it nowhere
pub few_pass : (n : ℕ) (counts places : List ℕ) → n + total counts ≤ MAX_SCRIPT_COMMANDS → passing n counts places ≡ None
few_pass n [] places h = refl
few_pass n (c ∷ cs) [] h = refl
few_pass n (c ∷ cs) (p ∷ ps) h =
    cond-false (nat_lt MAX_SCRIPT_COMMANDS (n + c)) _ _ (le-ltb MAX_SCRIPT_COMMANDS (n + c) (omega arith)) ∙ few_pass (n + c) cs ps (omega arith)
