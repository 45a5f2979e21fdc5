-- A script without a command does nothing, and nothing else.
use Rattle.std.proofs.Common.{◌≡◌, ℕ, zero, suc, true, false, List, [], ◌++◌, refl, sym, ap, ◌∙◌, arith}
use Rattle.std.proofs.lemmas.Bool.{and_from, or_parts, false≢true}
use Rattle.mv_entry.specs.Entries.{Entry}
use Rattle.mv_net.specs.declared.parts.NetParts.{NetParts}
use Rattle.mv_rules.specs.declared.terms.Terms.{Terms}
use Rattle.mv_script.specs.Commands.{all_commands, has_command}
use Rattle.mv_script.specs.Scripts.{Items, End, Do, Repeat, Better}
use Rattle.mv_pass.specs.Courses.{Course, Nothing, InTurn, Rounds}
use Rattle.mv_script_run.specs.Runs.{Gains, GainsNot, RunsBetter, Runs}
use Rattle.mv_script_run.proofs.Inductions.{of_items}

-- ---- it does nothing

in_turn : (First Second : Course) (a : NetParts) → First a [] a → Second a [] a → InTurn First Second a [] a
in_turn First Second a first second = record { mid = a; front = []; rest = []; first = first; second = second; entries_are = refl }

idle_rounds : (Round : Course) → ((a : NetParts) → Round a [] a) → (n : ℕ) (a : NetParts) → Rounds n Round a [] a
idle_rounds Round each zero a = (refl, refl)
idle_rounds Round each (suc n) a = in_turn Round (Rounds n Round) a (each a) (idle_rounds Round each n a)

idle_better : (Round : Course) → ((a : NetParts) → Round a [] a) → (a : NetParts) → RunsBetter Round a [] a
idle_better Round each a =
    record { gained = 0; rounds = in_turn (Rounds 0 (Gains Round)) (GainsNot Round) a (refl, refl) (each a, omega arith) }

pub idle : (terms : Terms) (items : Items) (a : NetParts) → has_command items ≡ false → Runs terms items a [] a
idle terms End a none = (refl, refl)
idle terms (Do c rest) a none = absurd (false≢true (sym none))
idle terms (Repeat times inside rest) a none =
    let both = or_parts (has_command inside) (has_command rest) none in
    in_turn (Rounds times (Runs terms inside)) (Runs terms rest) a (idle_rounds (Runs terms inside) (λ m. idle terms inside m both.0) times a) (idle terms rest a both.1)
idle terms (Better inside rest) a none =
    let both = or_parts (has_command inside) (has_command rest) none in
    in_turn (RunsBetter (Runs terms inside)) (Runs terms rest) a (idle_better (Runs terms inside) (λ m. idle terms inside m both.0) a) (idle terms rest a both.1)

-- so many rounds of it
pub rounds_idle : (terms : Terms) (items : Items) (n : ℕ) (a : NetParts) → has_command items ≡ false → Rounds n (Runs terms items) a [] a
rounds_idle terms items n a none = idle_rounds (Runs terms items) (λ m. idle terms items m none) n a

-- ---- it does nothing else

no_command : (items : Items) → has_command items ≡ false → all_commands (λ c. false) items ≡ true
no_command End none = refl
no_command (Do c rest) none = absurd (false≢true (sym none))
no_command (Repeat times inside rest) none =
    let both = or_parts (has_command inside) (has_command rest) none in
    and_from (all_commands (λ c. false) inside) (all_commands (λ c. false) rest) (no_command inside both.0) (no_command rest both.1)
no_command (Better inside rest) none =
    let both = or_parts (has_command inside) (has_command rest) none in
    and_from (all_commands (λ c. false) inside) (all_commands (λ c. false) rest) (no_command inside both.0) (no_command rest both.1)

nothing_then : (a b c : NetParts) (xs ys : List Entry) → Nothing a xs b → Nothing b ys c → Nothing a (xs ++ ys) c
nothing_then a b c xs ys p q = (ap (λ z. z ++ ys) p.0 ∙ q.0, q.1 ∙ p.1)

pub only_idle : (terms : Terms) (items : Items) (a b : NetParts) (es : List Entry) → has_command items ≡ false → Runs terms items a es b → Nothing a es b
only_idle terms items a b es none r =
    of_items terms Nothing (λ n. (refl, refl)) nothing_then (λ c. false) (λ c never. absurd (false≢true never)) items (no_command items none) a es b r
