-- Rows and defaults, told by the command of their line.
use Rattle.std.proofs.Common.{◌≡◌, ℕ, Bool, true, false, not, cond, List, [], ◌∷◌, ap, ⊎_elim}
use Rattle.std.specs.Prelude.{codes, if◌then◌else◌}
use Rattle.std.proofs.lemmas.Bool.{cases_Bool, false_from_ne_true, or_cases}
use Rattle.mv_base.specs.Names.{same_word, begins_with}
use Rattle.mv_base.proofs.NameLemmas.{same_word_is}
use Rattle.mv_lex.specs.declared.lines.LexLine.{LexLine}
use Rattle.mv_table.specs.Tables.{is_default_word, begins_default, says_default}
use Rattle.mv_parse.specs.declared.command.Command.{Command}
use Rattle.mv_parse.specs.declared.command.Command.TheVariants.{Model, Inputs, Outputs, Mv, Table, Latch, Reset, Default, Row, End, Root, Instance, Unknown}
use Rattle.mv_line.specs.Words.{first_of}
use Rattle.mv_parse.specs.Commands.{is_table_word, is_reset_word, command_of, command_at}

-- a word for a default
word-default : (w : List ℕ) → is_default_word w ≡ true → command_of w ≡ Default
unfolding command_of
word-default w y =
    ⊎_elim
    (λ (e : same_word w (codes ".default") ≡ true). ap command_of (same_word_is w (codes ".default") e))
    (λ (e : same_word w (codes ".def") ≡ true). ap command_of (same_word_is w (codes ".def") e))
    (or_cases _ _ y)

words-default : (ws : List (List ℕ)) → begins_default ws ≡ true → command_of (first_of ws) ≡ Default
words-default [] y = cc
words-default (w ∷ ws) y = word-default w y

-- and no other word is one
past : (b : Bool) (x y : Command) → (x ≡ Default → ⊥) → cond b x y ≡ Default → y ≡ Default
past true x y other e = absurd (other e)
past false x y other e = e

default-word : (w : List ℕ) → command_of w ≡ Default → is_default_word w ≡ true
unfolding command_of
default-word w e =
    let instances : Command = if same_word w (codes ".subckt") then Instance else Unknown in
    let roots : Command = if same_word w (codes ".root") then Root else instances in
    let resets : Command = if is_reset_word w then Reset else roots in
    let latches : Command = if same_word w (codes ".latch") then Latch else resets in
    let ended : Command = if same_word w (codes ".end") then End else latches in
    let defaults : Command = if is_default_word w then Default else ended in
    let tables : Command = if is_table_word w then Table else defaults in
    let declared : Command = if same_word w (codes ".mv") then Mv else tables in
    let outputs : Command = if same_word w (codes ".outputs") then Outputs else declared in
    let inputs : Command = if same_word w (codes ".inputs") then Inputs else outputs in
    let models : Command = if same_word w (codes ".model") then Model else inputs in
    let a : models ≡ Default = past (not (begins_with 46 w)) Row models (λ x. cc) e in
    let b : inputs ≡ Default = past (same_word w (codes ".model")) Model inputs (λ x. cc) a in
    let c : outputs ≡ Default = past (same_word w (codes ".inputs")) Inputs outputs (λ x. cc) b in
    let d : declared ≡ Default = past (same_word w (codes ".outputs")) Outputs declared (λ x. cc) c in
    let f : tables ≡ Default = past (same_word w (codes ".mv")) Mv tables (λ x. cc) d in
    let g : defaults ≡ Default = past (is_table_word w) Table defaults (λ x. cc) f in
    ⊎_elim
    (λ (y : is_default_word w ≡ true). y)
    (λ (n : is_default_word w ≡ false).
    let h : ended ≡ Default = rw n at g in
    let i : latches ≡ Default = past (same_word w (codes ".end")) End latches (λ x. cc) h in
    let j : resets ≡ Default = past (same_word w (codes ".latch")) Latch resets (λ x. cc) i in
    let k : roots ≡ Default = past (is_reset_word w) Reset roots (λ x. cc) j in
    let m : instances ≡ Default = past (same_word w (codes ".root")) Root instances (λ x. cc) k in
    let n : Unknown ≡ Default = past (same_word w (codes ".subckt")) Instance Unknown (λ x. cc) m in
    cc)
    (cases_Bool (is_default_word w))

default-words : (ws : List (List ℕ)) → command_of (first_of ws) ≡ Default → begins_default ws ≡ true
unfolding command_of
default-words [] e = cc
default-words (w ∷ ws) e = default-word w e

pub line-default : (l : LexLine) → command_at l ≡ Default → says_default l ≡ true
unfolding says_default
line-default l e = default-words l.words e

differ : (c : Command) → c ≡ Row → c ≡ Default → ⊥
differ c e f = cc

pub line-row : (l : LexLine) → command_at l ≡ Row → says_default l ≡ false
unfolding says_default
line-row l e = false_from_ne_true (begins_default l.words) (λ y. differ (command_at l) e (words-default l.words y))
