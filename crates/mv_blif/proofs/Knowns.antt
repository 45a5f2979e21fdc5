-- What the lines say: what one more line adds to it.
use Rattle.std.proofs.Common.{◌≡◌, ℕ, Bool, true, false, ◌||◌, List, [], ◌∷◌, ◌++◌, refl, ap, ◌∙◌}
use Rattle.std.specs.Prelude.{Option}
use Rattle.std.specs.List.{list_any, flat_map}
use Rattle.std.proofs.lemmas.List.{append-nil}
use Rattle.std.proofs.lemmas.List.Folds.{list_any-append}
use Rattle.std.proofs.lemmas.Grind.{flat_map-append}
use Rattle.std.proofs.Math.Bool.{or-false, or-true}
use Rattle.mv_lex.specs.declared.lines.LexLine.{LexLine}
use Rattle.mv_line.specs.Words.{behind_first}
use Rattle.mv_blif_line.specs.declared.command.Command.{Command}
use Rattle.mv_blif_line.specs.declared.command.Command.TheVariants.{Model, Inputs, Outputs, Names, Latch, Row, End, Unknown}
use Rattle.mv_blif_line.specs.declared.row.OpenTable.{OpenTable}
use Rattle.mv_blif_line.specs.Commands.{command_at, is_model, is_end}
use Rattle.mv_blif.specs.declared.known.Known.{Known}
use Rattle.mv_blif.specs.Known.{inputs_at, inputs_of, outputs_at, outputs_of, open_table, known}
use Rattle.mv_blif.specs.Steps.{line_step}
use Rattle.mv_blif.proofs.Opens.{open_table-row, open_table-names, open_table-other}

-- a test of some line, with one line more
any-push : (test : Command → Bool) (ls : List LexLine) (l : LexLine) (c : Command) → command_at l ≡ c
    → list_any (λ x. test (command_at x)) (ls ++ l ∷ []) ≡ (list_any (λ x. test (command_at x)) ls || test c)
any-push test ls l c e =
    list_any-append (λ x. test (command_at x)) ls (l ∷ [])
    ∙ ap (λ b. list_any (λ x. test (command_at x)) ls || b) (or-false (test (command_at l)) ∙ ap test e)

-- names on lines, with one line more
names-push : (named : Command → List (List ℕ) → List (List ℕ)) (ls : List LexLine) (l : LexLine) (c : Command) → command_at l ≡ c
    → flat_map (λ x. named (command_at x) (behind_first x)) (ls ++ l ∷ []) ≡ flat_map (λ x. named (command_at x) (behind_first x)) ls ++ named c (behind_first l)
names-push named ls l c e =
    flat_map-append (λ x. named (command_at x) (behind_first x)) ls (l ∷ [])
    ∙ ap (λ xs. flat_map (λ x. named (command_at x) (behind_first x)) ls ++ xs) (append-nil (named (command_at l) (behind_first l)) ∙ ap (λ k. named k (behind_first l)) e)

-- what is known, part by part
parts : (ls : List LexLine) (b d : Bool) (i o : List (List ℕ)) (t : Option OpenTable) → list_any (λ x. is_model (command_at x)) ls ≡ b → list_any (λ x. is_end (command_at x)) ls ≡ d
    → inputs_of ls ≡ i → outputs_of ls ≡ o → open_table ls ≡ t → known ls ≡ record { begun = b; ended = d; inputs = i; outputs = o; table = t }
unfolding known
parts ls b d i o t begun ended inputs outputs table =
    ap (λ x. record { begun = x; ended = list_any (λ y. is_end (command_at y)) ls; inputs = inputs_of ls; outputs = outputs_of ls; table = open_table ls }) begun
    ∙ (ap (λ x. record { begun = b; ended = x; inputs = inputs_of ls; outputs = outputs_of ls; table = open_table ls }) ended
    ∙ (ap (λ x. record { begun = b; ended = d; inputs = x; outputs = outputs_of ls; table = open_table ls }) inputs
    ∙ (ap (λ x. record { begun = b; ended = d; inputs = i; outputs = x; table = open_table ls }) outputs
    ∙ ap (λ x. record { begun = b; ended = d; inputs = i; outputs = o; table = x }) table)))

-- a line that is neither the first of the model nor its last
inner : (ls : List LexLine) (l : LexLine) (c : Command) (t : Option OpenTable) → command_at l ≡ c → is_model c ≡ false → is_end c ≡ false → open_table (ls ++ l ∷ []) ≡ t
    → known (ls ++ l ∷ [])
    ≡ record { begun = list_any (λ x. is_model (command_at x)) ls; ended = list_any (λ x. is_end (command_at x)) ls; inputs = inputs_of ls ++ inputs_at c (behind_first l); outputs = outputs_of ls ++ outputs_at c (behind_first l); table = t }
inner ls l c t e m n table =
    parts (ls ++ l ∷ []) _ _ _ _ t
    (any-push is_model ls l c e ∙ (ap (λ b. list_any (λ x. is_model (command_at x)) ls || b) m ∙ or-false (list_any (λ x. is_model (command_at x)) ls)))
    (any-push is_end ls l c e ∙ (ap (λ b. list_any (λ x. is_end (command_at x)) ls || b) n ∙ or-false (list_any (λ x. is_end (command_at x)) ls)))
    (names-push inputs_at ls l c e) (names-push outputs_at ls l c e) table

known-step : (c : Command) (ls : List LexLine) (l : LexLine) → command_at l ≡ c → known (ls ++ l ∷ []) ≡ line_step c l (known ls)
unfolding known
known-step Model ls l e =
    parts (ls ++ l ∷ []) _ _ _ _ _
    (any-push is_model ls l Model e ∙ or-true (list_any (λ x. is_model (command_at x)) ls))
    (any-push is_end ls l Model e ∙ or-false (list_any (λ x. is_end (command_at x)) ls))
    (names-push inputs_at ls l Model e ∙ append-nil (inputs_of ls)) (names-push outputs_at ls l Model e ∙ append-nil (outputs_of ls))
    (open_table-other ls l Model e refl refl)
known-step End ls l e =
    parts (ls ++ l ∷ []) _ _ _ _ _
    (any-push is_model ls l End e ∙ or-false (list_any (λ x. is_model (command_at x)) ls))
    (any-push is_end ls l End e ∙ or-true (list_any (λ x. is_end (command_at x)) ls))
    (names-push inputs_at ls l End e ∙ append-nil (inputs_of ls)) (names-push outputs_at ls l End e ∙ append-nil (outputs_of ls))
    (open_table-other ls l End e refl refl)
known-step Inputs ls l e =
    rw (inner ls l Inputs _ e refl refl (open_table-other ls l Inputs e refl refl), append-nil (outputs_of ls)) refl
known-step Outputs ls l e =
    rw (inner ls l Outputs _ e refl refl (open_table-other ls l Outputs e refl refl), append-nil (inputs_of ls)) refl
known-step Names ls l e =
    rw (inner ls l Names _ e refl refl (open_table-names ls l e), append-nil (inputs_of ls), append-nil (outputs_of ls)) refl
known-step Latch ls l e =
    rw (inner ls l Latch _ e refl refl (open_table-other ls l Latch e refl refl), append-nil (inputs_of ls), append-nil (outputs_of ls)) refl
known-step Row ls l e =
    rw (inner ls l Row _ e refl refl (open_table-row ls l e), append-nil (inputs_of ls), append-nil (outputs_of ls)) refl
known-step Unknown ls l e =
    rw (inner ls l Unknown _ e refl refl (open_table-other ls l Unknown e refl refl), append-nil (inputs_of ls), append-nil (outputs_of ls)) refl

pub known-push : (ls : List LexLine) (l : LexLine) → known (ls ++ l ∷ []) ≡ line_step (command_at l) l (known ls)
known-push ls l = known-step (command_at l) ls l refl
