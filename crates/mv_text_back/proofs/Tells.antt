-- What the lines of a model between its outputs and its end don't tell, by their commands.
use Rattle.std.proofs.Common.{◌≡◌, ◌∙◌, ℕ, Bool, true, false, not, List, [], ◌∷◌, ◌++◌, refl, ap, append-nil}
use Rattle.std.specs.List.{list_all, flat_map}
use Rattle.std.proofs.lemmas.Bool.{and_parts, and_from}
use Rattle.std.proofs.lemmas.Grind.{flat_map-append}
use Rattle.mv_base.proofs.Lists.{all-weaker, flat_map-nothing}
use Rattle.mv_lex.specs.declared.lines.LexLine.{LexLine}
use Rattle.mv_design.specs.declared.design.Decl.{Decl}
use Rattle.mv_decl.specs.Nets.{with_decls}
use Rattle.mv_line.specs.Words.{behind_first}
use Rattle.mv_parse.specs.declared.command.Command.{Command}
use Rattle.mv_parse.specs.declared.command.Command.TheVariants.{Inputs, Outputs, Mv, Table, Latch, Reset, Default, Row, Instance}
use Rattle.mv_parse.specs.Commands.{command_at, is_table}
use Rattle.mv_parse.specs.Known.{inputs_at, inputs_of, outputs_at, outputs_of, decls_at, decls_of, latch_at, latches_of}
use Rattle.mv_parse.specs.Known.{table_at, tables_of, reset_at, resets_of, instance_at, instances_of}
use Rattle.mv_parse.specs.Grammar.{table_value_faults, tables_faults}
use Rattle.mv_text_back.proofs.Opened.{stays, goes_on}

-- ---- tests of commands

-- each of these lines passes a test on its command
abbrev pub all_pass : (Command → Bool) → List LexLine → Bool
all_pass test ls = list_all (λ l. test (command_at l)) ls

-- each of these lines is this command
abbrev pub AllAre : Command → List LexLine → Type 0
AllAre c [] = Unit {0}
AllAre c (l ∷ ls) = (command_at l ≡ c) × AllAre c ls

-- such lines pass what the command passes
pub are-pass : (test : Command → Bool) (c : Command) → test c ≡ true → (ls : List LexLine) → AllAre c ls → all_pass test ls ≡ true
are-pass test c e [] all = refl
are-pass test c e (l ∷ ls) all = and_from (test (command_at l)) _ (ap test all.0 ∙ e) (are-pass test c e ls all.1)

-- a command of a table or a reset table: it begins one, or leaves one open
abbrev pub is_of_table : Command → Bool
is_of_table Table = true
is_of_table Reset = true
is_of_table Default = true
is_of_table Row = true
is_of_table _ = false

-- a command between the outputs and the end
abbrev pub is_inner : Command → Bool
is_inner Mv = true
is_inner Latch = true
is_inner c = is_of_table c

-- the command declares no net
abbrev pub is_other_than_mv : Command → Bool
is_other_than_mv Mv = false
is_other_than_mv _ = true

-- the command says no latch
abbrev pub is_other_than_latch : Command → Bool
is_other_than_latch Latch = false
is_other_than_latch _ = true

-- the command begins neither a table nor a reset table
abbrev pub begins_none : Command → Bool
begins_none c = not (is_table c)

-- nor says a latch
abbrev pub says_none : Command → Bool
says_none Latch = false
says_none c = begins_none c

table_inner : (c : Command) → is_of_table c ≡ true → is_inner c ≡ true
table_inner Mv e = refl
table_inner Latch e = refl
table_inner _ e = e

table_no_mv : (c : Command) → is_of_table c ≡ true → is_other_than_mv c ≡ true
table_no_mv Mv e = e
table_no_mv _ e = refl

table_no_latch : (c : Command) → is_of_table c ≡ true → is_other_than_latch c ≡ true
table_no_latch Latch e = e
table_no_latch _ e = refl

-- lines of tables are such
pub tables-inner : (ls : List LexLine) → all_pass is_of_table ls ≡ true → all_pass is_inner ls ≡ true
tables-inner ls e = all-weaker _ _ (λ l y. table_inner (command_at l) y) ls e

pub tables-no_mv : (ls : List LexLine) → all_pass is_of_table ls ≡ true → all_pass is_other_than_mv ls ≡ true
tables-no_mv ls e = all-weaker _ _ (λ l y. table_no_mv (command_at l) y) ls e

pub tables-no_latch : (ls : List LexLine) → all_pass is_of_table ls ≡ true → all_pass is_other_than_latch ls ≡ true
tables-no_latch ls e = all-weaker _ _ (λ l y. table_no_latch (command_at l) y) ls e

-- ---- ports, instances, and the end

inner_goes : (c : Command) → is_inner c ≡ true → stays c ≡ true
inner_goes Mv e = refl
inner_goes Latch e = refl
inner_goes Table e = refl
inner_goes Reset e = refl
inner_goes Default e = refl
inner_goes Row e = refl
inner_goes _ e = cc

-- the inner lines go on with their model
pub inner-goes : (ls : List LexLine) → all_pass is_inner ls ≡ true → list_all goes_on ls ≡ true
inner-goes ls e = all-weaker _ goes_on (λ l y. inner_goes (command_at l) y) ls e

no_inputs : (c : Command) (words : List (List ℕ)) → is_inner c ≡ true → inputs_at c words ≡ []
no_inputs Inputs words e = cc
no_inputs _ words e = refl

pub inner-inputs : (ls : List LexLine) → all_pass is_inner ls ≡ true → inputs_of ls ≡ []
inner-inputs ls e =
    let F = λ (l : LexLine). inputs_at (command_at l) (behind_first l) in
    flat_map-nothing F (λ l. is_inner (command_at l)) (λ l y. no_inputs (command_at l) (behind_first l) y) ls e

no_outputs : (c : Command) (words : List (List ℕ)) → is_inner c ≡ true → outputs_at c words ≡ []
no_outputs Outputs words e = cc
no_outputs _ words e = refl

pub inner-outputs : (ls : List LexLine) → all_pass is_inner ls ≡ true → outputs_of ls ≡ []
inner-outputs ls e =
    let F = λ (l : LexLine). outputs_at (command_at l) (behind_first l) in
    flat_map-nothing F (λ l. is_inner (command_at l)) (λ l y. no_outputs (command_at l) (behind_first l) y) ls e

no_instances : (c : Command) (l : LexLine) → is_inner c ≡ true → instance_at c l ≡ []
no_instances Instance l e = cc
no_instances _ l e = refl

pub inner-instances : (ls : List LexLine) → all_pass is_inner ls ≡ true → instances_of ls ≡ []
inner-instances ls e = flat_map-nothing (λ l. instance_at (command_at l) l) (λ l. is_inner (command_at l)) (λ l y. no_instances (command_at l) l y) ls e

-- ---- declarations and latches

no_decls : (c : Command) (words : List (List ℕ)) → is_other_than_mv c ≡ true → decls_at c words ≡ []
no_decls Mv words e = cc
no_decls _ words e = refl

-- other lines behind declarations declare nothing
pub decls-front : (front ls : List LexLine) → all_pass is_other_than_mv ls ≡ true → decls_of (front ++ ls) ≡ decls_of front
decls-front front ls e =
    let F = λ (l : LexLine). decls_at (command_at l) (behind_first l) in
    let none = flat_map-nothing F (λ l. is_other_than_mv (command_at l)) (λ l y. no_decls (command_at l) (behind_first l) y) ls e in
    ap (with_decls []) (flat_map-append F front ls ∙ (ap (λ ds. flat_map F front ++ ds) none ∙ append-nil (flat_map F front)))

no_latch : (c : Command) (l : LexLine) → is_other_than_latch c ≡ true → latch_at c l ≡ []
no_latch Latch l e = cc
no_latch _ l e = refl

pub others-latches : (ls : List LexLine) → all_pass is_other_than_latch ls ≡ true → latches_of ls ≡ []
others-latches ls e = flat_map-nothing (λ l. latch_at (command_at l) l) (λ l. is_other_than_latch (command_at l)) (λ l y. no_latch (command_at l) l y) ls e

-- ---- tables and reset tables

no_table : (c : Command) (ds : List Decl) (l : LexLine) (ls : List LexLine) → begins_none c ≡ true → table_at c ds l ls ≡ []
no_table Table ds l ls e = cc
no_table _ ds l ls e = refl

pub tables-behind : (ds : List Decl) (ls rest : List LexLine) → all_pass begins_none ls ≡ true → tables_of ds (ls ++ rest) ≡ tables_of ds rest
tables-behind ds [] rest e = refl
tables-behind ds (l ∷ ls) rest e =
    let p = and_parts (begins_none (command_at l)) (all_pass begins_none ls) e in
    ap (λ ts. ts ++ tables_of ds (ls ++ rest)) (no_table (command_at l) ds l (ls ++ rest) p.0) ∙ tables-behind ds ls rest p.1

no_reset : (c : Command) (ds : List Decl) (l : LexLine) (ls : List LexLine) → begins_none c ≡ true → reset_at c ds l ls ≡ []
no_reset Reset ds l ls e = cc
no_reset _ ds l ls e = refl

pub resets-behind : (ds : List Decl) (ls rest : List LexLine) → all_pass begins_none ls ≡ true → resets_of ds (ls ++ rest) ≡ resets_of ds rest
resets-behind ds [] rest e = refl
resets-behind ds (l ∷ ls) rest e =
    let p = and_parts (begins_none (command_at l)) (all_pass begins_none ls) e in
    ap (λ ts. ts ++ resets_of ds (ls ++ rest)) (no_reset (command_at l) ds l (ls ++ rest) p.0) ∙ resets-behind ds ls rest p.1

-- ---- faults of values

-- the values of these lines have no fault, whatever stands behind them
abbrev pub AllValued : List Decl → List LexLine → Type 0
AllValued ds [] = Unit {0}
AllValued ds (l ∷ ls) = ((behind : List LexLine) → table_value_faults (command_at l) ds l behind ≡ []) × AllValued ds ls

no_values : (c : Command) (ds : List Decl) (l : LexLine) (ls : List LexLine) → says_none c ≡ true → table_value_faults c ds l ls ≡ []
no_values Table ds l ls e = cc
no_values Latch ds l ls e = cc
no_values Reset ds l ls e = cc
no_values _ ds l ls e = refl

pub none-valued : (ds : List Decl) (ls : List LexLine) → all_pass says_none ls ≡ true → AllValued ds ls
none-valued ds [] e = tt
none-valued ds (l ∷ ls) e =
    let p = and_parts (says_none (command_at l)) (all_pass says_none ls) e in
    (λ behind. no_values (command_at l) ds l behind p.0, none-valued ds ls p.1)

pub values-behind : (ds : List Decl) (ls rest : List LexLine) → AllValued ds ls → tables_faults ds (ls ++ rest) ≡ tables_faults ds rest
values-behind ds [] rest all = refl
values-behind ds (l ∷ ls) rest all =
    ap (λ fs. fs ++ tables_faults ds (ls ++ rest)) (all.0 (ls ++ rest)) ∙ values-behind ds ls rest all.1
