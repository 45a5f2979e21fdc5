-- The open model: what one more line adds to each part of it.
use Rattle.std.proofs.Common.{◌≡◌, ◌+◌, Bool, true, false, ◌&&◌, ◌||◌, List, [], ◌∷◌, ◌++◌, cond, if◌then◌else◌, add-zero, zero-add, refl, ap, ◌∙◌}
use Rattle.std.specs.Prelude.{Option, Some, None, count_by, option_map}
use Rattle.std.specs.List.{list_all, list_any, flat_map}
use Rattle.std.proofs.lemmas.List.{append-nil}
use Rattle.std.proofs.lemmas.List.Folds.{list_any-append}
use Rattle.std.proofs.lemmas.Grind.{flat_map-append}
use Rattle.std.proofs.lemmas.List.Sums.{sum_by-append}
use Rattle.std.proofs.Math.Bool.{or-false, or-true, and-true, and-false}
use Rattle.mv_base.proofs.Lists.{list_all-push}
use Rattle.mv_lex.specs.declared.lines.LexLine.{LexLine}
use Rattle.mv_design.specs.declared.design.Decl.{Decl}
use Rattle.mv_decl.specs.Nets.{with_decl, with_decls}
use Rattle.mv_line.specs.Words.{behind_first}
use Rattle.mv_parse.specs.declared.command.Command.{Command}
use Rattle.mv_parse.specs.declared.command.Command.TheVariants.{Table, Reset, Default, Row}
use Rattle.mv_parse.specs.declared.known.OpenTable.{OpenTable}
use Rattle.mv_parse.specs.Commands.{command_at, keeps_table, is_row, is_default, is_table}
use Rattle.mv_parse.specs.Known.{inputs_at, inputs_of, outputs_at, outputs_of, decls_at, decls_of, instance_names_at, instance_names_of, table_state, open_table}
use Rattle.mv_parse.specs.Steps.{new_table, default_seen, row_seen}

-- one more piece at the end of many
flat_map-push : {A : Type 0} (f : LexLine → List A) (ls : List LexLine) (l : LexLine) → flat_map f (ls ++ l ∷ []) ≡ flat_map f ls ++ f l
flat_map-push f ls l = flat_map-append f ls (l ∷ []) ∙ ap (λ xs. flat_map f ls ++ xs) (append-nil (f l))

pub inputs-push : (ls : List LexLine) (l : LexLine) → inputs_of (ls ++ l ∷ []) ≡ inputs_of ls ++ inputs_at (command_at l) (behind_first l)
inputs-push ls l = flat_map-push (λ x. inputs_at (command_at x) (behind_first x)) ls l

pub outputs-push : (ls : List LexLine) (l : LexLine) → outputs_of (ls ++ l ∷ []) ≡ outputs_of ls ++ outputs_at (command_at l) (behind_first l)
outputs-push ls l = flat_map-push (λ x. outputs_at (command_at x) (behind_first x)) ls l

pub instance_names-push : (ls : List LexLine) (l : LexLine) → instance_names_of (ls ++ l ∷ []) ≡ instance_names_of ls ++ instance_names_at (command_at l) (behind_first l)
instance_names-push ls l = flat_map-push (λ x. instance_names_at (command_at x) (behind_first x)) ls l

with_decls-append : (ds xs ys : List Decl) → with_decls ds (xs ++ ys) ≡ with_decls (with_decls ds xs) ys
with_decls-append ds [] ys = refl
with_decls-append ds (x ∷ xs) ys = with_decls-append (with_decl ds x) xs ys

pub decls-push : (ls : List LexLine) (l : LexLine) → decls_of (ls ++ l ∷ []) ≡ with_decls (decls_of ls) (decls_at (command_at l) (behind_first l))
decls-push ls l =
    ap (with_decls []) (flat_map-push (λ x. decls_at (command_at x) (behind_first x)) ls l)
    ∙ with_decls-append [] (flat_map (λ x. decls_at (command_at x) (behind_first x)) ls) (decls_at (command_at l) (behind_first l))

-- ---- the open table

count_by-push : {X : Type 0} (p : X → Bool) (xs : List X) (x : X) → count_by p (xs ++ x ∷ []) ≡ count_by p xs + cond (p x) 1 0
count_by-push p xs x = rw (sum_by-append (λ y. cond (p y) 1 0) xs (x ∷ [])) (ap (λ n. count_by p xs + n) (zero-add (cond (p x) 1 0)))

list_any-push : {X : Type 0} (p : X → Bool) (xs : List X) (x : X) → list_any p (xs ++ x ∷ []) ≡ (list_any p xs || p x)
list_any-push p xs x = list_any-append p xs (x ∷ []) ∙ ap (λ b. list_any p xs || b) (or-false (p x))

rows-push : (ls : List LexLine) (l : LexLine) (c : Command) → command_at l ≡ c → count_by (λ r. is_row (command_at r)) (ls ++ l ∷ []) ≡ count_by (λ r. is_row (command_at r)) ls + cond (is_row c) 1 0
rows-push ls l c e = count_by-push (λ r. is_row (command_at r)) ls l ∙ ap (λ k. count_by (λ r. is_row (command_at r)) ls + cond (is_row k) 1 0) e

default-push : (ls : List LexLine) (l : LexLine) (c : Command) → command_at l ≡ c → list_any (λ r. is_default (command_at r)) (ls ++ l ∷ []) ≡ (list_any (λ r. is_default (command_at r)) ls || is_default c)
default-push ls l c e = list_any-push (λ r. is_default (command_at r)) ls l ∙ ap (λ k. list_any (λ r. is_default (command_at r)) ls || is_default k) e

keeps-push : (ls : List LexLine) (l : LexLine) (c : Command) → command_at l ≡ c → list_all (λ r. keeps_table (command_at r)) (ls ++ l ∷ []) ≡ (list_all (λ r. keeps_table (command_at r)) ls && keeps_table c)
keeps-push ls l c e = list_all-push (λ r. keeps_table (command_at r)) ls l ∙ ap (λ k. list_all (λ r. keeps_table (command_at r)) ls && keeps_table k) e

-- a row or a default of a table
state-row : (x : LexLine) (ls : List LexLine) (l : LexLine) → command_at l ≡ Row → table_state x (ls ++ l ∷ []) ≡ row_seen (table_state x ls)
state-row x ls l e = rw (rows-push ls l Row e, default-push ls l Row e, or-false (list_any (λ r. is_default (command_at r)) ls)) refl

state-default : (x : LexLine) (ls : List LexLine) (l : LexLine) → command_at l ≡ Default → table_state x (ls ++ l ∷ []) ≡ default_seen (table_state x ls)
state-default x ls l e = rw (rows-push ls l Default e, default-push ls l Default e, or-true (list_any (λ r. is_default (command_at r)) ls), add-zero (count_by (λ r. is_row (command_at r)) ls)) refl

-- it stays open behind either
choose : (b : Bool) (t u : OpenTable) (o p : Option OpenTable) (f : OpenTable → OpenTable) → u ≡ f t → p ≡ option_map f o → (if b then Some u else p) ≡ option_map f (if b then Some t else o)
choose true t u o p f e h = ap Some e
choose false t u o p f e h = h

kept-test : (x : LexLine) (ls : List LexLine) (l : LexLine) (c : Command) → command_at l ≡ c → keeps_table c ≡ true → (is_table (command_at x) && list_all (λ r. keeps_table (command_at r)) (ls ++ l ∷ [])) ≡ (is_table (command_at x) && list_all (λ r. keeps_table (command_at r)) ls)
kept-test x ls l c e k = ap (λ b. is_table (command_at x) && b) (keeps-push ls l c e ∙ (ap (λ b. list_all (λ r. keeps_table (command_at r)) ls && b) k ∙ and-true (list_all (λ r. keeps_table (command_at r)) ls)))

pub open_table-row : (ls : List LexLine) (l : LexLine) → command_at l ≡ Row → open_table (ls ++ l ∷ []) ≡ option_map row_seen (open_table ls)
open_table-row [] l e = rw e refl
open_table-row (x ∷ ls) l e =
    ap (λ b. if b then Some (table_state x (ls ++ l ∷ [])) else open_table (ls ++ l ∷ [])) (kept-test x ls l Row e refl)
    ∙ choose (is_table (command_at x) && list_all (λ r. keeps_table (command_at r)) ls) (table_state x ls) (table_state x (ls ++ l ∷ [])) (open_table ls) (open_table (ls ++ l ∷ [])) row_seen (state-row x ls l e) (open_table-row ls l e)

pub open_table-default : (ls : List LexLine) (l : LexLine) → command_at l ≡ Default → open_table (ls ++ l ∷ []) ≡ option_map default_seen (open_table ls)
open_table-default [] l e = rw e refl
open_table-default (x ∷ ls) l e =
    ap (λ b. if b then Some (table_state x (ls ++ l ∷ [])) else open_table (ls ++ l ∷ [])) (kept-test x ls l Default e refl)
    ∙ choose (is_table (command_at x) && list_all (λ r. keeps_table (command_at r)) ls) (table_state x ls) (table_state x (ls ++ l ∷ [])) (open_table ls) (open_table (ls ++ l ∷ [])) default_seen (state-default x ls l e) (open_table-default ls l e)

-- and behind any other line it is closed, or another begins
shut-test : (x : LexLine) (ls : List LexLine) (l : LexLine) (c : Command) → command_at l ≡ c → keeps_table c ≡ false → (is_table (command_at x) && list_all (λ r. keeps_table (command_at r)) (ls ++ l ∷ [])) ≡ false
shut-test x ls l c e k = ap (λ b. is_table (command_at x) && b) (keeps-push ls l c e ∙ (ap (λ b. list_all (λ r. keeps_table (command_at r)) ls && b) k ∙ and-false (list_all (λ r. keeps_table (command_at r)) ls))) ∙ and-false (is_table (command_at x))

open_table-first : (ls : List LexLine) (l : LexLine) (c : Command) → command_at l ≡ c → keeps_table c ≡ false → is_table c ≡ true → open_table (ls ++ l ∷ []) ≡ Some (new_table (behind_first l))
open_table-first [] l c e k t = rw (e, t) refl
open_table-first (x ∷ ls) l c e k t =
    ap (λ b. if b then Some (table_state x (ls ++ l ∷ [])) else open_table (ls ++ l ∷ [])) (shut-test x ls l c e k) ∙ open_table-first ls l c e k t

pub open_table-table : (ls : List LexLine) (l : LexLine) → command_at l ≡ Table → open_table (ls ++ l ∷ []) ≡ Some (new_table (behind_first l))
open_table-table ls l e = open_table-first ls l Table e refl refl

pub open_table-reset : (ls : List LexLine) (l : LexLine) → command_at l ≡ Reset → open_table (ls ++ l ∷ []) ≡ Some (new_table (behind_first l))
open_table-reset ls l e = open_table-first ls l Reset e refl refl

pub open_table-other : (ls : List LexLine) (l : LexLine) (c : Command) → command_at l ≡ c → keeps_table c ≡ false → is_table c ≡ false → open_table (ls ++ l ∷ []) ≡ None
open_table-other [] l c e k t = rw (e, t) refl
open_table-other (x ∷ ls) l c e k t =
    ap (λ b. if b then Some (table_state x (ls ++ l ∷ [])) else open_table (ls ++ l ∷ [])) (shut-test x ls l c e k) ∙ open_table-other ls l c e k t
