-- The first line of a table or a reset table, with an arrow: its columns, and that limits are its only faults.
use Rattle.std.proofs.Common.{◌≡◌, ◌∙◌, ℕ, ◌+◌, true, not, List, [], ◌∷◌, ◌++◌, length, refl, ap, arith, length-append}
use Rattle.std.specs.Prelude.{codes, nat_lt, nat_le}
use Rattle.std.specs.List.{list_all}
use Rattle.std.proofs.Math.Seq.{take-append_seam, drop-append-add}
use Rattle.std.proofs.lemmas.Bool.{and_parts, and_from, lt-ltb}
use Rattle.mv_base.specs.Names.{is_net_name}
use Rattle.mv_base.specs.declared.limits.TheConstants.{MAX_COLUMNS}
use Rattle.mv_fault.specs.declared.fault.Which.TheVariants.{Columns}
use Rattle.mv_fault.specs.declared.fault.ParseFault.TheVariants.{Limit, BadName}
use Rattle.mv_fault.specs.Tells.{when}
use Rattle.mv_table.specs.Columns.{arrow_at, ins_of, outs_of, names_faults, outputs_faults, columns_faults, output_faults, reset_faults}
use Rattle.mv_table.proofs.Outputs.{single_output}
use Rattle.mv_word.proofs.LawfulNames.{net_name-has}
use Rattle.mv_text_back.proofs.Limits.{only_limits, limits-append, when-limit}

-- fanins, an arrow, and the output
abbrev pub columns : List (List ℕ) → List ℕ → List (List ℕ)
columns names name = names ++ codes "->" ∷ name ∷ []

arrow_place : (names : List (List ℕ)) (name : List ℕ) → list_all is_net_name names ≡ true → arrow_at (columns names name) ≡ length names
arrow_place [] name e = refl
arrow_place (w ∷ ws) name e =
    let p = and_parts (is_net_name w) (list_all is_net_name ws) e in
    let rest = arrow_place ws name p.1 in
    rw (net_name-has w p.0).arrow (omega (arith, rest))

arrow_there : (names : List (List ℕ)) (name : List ℕ) → nat_lt (length names) (length (columns names name)) ≡ true
arrow_there names name = lt-ltb (length names) (length (columns names name)) (omega (arith, length-append names (codes "->" ∷ name ∷ [])))

pub ins-written : (names : List (List ℕ)) (name : List ℕ) → list_all is_net_name names ≡ true → ins_of (columns names name) ≡ names
unfolding ins_of
ins-written names name e =
    rw (arrow_place names name e, arrow_there names name) (take-append_seam names (codes "->" ∷ name ∷ []))

pub outs-written : (names : List (List ℕ)) (name : List ℕ) → list_all is_net_name names ≡ true → outs_of (columns names name) ≡ name ∷ []
unfolding outs_of
outs-written names name e =
    rw (arrow_place names name e, arrow_there names name) (drop-append-add names (codes "->" ∷ name ∷ []) 1)

-- ---- faults

names-limits : (n at : ℕ) (ws : List (List ℕ)) → list_all is_net_name ws ≡ true → only_limits (names_faults n at ws) ≡ true
names-limits n at [] e = refl
names-limits n at (w ∷ ws) e =
    let p = and_parts (is_net_name w) (list_all is_net_name ws) e in
    let many = when (nat_le MAX_COLUMNS at) (Limit n Columns (MAX_COLUMNS + 1)) in
    let bad = when (not (is_net_name w)) (BadName n w) in
    limits-append (many ++ bad) (names_faults n (at + 1) ws)
    (limits-append many bad (when-limit (nat_le MAX_COLUMNS at) (Limit n Columns (MAX_COLUMNS + 1)) refl) (rw p.0 refl))
    (names-limits n (at + 1) ws p.1)

own-limits : (n : ℕ) (names : List (List ℕ)) (name : List ℕ) → is_net_name name ≡ true → only_limits (names_faults n (length names) (name ∷ [])) ≡ true
own-limits n names name own = names-limits n (length names) (name ∷ []) (and_from (is_net_name name) true own refl)

-- it is the single output of its table
single-limits : (n : ℕ) (names : List (List ℕ)) (name : List ℕ) → is_net_name name ≡ true → only_limits (outputs_faults n (length names) [] (name ∷ [])) ≡ true
single-limits n names name own = ap only_limits (single_output n (length names) name) ∙ own-limits n names name own

pub columns-limits : (n : ℕ) (word : List ℕ) (names : List (List ℕ)) (name : List ℕ) → list_all is_net_name names ≡ true → is_net_name name ≡ true → only_limits (columns_faults n word (columns names name)) ≡ true
unfolding columns_faults
columns-limits n word names name e own =
    rw (ins-written names name e, outs-written names name e)
    (limits-append (names_faults n 0 names ++ outputs_faults n (length names) [] (name ∷ [])) []
    (limits-append (names_faults n 0 names) (outputs_faults n (length names) [] (name ∷ [])) (names-limits n 0 names e) (single-limits n names name own))
    refl)

pub reset-limits : (n : ℕ) (word : List ℕ) (names : List (List ℕ)) (name : List ℕ) → list_all is_net_name names ≡ true → is_net_name name ≡ true
    → only_limits (reset_faults n word (columns names name)) ≡ true
unfolding reset_faults
reset-limits n word names name e own =
    rw (ins-written names name e, outs-written names name e)
    (limits-append (names_faults n 0 names) (output_faults n word (length names) (name ∷ [])) (names-limits n 0 names e)
    (limits-append (names_faults n (length names) (name ∷ [])) [] (own-limits n names name own) refl))
