-- The reset tables of lines of latches: a latch has one exactly where its own line says 0 or 1.
use Rattle.std.proofs.Common.{◌≡◌, ◌∙◌, ℕ, zero, suc, Bool, true, false, not, ◌&&◌, ◌||◌, List, [], ◌∷◌, ◌++◌, drop, Some, None, refl, sym, ap}
use Rattle.std.specs.Prelude.{map, nat_lt, slice_get, if◌then◌else◌}
use Rattle.std.specs.List.{flat_map, list_any}
use Rattle.std.proofs.Math.Bool.{and-false, or-false, and-true}
use Rattle.std.proofs.lemmas.Bool.{and_parts, false_from_ne_true, false≢true, not-true, or_parts, or_from}
use Rattle.std.proofs.lemmas.List.Folds.{list_any-append}
use Rattle.std.proofs.lemmas.Option.{none-some, same_Some}
use Rattle.mv_base.specs.Names.{same_word, among, names_differ}
use Rattle.mv_base.proofs.NameLemmas.{among-at, same_word_is, same_word_refl}
use Rattle.mv_lex.specs.declared.lines.LexLine.{LexLine}
use Rattle.mv_design.specs.declared.design.FileLatch.{FileLatch}
use Rattle.mv_design.specs.declared.table.FileTable.{FileTable}
use Rattle.mv_design.specs.Meaning.{is_reset_of, has_reset_table}
use Rattle.mv_line.specs.Latches.{latch_of}
use Rattle.mv_line.specs.Words.{behind_first, first_of}
use Rattle.mv_blif_line.specs.Latches.{settings_at, constant_reset, resets_at}

-- the output of a line's latch
abbrev pub output_at : LexLine → List ℕ
output_at l = (latch_of l).output

-- the line says 0 or 1
abbrev pub begins_at : LexLine → Bool
begins_at l = nat_lt (settings_at l).init 2

one_or_none : {X : Type 0} (p : X → Bool) (b : Bool) (x : X) → list_any p (if b then x ∷ [] else []) ≡ (b && p x)
one_or_none p true x = or-false (p x)
one_or_none p false x = refl

-- the reset table of a line is that of a latch where the line says 0 or 1 and has the latch's output
reset-here : (h : FileLatch) (l : LexLine) → has_reset_table (resets_at l) h ≡ (begins_at l && same_word h.output (output_at l))
unfolding resets_at
reset-here h l =
    one_or_none (is_reset_of h) (begins_at l) (constant_reset l.number (first_of (drop 1 (behind_first l))) (settings_at l).init)
    ∙ ap (λ b. begins_at l && b) (or-false (same_word h.output (output_at l)))

reset-cons : (h : FileLatch) (l : LexLine) (ls : List LexLine)
    → has_reset_table (flat_map resets_at (l ∷ ls)) h
    ≡ ((begins_at l && same_word h.output (output_at l)) || has_reset_table (flat_map resets_at ls) h)
reset-cons h l ls =
    list_any-append (is_reset_of h) (resets_at l) (flat_map resets_at ls) ∙ ap (λ b. b || has_reset_table (flat_map resets_at ls) h) (reset-here h l)

-- none of other outputs is
no-reset : (h : FileLatch) (ls : List LexLine) → among h.output (map output_at ls) ≡ false → has_reset_table (flat_map resets_at ls) h ≡ false
no-reset h [] other = refl
no-reset h (l ∷ ls) other =
    let p = or_parts (same_word h.output (output_at l)) (among h.output (map output_at ls)) other in
    reset-cons h l ls ∙ or_from _ _ (ap (λ b. begins_at l && b) p.0 ∙ and-false (begins_at l)) (no-reset h ls p.1)

pub at_mapped : {X Y : Type 0} (f : X → Y) (xs : List X) (k : ℕ) (x : X) → slice_get xs k ≡ Some x → slice_get (map f xs) k ≡ Some (f x)
at_mapped f [] k x e = absurd (none-some x e)
at_mapped f (y ∷ xs) zero x e = ap (λ z. Some (f z)) (same_Some y x e)
at_mapped f (y ∷ xs) (suc k) x e = at_mapped f xs k x e

-- a latch has a reset table where its own line says 0 or 1, and only there
pub own-reset : (ls : List LexLine) (k : ℕ) (l : LexLine) → names_differ (map output_at ls) ≡ true → slice_get ls k ≡ Some l
    → has_reset_table (flat_map resets_at ls) (latch_of l) ≡ begins_at l
own-reset [] k l differ e = absurd (none-some l e)
own-reset (x ∷ ls) zero l differ e =
    let same : x ≡ l = same_Some x l e in
    let q = and_parts (not (among (output_at x) (map output_at ls))) (names_differ (map output_at ls)) differ in
    let own : (begins_at x && same_word (output_at x) (output_at x)) ≡ begins_at x =
    ap (λ b. begins_at x && b) (same_word_refl (output_at x)) ∙ and-true (begins_at x) in
    let here : has_reset_table (flat_map resets_at (x ∷ ls)) (latch_of x) ≡ begins_at x =
    reset-cons (latch_of x) x ls
    ∙ ((λ i. own i || no-reset (latch_of x) ls (not-true (among (output_at x) (map output_at ls)) q.0) i) ∙ or-false (begins_at x)) in
    ap (λ y. has_reset_table (flat_map resets_at (x ∷ ls)) (latch_of y)) (sym same) ∙ (here ∙ ap begins_at same)
own-reset (x ∷ ls) (suc k) l differ e =
    let q = and_parts (not (among (output_at x) (map output_at ls))) (names_differ (map output_at ls)) differ in
    let there : among (output_at l) (map output_at ls) ≡ true = among-at (map output_at ls) k (output_at l) (at_mapped output_at ls k l e) in
    let other : same_word (output_at l) (output_at x) ≡ false =
    false_from_ne_true _
    (λ y. false≢true (sym (not-true (among (output_at x) (map output_at ls)) q.0) ∙ (ap (λ w. among w (map output_at ls)) (sym (same_word_is (output_at l) (output_at x) y)) ∙ there))) in
    reset-cons (latch_of l) x ls
    ∙ (ap (λ b. b || has_reset_table (flat_map resets_at ls) (latch_of l)) (ap (λ b. begins_at x && b) other ∙ and-false (begins_at x))
    ∙ own-reset ls k l q.1 e)
