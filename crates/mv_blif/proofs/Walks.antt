-- The reader's way along the lines: where it stands, and what it knows there.
use Rattle.std.proofs.Common.{◌≡◌, ℕ, ◌+◌, ◌≤◌, ◌<◌, false, List, [], ◌∷◌, ◌++◌, length, take, drop, get_or, refl, sym, ap, ◌∙◌, ◌⊎◌, inr, ⊎_elim, inl}
use Rattle.std.specs.Prelude.{Some, None}
use Rattle.std.proofs.lemmas.List.{take_all, drop_all}
use Rattle.mv_lex.specs.declared.lines.LexLine.{LexLine}
use Rattle.mv_fault.specs.Tells.{first}
use Rattle.mv_fault.proofs.Firsts.{first-append}
use Rattle.mv_table.proofs.Places.{take_more, drop_one}
use Rattle.mv_blif_line.specs.declared.fault.BlifFault.{BlifFault}
use Rattle.mv_blif_line.specs.declared.fault.BlifFault.TheVariants.{Memory}
use Rattle.mv_blif_line.specs.Commands.{command_at}
use Rattle.mv_blif.specs.declared.known.Known.{Known}
use Rattle.mv_blif.specs.Known.{known}
use Rattle.mv_blif.specs.Grammar.{line_faults, file_faults, faults_behind, faults_of}
use Rattle.mv_blif.specs.Steps.{line_step}
use Rattle.mv_blif.proofs.Knowns.{known-push}

-- the reader stands before line `at`, and knows what the lines before say
pub record IsAt (lines : List LexLine) (at : ℕ) (k : Known) : Type 0 where
  pub known : k ≡ known (take at lines)
  pub fault : faults_behind (take at lines) (drop at lines) ≡ faults_of lines

pub begins : (lines : List LexLine) → IsAt lines 0 (record { begun = false; ended = false; inputs = []; outputs = []; table = None })
unfolding known faults_of
begins lines = record { known = refl; fault = refl }

-- the faults from a line on are its own, and those behind it
here : (lines : List LexLine) (at : ℕ) (k : Known) (l : LexLine) → IsAt lines at k → at < length lines → l ≡ get_or lines at l
    → line_faults (command_at l) k (take at lines) l ++ faults_behind (take at lines ++ l ∷ []) (drop (at + 1) lines) ≡ faults_of lines
here lines at k l is h e =
    ap (λ x. line_faults (command_at l) x (take at lines) l ++ faults_behind (take at lines ++ l ∷ []) (drop (at + 1) lines)) is.known
    ∙ (ap (λ ls. faults_behind (take at lines) ls) (sym (drop_one lines at l h e)) ∙ is.fault)

-- a fault of the line, or want of memory: it is the first of all lines
pub refused : (lines : List LexLine) (at : ℕ) (k : Known) (l : LexLine) (f : BlifFault) → IsAt lines at k → at < length lines → l ≡ get_or lines at l
    → (f ≡ Memory) ⊎ (first (line_faults (command_at l) k (take at lines) l) ≡ Some f) → (f ≡ Memory) ⊎ (first (faults_of lines) ≡ Some f)
refused lines at k l f is h e why =
    ⊎_elim (λ (m : f ≡ Memory). inl m)
    (λ (told : first (line_faults (command_at l) k (take at lines) l) ≡ Some f).
    inr (ap first (sym (here lines at k l is h e)) ∙ first-append f (line_faults (command_at l) k (take at lines) l) (faults_behind (take at lines ++ l ∷ []) (drop (at + 1) lines)) told))
    why

-- one line on
pub next : (lines : List LexLine) (at : ℕ) (k new : Known) (l : LexLine) → IsAt lines at k → at < length lines → l ≡ get_or lines at l
    → line_faults (command_at l) k (take at lines) l ≡ [] → new ≡ line_step (command_at l) l k → IsAt lines (at + 1) new
next lines at k new l is h e none step =
    let more : take (at + 1) lines ≡ take at lines ++ l ∷ [] = take_more lines at l h e in
    let behind : List BlifFault = faults_behind (take at lines ++ l ∷ []) (drop (at + 1) lines) in
    record {
      known = step ∙ (ap (line_step (command_at l) l) is.known ∙ (sym (known-push (take at lines) l) ∙ ap known (sym more)));
      fault = ap (λ ls. faults_behind ls (drop (at + 1) lines)) more ∙ (ap (λ fs. fs ++ behind) (sym none) ∙ here lines at k l is h e);
    }

-- at the end
pub whole_known : (lines : List LexLine) (at : ℕ) (k : Known) → IsAt lines at k → length lines ≤ at → k ≡ known lines
whole_known lines at k is h = is.known ∙ ap known (take_all at lines h)

pub whole_faults : (lines : List LexLine) (at : ℕ) (k : Known) → IsAt lines at k → length lines ≤ at → file_faults k lines ≡ faults_of lines
whole_faults lines at k is h =
    ap (λ x. file_faults x lines) (whole_known lines at k is h)
    ∙ (ap (λ ls. faults_behind ls []) (sym (take_all at lines h)) ∙ (ap (λ ls. faults_behind (take at lines) ls) (sym (drop_all at lines h)) ∙ is.fault))

pub ruleset walking = (begins, refused, next, whole_known, whole_faults)
