-- The reader's way along the lines: where it stands, and what it has read.
use Rattle.std.proofs.Common.{◌≡◌, ℕ, ◌+◌, ◌≤◌, ◌<◌, Bool, true, false, not, List, [], ◌∷◌, ◌++◌, length, take, drop, get_or, if◌then◌else◌, refl, sym, ap, ◌∙◌, ◌⊎◌, inl, inr, ⊎_elim, arith}
use Rattle.std.specs.Prelude.{Some, None, All}
use Rattle.std.proofs.lemmas.Bool.{cases_Bool, cond_both}
use Rattle.std.proofs.lemmas.List.{take_all}
use Rattle.std.proofs.lemmas.List.Elements.{All-nil, All-push}
use Rattle.std.proofs.Math.Bool.{and-false}
use Rattle.mv_base.specs.declared.limits.TheConstants.{MAX_COLUMNS}
use Rattle.mv_lex.specs.declared.lines.LexLine.{LexLine}
use Rattle.mv_fault.specs.declared.fault.ParseFault.{ParseFault}
use Rattle.mv_fault.specs.declared.fault.ParseFault.TheVariants.{Memory, NoEnd}
use Rattle.mv_fault.specs.Tells.{first}
use Rattle.mv_fault.proofs.Firsts.{first-append}
use Rattle.mv_line.specs.Words.{behind_first, first_word}
use Rattle.mv_parse.specs.declared.command.Command.{Command}
use Rattle.mv_parse.specs.declared.command.Command.TheVariants.{Model, End, Root}
use Rattle.mv_parse.specs.declared.known.OpenTable.{OpenTable}
use Rattle.mv_parse.specs.declared.known.OpenModel.{OpenModel}
use Rattle.mv_parse.specs.declared.known.Known.{Known}
use Rattle.mv_parse.specs.Commands.{command_at, is_model, is_end}
use Rattle.mv_parse.specs.Known.{says_root, open_part, open_of, open_model, known}
use Rattle.mv_parse.specs.Grammar.{model_faults, line_faults, behind_model, faults_at, faults_behind, faults_of, design_known, design_of}
use Rattle.mv_parse.specs.Steps.{line_step, is_inner, HasFewColumns, IsSmall, HasRoom}
use Rattle.mv_parse.proofs.Parts.{opened_with, open_part-more, open_part-end}
use Rattle.mv_parse.proofs.Knowns.{outside-none, known-push}
use Rattle.mv_parse.proofs.Narrows.{line-narrow, open-small}
use Rattle.mv_parse.proofs.Rooms.{line-room}
use Rattle.mv_table.proofs.Places.{take_more, drop_one}

-- lines with no more columns than a table may have
abbrev pub AreNarrow : List LexLine → Type 0
AreNarrow ls = All (λ (l : LexLine). HasFewColumns l) ls

-- the reader stands before line `at`, knows what the lines before say, and has `body`, the open model's lines behind its first
pub record IsAt (lines body : List LexLine) (at : ℕ) (k : Known) : Type 0 where
  pub known : k ≡ known (take at lines)
  pub open_lines : body ≡ behind_model (open_part (take at lines))
  pub narrow : AreNarrow (behind_model (open_part (take at lines)))
  pub room : HasRoom k
  pub fault : faults_behind (take at lines) (drop at lines) ≡ faults_of lines

pub begins : (lines : List LexLine) → IsAt lines [] 0 (record { models = []; names = []; root = None; inside = None })
unfolding known faults_of
begins lines = record {
  known = refl;
  open_lines = refl;
  narrow = All-nil (λ (l : LexLine). HasFewColumns l);
  room = record { few = omega arith; opened = λ m e. cc };
  fault = refl;
}

part-small : (part : List LexLine) (m : OpenModel) (t : OpenTable) → AreNarrow (behind_model part) → open_of part ≡ Some m → m.table ≡ Some t
    → t.ins + t.outs ≤ MAX_COLUMNS
part-small [] m t narrow e f = cc
part-small (x ∷ ls) m t narrow e f = open-small ls t narrow (let same : open_model x ls ≡ m = cc in ap (λ (o : OpenModel). o.table) same ∙ f)

pub small : (lines body : List LexLine) (at : ℕ) (k : Known) → IsAt lines body at k → IsSmall k
unfolding known
small lines body at k here = record {
  columns = λ m t e f. part-small (open_part (take at lines)) m t here.narrow (sym (ap (λ (x : Known). x.inside) here.known) ∙ e) f;
}

-- the faults of the line are those of the grammar
here_faults : (lines body : List LexLine) (at : ℕ) (k : Known) (l : LexLine) → IsAt lines body at k → line_faults (command_at l) k body l ≡ faults_at (take at lines) l
here_faults lines body at k l here = rw (here.known, here.open_lines) refl

-- at the end
pub whole_design : (lines body : List LexLine) (at : ℕ) (k : Known) → IsAt lines body at k → length lines ≤ at → design_of lines ≡ design_known k
unfolding design_of
whole_design lines body at k here h = rw (here.known, take_all at lines h) refl

-- a fault of the line, or want of memory: it is the first of all lines
pub refused : (lines body : List LexLine) (at : ℕ) (k : Known) (l : LexLine) (f : ParseFault) → IsAt lines body at k → at < length lines → l ≡ get_or lines at l → (f ≡ Memory) ⊎ (first (line_faults (command_at l) k body l) ≡ Some f) → (f ≡ Memory) ⊎ (first (faults_of lines) ≡ Some f)
refused lines body at k l f here h e why =
    ⊎_elim (λ (m : f ≡ Memory). inl m)
    (λ (told : first (line_faults (command_at l) k body l) ≡ Some f).
    let now : first (faults_at (take at lines) l) ≡ Some f = sym (ap first (here_faults lines body at k l here)) ∙ told in
    let on : first (faults_behind (take at lines) (l ∷ drop (at + 1) lines)) ≡ Some f = first-append f (faults_at (take at lines) l) (faults_behind (take at lines ++ l ∷ []) (drop (at + 1) lines)) now in
    inr (ap first (sym here.fault) ∙ (ap (λ ls. first (faults_behind (take at lines) ls)) (drop_one lines at l h e) ∙ on)))
    why

-- ---- one line on

-- the open model's lines behind its first, once a line has been read, and kept with them where it is one of them
abbrev pub kept : Bool → List LexLine → LexLine → List LexLine
kept inner body l = if inner then body ++ l ∷ [] else []

-- the open model's lines behind its first, behind one more line that ends no model
more-kept : (c : Command) (k : Known) (part : List LexLine) (l : LexLine) → command_at l ≡ c → k.inside ≡ open_of part → is_end c ≡ false
    → line_faults c k (behind_model part) l ≡ []
    → kept (is_inner c (open_of (opened_with part l))) (behind_model part) l ≡ behind_model (opened_with part l)
unfolding line_faults
more-kept Model k [] l e is n none = rw e refl
more-kept Model k (m ∷ ls) l e is n none =
    let open_still : NoEnd (open_model m ls).line ∷ model_faults l.number (first_word l) k.names (behind_first l) ≡ [] = rw is at none in
    cc
more-kept Root k [] l e is n none = rw e refl
more-kept Root k (m ∷ ls) l e is n none = refl
more-kept End k part l e is n none = cc
more-kept c k [] l e is n none = absurd (outside-none c l (rw is at none))
more-kept c k (m ∷ ls) l e is n none = refl

kept-next : (before body : List LexLine) (l : LexLine) → faults_at before l ≡ [] → (is_end (command_at l) ≡ false → body ≡ behind_model (open_part before))
    → kept (is_inner (command_at l) (known (before ++ l ∷ [])).inside) body l ≡ behind_model (open_part (before ++ l ∷ []))
unfolding known
kept-next before body l none same =
    ⊎_elim
    (λ (y : is_end (command_at l) ≡ true). rw (open_part-end before l y, and-false (not (is_model (command_at l)))) refl)
    (λ (n : is_end (command_at l) ≡ false).
    rw (same n, open_part-more before l n) (more-kept (command_at l) (known before) (open_part before) l refl refl n none))
    (cases_Bool (is_end (command_at l)))

-- they are narrow, as the line is
opened-narrow : (part : List LexLine) (l : LexLine) → AreNarrow (behind_model part) → HasFewColumns l → AreNarrow (behind_model (opened_with part l))
opened-narrow [] l narrow h = cond_both (says_root l) [] (l ∷ []) (λ ls. AreNarrow (behind_model ls)) (λ y. narrow) (λ n. narrow)
opened-narrow (m ∷ ls) l narrow h = All-push (λ (x : LexLine). HasFewColumns x) ls l narrow h

next-narrow : (before : List LexLine) (l : LexLine) → AreNarrow (behind_model (open_part before)) → HasFewColumns l
    → AreNarrow (behind_model (open_part (before ++ l ∷ [])))
next-narrow before l narrow h =
    ⊎_elim
    (λ (y : is_end (command_at l) ≡ true). rw (open_part-end before l y) (All-nil (λ (x : LexLine). HasFewColumns x)))
    (λ (n : is_end (command_at l) ≡ false). rw (open_part-more before l n) (opened-narrow (open_part before) l narrow h))
    (cases_Bool (is_end (command_at l)))

-- where the line ends no model, the lines of the open one are still those
pub next : (lines body same new_body : List LexLine) (at : ℕ) (k new : Known) (l : LexLine) → IsAt lines body at k → at < length lines
    → l ≡ get_or lines at l → line_faults (command_at l) k body l ≡ [] → new ≡ line_step (command_at l) k body l
    → (is_end (command_at l) ≡ false → same ≡ body) → new_body ≡ kept (is_inner (command_at l) new.inside) same l → IsAt lines new_body (at + 1) new
next lines body same new_body at k new l here h e none becomes is_same moves =
    let front : List LexLine = take at lines in
    let clean : faults_at front l ≡ [] = sym (here_faults lines body at k l here) ∙ none in
    let more : take (at + 1) lines ≡ front ++ l ∷ [] = take_more lines at l h e in
    let knows : new ≡ known (front ++ l ∷ []) = becomes ∙ rw (here.known, here.open_lines) (sym (known-push front l clean)) in
    let stands = kept-next front same l clean (λ n. is_same n ∙ here.open_lines) in
    record {
      known = knows ∙ ap known (sym more);
      open_lines = rw more (moves ∙ (ap (λ (x : Known). kept (is_inner (command_at l) x.inside) same l) knows ∙ stands));
      narrow = rw more (next-narrow front l here.narrow (line-narrow (known front) (behind_model (open_part front)) l clean));
      room = rw becomes (line-room (command_at l) k body l here.room none);
      fault =
          rw more
          (ap (λ fs. fs ++ faults_behind (front ++ l ∷ []) (drop (at + 1) lines)) (sym clean)
          ∙ (ap (faults_behind front) (sym (drop_one lines at l h e)) ∙ here.fault));
    }
