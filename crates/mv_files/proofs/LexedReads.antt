-- Files that are lexed while they are read.
use Rattle.std.proofs.Common.{◌≡◌, ℕ, ◌+◌, ◌<◌, ◌≤◌, true, false, List, [], ◌++◌, length, length-append, take, Option, Some, None, Ok, ◌⊎◌, inl, inr, refl, sym, ◌∙◌, ap, subst, arith, ⊎_elim, append_assoc}
use Rattle.std.specs.Prelude.{nat_lt, IfSome}
use Rattle.std.specs.Option.{option_or}
use Rattle.std.proofs.lemmas.Bool.{ltb-true}
use Rattle.std.proofs.lemmas.List.{length-take-le, append-nil}
use Rattle.mv_base.specs.Outside.{Held, Stored, Still, file_named}
use Rattle.mv_base.proofs.OutsideLemmas.{Rose-earlier}
use Rattle.mv_lex.specs.declared.fault.LexFault.{LexFault}
use Rattle.mv_lex.specs.declared.fault.LexFault.TheVariants.{Memory}
use Rattle.mv_lex.specs.declared.lines.LexLine.{LexLine}
use Rattle.mv_lex.specs.Lines.{complete, lines_of, first_fault, end_fault, lex_fault}
use Rattle.mv_lex.specs.Reading.{Reading, IsAfter, GainsLines}
use Rattle.mv_lex.proofs.After.{first_fault-append, gained_all}
use Rattle.mv_lex.proofs.Facts.{length-from_first_fault}
use Rattle.mv_files.specs.declared.read.TheConstants.{PIECE}
use Rattle.mv_files.specs.declared.lines.LinesStop.{LinesStop}
use Rattle.mv_files.specs.declared.lines.LinesStop.TheVariants.{Failed as Unread, Lex}
use Rattle.mv_files.specs.FileReading.{Stay}
use Rattle.mv_files.specs.Pieces.{Passed, Ended}
use Rattle.mv_files.specs.LexedPieces.{FedPiece, StoppedPiece, PieceCause, FedAll, StoppedBytes, FeedCause}
use Rattle.mv_files.specs.LexedFiles.{HasReadAll, WasLexed, HasFault, HasReadFront, ReadFront, LinesCause}
use Rattle.mv_files.proofs.FileReads.{Starts, Gives, passed_nothing, passed_more, ended_earlier, unsound_earlier, lacks_unsound, stay_started, passed_given, ended_given, is_none}

-- ---- the lexer's state

-- nothing of no bytes is complete
pub complete_nothing : complete [] ≡ []
unfolding complete
complete_nothing = refl

-- the lexer stands behind the bytes without a fault
lexed : (limit : ℕ) (r : Reading) (bytes : List ℕ) → r.limit ≡ limit → IsAfter r bytes → first_fault limit [] bytes ≡ None
lexed limit r bytes e a = let P : ℕ → Type 0 = λ n. first_fault n [] bytes ≡ None in subst P e a.accepted

-- ---- a piece

pub fed_piece : (old new : Option Held) (room piece : List ℕ) (n : ℕ) (r s : Reading) (earlier later : List LexLine) → Gives old new room (Ok n) → n ≤ length room → 0 < length room → ((bytes : List ℕ) → IsAfter r bytes → IsAfter s (bytes ++ piece)) → GainsLines r earlier later (λ bytes. complete (bytes ++ piece)) → s.limit ≡ r.limit → piece ≡ take n room → FedPiece old new r s earlier later (nat_lt 0 n)
fed_piece old new room piece n r s earlier later given fits some stands lines limit e =
    let size : length piece ≡ n = ap length e ∙ length-take-le n room fits in
    let P : List ℕ → Type 0 = λ p. Passed old new p in
    record {
      piece = piece;
      some = λ m. let h : 0 < n = ltb-true 0 n m in omega arith;
      ended = λ m. ended_given old new room n given (is_none n m) some;
      passed = subst P (sym e) (passed_given old new room n given);
      stands = stands;
      lines = lines;
      limit = limit;
    }

pub stopped_piece : (old new : Option Held) (room piece : List ℕ) (n most : ℕ) (r : Reading) (f : LexFault) → Gives old new room (Ok n) → n ≤ length room → length room ≡ most → ((bytes : List ℕ) → IsAfter r bytes → (f ≡ Memory) ⊎ (first_fault r.limit [] (bytes ++ piece) ≡ Some f)) → piece ≡ take n room → StoppedPiece old new r most f
stopped_piece old new room piece n most r f given fits long told e =
    let size : length piece ≡ n = ap length e ∙ length-take-le n room fits in
    let P : List ℕ → Type 0 = λ p. Passed old new p in
    record { piece = piece; few = omega arith; passed = subst P (sym e) (passed_given old new room n given); told = told }

-- ---- the loop

-- its state: at least so many bytes were read as turns were made, and the lexer stands behind them
pub record HasCome (before now : Option Held) (limit turn : ℕ) (r : Reading) (lines : List LexLine) : Type 0 where
  pub bytes : List ℕ
  pub passed : Passed before now bytes
  pub far : turn ≤ length bytes
  pub stands : IsAfter r bytes
  pub lines_are : lines ≡ complete bytes
  pub limited : r.limit ≡ limit

pub come_first : (h : Option Held) (limit : ℕ) (r : Reading) (lines : List LexLine) → IsAfter r [] → r.limit ≡ limit → lines ≡ [] → HasCome h h limit 0 r lines
come_first h limit r lines a l e =
    record { bytes = []; passed = passed_nothing h; far = omega arith; stands = a; lines_are = e ∙ sym complete_nothing; limited = l }

-- a piece more was lexed behind them
pub come_more : (a b c : Option Held) (limit turn : ℕ) (r s : Reading) (before after : List LexLine) → HasCome a b limit turn r before → FedPiece b c r s before after true → HasCome a c limit (turn + 1) s after
come_more a b c limit turn r s before after h f =
    let some : 0 < length f.piece = f.some refl in
    let size = length-append h.bytes f.piece in
    record {
      bytes = h.bytes ++ f.piece;
      passed = passed_more a b c h.bytes f.piece h.passed f.passed;
      far = omega (arith, h.far);
      stands = f.stands h.bytes h.stands;
      lines_are = gained_all r before after (λ bytes. complete (bytes ++ f.piece)) h.bytes f.lines h.stands h.lines_are;
      limited = f.limit ∙ h.limited;
    }

-- the file has ended
pub fed_all : (a b c : Option Held) (limit turn : ℕ) (r s : Reading) (before after : List LexLine) → HasCome a b limit turn r before → FedPiece b c r s before after false → FedAll a c limit s after
fed_all a b c limit turn r s before after h f =
    record {
      bytes = h.bytes ++ f.piece;
      passed = passed_more a b c h.bytes f.piece h.passed f.passed;
      ended = ended_earlier a b c h.bytes h.passed (f.ended refl);
      stands = f.stands h.bytes h.stands;
      lines_are = gained_all r before after (λ bytes. complete (bytes ++ f.piece)) h.bytes f.lines h.stands h.lines_are;
      limited = f.limit ∙ h.limited;
    }

-- the reading stops at a piece
pub feed_stopped : (old mid new : Stored) (limit turn most : ℕ) (r : Reading) (lines : List LexLine) (stop : LinesStop) → HasCome old.held mid.held limit turn r lines → Stay old mid → most ≡ PIECE → PieceCause mid new r most stop → FeedCause old new limit stop
feed_stopped old mid new limit turn most r lines Unread h stay size cause =
    (Rose-earlier old.faults mid.faults new.faults stay.later cause.0, unsound_earlier old.held mid.held stay.same cause.1)
feed_stopped old mid new limit turn most r lines (Lex f) h stay size cause =
    record {
      front = h.bytes;
      piece = cause.piece;
      clear = lexed limit r h.bytes h.limited h.stands;
      few = let few : length cause.piece ≤ most = cause.few in omega arith;
      passed = passed_more old.held mid.held new.held h.bytes cause.piece h.passed cause.passed;
      told =
          let P : ℕ → Type 0 = λ n. (f ≡ Memory) ⊎ (first_fault n [] (h.bytes ++ cause.piece) ≡ Some f) in
          subst P h.limited (cause.told h.bytes h.stands);
    }

-- the loop ends: each turn but the last brings a byte, and no more than the limit are accepted
pub come_never : (a b : Option Held) (limit turn : ℕ) (r : Reading) (lines : List LexLine) → HasCome a b limit turn r lines → limit < turn → ⊥
come_never a b limit turn r lines h past =
    let within : length h.bytes ≤ limit = length-from_first_fault limit h.bytes (lexed limit r h.bytes h.limited h.stands) in
    omega (arith, h.far, within)

-- ---- the whole file

all_of : (xs ys rest : List ℕ) → xs ≡ ys ++ rest → rest ≡ [] → xs ≡ ys
all_of xs ys rest e none = e ∙ (ap (λ r. ys ++ r) none ∙ append-nil ys)

read_all : (old begun last : Option Held) (name bytes : List ℕ) → Starts old begun name (Ok tt) → Passed begun last bytes → Ended begun last → Still old last (λ before after. HasReadAll before after name bytes)
read_all None begun last name bytes s p e = tt
read_all (Some o) None last name bytes s p e = absurd s
read_all (Some o) (Some b) None name bytes s p e = absurd p
read_all (Some o) (Some b) (Some l) name bytes s p e =
    record {
      named = s.begun.1 ∙ ap Some (all_of b.rest bytes l.rest p.passed e);
      files = p.files ∙ s.files;
      current = p.current ∙ s.begun.0;
      ended = e;
    }

pub was_lexed : (old : Stored) (begun : Option Held) (last : Stored) (name : List ℕ) (limit : ℕ) (r : Reading) (before lines : List LexLine) → Starts old.held begun name (Ok tt) → (all : FedAll begun last.held limit r before) → lines ≡ lines_of all.bytes → end_fault all.bytes ≡ None → WasLexed old last name limit lines
was_lexed old begun last name limit r before lines s all e none =
    record {
      content = all.bytes;
      read = read_all old.held begun last.held name all.bytes s all.passed all.ended;
      lexed = ap (λ o. option_or o (end_fault all.bytes)) (lexed limit r all.bytes all.limited all.stands) ∙ none;
      lines_are = e;
    }

-- a fault of the first bytes is one of the whole
fault_of_front : (limit : ℕ) (bytes rest : List ℕ) (f : LexFault) → first_fault limit [] bytes ≡ Some f → lex_fault limit (bytes ++ rest) ≡ Some f
fault_of_front limit bytes rest f told =
    ap (λ o. option_or o (end_fault (bytes ++ rest))) (first_fault-append limit [] bytes rest ∙ ap (λ o. option_or o (first_fault limit bytes rest)) told)

-- the content of the named file begins with these bytes, where the files tell it
content_of : (old begun last : Option Held) (name bytes : List ℕ) → Starts old begun name (Ok tt) → Passed begun last bytes → (rest : List ℕ) × IfSome old (λ h. file_named name h.files ≡ Some (bytes ++ rest))
content_of None begun last name bytes s p = ([], tt)
content_of (Some o) None last name bytes s p = absurd s
content_of (Some o) (Some b) None name bytes s p = absurd p
content_of (Some o) (Some b) (Some l) name bytes s p = (l.rest, s.begun.1 ∙ ap Some p.passed)

-- ---- why there are no lines

-- a fault of the bytes that were read is one of the content of the named file
faulty : (old begun last : Stored) (name : List ℕ) (limit : ℕ) (bytes : List ℕ) (f : LexFault) → Starts old.held begun.held name (Ok tt) → Passed begun.held last.held bytes → first_fault limit [] bytes ≡ Some f → HasFault old name limit f
faulty old begun last name limit bytes f s p told =
    let c = content_of old.held begun.held last.held name bytes s p in
    record { content = bytes ++ c.0; named = c.1; fault_is = fault_of_front limit bytes c.0 f told }

pub lines_cause : (old begun last : Stored) (name : List ℕ) (limit : ℕ) (stop : LinesStop) → Starts old.held begun.held name (Ok tt) → old.faults ≤ begun.faults → FeedCause begun last limit stop → LinesCause old last name limit stop
lines_cause old begun last name limit Unread s later cause = (
  Rose-earlier old.faults begun.faults last.faults later cause.0,
  lacks_unsound old name (unsound_earlier old.held begun.held (stay_started old.held begun.held name (Ok tt) s) cause.1),
)
lines_cause old begun last name limit (Lex f) s later cause =
    ⊎_elim
    (λ (e : f ≡ Memory). inl e)
    (λ (told : first_fault limit [] (cause.front ++ cause.piece) ≡ Some f). inr (faulty old begun last name limit (cause.front ++ cause.piece) f s cause.passed told))
    cause.told

-- ---- what was read where there are no lines

front_of : (old begun last : Option Held) (name : List ℕ) (limit : ℕ) (front piece : List ℕ) → Starts old begun name (Ok tt) → Passed begun last (front ++ piece) → first_fault limit [] front ≡ None → length piece ≤ PIECE → Still old last (λ before after. HasReadFront before after name limit)
front_of None begun last name limit front piece s p clear few = tt
front_of (Some o) None last name limit front piece s p clear few = absurd s
front_of (Some o) (Some b) None name limit front piece s p clear few = absurd p
front_of (Some o) (Some b) (Some l) name limit front piece s p clear few =
    record {
      front = front;
      piece = piece;
      content = s.begun.1 ∙ ap Some (p.passed ∙ append_assoc front piece l.rest);
      current = p.current ∙ s.begun.0;
      clear = clear;
      within = length-from_first_fault limit front clear;
      few = few;
    }

-- the lexer stopped in a piece
pub front_stopped : (old begun last : Stored) (name : List ℕ) (limit : ℕ) (stop : LinesStop) (f : LexFault) → Starts old.held begun.held name (Ok tt) → FeedCause begun last limit stop → stop ≡ Lex f → ReadFront old last name limit
front_stopped old begun last name limit stop f s cause e =
    let P : LinesStop → Type 0 = λ x. FeedCause begun last limit x in
    let c : StoppedBytes begun.held last.held limit f = subst P e cause in
    front_of old.held begun.held last.held name limit c.front c.piece s c.passed c.clear c.few
