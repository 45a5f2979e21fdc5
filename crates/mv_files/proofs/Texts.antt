-- A text, fed to the lexer all at once.
use Rattle.std.proofs.Common.{◌≡◌, ◌∙◌, ℕ, List, [], ◌++◌, Option, Some, None, inl, inr, sym, ap, subst, ⊎_elim}
use Rattle.std.specs.Option.{option_or}
use Rattle.mv_lex.specs.declared.fault.LexFault.{LexFault}
use Rattle.mv_lex.specs.declared.fault.LexFault.TheVariants.{Memory}
use Rattle.mv_lex.specs.declared.lines.LexLine.{LexLine}
use Rattle.mv_lex.specs.Lines.{IsTold, complete, first_fault, end_fault, lex_fault, lines_of}
use Rattle.mv_lex.specs.Reading.{Reading, IsAfter, GainsLines}
use Rattle.mv_lex.proofs.After.{gained_all}
use Rattle.mv_files.proofs.LexedReads.{complete_nothing}

-- the first fault of bytes, from what the lexer tells of them and of their end
end_told : (limit : ℕ) (bytes : List ℕ) (o : Option LexFault) → first_fault limit [] bytes ≡ None → end_fault bytes ≡ o → lex_fault limit bytes ≡ o
end_told limit bytes o none e = ap (λ f. option_or f (end_fault bytes)) none ∙ e

-- the lexer begins with this limit, and stands behind the text that it was fed
pub record IsFed (limit : ℕ) (text : List ℕ) (first behind : Reading) : Type 0 where
  pub start : IsAfter first []
  pub limited : first.limit ≡ limit
  pub stands : IsAfter behind text
  pub same : behind.limit ≡ first.limit

accepted : (limit : ℕ) (text : List ℕ) (first behind : Reading) → IsFed limit text first behind → first_fault limit [] text ≡ None
accepted limit text first behind fed = subst (λ l. first_fault l [] text ≡ None) (fed.same ∙ fed.limited) fed.stands.accepted

pub text_clean : (limit : ℕ) (text : List ℕ) (first behind : Reading) → IsFed limit text first behind → end_fault text ≡ None → lex_fault limit text ≡ None
text_clean limit text first behind fed none = end_told limit text None (accepted limit text first behind fed) none

pub text_lines : (limit : ℕ) (text : List ℕ) (first behind : Reading) (start mid end : List LexLine) → IsFed limit text first behind → start ≡ [] → GainsLines first start mid (λ bytes. complete (bytes ++ text)) → GainsLines behind mid end lines_of → end ≡ lines_of text
text_lines limit text first behind start mid end fed e g h =
    gained_all behind mid end lines_of text h fed.stands
    (gained_all first start mid (λ bytes. complete (bytes ++ text)) [] g fed.start (e ∙ sym complete_nothing))

-- a fault told in the text, and one told at its end
pub piece_told : (limit l : ℕ) (text : List ℕ) (f : LexFault) → l ≡ limit → IsTold (first_fault l [] text) f → IsTold (lex_fault limit text) f
piece_told limit l text f e t =
    ⊎_elim
    (λ (m : f ≡ Memory). inl m)
    (λ (told : first_fault l [] text ≡ Some f).
    inr (ap (λ o. option_or o (end_fault text)) (subst (λ n. first_fault n [] text ≡ Some f) e told)))
    t

pub finish_told : (limit : ℕ) (text : List ℕ) (first behind : Reading) (f : LexFault) → IsFed limit text first behind → IsTold (end_fault text) f → IsTold (lex_fault limit text) f
finish_told limit text first behind f fed t =
    ⊎_elim
    (λ (m : f ≡ Memory). inl m)
    (λ (told : end_fault text ≡ Some f). inr (end_told limit text (Some f) (accepted limit text first behind fed) told))
    t
