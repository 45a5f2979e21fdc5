-- How a page adds a piece: it holds it, or hands on what was held.
use Rattle.std.proofs.Common.{◌≡◌, ◌∙◌, ℕ, List, [], ◌++◌, Option, Some, None, Result, Ok, Err, refl, sym, ap, subst, arith}
use Rattle.std.specs.Prelude.{IfSome}
use Rattle.std.proofs.lemmas.List.{append-nil}
use Rattle.mv_base.specs.declared.outside.Failed.{Failed}
use Rattle.mv_base.specs.Outside.{Written, Appends}
use Rattle.mv_base.proofs.Gains.{GainedPart-more}
use Rattle.mv_page.specs.Page.{Took, AddsPiece, paged}
use Rattle.mv_page.proofs.Adding.{adds}

took_held : (s : Written) (held new piece : List ℕ) (o : Option (List ℕ)) → s.told ≡ o → new ≡ held ++ piece → IfSome o (λ had. Took had (paged s held) (paged s new) piece)
took_held s held new piece None e h = tt
took_held s held new piece (Some had) e h = record { taken = []; told = e ∙ ap Some (sym (append-nil had)); whole = h }

-- the piece is held
pub holds_more : (s : Written) (held new piece : List ℕ) → new ≡ held ++ piece → AddsPiece (paged s held) (paged s new) piece (Ok tt)
holds_more s held new piece h = record {
  ok = took_held s held new piece s.told refl h;
  part = tt;
  empty = tt;
  cause = record { later = omega arith; failed = tt };
}

took_all : (a b : Written) (old new piece : List ℕ) (o : Option (List ℕ)) → IfSome o (λ had. b.told ≡ Some (had ++ (old ++ piece))) → new ≡ [] → IfSome o (λ had. Took had (paged a old) (paged b new) piece)
took_all a b old new piece None g e = tt
took_all a b old new piece (Some had) g e = record { taken = old ++ piece; told = g; whole = ap (λ z. (old ++ piece) ++ z) e ∙ append-nil (old ++ piece) }

-- what was held and the piece are handed on, and nothing is held then
pub hands_on : (a b : Written) (old new piece : List ℕ) (r : Result (Unit {0}) Failed) → Appends a b (old ++ piece) r → new ≡ [] → AddsPiece (paged a old) (paged b new) piece r
hands_on a b old new piece (Ok u) p e = record { ok = took_all a b old new piece a.told p.ok e; part = tt; empty = tt; cause = p.cause }
hands_on a b old new piece (Err f) p e = record { ok = tt; part = p.part; empty = e; cause = p.cause }

-- what was held is handed on, and the piece comes behind it
pub hands_on_first : (a b c : Written) (old new piece : List ℕ) (r : Result (Unit {0}) Failed) → Appends a b old (Ok tt) → AddsPiece (paged b []) (paged c new) piece r → AddsPiece (paged a old) (paged c new) piece r
hands_on_first a b c old new piece r p q =
    let P : List ℕ → Type 0 = λ z. Appends a b z (Ok tt) in
    adds.more (paged a old) (paged b []) (paged c new) [] piece r (hands_on a b old [] [] (Ok tt) (subst P (sym (append-nil old)) p) refl) q

-- handing on failed
pub hands_on_cut : (a b : Written) (old new piece : List ℕ) (e : Failed) → Appends a b old (Err e) → new ≡ [] → AddsPiece (paged a old) (paged b new) piece (Err e)
hands_on_cut a b old new piece e p none = record { ok = tt; part = GainedPart-more a b old piece p.part; empty = none; cause = p.cause }

pub ruleset paging = (holds_more, hands_on, hands_on_first, hands_on_cut)

-- ---- the whole text

-- a text that was added with nothing held at its end was appended
appended : (a c : Written) (m rest : List ℕ) (r : Result (Unit {0}) Failed) → AddsPiece (paged a m) (paged c []) rest r → Appends a c (m ++ rest) r
appended a c m rest (Ok u) p = record { ok = told_all a.told p.ok; part = tt; cause = p.cause }
  where
    told_all : (o : Option (List ℕ)) → IfSome o (λ had. Took had (paged a m) (paged c []) rest) → IfSome o (λ had. c.told ≡ Some (had ++ (m ++ rest)))
    told_all None t = tt
    told_all (Some had) t = t.told ∙ ap (λ z. Some (had ++ z)) (sym (append-nil t.taken) ∙ t.whole)
appended a c m rest (Err e) p = record { ok = tt; part = p.part; cause = p.cause }

-- a text behind some first bytes was added, and the last page handed on
pub ends : (a b c : Written) (first held text : List ℕ) (r : Result (Unit {0}) Failed) → AddsPiece (paged a first) (paged b held) text (Ok tt) → Appends b c held r → Appends a c (first ++ text) r
ends a b c first held text r p q =
    let P : List ℕ → Type 0 = λ z. Appends b c z r in
    let Q : List ℕ → Type 0 = λ z. AddsPiece (paged a first) (paged c []) z r in
    let last = hands_on b c held [] [] r (subst P (sym (append-nil held)) q) refl in
    let all = adds.more (paged a first) (paged b held) (paged c []) text [] r p last in
    appended a c first text r (subst Q (append-nil text) all)

-- a page before the last wasn't taken
pub ends_cut : (a b : Written) (first held text : List ℕ) (e : Failed) → AddsPiece (paged a first) (paged b held) text (Err e) → Appends a b (first ++ text) (Err e)
ends_cut a b first held text e p = record { ok = tt; part = p.part; cause = p.cause }
