-- Stages, one after the other.
use Rattle.std.proofs.Common.{◌≡◌, ℕ, is_some, List, [], ◌∷◌, ◌++◌, inl, inr, refl, subst, ⊎_elim}
use Rattle.std.specs.Prelude.{IsTrue}
use Rattle.mv_base.specs.Outside.{Stored}
use Rattle.mv_task.specs.Sources.{IsReadWhole, starts_with}
use Rattle.mv_task.specs.Stages.{Stage, Takes, IsRefused, IsFaulty, AreTaken, FirstOf, IsLastRead, starts_behind}
use Rattle.mv_task.proofs.Contents.{one_content}

-- a stage behind those that are accepted
pub first_at : (P : Stage → ℕ → Type 0) (front : List Stage) (s : Stage) (rest : List Stage) (files : Stored) (starts : ℕ) (contents : List (List ℕ))
    → AreTaken front files contents → P s (starts_with s.from (starts_behind front starts)) → FirstOf P (front ++ s ∷ rest) files starts
first_at P [] s rest files starts [] taken p = inl p
first_at P [] s rest files starts (c ∷ cs) taken p = absurd taken
first_at P (f ∷ fs) s rest files starts [] taken p = absurd taken
first_at P (f ∷ fs) s rest files starts (c ∷ cs) taken p =
    inr (c, (taken.0, first_at P fs s rest files (starts_with f.from starts) cs taken.1 p))

-- one stage more
pub taken_more : (front : List Stage) (s : Stage) (files : Stored) (contents : List (List ℕ)) (content : List ℕ) → AreTaken front files contents → Takes s files content
    → AreTaken (front ++ s ∷ []) files (contents ++ content ∷ [])
taken_more [] s files [] content taken t = (t, tt)
taken_more [] s files (c ∷ cs) content taken t = absurd taken
taken_more (f ∷ fs) s files [] content taken t = absurd taken
taken_more (f ∷ fs) s files (c ∷ cs) content taken t = (taken.0, taken_more fs s files cs content taken.1 t)

pub starts_more : (front : List Stage) (s : Stage) (starts : ℕ) → starts_behind (front ++ s ∷ []) starts ≡ starts_with s.from (starts_behind front starts)
starts_more [] s starts = refl
starts_more (f ∷ fs) s starts = starts_more fs s (starts_with f.from starts)

-- what was read last behind a stage was read last
last_behind : (f s : Stage) (fs : List Stage) (old new : Stored) (content : List ℕ) (contents : List (List ℕ)) → IsLastRead (fs ++ s ∷ []) old new contents → IsLastRead (f ∷ (fs ++ s ∷ [])) old new (content ∷ contents)
last_behind f s [] old new content contents h = h
last_behind f s (g ∷ gs) old new content contents h = h

pub last_more : (front : List Stage) (s : Stage) (old new : Stored) (contents : List (List ℕ)) (content : List ℕ) → AreTaken front old contents → IsReadWhole s.from old new content
    → IsLastRead (front ++ s ∷ []) old new (contents ++ content ∷ [])
last_more [] s old new [] content taken read = read
last_more [] s old new (c ∷ cs) content taken read = absurd taken
last_more (f ∷ fs) s old new [] content taken read = absurd taken
last_more (f ∷ fs) s old new (c ∷ cs) content taken read = last_behind f s fs old new c (cs ++ content ∷ []) (last_more fs s old new cs content taken.1 read)

-- where all are accepted, none is first of those that no accepted one can be
pub first_never : (P : Stage → ℕ → Type 0) (stages : List Stage) (files : Stored) (starts : ℕ) (contents : List (List ℕ))
    → ((s : Stage) (n : ℕ) (content : List ℕ) → Takes s files content → P s n → ⊥) → AreTaken stages files contents → FirstOf P stages files starts → ⊥
first_never P [] files starts contents never taken first = first
first_never P (s ∷ ss) files starts [] never taken first = taken
first_never P (s ∷ ss) files starts (c ∷ cs) never taken first =
    ⊎_elim
    (λ (p : P s (starts_with s.from starts)). never s (starts_with s.from starts) c taken.0 p)
    (λ (p : (content : List ℕ) × (Takes s files content × FirstOf P ss files (starts_with s.from starts))).
    first_never P ss files (starts_with s.from starts) cs never taken.1 p.1.1)
    first

-- two that no accepted one can be are first at the same stage
pub first_both : (P Q : Stage → ℕ → Type 0) (R : Type 0) (stages : List Stage) (files : Stored) (starts : ℕ)
    → ((s : Stage) (n : ℕ) (content : List ℕ) → Takes s files content → P s n → ⊥) → ((s : Stage) (n : ℕ) (content : List ℕ) → Takes s files content → Q s n → ⊥)
    → ((s : Stage) (n : ℕ) → P s n → Q s n → R) → FirstOf P stages files starts → FirstOf Q stages files starts → R
first_both P Q R [] files starts p_never q_never both p q = absurd p
first_both P Q R (s ∷ ss) files starts p_never q_never both p q =
    let n = starts_with s.from starts in
    let Later : (Stage → ℕ → Type 0) → Type 0 = λ X. (content : List ℕ) × (Takes s files content × FirstOf X ss files n) in
    ⊎_elim
    (λ (x : P s n). ⊎_elim (λ (y : Q s n). both s n x y) (λ (y : Later Q). absurd (p_never s n y.0 y.1.0 x)) q)
    (λ (x : Later P). ⊎_elim (λ (y : Q s n). absurd (q_never s n x.0 x.1.0 y)) (λ (y : Later Q). first_both P Q R ss files n p_never q_never both x.1.1 y.1.1) q)
    p

-- files that tell have one content for each stage
one_more : (c d : List ℕ) (cs ds : List (List ℕ)) → c ≡ d → cs ≡ ds → c ∷ cs ≡ d ∷ ds
one_more c d cs ds e f = cc

pub one_contents : (stages : List Stage) (files : Stored) (a b : List (List ℕ)) → IsTrue (is_some files.held) → AreTaken stages files a → AreTaken stages files b → a ≡ b
one_contents [] files [] [] told p q = refl
one_contents [] files [] (d ∷ ds) told p q = absurd q
one_contents [] files (c ∷ cs) b told p q = absurd p
one_contents (s ∷ ss) files [] b told p q = absurd p
one_contents (s ∷ ss) files (c ∷ cs) [] told p q = absurd q
one_contents (s ∷ ss) files (c ∷ cs) (d ∷ ds) told p q =
    one_more c d cs ds (one_content s.from files c d told p.0.is q.0.is) (one_contents ss files cs ds told p.1 q.1)

-- of files that tell, what is accepted isn't refused
pub never_refused : (s : Stage) (files : Stored) (content : List ℕ) → IsTrue (is_some files.held) → Takes s files content → IsRefused s files → ⊥
never_refused s files content told t r =
    r.refused (subst s.Accepts (one_content s.from files content r.content told t.is r.is) t.accepted)

pub never_faulty : (s : Stage) (files : Stored) (content line : List ℕ) → IsTrue (is_some files.held) → Takes s files content → IsFaulty s files line → ⊥
never_faulty s files content line told t r =
    never_refused s files content told t (record { content = r.content; is = r.is; refused = r.refused })
