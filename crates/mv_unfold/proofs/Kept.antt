-- Names in the whole that were found and kept.
use Rattle.std.proofs.Common.{◌≡◌, ◌≢◌, ◌&&◌, ℕ, zero, suc, ◌<◌, Bool, true, false, Option, Some, None, List, get_or, length, replicate, refl, sym, ◌∙◌, ap, subst, arith}
use Rattle.std.specs.Prelude.{nat_eq, slice_set}
use Rattle.std.proofs.lemmas.Bool.{false≢true}
use Rattle.std.proofs.lemmas.Bool.Decides.{nat_tests}
use Rattle.std.proofs.lemmas.Grind.{get_or-set_at}
use Rattle.std.proofs.lemmas.List.{get_or-set_other}
use Rattle.std.proofs.lemmas.Option.{none-some, same_Some}
use Rattle.mv_base.specs.Names.{same_word}
use Rattle.mv_base.proofs.NameLemmas.{same_word_is}
use Rattle.mv_unfold.specs.declared.recent.Found.{Found}
use Rattle.mv_unfold.specs.Recent.{AreHomes}

pub none_there : {X : Type 0} (n k : ℕ) → get_or {A = Option X} (replicate n None) k None ≡ None
none_there zero k = refl
none_there (suc n) zero = refl
none_there (suc n) (suc k) = none_there n k

-- no names are kept at first
pub none_kept : (home : ℕ → List ℕ → List ℕ) (slots : List (Option Found)) (n : ℕ) → slots ≡ replicate n None → AreHomes home slots
none_kept home slots n e =
    let none : (k : ℕ) → get_or slots k None ≡ None = λ k. ap (λ (xs : List (Option Found)). get_or xs k None) e ∙ none_there n k in
    record { each = λ k f g. absurd (none-some f (sym (none k) ∙ g)) }

-- what was found for an equal place and net is the name of these
pub same_home : (homes : ℕ → List ℕ → List ℕ) (found place : ℕ) (key net name : List ℕ) → (nat_eq found place && same_word key net) ≡ true → name ≡ homes found key
    → name ≡ homes place net
same_home homes found place key net name e is = by (nat_eq found place) refl
  where
    by : (b : Bool) → nat_eq found place ≡ b → name ≡ homes place net
    by true p =
        let same : found ≡ place = grind (arith, nat_tests) in
        let word : same_word key net ≡ true = ap (λ b. b && same_word key net) (sym p) ∙ e in
        is ∙ (ap (λ n. homes n key) same ∙ ap (homes place) (same_word_is key net word))
    by false p = absurd (false≢true (ap (λ b. b && same_word key net) (sym p) ∙ e))

-- one more is kept
pub one_kept : (home : ℕ → List ℕ → List ℕ) (slots new : List (Option Found)) (k : ℕ) (f : Found) → AreHomes home slots → k < length slots
    → f.home ≡ home f.place f.net → new ≡ slice_set slots k (Some f) → AreHomes home new
one_kept home slots new k f h lt e is =
    subst (AreHomes home) (sym is) (record { each = λ j g q. by j g q (nat_eq j k) refl })
  where
    by : (j : ℕ) (g : Found) → get_or (slice_set slots k (Some f)) j None ≡ Some g → (b : Bool) → nat_eq j k ≡ b → g.home ≡ home g.place g.net
    by j g q true p =
        let same : j ≡ k = grind (arith, nat_tests) in
        let at : f ≡ g = same_Some f g (sym (get_or-set_at slots k j (Some f) None same lt) ∙ q) in
        subst (λ (x : Found). x.home ≡ home x.place x.net) at e
    by j g q false p = let ne : j ≢ k = grind (arith, nat_tests) in h.each j g (sym (get_or-set_other slots k j (Some f) None ne) ∙ q)
