-- The table of letters, checked entry by entry.
use Rattle.std.proofs.Common.{◌≡◌, ℕ, zero, suc, ◌<◌, Bool, true, false, not, ◌&&◌, Decides, refl, get_or}
use Rattle.std.proofs.lemmas.Bool.Decides.{Decides-below_and}
use Rattle.mv_lex.specs.declared.cutter.TheConstants.{LETTERS}
use Rattle.mv_lex.specs.Steps.{is_letter}

abbrev same : Bool → Bool → Bool
same true t = t
same false t = not t

same-decides : (s t : Bool) → Decides (same s t) (s ≡ t)
same-decides true true = (λ _. refl, λ _. refl)
same-decides true false = (λ e. cc, λ e. cc)
same-decides false true = (λ e. cc, λ e. cc)
same-decides false false = (λ _. refl, λ _. refl)

abbrev entries_match : ℕ → Bool
entries_match zero = true
entries_match (suc n) = same (get_or LETTERS n false) (is_letter n) && entries_match n

entries_checked : entries_match 256 ≡ true
entries_checked = refl

pub table_entry : (b : ℕ) → b < 256 → get_or LETTERS b false ≡ is_letter b
table_entry =
    (Decides-below_and (λ b. same (get_or LETTERS b false) (is_letter b)) (λ b. get_or LETTERS b false ≡ is_letter b) entries_match (λ b. same-decides _ _) refl (λ _. refl) 256).0 entries_checked
