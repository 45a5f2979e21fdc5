-- Lines without equal ones: what some line does is done by one that is kept.
use Rattle.std.proofs.Common.{◌≡◌, ℕ, Bool, true, false, ◌&&◌, ◌||◌, nat_eq, filter, List, [], ◌∷◌, length, map, refl, sym, ◌∙◌, ap, inl, inr, All}
use Rattle.std.specs.List.{list_any}
use Rattle.std.proofs.Math.Bool.{and-false, and-or_distrib_right}
use Rattle.std.proofs.lemmas.Bool.{cases_Bool, or_parts, or_cases, or_right, or_left}
use Rattle.std.proofs.lemmas.List.Elements.{All-nil, All-cons, All-head, All-tail}
use Rattle.mv_base.specs.Set.{has, empty, one}
use Rattle.mv_base.proofs.Sets.{has-empty}
use Rattle.mv_cover.specs.Cubes.{matches}
use Rattle.mv_cover.specs.Covers.{some_gives, some_matches}
use Rattle.mv_cover.specs.Absorb.{firsts, some_bare}
use Rattle.mv_cover.specs.declared.line.Line.{Line}
use Rattle.mv_cover.proofs.Covering.{same_number}
use Rattle.mv_cover.proofs.Absorbing.{gives-any, matches-any, any-firsts, all-firsts}
use Rattle.mv_rows.specs.Flat.{has_output, kept, mark_line}

-- ---- what the lines allow

abbrev gives : (ℕ → ℕ) → ℕ → Line → Bool
gives at v l = matches at l.cube && has l.out v

-- lines without an output give nothing
gives-filter : (at : ℕ → ℕ) (v : ℕ) (ls : List Line) → some_gives at v (filter has_output ls) ≡ some_gives at v ls
gives-filter at v [] = refl
gives-filter at v (l ∷ ls) =
    elim (cases_Bool (nat_eq l.out empty)) [
      | inl none ↦
          rw none
          (gives-filter at v ls
          ∙ sym (ap (λ b. b || some_gives at v ls) (ap (λ s. matches at l.cube && has s v) (same_number l.out empty none) ∙ (ap (λ b. matches at l.cube && b) (has-empty v) ∙ and-false (matches at l.cube)))))
      | inr some ↦ rw some (ap (λ b. gives at v l || b) (gives-filter at v ls))
    ]

pub gives-kept : (at : ℕ → ℕ) (v : ℕ) (ls : List Line) → some_gives at v (kept ls) ≡ some_gives at v ls
gives-kept at v ls =
    gives-any at v (kept ls) ∙ (any-firsts (gives at v) (filter has_output ls) ∙ (sym (gives-any at v (filter has_output ls)) ∙ gives-filter at v ls))

-- where each line has an output all are kept
all_outputs : (ls : List Line) → list_any (λ (l : Line). nat_eq l.out empty) ls ≡ false → filter has_output ls ≡ ls
all_outputs [] h = refl
all_outputs (l ∷ ls) h =
    let p = or_parts (nat_eq l.out empty) (list_any (λ (m : Line). nat_eq m.out empty) ls) h in
    rw p.0 (ap (λ (ms : List Line). l ∷ ms) (all_outputs ls p.1))

pub matches-kept : (at : ℕ → ℕ) (ls : List Line) → list_any (λ (l : Line). nat_eq l.out empty) ls ≡ false → some_matches at (kept ls) ≡ some_matches at ls
matches-kept at ls h =
    matches-any at (kept ls)
    ∙ (any-firsts (λ (l : Line). matches at l.cube) (filter has_output ls)
    ∙ (ap (list_any (λ (l : Line). matches at l.cube)) (all_outputs ls h) ∙ sym (matches-any at ls)))

-- ---- the mark's lines

gives-marks : (at : ℕ → ℕ) (v : ℕ) (ls : List Line) → some_gives at v (map mark_line ls) ≡ (some_matches at ls && has (one 0) v)
gives-marks at v [] = refl
gives-marks at v (l ∷ ls) = ap (λ b. (matches at l.cube && has (one 0) v) || b) (gives-marks at v ls) ∙ sym (and-or_distrib_right (matches at l.cube) (some_matches at ls) (has (one 0) v))

matches-marks : (at : ℕ → ℕ) (ls : List Line) → some_matches at (map mark_line ls) ≡ some_matches at ls
matches-marks at [] = refl
matches-marks at (l ∷ ls) = ap (λ b. matches at l.cube || b) (matches-marks at ls)

pub gives-marked : (at : ℕ → ℕ) (v : ℕ) (ls : List Line) → some_gives at v (firsts (map mark_line ls)) ≡ (some_matches at ls && has (one 0) v)
gives-marked at v ls =
    gives-any at v (firsts (map mark_line ls))
    ∙ (any-firsts (gives at v) (map mark_line ls) ∙ (sym (gives-any at v (map mark_line ls)) ∙ gives-marks at v ls))

pub matches-marked : (at : ℕ → ℕ) (ls : List Line) → some_matches at (firsts (map mark_line ls)) ≡ some_matches at ls
matches-marked at ls =
    matches-any at (firsts (map mark_line ls))
    ∙ (any-firsts (λ (l : Line). matches at l.cube) (map mark_line ls) ∙ (sym (matches-any at (map mark_line ls)) ∙ matches-marks at ls))

-- ---- a line without literals

abbrev bare : Line → Bool
bare l = nat_eq (length l.cube) 0

bare-filter : (ls : List Line) → some_bare (filter has_output ls) ≡ true → some_bare ls ≡ true
bare-filter [] h = h
bare-filter (l ∷ ls) h =
    elim (cases_Bool (nat_eq l.out empty)) [
      | inl none ↦ or_right (bare l) (some_bare ls) (bare-filter ls (rw none at h))
      | inr some ↦
          let here : (bare l || some_bare (filter has_output ls)) ≡ true = rw some at h in
          elim (or_cases (bare l) (some_bare (filter has_output ls)) here) [
            | inl b ↦ or_left (bare l) (some_bare ls) b
            | inr r ↦ or_right (bare l) (some_bare ls) (bare-filter ls r)
          ]
    ]

pub bare-kept : (ls : List Line) → some_bare (kept ls) ≡ true → some_bare ls ≡ true
bare-kept ls h = bare-filter ls (sym (any-firsts bare (filter has_output ls)) ∙ h)

bare-marks : (ls : List Line) → some_bare (map mark_line ls) ≡ some_bare ls
bare-marks [] = refl
bare-marks (l ∷ ls) = ap (λ b. bare l || b) (bare-marks ls)

pub bare-marked : (ls : List Line) → some_bare (firsts (map mark_line ls)) ≡ some_bare ls
bare-marked ls = any-firsts bare (map mark_line ls) ∙ bare-marks ls

-- ---- what holds of each line

-- the lines that stay have an output
filtered : (P Q : Line → Type 0) → ((l : Line) → nat_eq l.out empty ≡ false → P l → Q l) → (ls : List Line) → All P ls → All Q (filter has_output ls)
filtered P Q f [] h = All-nil Q
filtered P Q f (l ∷ ls) h =
    let rest = filtered P Q f ls (All-tail P l ls h) in
    elim (cases_Bool (nat_eq l.out empty)) [
      | inl none ↦ rw none rest
      | inr some ↦ rw some (All-cons Q l (filter has_output ls) (f l some (All-head P l ls h)) rest)
    ]

pub all-kept : (P Q : Line → Type 0) → ((l : Line) → nat_eq l.out empty ≡ false → P l → Q l) → (ls : List Line) → All P ls → All Q (kept ls)
all-kept P Q f ls h = all-firsts Q (filter has_output ls) (filtered P Q f ls h)
