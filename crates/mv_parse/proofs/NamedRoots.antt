-- The root that the lines of a file name: what one more line adds, and its place among the models.
use Rattle.std.proofs.Common.{◌≡◌, ℕ, true, false, List, [], ◌∷◌, ◌++◌, refl, sym, ap, ◌∙◌, ⊎_elim}
use Rattle.std.specs.Prelude.{Option, Some, None, is_some, not, nat_lt, length}
use Rattle.std.proofs.lemmas.Bool.{cases_Bool, and_parts, not-true}
use Rattle.mv_base.specs.Names.{among, place_of, is_model_name}
use Rattle.mv_base.proofs.NameLemmas.{is_some-place_of}
use Rattle.mv_base.proofs.Lists.{none_from}
use Rattle.mv_lex.specs.declared.lines.LexLine.{LexLine}
use Rattle.mv_lex.proofs.Cuts.{has_none}
use Rattle.mv_fault.specs.declared.fault.ParseFault.TheVariants.{RootFault, BadName, Extra}
use Rattle.mv_fault.specs.Tells.{first, when}
use Rattle.mv_fault.proofs.Nothing.{left-nothing, right-nothing, when-nothing}
use Rattle.mv_parse.specs.declared.known.Root.{Root}
use Rattle.mv_parse.specs.Known.{says_root, root_said, first_root, known}
use Rattle.mv_parse.specs.Grammar.{root_faults, lost_faults}

-- lines that don't name the root say none
pub no-root : (ls : List LexLine) → has_none says_root ls ≡ true → first_root ls ≡ None
no-root [] none = refl
no-root (l ∷ ls) none =
    let both = and_parts (not (says_root l)) (has_none says_root ls) none in
    rw (not-true (says_root l) both.0) (no-root ls both.1)

pub known-no_root : (ls : List LexLine) → has_none says_root ls ≡ true → (known ls).root ≡ None
unfolding known
known-no_root ls none = no-root ls none

-- one more line that doesn't name it
pub root-more : (ls : List LexLine) (l : LexLine) → says_root l ≡ false → first_root (ls ++ l ∷ []) ≡ first_root ls
root-more [] l n = rw n refl
root-more (x ∷ ls) l n =
    ⊎_elim
    (λ (y : says_root x ≡ true). rw y refl)
    (λ (m : says_root x ≡ false). rw m (root-more ls l n))
    (cases_Bool (says_root x))

-- the first that does
pub root-named : (ls : List LexLine) (l : LexLine) → says_root l ≡ true → first_root ls ≡ None → first_root (ls ++ l ∷ []) ≡ Some (root_said l)
root-named [] l y none = rw y refl
root-named (x ∷ ls) l y none =
    ⊎_elim
    (λ (m : says_root x ≡ true). let some : Some (root_said x) ≡ None = rw m at none in cc)
    (λ (m : says_root x ≡ false). rw m (root-named ls l y (rw m at none)))
    (cases_Bool (says_root x))

-- no line has named it where this one has no fault
pub none-named : (n : ℕ) (word : List ℕ) (root : Option Root) (words : List (List ℕ)) → root_faults n word root words ≡ [] → root ≡ None
unfolding root_faults
none-named n word root [] none = cc
none-named n word root (w ∷ words) none =
    let bad = when (not (is_model_name w)) (BadName n w) in
    let twice = when (is_some root) (RootFault n w) in
    let front : bad ++ twice ≡ [] = left-nothing (bad ++ twice) (when (nat_lt 0 (length words)) (Extra n word)) none in
    none_from root (when-nothing (is_some root) (RootFault n w) (right-nothing bad twice front))

-- ---- its place among the models

pub root-found : (root : Option Root) (r : Root) (names : List (List ℕ)) (place : ℕ) → root ≡ Some r → place_of r.name names ≡ Some place
    → lost_faults root names ≡ []
root-found root r names place is e =
    let there : among r.name names ≡ true = sym (is_some-place_of r.name names) ∙ ap is_some e in
    rw (is, there) refl

pub root-lost : (root : Option Root) (r : Root) (names : List (List ℕ)) → root ≡ Some r → place_of r.name names ≡ None
    → first (lost_faults root names) ≡ Some (RootFault r.line r.name)
root-lost root r names is e =
    let gone : among r.name names ≡ false = sym (is_some-place_of r.name names) ∙ ap is_some e in
    rw (is, gone) refl
