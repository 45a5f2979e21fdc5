-- What is read of a text without a fault is its script.
use Rattle.std.proofs.Common.{◌≡◌, ℕ, ◌+◌, ◌≤◌, true, false, not, Option, Some, None, Result, Ok, Err, List, [], ◌∷◌, ◌++◌, length, refl, sym, ◌∙◌, ap, subst, ⊎_elim, arith}
use Rattle.std.specs.List.{list_all, position, position_from}
use Rattle.std.proofs.lemmas.Iterator.Adapters.{position_from-zero}
use Rattle.std.proofs.lemmas.Bool.{cond-true, cond-false, cases_Bool, and_from}
use Rattle.std.proofs.lemmas.List.{append-nil}
use Rattle.mv_base.specs.declared.limits.TheConstants.{MAX_SCRIPT_BYTES}
use Rattle.mv_script.specs.declared.fault.FaultKind.TheVariants.{UnknownWord}
use Rattle.mv_script.specs.declared.fault.TextFault.{TextFault}
use Rattle.mv_script.specs.declared.part.Part.{Part}
use Rattle.mv_script.specs.Faults.{earlier, parts_in}
use Rattle.mv_script.specs.Grammar.{IsScript}
use Rattle.mv_script.specs.Parts.{parts_of, kinds, outermost, IsBalanced}
use Rattle.mv_script.specs.Reading.{fault, parts_from, at_start}
use Rattle.mv_script.specs.Scripts.{Items, item_counts, passing}
use Rattle.mv_script.specs.Texts.{is_strange, said, tokens_of}
use Rattle.mv_script.proofs.Counts.{passes_none, total-item_counts}
use Rattle.mv_script.proofs.Shapes.{shallow, places_size}
use Rattle.mv_script.proofs.Sounds.{Sounds, sound}

-- no byte is strange
none_strange : (bs : List ℕ) (n : ℕ) → position_from is_strange n bs ≡ None → list_all (λ b. not (is_strange b)) bs ≡ true
none_strange [] n e = refl
none_strange (b ∷ bs) n e =
    ⊎_elim
    (λ (y : is_strange b ≡ true).
    let bad : Some n ≡ None = sym (cond-true (is_strange b) (Some n) (position_from is_strange (n + 1) bs) y) ∙ e in absurd cc)
    (λ (y : is_strange b ≡ false).
    and_from (not (is_strange b)) _ (ap not y) (none_strange bs (n + 1) (sym (cond-false (is_strange b) (Some n) (position_from is_strange (n + 1) bs) y) ∙ e)))
    (cases_Bool (is_strange b))

-- what is said has no strange byte, and its tokens have no fault
pub record IsFaultless (bytes : List ℕ) (parts : List Part) : Type 0 where
  pub readable : list_all (λ b. not (is_strange b)) bytes ≡ true
  pub sounds : Sounds parts (tokens_of bytes) 0

faultless : (bytes : List ℕ) (strange : Option ℕ) (told : Result (List Part) TextFault) (parts : List Part) → position_from is_strange 0 bytes ≡ strange → parts_from (length bytes) (tokens_of bytes) at_start ≡ told → earlier strange told ≡ Ok parts → IsFaultless bytes parts
faultless bytes None told parts none is e =
    record { readable = none_strange bytes 0 none; sounds = sound (length bytes) (tokens_of bytes) at_start [] parts refl (is ∙ e) }
faultless bytes (Some p) (Ok others) parts some is e = let bad : Err (fault UnknownWord p) ≡ Ok parts = e in absurd cc
faultless bytes (Some p) (Err f) parts some is e = absurd cc

pub parts_faultless : (bytes : List ℕ) (parts : List Part) → parts_in bytes ≡ Ok parts → IsFaultless bytes parts
unfolding parts_in
parts_faultless bytes parts e =
    faultless bytes (position is_strange bytes) (parts_from (length bytes) (tokens_of bytes) at_start) parts (sym (position_from-zero is_strange bytes)) refl e

-- parts without a fault are balanced
pub parts_balanced : (bytes : List ℕ) (parts : List Part) → parts_in bytes ≡ Ok parts → IsBalanced (kinds parts) 0
parts_balanced bytes parts e = (parts_faultless bytes parts e).sounds.balanced

-- the items of these parts are a script, where the commands don't pass the limit
pub judged : (text bytes : List ℕ) (parts : List Part) (items : Items) (places : List ℕ) → length text ≤ MAX_SCRIPT_BYTES → bytes ≡ said text → parts_in bytes ≡ Ok parts → parts_of items ≡ kinds parts → places ≡ outermost parts 0 → passing 0 (item_counts items) places ≡ None → IsScript text items
judged text bytes parts items places short is e are at none =
    let f = parts_faultless (said text) parts (ap parts_in (sym is) ∙ e) in
    let same : kinds parts ≡ parts_of items ++ [] = sym are ∙ sym (append-nil (parts_of items)) in
    let s = shallow items [] 0 (omega arith) (subst (λ ks. IsBalanced ks 0) same f.sounds.balanced) in
    let size : length (outermost parts 0) ≡ length (item_counts items) = places_size items parts (sym are) in
    let whole = total-item_counts items in
    let within = passes_none 0 (item_counts items) (outermost parts 0) (ap (λ p. passing 0 (item_counts items) p) (sym at) ∙ none) (omega arith) (omega arith) in
    let deep = s.deep in
    record {
      short = short;
      readable = f.readable;
      parts = parts;
      said = f.sounds.say;
      are = sym are;
      shallow = omega arith;
      few = omega arith;
    }

pub ruleset judges = (parts_balanced, judged)
