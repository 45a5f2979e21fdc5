-- A text is one script or has one first fault.
use Rattle.std.proofs.Common.{◌≡◌, ℕ, ◌+◌, ◌≤◌, true, false, not, Option, Some, None, Result, Ok, Err, List, [], ◌∷◌, ◌++◌, length, inl, inr, refl, sym, ◌∙◌, ap, subst, ⊎_elim, arith}
use Rattle.std.specs.Prelude.{◌⊎◌, nat_le}
use Rattle.std.specs.List.{list_all, position, position_from}
use Rattle.std.proofs.lemmas.Iterator.Adapters.{position_from-zero}
use Rattle.std.proofs.lemmas.Bool.{cond-false, cases_Bool, and_parts, leb-true, leb-false, false≢true}
use Rattle.std.proofs.lemmas.List.{append-nil}
use Rattle.mv_base.specs.declared.limits.TheConstants.{MAX_SCRIPT_BYTES}
use Rattle.mv_script.specs.declared.fault.FaultKind.TheVariants.{TooLong, TooMany}
use Rattle.mv_script.specs.declared.fault.TextFault.{TextFault}
use Rattle.mv_script.specs.declared.part.Part.{Part}
use Rattle.mv_script.specs.Faults.{earlier, parts_in, PassesAt, IsFaultOf, IsFirstFault, Long, Within}
use Rattle.mv_script.specs.Grammar.{IsScript}
use Rattle.mv_script.specs.Parts.{parts_of, kinds, outermost, IsBalanced}
use Rattle.mv_script.specs.Reading.{fault, parts_from, at_start}
use Rattle.mv_script.specs.Scripts.{Items, item_counts, passing}
use Rattle.mv_script.specs.Texts.{is_strange, said, tokens_of}
use Rattle.mv_script.proofs.Completes.{complete}
use Rattle.mv_script.proofs.Counts.{total-item_counts, few_pass}
use Rattle.mv_script.proofs.Judging.{parts_balanced, judged as judged_script}
use Rattle.mv_script.proofs.Trees.{same_items, have_items, balanced_all}

-- ---- a script has no fault

nothing_strange : (bs : List ℕ) (n : ℕ) → list_all (λ b. not (is_strange b)) bs ≡ true → position_from is_strange n bs ≡ None
nothing_strange [] n e = refl
nothing_strange (b ∷ bs) n e =
    let both = and_parts (not (is_strange b)) _ e in
    let plain : is_strange b ≡ false = ⊎_elim (λ (y : is_strange b ≡ true). absurd (false≢true (sym (ap not y) ∙ both.0))) (λ (y : is_strange b ≡ false). y) (cases_Bool (is_strange b)) in
    cond-false (is_strange b) _ _ plain ∙ nothing_strange bs (n + 1) both.1

-- the parts of a script are those that are read
script_parts : (text : List ℕ) (items : Items) (s : IsScript text items) → parts_in (said text) ≡ Ok s.parts
unfolding parts_in
script_parts text items s =
    let bytes = said text in
    let shallow = s.shallow in
    let closed : IsBalanced (parts_of items ++ []) 0 = balanced_all items [] 0 (omega arith) refl in
    let balanced : IsBalanced (kinds s.parts) 0 = subst (λ ks. IsBalanced ks 0) (append-nil (parts_of items) ∙ sym s.are) closed in
    let none : position is_strange bytes ≡ None = position_from-zero is_strange bytes ∙ nothing_strange bytes 0 s.readable in
    ap (λ o. earlier o (parts_from (length bytes) (tokens_of bytes) at_start)) none ∙ complete (length bytes) s.parts (tokens_of bytes) 0 s.said balanced 0

-- a text is at most one script
pub one_script : (text : List ℕ) (a b : Items) → IsScript text a → IsScript text b → a ≡ b
one_script text a b s t =
    let same : Ok s.parts ≡ Ok t.parts = sym (script_parts text a s) ∙ script_parts text b t in
    let parts : s.parts ≡ t.parts = cc in
    same_items a b (sym s.are ∙ ap kinds parts ∙ t.are)

-- a script's commands pass no limit
script_few : (text : List ℕ) (items : Items) (s : IsScript text items) (place : ℕ) → PassesAt s.parts place → ⊥
script_few text items s place p =
    let same : p.items ≡ items = same_items p.items items (sym p.are ∙ s.are) in
    let whole = total-item_counts items in
    let few = s.few in
    let none : passing 0 (item_counts items) (outermost s.parts 0) ≡ None = few_pass 0 (item_counts items) (outermost s.parts 0) (omega arith) in
    let some : passing 0 (item_counts items) (outermost s.parts 0) ≡ Some place = ap (λ i. passing 0 (item_counts i) (outermost s.parts 0)) (sym same) ∙ p.passes in
    let bad : None ≡ Some place = sym none ∙ some in
    absurd cc

fault_of_script : (text : List ℕ) (items : Items) (s : IsScript text items) (f : TextFault) → IsFaultOf (Ok s.parts) f → ⊥
fault_of_script text items s f h = script_few text items s f.place h.1

-- a text with a fault is no script
pub no_script : (text : List ℕ) (f : TextFault) (items : Items) → IsFirstFault text f → IsScript text items → ⊥
no_script text f items (Long long is) s = let short = s.short in absurd (omega arith)
no_script text f items (Within short is) s =
    let P : Result (List Part) TextFault → Type 0 = λ r. IsFaultOf r f in
    fault_of_script text items s f (subst P (script_parts text items s) is)

-- ---- one first fault

one_place : (parts : List Part) (p q : ℕ) → PassesAt parts p → PassesAt parts q → p ≡ q
one_place parts p q a b =
    let same : a.items ≡ b.items = same_items a.items b.items (sym a.are ∙ b.are) in
    let both : Some p ≡ Some q = sym a.passes ∙ ap (λ i. passing 0 (item_counts i) (outermost parts 0)) same ∙ b.passes in
    cc

one_of : (told : Result (List Part) TextFault) (f g : TextFault) → IsFaultOf told f → IsFaultOf told g → f ≡ g
one_of (Err e) f g h k = h ∙ sym k
one_of (Ok parts) f g h k =
    ap (λ kind. fault kind f.place) (h.0 ∙ sym k.0) ∙ ap (λ place. fault g.kind place) (one_place parts f.place g.place h.1 k.1)

pub one_fault : (text : List ℕ) (f g : TextFault) → IsFirstFault text f → IsFirstFault text g → f ≡ g
one_fault text f g (Long long is) (Long long' is') = is ∙ sym is'
one_fault text f g (Long long is) (Within short is') = absurd (omega arith)
one_fault text f g (Within short is) (Long long is') = absurd (omega arith)
one_fault text f g (Within short is) (Within short' is') = one_of (parts_in (said text)) f g is is'

-- ---- a script or a fault

-- a text is a script, or it has a first fault
pub data IsJudged (text : List ℕ) : Type 0 where
  IsOne : (items : Items) → (is : IsScript text items) → IsJudged text
  IsNone : (f : TextFault) → (is : IsFirstFault text f) → IsJudged text

passed : (text : List ℕ) (parts : List Part) (items : Items) → length text ≤ MAX_SCRIPT_BYTES → parts_in (said text) ≡ Ok parts → parts_of items ≡ kinds parts → (place : Option ℕ) → passing 0 (item_counts items) (outermost parts 0) ≡ place → IsJudged text
passed text parts items short e are None none =
    IsOne items (judged_script text (said text) parts items (outermost parts 0) short refl e are refl none)
passed text parts items short e are (Some place) some =
    let P : Result (List Part) TextFault → Type 0 = λ r. IsFaultOf r (fault TooMany place) in
    IsNone (fault TooMany place) (Within short (subst P (sym e) (refl, record { items = items; are = sym are; passes = some })))

within : (text : List ℕ) → length text ≤ MAX_SCRIPT_BYTES → (told : Result (List Part) TextFault) → parts_in (said text) ≡ told → IsJudged text
within text short (Ok parts) e =
    let i = have_items (kinds parts) (parts_balanced (said text) parts e) in
    passed text parts i.items short e i.are (passing 0 (item_counts i.items) (outermost parts 0)) refl
within text short (Err f) e =
    let P : Result (List Part) TextFault → Type 0 = λ r. IsFaultOf r f in
    IsNone f (Within short (subst P (sym e) refl))

pub is_judged : (text : List ℕ) → IsJudged text
is_judged text =
    ⊎_elim
    (λ (y : nat_le (length text) MAX_SCRIPT_BYTES ≡ true). within text (leb-true (length text) MAX_SCRIPT_BYTES y) (parts_in (said text)) refl)
    (λ (y : nat_le (length text) MAX_SCRIPT_BYTES ≡ false). IsNone (fault TooLong MAX_SCRIPT_BYTES) (Long (leb-false (length text) MAX_SCRIPT_BYTES y) refl))
    (cases_Bool (nat_le (length text) MAX_SCRIPT_BYTES))

either : (text : List ℕ) → IsJudged text → ((items : Items) × IsScript text items) ⊎ ((f : TextFault) × IsFirstFault text f)
either text (IsOne items is) = inl (items, is)
either text (IsNone f is) = inr (f, is)

pub judged : (text : List ℕ) → ((items : Items) × IsScript text items) ⊎ ((f : TextFault) × IsFirstFault text f)
judged text = either text (is_judged text)
