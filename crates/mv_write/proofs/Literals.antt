-- The sets of a table's cubes and outputs: each has some of its net's values.
use Rattle.std.proofs.Common.{◌≡◌, ◌∙◌, ℕ, zero, suc, ◌<◌, nat_eq, IsTrue, Option, Some, None, List, [], ◌∷◌, length, get_or, sym, ap, refl, subst, arith}
use Rattle.std.proofs.lemmas.Bool.{cond_both, eqb-true}
use Rattle.mv_base.specs.Set.{full}
use Rattle.mv_cover.specs.Literal.{Lit}
use Rattle.mv_cover.specs.declared.line.Line.{Line}
use Rattle.mv_cover.specs.declared.cover.Cover.{Cover}
use Rattle.mv_cover.specs.Lines.{IsOutput}
use Rattle.mv_net.specs.declared.parts.FlatNet.{FlatNet}
use Rattle.mv_net.specs.declared.parts.NetParts.{NetParts}
use Rattle.mv_net.specs.Nets.{slot, values_in, table_in}
use Rattle.mv_net.specs.Formed.{AllLiterals, AllLines, IsCover, WellFormed}
use Rattle.mv_net.specs.Index.{is_held}
use Rattle.mv_net.proofs.Known.{values_some}
use Rattle.mv_text.proofs.Outputs.{full_output}
use Rattle.mv_write.specs.Walk.{first_set, literals_behind, IsLineOver}

-- the first literal's set, or all values
pub first-output : (net : NetParts) (ls : List Lit) (m set count : ℕ) → WellFormed net → IsTrue (is_held net.nets m) → AllLiterals net.nets ls → count ≡ values_in (slot net.nets m) → set ≡ first_set count ls m → IsOutput (values_in (slot net.nets m)) set
first-output net ls m set count formed held all counted is =
    let values = values_in (slot net.nets m) in
    subst (IsOutput values) (sym (is ∙ ap (λ k. first_set k ls m) counted)) (by_first ls all)
  where
    by_first : (ls : List Lit) → AllLiterals net.nets ls → IsOutput (values_in (slot net.nets m)) (first_set (values_in (slot net.nets m)) ls m)
    by_first [] all = full_output _ (values_some net m formed held)
    by_first (l ∷ ls) all =
        cond_both (nat_eq l.net.0 m) l.set (full (values_in (slot net.nets m))) (λ s. IsOutput (values_in (slot net.nets m)) s)
        (λ y. let P : ℕ → Type 0 = λ k. IsOutput (values_in (slot net.nets k)) l.set in subst P (eqb-true l.net.0 m y) all.0.set)
        (λ f. full_output _ (values_some net m formed held))

pub literals_behind-literals : (nets : List (Option FlatNet)) (ls : List Lit) (m : ℕ) → AllLiterals nets ls → AllLiterals nets (literals_behind ls m)
literals_behind-literals nets [] m all = all
literals_behind-literals nets (l ∷ ls) m all =
    cond_both (nat_eq l.net.0 m) ls (l ∷ ls) (λ r. AllLiterals nets r) (λ y. all.1) (λ f. all)

pub line-over : (nets : List (Option FlatNet)) (values : ℕ) (lines : List Line) (i : ℕ) (x : Line) → i < length lines → x ≡ get_or lines i x → AllLines nets values lines → IsLineOver nets values x
line-over nets values [] i x low is all = absurd (omega arith)
line-over nets values (l ∷ ls) zero x low is all =
    let P : Line → Type 0 = IsLineOver nets values in
    subst P (sym is) (record { literals = all.0; out = all.1 })
line-over nets values (l ∷ ls) (suc i) x low is all = line-over nets values ls i x (omega arith) is all.2

pub cover-is : (net : NetParts) (n : ℕ) (c : Cover) → WellFormed net → table_in (slot net.nets n) ≡ Some c → IsCover net.nets (values_in (slot net.nets n)) c
cover-is net n c formed e = by_slot (slot net.nets n) refl e
  where
    by_slot : (f : Option FlatNet) → slot net.nets n ≡ f → table_in f ≡ Some c → IsCover net.nets (values_in f) c
    by_slot None held has_one = cc
    by_slot (Some f) held table = (formed.nets n f held).cover c table
