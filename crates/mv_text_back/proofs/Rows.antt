-- What the rows and the default of a written table say, and that their values have no fault.
use Rattle.std.proofs.Common.{◌≡◌, ◌∙◌, ℕ, ◌<◌, List, [], ◌∷◌, ◌++◌, length, map, nat_eq, refl, sym, ap, subst}
use Rattle.std.specs.Prelude.{Option, Ok, drop}
use Rattle.std.specs.List.{AllByRecursion}
use Rattle.std.proofs.Math.Seq.{drop-append_seam}
use Rattle.std.proofs.lemmas.Bool.{cond_both, eqb-true}
use Rattle.std.proofs.lemmas.List.{length-map}
use Rattle.mv_design.specs.declared.table.Entry.TheVariants.{Set}
use Rattle.mv_design.specs.declared.design.Decl.{Decl}
use Rattle.mv_cover.specs.Literal.{Lit}
use Rattle.mv_cover.specs.declared.line.Line.{Line}
use Rattle.mv_cover.specs.Lines.{IsOutput}
use Rattle.mv_word.specs.Entries.{word_set}
use Rattle.mv_design.specs.Values.{values_of}
use Rattle.mv_table.specs.Entries.{in_said, out_word, out_said, set_entry, ins_faults, ins_said, outs_faults, outs_said}
use Rattle.mv_table.specs.Tables.{row_of_words, entries_faults}
use Rattle.mv_net.specs.declared.parts.FlatNet.{FlatNet}
use Rattle.mv_net.specs.Nets.{slot, name_in, values_in, spelled_in}
use Rattle.mv_net.specs.Formed.{AllLiterals}
use Rattle.mv_text.specs.Text.{entry_word, set_in, fanin_word, line_words}
use Rattle.mv_text.proofs.Outputs.{full_output}
use Rattle.mv_text_back.proofs.TextModel.{set_entries, row_said}
use Rattle.mv_text_back.proofs.Spelled.{AreSpelled}
use Rattle.mv_text_back.proofs.Entries.{entry-set, entry-equal}

-- ---- sets of a cube

set-output : (nets : List (Option FlatNet)) (cube : List Lit) (m : ℕ) → AllLiterals nets cube → 0 < values_in (slot nets m) → IsOutput (values_in (slot nets m)) (set_in nets cube m)
set-output nets [] m all some = full_output (values_in (slot nets m)) some
set-output nets (l ∷ ls) m all some =
    cond_both (nat_eq l.net.0 m) l.set (set_in nets ls m) (λ s. IsOutput (values_in (slot nets m)) s)
    (λ y. subst (λ (k : ℕ). IsOutput (values_in (slot nets k)) l.set) (eqb-true l.net.0 m y) all.0.set)
    (λ _. set-output nets ls m all.1 some)

-- ---- entries

-- the values of a net are found by its name, and spelled
pub record IsColumn (ds : List Decl) (name : List ℕ) (values : ℕ) (names : List (List ℕ)) : Type 0 where
  pub found : values_of ds name ≡ names
  pub spelled : AreSpelled values names

in_says : (ds : List Decl) (name : List ℕ) (values : ℕ) (names : List (List ℕ)) (set : ℕ) → IsColumn ds name values names → IsOutput values set → in_said ds name (entry_word names set) ≡ Ok set
unfolding in_said
in_says ds name values names set is out =
    ap (λ ws. word_set ws (entry_word names set)) is.found ∙ entry-set names set is.spelled out.some out.within

out_says : (ds : List Decl) (ins : List (List ℕ)) (name : List ℕ) (values : ℕ) (names : List (List ℕ)) (set : ℕ) → IsColumn ds name values names → IsOutput values set → out_said ds ins name (entry_word names set) ≡ Ok (Set set)
unfolding out_said out_word in_said
out_says ds ins name values names set is out =
    rw (entry-equal names set is.spelled) (ap set_entry (in_says ds name values names set is out))

-- the output's entry alone
pub outs-none : (n : ℕ) (ds : List Decl) (ins : List (List ℕ)) (name : List ℕ) (values : ℕ) (names : List (List ℕ)) (set : ℕ) → IsColumn ds name values names → IsOutput values set → outs_faults n ds ins (name ∷ []) (entry_word names set ∷ []) ≡ []
outs-none n ds ins name values names set is out = rw (out_says ds ins name values names set is out) refl

pub outs-are : (ds : List Decl) (ins : List (List ℕ)) (name : List ℕ) (values : ℕ) (names : List (List ℕ)) (set : ℕ) → IsColumn ds name values names → IsOutput values set → outs_said ds ins (name ∷ []) (entry_word names set ∷ []) ≡ set_entries set
outs-are ds ins name values names set is out = rw (out_says ds ins name values names set is out) refl

-- ---- rows

module _ (nets : List (Option FlatNet)) (ds : List Decl) where
  abbrev pub name_at : ℕ → List ℕ
  name_at m = name_in (slot nets m)

  -- a fanin is a column, and has values
  pub record IsFanin (m : ℕ) : Type 0 where
    pub column : IsColumn ds (name_at m) (values_in (slot nets m)) (spelled_in (slot nets m))
    pub some : 0 < values_in (slot nets m)

  fanin_says : (cube : List Lit) (m : ℕ) → AllLiterals nets cube → IsFanin m → in_said ds (name_at m) (fanin_word nets cube m) ≡ Ok (set_in nets cube m)
  fanin_says cube m all is =
      in_says ds (name_at m) (values_in (slot nets m)) (spelled_in (slot nets m)) (set_in nets cube m) is.column (set-output nets cube m all is.some)

  ins_none : (n : ℕ) (cube : List Lit) (ms : List ℕ) (more : List (List ℕ)) → AllLiterals nets cube → AllByRecursion IsFanin ms → ins_faults n ds (map name_at ms) (map (fanin_word nets cube) ms ++ more) ≡ []
  ins_none n cube [] more all each = refl
  ins_none n cube (m ∷ ms) more all each = rw (fanin_says cube m all each.0) (ins_none n cube ms more all each.1)

  ins_are : (cube : List Lit) (ms : List ℕ) (more : List (List ℕ)) → AllLiterals nets cube → AllByRecursion IsFanin ms → ins_said ds (map name_at ms) (map (fanin_word nets cube) ms ++ more) ≡ map (set_in nets cube) ms
  ins_are cube [] more all each = refl
  ins_are cube (m ∷ ms) more all each =
      rw (fanin_says cube m all each.0) (ap (λ sets. set_in nets cube m ∷ sets) (ins_are cube ms more all each.1))

  behind_ins : (cube : List Lit) (ms : List ℕ) (more : List (List ℕ)) → drop (length (map name_at ms)) (map (fanin_word nets cube) ms ++ more) ≡ more
  behind_ins cube ms more =
      let same : length (map name_at ms) ≡ length (map (fanin_word nets cube) ms) = length-map ms name_at ∙ sym (length-map ms (fanin_word nets cube)) in
      rw same (drop-append_seam (map (fanin_word nets cube) ms) more)

  -- the values of a row have no fault
  pub row-none : (n : ℕ) (ms : List ℕ) (name : List ℕ) (values : ℕ) (names : List (List ℕ)) (l : Line) → AllByRecursion IsFanin ms → IsColumn ds name values names → AllLiterals nets l.cube → IsOutput values l.out → entries_faults n ds (map name_at ms) (name ∷ []) (line_words nets names ms l) ≡ []
  row-none n ms name values names l each is all out =
      let last = entry_word names l.out ∷ [] in
      rw (ins_none n l.cube ms last all each, behind_ins l.cube ms last) (outs-none n ds (map name_at ms) name values names l.out is out)

  -- and they are those of its line
  pub row-is : (ms : List ℕ) (name : List ℕ) (values : ℕ) (names : List (List ℕ)) (l : Line) → AllByRecursion IsFanin ms → IsColumn ds name values names → AllLiterals nets l.cube → IsOutput values l.out → row_of_words ds (map name_at ms) (name ∷ []) (line_words nets names ms l) ≡ row_said nets ms l
  row-is ms name values names l each is all out =
      let last = entry_word names l.out ∷ [] in
      rw (ins_are l.cube ms last all each, behind_ins l.cube ms last, outs-are ds (map name_at ms) name values names l.out is out) refl
