-- The lines that declare the nets of a list: what they say together, and that they have no fault.
use Rattle.std.proofs.Common.{◌≡◌, ◌∙◌, ℕ, ◌+◌, true, false, List, [], ◌∷◌, ◌++◌, refl, sym, ap, ⊎_elim, append-nil, append_assoc}
use Rattle.std.specs.Prelude.{Option, Some, None, codes}
use Rattle.std.specs.List.{list_all, flat_map}
use Rattle.std.proofs.lemmas.Bool.{cases_Bool, cond-false, or_parts}
use Rattle.std.proofs.lemmas.List.{map-append}
use Rattle.mv_base.specs.Names.{among, names_differ}
use Rattle.mv_lex.specs.declared.lines.LexLine.{LexLine}
use Rattle.mv_design.specs.declared.design.Decl.{Decl}
use Rattle.mv_design.specs.Values.{declared_of}
use Rattle.mv_decl.specs.Nets.{with_decl, with_decls}
use Rattle.mv_parse.specs.declared.command.Command.TheVariants.{Mv}
use Rattle.mv_parse.specs.Known.{decls_of, decls_at}
use Rattle.mv_parse.specs.Grammar.{faults_at}
use Rattle.mv_parse.proofs.Opens.{decls-push}
use Rattle.mv_net.specs.declared.parts.FlatNet.{FlatNet}
use Rattle.mv_text.specs.Text.{is_plain_pair, decl_words}
use Rattle.mv_text_back.proofs.TextModel.{is_reset_net, needs_none}
use Rattle.mv_text_back.proofs.Commands.{command-mv}
use Rattle.mv_text_back.proofs.Opened.{goes_on, going-push, faults-going}
use Rattle.mv_text_back.proofs.Limits.{only_limits, AreFine}
use Rattle.mv_text_back.proofs.NewNames.{new-word}
use Rattle.mv_text_back.proofs.Declared.{IsSaid, declared_words, declares, declared-none}
use Rattle.mv_text_back.proofs.Nets.{EachNet, CanBeSaid}
use Rattle.mv_text_back.proofs.Lookups.{decl_of, declared}
use Rattle.mv_lines_back.specs.TextWords.{lines_from}

-- behind these lines of a model these lines are fine, and declare these nets besides
pub record AreDecls (h : LexLine) (front lines : List LexLine) (more : List Decl) : Type 0 where
  pub fine : AreFine (h ∷ front) lines
  pub decls : decls_of (front ++ lines) ≡ decls_of front ++ more

-- one line that declares a new net
abbrev mv_line : ℕ → FlatNet → LexLine
mv_line n f = record { number = n; words = codes ".mv" ∷ declared_words f.name f.values f.value_names }

new_decl : (ds : List Decl) (d : Decl) → among d.net (declared_of ds) ≡ false → with_decls ds (d ∷ []) ≡ ds ++ d ∷ []
unfolding with_decl
new_decl ds d new = cond-false _ _ _ new

pushed : (front : List LexLine) (n : ℕ) (f : FlatNet) → IsSaid f.name f.values f.value_names → among f.name (declared_of (decls_of front)) ≡ false
    → decls_of (front ++ mv_line n f ∷ []) ≡ decls_of front ++ decl_of f ∷ []
pushed front n f said new =
    decls-push front (mv_line n f)
    ∙ (ap (λ c. with_decls (decls_of front) (decls_at c (declared_words f.name f.values f.value_names))) command-mv
    ∙ (ap (with_decls (decls_of front)) (declares f.name f.values f.value_names said) ∙ new_decl (decls_of front) (decl_of f) new))

fine_line : (h : LexLine) (front : List LexLine) (n : ℕ) (f : FlatNet) → list_all goes_on (h ∷ front) ≡ true → IsSaid f.name f.values f.value_names
    → among f.name (declared_of (decls_of front)) ≡ false → only_limits (faults_at (h ∷ front) (mv_line n f)) ≡ true
fine_line h front n f goes said new =
    ap only_limits (faults-going Mv h front (mv_line n f) goes command-mv refl refl ∙ declared-none f.name f.values f.value_names said n (codes ".mv") (decls_of front) new)

regrouped : (front : List LexLine) (d : Decl) (l : LexLine) (more : List Decl) → decls_of (front ++ l ∷ []) ≡ decls_of front ++ d ∷ [] → names_differ (declared_of (decls_of front) ++ d.net ∷ declared_of more) ≡ true → names_differ (declared_of (decls_of (front ++ l ∷ [])) ++ declared_of more) ≡ true
regrouped front d l more e differ =
    ap (λ ds. names_differ (declared_of ds ++ declared_of more)) e
    ∙ (ap (λ ws. names_differ (ws ++ declared_of more)) (map-append (λ (x : Decl). x.net) (decls_of front) (d ∷ []))
    ∙ (ap names_differ (append_assoc (declared_of (decls_of front)) (d.net ∷ []) (declared_of more)) ∙ differ))

one_more : (h : LexLine) (front : List LexLine) (l : LexLine) (lines : List LexLine) (d : Decl) (more : List Decl) → only_limits (faults_at (h ∷ front) l) ≡ true → decls_of (front ++ l ∷ []) ≡ decls_of front ++ d ∷ [] → AreDecls h (front ++ l ∷ []) lines more → AreDecls h front (l ∷ lines) (d ∷ more)
one_more h front l lines d more fine e rest = record {
  fine = (fine, rest.fine);
  decls = ap decls_of (sym (append_assoc front (l ∷ []) lines)) ∙ (rest.decls ∙ (ap (λ ds. ds ++ more) e ∙ append_assoc (decls_of front) (d ∷ []) more));
}

pub decl-lines : (h : LexLine) (front : List LexLine) (n : ℕ) (fs : List (Option FlatNet)) → list_all goes_on (h ∷ front) ≡ true → EachNet CanBeSaid fs
    → names_differ (declared_of (decls_of front) ++ declared_of (declared fs)) ≡ true → AreDecls h front (lines_from n (flat_map decl_words fs)) (declared fs)
decl-lines h front n [] goes each differ = record { fine = tt; decls = ap decls_of (append-nil front) ∙ sym (append-nil (decls_of front)) }
decl-lines h front n (None ∷ fs) goes each differ = decl-lines h front n fs goes each differ
decl-lines h front n (Some f ∷ fs) goes each differ =
    ⊎_elim
    (λ (y : needs_none f ≡ true). rw y (decl-lines h front n fs goes each.1 (rw y at differ)))
    (λ (other : needs_none f ≡ false). (
    let apart : names_differ (declared_of (decls_of front) ++ f.name ∷ declared_of (declared fs)) ≡ true = rw other at differ in
    let new : among f.name (declared_of (decls_of front)) ≡ false = new-word (declared_of (decls_of front)) f.name (declared_of (declared fs)) apart in
    let said = each.0 (or_parts (is_reset_net f) (is_plain_pair f) other).0 in
    let e = pushed front n f said new in
    let rest = decl-lines h (front ++ mv_line n f ∷ []) (n + 1) fs (going-push Mv (h ∷ front) (mv_line n f) goes command-mv refl) each.1 (regrouped front (decl_of f) (mv_line n f) (declared fs) e apart) in
    rw other (one_more h front (mv_line n f) (lines_from (n + 1) (flat_map decl_words fs)) (decl_of f) (declared fs) (fine_line h front n f goes said new) e rest)
    ))
    (cases_Bool (needs_none f))
