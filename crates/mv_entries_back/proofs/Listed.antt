-- Printed entries as lines: the steps that they list, that they have no fault, and the entries that they are.
use Rattle.std.specs.Prelude.{if◌then◌else◌}
use Rattle.std.proofs.Common.{◌≡◌, ℕ, ◌+◌, true, List, [], ◌∷◌, ◌++◌, length, Option, Some, None, refl, ap, ◌∙◌}
use Rattle.std.specs.List.{flat_map, AllByRecursion}
use Rattle.std.proofs.lemmas.List.Elements.{recursion_from_All}
use Rattle.mv_lex.specs.declared.lines.LexLine.{LexLine}
use Rattle.mv_entry.specs.declared.rule.BodyLine.{BodyLine}
use Rattle.mv_entry.specs.declared.rule.Body.{Body}
use Rattle.mv_entry.specs.declared.rule.Rule.{Rule}
use Rattle.mv_entry.specs.declared.rule.Rule.TheVariants.{Remove, Add, Divide, Wire, Collapse, Narrow, Merge, Encode, Fill}
use Rattle.mv_entry.specs.Entries.{Entry, Applied, Noted, body_lines, rule_lines, entry_lines}
use Rattle.mv_step.specs.declared.said.Said.{Said}
use Rattle.mv_step.specs.declared.said.Said.TheVariants.{Whole, Begins}
use Rattle.mv_step.specs.Lines.{keyword_of, said}
use Rattle.mv_step.specs.Certificates.{Outside, InBody, fault_from, front_body, rule_of, steps_of}
use Rattle.mv_step.specs.Printed.{IsSayable, is_sayable_form}
use Rattle.mv_step.proofs.Listed.{said-narrow, said-merge, said-encode, said-fill}
use Rattle.mv_lines_back.specs.TextWords.{is_comment, lines_from, lines_told}
use Rattle.mv_lines_back.proofs.LinesFrom.{lines_from-append, lines_told-append}
use Rattle.mv_lines_back.proofs.Written.{uncommented}
use Rattle.mv_entries_back.specs.Printable.{body_sets, rule_sets, Printable}
use Rattle.mv_entries_back.proofs.Sayable.{AreSayable, line_parts}
use Rattle.mv_entries_back.specs.Told.{steps_told}
use Rattle.mv_entries_back.proofs.LineWords.{rule-written}
use Rattle.mv_entries_back.proofs.Saying.{line-said, default-said, note_of, note-back}

-- ---- the entries that lines are, comment lines among them

-- the words behind the first
abbrev behind_first : List (List ℕ) → List (List ℕ)
behind_first [] = []
behind_first (w ∷ ws) = ws

-- the entry that begins at a line, if one does, where this body stands behind it
abbrev entry_at : List (List ℕ) → Said → Body → List Entry
entry_at words (Whole rule) body = Applied rule ∷ []
entry_at words (Begins head) body = Applied (rule_of head body) ∷ []
entry_at words _ body = if is_comment words then Noted (note_of (behind_first words)) ∷ [] else []

-- the entries that lines are
abbrev pub entries_of : List LexLine → List Entry
entries_of [] = []
entries_of (l ∷ ls) = entry_at l.words (said l.words) (front_body ls) ++ entries_of ls

-- ---- bodies

-- lines that begin with a body, behind which the rest stands: no rule begins in the body
record BeginsWith (body : Body) (lines rest : List LexLine) : Type 0 where
  front : front_body lines ≡ body
  steps : steps_of lines ≡ steps_of rest
  entries : entries_of lines ≡ entries_of rest
  faultless : (rule : ℕ) → fault_from (InBody rule) lines ≡ fault_from Outside rest

body-begins : (number : ℕ) (lines : List BodyLine) (default : Option ℕ) (rest : List LexLine) → AreSayable (body_sets (record { lines = lines; default = default })) → BeginsWith (record { lines = lines; default = default }) (lines_from number (body_lines (record { lines = lines; default = default })) ++ rest) rest
unfolding keyword_of
body-begins number [] None rest sets = record { front = refl; steps = refl; entries = refl; faultless = λ rule. refl }
body-begins number [] (Some set) rest sets =
    let says = default-said set sets.0 in
    record {
      front = rw says refl;
      steps = rw says refl;
      entries = rw says refl;
      faultless = λ rule. rw says refl;
    }
body-begins number (l ∷ lines) default rest sets =
    let set = line_parts l lines default sets in
    let says = line-said l set.0 in
    let more = body-begins (number + 1) lines default rest set.1 in
    record {
      front = rw (says, more.front) refl;
      steps = rw says more.steps;
      entries = rw says more.entries;
      faultless = λ rule. rw says (more.faultless rule);
    }

-- ---- rules

-- lines that begin with a rule, behind which the rest stands
record Lists (number : ℕ) (rule : Rule) (lines rest : List LexLine) : Type 0 where
  steps : steps_of lines ≡ record { line = number; rule = rule } ∷ steps_of rest
  entries : entries_of lines ≡ Applied rule ∷ entries_of rest
  faultless : fault_from Outside lines ≡ fault_from Outside rest

rule-lists : (number : ℕ) (rule : Rule) (rest : List LexLine) → AreSayable (rule_sets rule) → is_sayable_form rule ≡ true → Lists number rule (lines_from number (rule_lines rule) ++ rest) rest
unfolding keyword_of
rule-lists number (Remove net) rest sets form = record { steps = refl; entries = refl; faultless = refl }
rule-lists number (Wire net) rest sets form = record { steps = refl; entries = refl; faultless = refl }
rule-lists number (Collapse net) rest sets form = record { steps = refl; entries = refl; faultless = refl }
rule-lists number (Add net body) rest sets form =
    let begins = body-begins (number + 1) body.lines body.default rest sets in
    record {
      steps = rw (begins.front, begins.steps) refl;
      entries = rw (begins.front, begins.entries) refl;
      faultless = begins.faultless number;
    }
rule-lists number (Divide net by body) rest sets form =
    let begins = body-begins (number + 1) body.lines body.default rest sets in
    record {
      steps = rw (begins.front, begins.steps) refl;
      entries = rw (begins.front, begins.entries) refl;
      faultless = begins.faultless number;
    }
rule-lists number (Narrow net d u body) rest sets form =
    let says = said-narrow net d u form in
    let begins = body-begins (number + 1) body.lines body.default rest sets in
    record {
      steps = rw (says, begins.front, begins.steps) refl;
      entries = rw (says, begins.front, begins.entries) refl;
      faultless = rw says (begins.faultless number);
    }
rule-lists number (Merge net gone into) rest sets form =
    let says = said-merge net gone into form in record { steps = rw says refl; entries = rw says refl; faultless = rw says refl }
rule-lists number (Encode net names list) rest sets form =
    let says = said-encode net names list form in record { steps = rw says refl; entries = rw says refl; faultless = rw says refl }
rule-lists number (Fill net out) rest sets form =
    let says = said-fill net out sets.0 in record { steps = rw says refl; entries = rw says refl; faultless = rw says refl }

-- ---- entries

-- lines that begin with those of an entry are that entry and the others
entry-first : (number : ℕ) (e : Entry) (rest : List LexLine) → Printable e → entries_of (lines_from number (entry_lines e) ++ rest) ≡ e ∷ entries_of rest
unfolding keyword_of
entry-first number (Applied rule) rest is = (rule-lists number rule rest (recursion_from_All IsSayable (rule_sets rule) is.sets) is.form).entries
entry-first number (Noted note) rest is = ap (λ m. Noted m ∷ entries_of rest) (note-back note is.numbers)

-- entries are the entries of their lines
pub entries-back : (number : ℕ) (es : List Entry) → AllByRecursion Printable es → entries_of (lines_from number (flat_map entry_lines es)) ≡ es
entries-back number [] all = refl
entries-back number (e ∷ es) all =
    let after = number + length (entry_lines e) in
    ap entries_of (lines_from-append number (entry_lines e) (flat_map entry_lines es))
    ∙ (entry-first number e (lines_from after (flat_map entry_lines es)) all.0 ∙ ap (λ fs. e ∷ fs) (entries-back after es all.1))

-- the lines of entries without their comment lines
pub record AreListed (number : ℕ) (es : List Entry) (lines : List LexLine) : Type 0 where
  pub steps : steps_of lines ≡ steps_told number es
  pub faultless : fault_from Outside lines ≡ None

-- the lines that are told of a rule and what stands behind it
rule_lines-told : (number : ℕ) (rule : Rule) (ls : List (List (List ℕ))) → Printable (Applied rule) → lines_told number (rule_lines rule ++ ls) ≡ lines_from number (rule_lines rule) ++ lines_told (number + length (rule_lines rule)) ls
rule_lines-told number rule ls is =
    lines_told-append number (rule_lines rule) ls ∙ ap (λ ms. ms ++ lines_told (number + length (rule_lines rule)) ls) (uncommented number (rule_lines rule) (rule-written rule is))

pub listed : (number : ℕ) (es : List Entry) → AllByRecursion Printable es → AreListed number es (lines_told number (flat_map entry_lines es))
listed number [] all = record { steps = refl; faultless = refl }
listed number (Applied rule ∷ es) all =
    let after = number + length (rule_lines rule) in
    let told = rule_lines-told number rule (flat_map entry_lines es) all.0 in
    let first = rule-lists number rule (lines_told after (flat_map entry_lines es)) (recursion_from_All IsSayable (rule_sets rule) all.0.sets) all.0.form in
    let more = listed after es all.1 in
    record {
      steps = ap steps_of told ∙ (first.steps ∙ ap (λ ss. record { line = number; rule = rule } ∷ ss) more.steps);
      faultless = ap (fault_from Outside) told ∙ (first.faultless ∙ more.faultless);
    }
listed number (Noted note ∷ es) all = let more = listed (number + 1) es all.1 in record { steps = more.steps; faultless = more.faultless }
