-- The lines of rules, as they are printed, read back as those rules.
use Rattle.std.proofs.Common.{◌≡◌, ◌∙◌, ℕ, true, false, not, ◌&&◌, ◌||◌, Option, Some, None, List, [], ◌∷◌, ◌++◌, length, drop, map, codes, decimal, refl, ap, append_assoc, arith}
use Rattle.std.specs.Prelude.{nat_lt}
use Rattle.std.specs.List.{flat_map, list_all, All}
use Rattle.std.specs.Option.{option_or, IfSome}
use Rattle.std.proofs.Math.Seq.{take-append_seam, drop-append_seam}
use Rattle.std.proofs.lemmas.Bool.{and_parts, le-ltb, or_from, cond-false}
use Rattle.std.proofs.lemmas.List.{length-append}
use Rattle.std.proofs.lemmas.List.Elements.{All-head, All-tail}
use Rattle.mv_base.specs.declared.number.Value.{Value}
use Rattle.mv_lex.specs.declared.lines.LexLine.{LexLine}
use Rattle.mv_entry.specs.declared.rule.BodyLine.{BodyLine}
use Rattle.mv_entry.specs.declared.rule.Body.{Body}
use Rattle.mv_entry.specs.declared.rule.Code.{Code}
use Rattle.mv_entry.specs.declared.rule.Rule.{Rule}
use Rattle.mv_entry.specs.declared.rule.Rule.TheVariants.{Remove, Add, Divide, Wire, Collapse, Narrow, Merge, Encode, Fill}
use Rattle.mv_entry.specs.Entries.{set_word, line_words, default_lines, body_lines, into_words, code_word, rule_lines}
use Rattle.mv_step.specs.declared.step.Step.{Step}
use Rattle.mv_step.specs.declared.step.Head.{Head}
use Rattle.mv_step.specs.declared.step.Head.TheVariants.{Add as add_to, Divide as divide_by, Narrow as narrow_to}
use Rattle.mv_step.specs.declared.said.Said.{Said}
use Rattle.mv_step.specs.declared.said.Said.TheVariants.{Whole, Begins, Line, Default, End, Nothing}
use Rattle.mv_step.specs.Lines.{keyword_of, line_or_nothing, default_said, narrow_said, merge_said, merge_into_said, are_codes, code_of, encode_said, fill_said, said}
use Rattle.mv_step.specs.Certificates.{Place, Outside, InBody, BehindDefault, fault_at, place_behind, fault_from, fault_of, with_part, front_body, rule_of, step_at, steps_of}
use Rattle.mv_step.specs.Printed.{IsSayable, IsSayableLine, IsSayableBody, is_sayable_number, is_sayable_code, is_sayable_form, IsSayableRule, Lists}
use Rattle.mv_step.proofs.Written.{number_said-decimal, set_said-set_word, line_said-words, codes-are, codes-back}

-- ---- what printed lines say

said-line : (l : BodyLine) → IsSayableLine l → said (line_words l) ≡ Line l
unfolding keyword_of
said-line l h = ap line_or_nothing (line_said-words l.lits l.out h.lits h.out)

said-default : (set : ℕ) → IsSayable set → said (codes "default" ∷ set_word set ∷ []) ≡ Default set
unfolding keyword_of
said-default set h = ap default_said (set_said-set_word set h)

said-end : said (codes "end" ∷ []) ≡ End
unfolding keyword_of
said-end = refl

said-remove : (net : List ℕ) → said (codes "remove" ∷ net ∷ []) ≡ Whole (Remove net)
unfolding keyword_of
said-remove net = refl

said-wire : (net : List ℕ) → said (codes "wire" ∷ net ∷ []) ≡ Whole (Wire net)
unfolding keyword_of
said-wire net = refl

said-collapse : (net : List ℕ) → said (codes "collapse" ∷ net ∷ []) ≡ Whole (Collapse net)
unfolding keyword_of
said-collapse net = refl

said-add : (net : List ℕ) → said (codes "add" ∷ net ∷ []) ≡ Begins (add_to net)
unfolding keyword_of
said-add net = refl

said-divide : (net by : List ℕ) → said (codes "divide" ∷ net ∷ by ∷ []) ≡ Begins (divide_by net by)
unfolding keyword_of
said-divide net by = refl

-- numbers and codes that a line can say
pub said-narrow : (net : List ℕ) (d u : ℕ) → (is_sayable_number d && is_sayable_number u) ≡ true → said (codes "narrow" ∷ net ∷ decimal d ∷ decimal u ∷ []) ≡ Begins (narrow_to net d u)
unfolding keyword_of
said-narrow net d u h =
    let both = and_parts (is_sayable_number d) (is_sayable_number u) h in
    λ i. narrow_said net (number_said-decimal d both.0 i) (number_said-decimal u both.1 i)

pub said-merge : (net : List ℕ) (gone : Value) (into : Option Value) → is_sayable_form (Merge net gone into) ≡ true → said (codes "merge" ∷ net ∷ decimal gone.0 ∷ into_words into) ≡ Whole (Merge net gone into)
unfolding keyword_of
said-merge net gone None h = ap (merge_said net) (number_said-decimal gone.0 h)
said-merge net gone (Some into) h =
    let both = and_parts (is_sayable_number gone.0) (is_sayable_number into.0) h in
    λ i. merge_into_said net (number_said-decimal gone.0 both.0 i) (number_said-decimal into.0 both.1 i)

pub said-fill : (net : List ℕ) (out : ℕ) → IsSayable out → said (codes "fill" ∷ net ∷ set_word out ∷ []) ≡ Whole (Fill net out)
unfolding keyword_of
said-fill net out h = ap (fill_said net) (set_said-set_word out h)

-- names with codes behind them
encoded : (net : List ℕ) (names : List (List ℕ)) (list : List Code) → list_all (is_sayable_code (length names)) list ≡ true → encode_said net (Some (length names)) (names ++ map code_word list) ≡ Whole (Encode net names list)
encoded net names list h =
    let words = names ++ map code_word list in
    let few : nat_lt (length words) (length names) ≡ false = let size = length-append names (map code_word list) in le-ltb (length words) (length names) (omega (arith, size)) in
    let behind : drop (length names) words ≡ map code_word list = drop-append_seam names (map code_word list) in
    let are : not (are_codes (length names) (drop (length names) words)) ≡ false = ap (λ ws. not (are_codes (length names) ws)) behind ∙ ap not (codes-are (length names) list h) in
    cond-false (nat_lt (length words) (length names) || not (are_codes (length names) (drop (length names) words))) Nothing _ (or_from _ _ few are)
    ∙ (λ i. Whole (Encode net (take-append_seam names (map code_word list) i) (map code_of (behind i))))
    ∙ ap (λ cs. Whole (Encode net names cs)) (codes-back list)

pub said-encode : (net : List ℕ) (names : List (List ℕ)) (list : List Code) → is_sayable_form (Encode net names list) ≡ true → said (codes "encode" ∷ net ∷ decimal (length names) ∷ names ++ map code_word list) ≡ Whole (Encode net names list)
unfolding keyword_of
said-encode net names list h =
    let both = and_parts (is_sayable_number (length names)) (list_all (is_sayable_code (length names)) list) h in
    ap (λ n. encode_said net n (names ++ map code_word list)) (number_said-decimal (length names) both.0) ∙ encoded net names list both.1

-- ---- lines with these words

abbrev words_of : List LexLine → List (List (List ℕ))
words_of lines = map (λ (l : LexLine). l.words) lines

-- a line, and those behind it, where the words are known
record Front (lines : List LexLine) (words : List (List ℕ)) (rest : List (List (List ℕ))) : Type 0 where
  line : LexLine
  others : List LexLine
  lines_are : lines ≡ line ∷ others
  words_are : line.words ≡ words
  rest_are : words_of others ≡ rest

front : (lines : List LexLine) (words : List (List ℕ)) (rest : List (List (List ℕ))) → words_of lines ≡ words ∷ rest → Front lines words rest
front [] words rest e = cc
front (l ∷ ls) words rest e = record { line = l; others = ls; lines_are = refl; words_are = cc; rest_are = cc }

-- what a line that says this gives
fault-of : (place : Place) (l : LexLine) (ls : List LexLine) (s : Said) → said l.words ≡ s → fault_from place (l ∷ ls) ≡ option_or (fault_at l.number place s) (fault_from (place_behind l.number place s) ls)
fault-of place l ls s e = ap (λ t. option_or (fault_at l.number place t) (fault_from (place_behind l.number place t) ls)) e

body-of : (l : LexLine) (ls : List LexLine) (s : Said) → said l.words ≡ s → front_body (l ∷ ls) ≡ with_part s (front_body ls)
body-of l ls s e = ap (λ t. with_part t (front_body ls)) e

steps-of : (l : LexLine) (ls : List LexLine) (s : Said) → said l.words ≡ s → steps_of (l ∷ ls) ≡ step_at l.number s (front_body ls) ++ steps_of ls
steps-of l ls s e = ap (λ t. step_at l.number t (front_body ls) ++ steps_of ls) e

-- ---- a body

-- lines in the body of a rule that end it with this body, and those behind it
record Ends (place : Place) (lines : List LexLine) (body : Body) (rest : List (List (List ℕ))) : Type 0 where
  others : List LexLine
  rest_are : words_of others ≡ rest
  fault_is : fault_from place lines ≡ fault_from Outside others
  body_is : front_body lines ≡ body
  steps_are : steps_of lines ≡ steps_of others

end-line : (n : ℕ) (rest : List (List (List ℕ))) (lines : List LexLine) → words_of lines ≡ (codes "end" ∷ []) ∷ rest → Ends (InBody n) lines (record { lines = []; default = None }) rest × Ends (BehindDefault n) lines (record { lines = []; default = None }) rest
end-line n rest lines e =
    let f = front lines (codes "end" ∷ []) rest e in
    let s : said f.line.words ≡ End = ap said f.words_are ∙ said-end in
    let body = ap front_body f.lines_are ∙ body-of f.line f.others End s in
    let steps = ap steps_of f.lines_are ∙ steps-of f.line f.others End s in (
      record { others = f.others; rest_are = f.rest_are; fault_is = ap (fault_from (InBody n)) f.lines_are ∙ fault-of (InBody n) f.line f.others End s; body_is = body; steps_are = steps },
      record { others = f.others; rest_are = f.rest_are; fault_is = ap (fault_from (BehindDefault n)) f.lines_are ∙ fault-of (BehindDefault n) f.line f.others End s; body_is = body; steps_are = steps },
    )

default-line : (n : ℕ) (default : Option ℕ) (rest : List (List (List ℕ))) (lines : List LexLine) → IfSome default IsSayable → words_of lines ≡ default_lines default ++ (codes "end" ∷ []) ∷ rest → Ends (InBody n) lines (record { lines = []; default = default }) rest
default-line n None rest lines h e = (end-line n rest lines e).0
default-line n (Some set) rest lines h e =
    let f = front lines (codes "default" ∷ set_word set ∷ []) ((codes "end" ∷ []) ∷ rest) e in
    let s : said f.line.words ≡ Default set = ap said f.words_are ∙ said-default set h in
    let end = (end-line n rest f.others f.rest_are).1 in
    record {
      others = end.others;
      rest_are = end.rest_are;
      fault_is = ap (fault_from (InBody n)) f.lines_are ∙ fault-of (InBody n) f.line f.others (Default set) s ∙ end.fault_is;
      body_is = ap front_body f.lines_are ∙ body-of f.line f.others (Default set) s;
      steps_are = ap steps_of f.lines_are ∙ steps-of f.line f.others (Default set) s ∙ end.steps_are;
    }

body-lines : (n : ℕ) (ls : List BodyLine) (default : Option ℕ) (rest : List (List (List ℕ))) (lines : List LexLine) → All IsSayableLine ls → IfSome default IsSayable → words_of lines ≡ map line_words ls ++ (default_lines default ++ (codes "end" ∷ []) ∷ rest) → Ends (InBody n) lines (record { lines = ls; default = default }) rest
body-lines n [] default rest lines each h e = default-line n default rest lines h e
body-lines n (l ∷ ls) default rest lines each h e =
    let f = front lines (line_words l) (map line_words ls ++ (default_lines default ++ (codes "end" ∷ []) ∷ rest)) e in
    let s : said f.line.words ≡ Line l = ap said f.words_are ∙ said-line l (All-head IsSayableLine l ls each) in
    let end = body-lines n ls default rest f.others (All-tail IsSayableLine l ls each) h f.rest_are in
    record {
      others = end.others;
      rest_are = end.rest_are;
      fault_is = ap (fault_from (InBody n)) f.lines_are ∙ fault-of (InBody n) f.line f.others (Line l) s ∙ end.fault_is;
      body_is = ap front_body f.lines_are ∙ body-of f.line f.others (Line l) s ∙ ap (with_part (Line l)) end.body_is;
      steps_are = ap steps_of f.lines_are ∙ steps-of f.line f.others (Line l) s ∙ end.steps_are;
    }

-- the lines of a body in front of others
body-words : (body : Body) (rest : List (List (List ℕ))) → body_lines body ++ rest ≡ map line_words body.lines ++ (default_lines body.default ++ (codes "end" ∷ []) ∷ rest)
body-words body rest =
    append_assoc (map line_words body.lines ++ default_lines body.default) ((codes "end" ∷ []) ∷ []) rest
    ∙ append_assoc (map line_words body.lines) (default_lines body.default) ((codes "end" ∷ []) ∷ rest)

-- ---- a rule

abbrev rules_of : List LexLine → List Rule
rules_of lines = map (λ (s : Step). s.rule) (steps_of lines)

-- lines that begin with those of this rule, and those behind it
record Begin (lines : List LexLine) (rule : Rule) (rest : List (List (List ℕ))) : Type 0 where
  others : List LexLine
  rest_are : words_of others ≡ rest
  fault_is : fault_from Outside lines ≡ fault_from Outside others
  rules_are : rules_of lines ≡ rule ∷ rules_of others

whole-line : (rule : Rule) (words : List (List ℕ)) (rest : List (List (List ℕ))) (lines : List LexLine) → said words ≡ Whole rule → words_of lines ≡ words ∷ rest → Begin lines rule rest
whole-line rule words rest lines says e =
    let f = front lines words rest e in
    let s : said f.line.words ≡ Whole rule = ap said f.words_are ∙ says in
    record {
      others = f.others;
      rest_are = f.rest_are;
      fault_is = ap (fault_from Outside) f.lines_are ∙ fault-of Outside f.line f.others (Whole rule) s;
      rules_are = ap rules_of f.lines_are ∙ ap (map (λ (t : Step). t.rule)) (steps-of f.line f.others (Whole rule) s);
    }

with_body-lines : (head : Head) (body : Body) (words : List (List ℕ)) (rest : List (List (List ℕ))) (lines : List LexLine) → said words ≡ Begins head → IsSayableBody body → words_of lines ≡ words ∷ (body_lines body ++ rest) → Begin lines (rule_of head body) rest
with_body-lines head body words rest lines says h e =
    let f = front lines words (body_lines body ++ rest) e in
    let s : said f.line.words ≡ Begins head = ap said f.words_are ∙ says in
    let end = body-lines f.line.number body.lines body.default rest f.others h.lines h.default (f.rest_are ∙ body-words body rest) in
    record {
      others = end.others;
      rest_are = end.rest_are;
      fault_is = ap (fault_from Outside) f.lines_are ∙ fault-of Outside f.line f.others (Begins head) s ∙ end.fault_is;
      rules_are =
          ap rules_of f.lines_are ∙ ap (map (λ (t : Step). t.rule)) (steps-of f.line f.others (Begins head) s)
          ∙ (λ i. rule_of head (end.body_is i) ∷ map (λ (t : Step). t.rule) (end.steps_are i));
    }

rule-lines : (rule : Rule) (rest : List (List (List ℕ))) (lines : List LexLine) → IsSayableRule rule → words_of lines ≡ rule_lines rule ++ rest → Begin lines rule rest
rule-lines (Remove net) rest lines h e = whole-line (Remove net) _ rest lines (said-remove net) e
rule-lines (Wire net) rest lines h e = whole-line (Wire net) _ rest lines (said-wire net) e
rule-lines (Collapse net) rest lines h e = whole-line (Collapse net) _ rest lines (said-collapse net) e
rule-lines (Add net body) rest lines h e = with_body-lines (add_to net) body _ rest lines (said-add net) h.sets e
rule-lines (Divide net by body) rest lines h e = with_body-lines (divide_by net by) body _ rest lines (said-divide net by) h.sets e
rule-lines (Narrow net d u body) rest lines h e = with_body-lines (narrow_to net d u) body _ rest lines (said-narrow net d u h.form) h.sets e
rule-lines (Merge net gone into) rest lines h e = whole-line (Merge net gone into) _ rest lines (said-merge net gone into h.form) e
rule-lines (Encode net names list) rest lines h e = whole-line (Encode net names list) _ rest lines (said-encode net names list h.form) e
rule-lines (Fill net out) rest lines h e = whole-line (Fill net out) _ rest lines (said-fill net out h.sets) e

-- ---- rules

all-rules : (rules : List Rule) (lines : List LexLine) → All IsSayableRule rules → words_of lines ≡ flat_map rule_lines rules → (fault_from Outside lines ≡ None) × (rules_of lines ≡ rules)
all-rules [] [] each e = (refl, refl)
all-rules [] (l ∷ ls) each e = cc
all-rules (rule ∷ rules) lines each e =
    let b = rule-lines rule (flat_map rule_lines rules) lines (All-head IsSayableRule rule rules each) e in
    let r = all-rules rules b.others (All-tail IsSayableRule rule rules each) b.rest_are in
    (b.fault_is ∙ r.0, b.rules_are ∙ ap (λ rs. rule ∷ rs) r.1)

pub lists_printed : (lines : List LexLine) (rules : List Rule) → All IsSayableRule rules → map (λ (l : LexLine). l.words) lines ≡ flat_map rule_lines rules → Lists lines rules
unfolding fault_of
lists_printed lines rules each e =
    let r = all-rules rules lines each e in
    record {
      faultless = r.0;
      rules_are = r.1;
    }
