-- The text of an answer.
use Rattle.std.specs.Prelude.{ℕ, List, ◌∷◌, ◌++◌, codes, decimal, map}
use Rattle.mv_lex.specs.Text.{line_text}
use Rattle.mv_verify.specs.declared.answer.Point.{Point}
use Rattle.mv_verify.specs.declared.answer.Choice.{Choice}
use Rattle.mv_verify.specs.declared.answer.Answer.{Answer}
use Rattle.mv_verify.specs.declared.answer.Answer.TheVariants.{Yes, Interface, Extra, Lost}

-- a line: a word, and values as position numbers
unfoldable pub values_line : List ℕ → List ℕ → List ℕ
values_line word values = line_text (word ∷ map decimal values)

-- the lines of a point
unfoldable pub point_text : Point → List ℕ
point_text p = values_line (codes "inputs") p.inputs ++ values_line (codes "latches") p.latches

-- the lines of a choice
unfoldable pub choice_text : Choice → List ℕ
choice_text c = values_line (codes "outputs") c.outputs ++ (values_line (codes "next") c.next
    ++ values_line (codes "resets") c.resets)

-- an answer: yes, or no with what differs and the lines of the evidence
abbrev pub answer_text : Answer → List ℕ
answer_text Yes = codes "yes\n"
answer_text Interface = codes "no interface\n"
answer_text (Extra p c) = codes "no extra\n" ++ (point_text p ++ choice_text c)
answer_text (Lost p) = codes "no none\n" ++ point_text p
