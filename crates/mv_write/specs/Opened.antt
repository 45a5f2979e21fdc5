-- The text of a network behind its beginning, which is in the first piece that is put.
use Rattle.std.specs.Prelude.{ℕ, List, [], ◌∷◌, ◌++◌, codes}
use Rattle.std.specs.List.{flat_map}
use Rattle.mv_lex.specs.Text.{line_text}
use Rattle.mv_net.specs.declared.parts.NetParts.{NetParts}
use Rattle.mv_text.specs.Text.{names_of}

-- the lines of the root, the inputs and the outputs behind the first word and the space that
-- follows it
unfoldable pub ports_text : NetParts → List ℕ
ports_text net =
    (net.root ++ 10 ∷ [])
    ++ (line_text (codes ".inputs" ∷ names_of net.nets net.inputs)
    ++ line_text (codes ".outputs" ∷ names_of net.nets net.outputs))

-- the text of a network, with these lines between the outputs and the end, behind its first word
-- and the space that follows it
abbrev pub unopened : NetParts → List (List (List ℕ)) → List ℕ
unopened net inner = ports_text net ++ (flat_map line_text inner ++ codes ".end\n")
