-- Sets that can be said, one after the other: of two lists, and of the parts of a body.
use Rattle.std.proofs.Common.{ℕ, List, [], ◌∷◌, ◌++◌, map, subst, append_assoc}
use Rattle.std.specs.Prelude.{Option}
use Rattle.std.specs.List.{flat_map, AllByRecursion}
use Rattle.std.specs.Option.{option_to_list}
use Rattle.std.proofs.lemmas.List.Elements.{All-from_recursion}
use Rattle.mv_entry.specs.declared.rule.BodyLit.{BodyLit}
use Rattle.mv_entry.specs.declared.rule.BodyLine.{BodyLine}
use Rattle.mv_step.specs.Printed.{IsSayable, IsSayableLine}
use Rattle.mv_entries_back.specs.Printable.{line_sets, body_sets}

abbrev pub AreSayable : List ℕ → Type 0
AreSayable sets = AllByRecursion IsSayable sets

parts : (xs ys : List ℕ) → AreSayable (xs ++ ys) → AreSayable xs × AreSayable ys
parts [] ys all = (tt, all)
parts (x ∷ xs) ys all = let rest = parts xs ys all.1 in ((all.0, rest.0), rest.1)

-- the sets of the first line of a body, and those of the rest
pub line_parts : (l : BodyLine) (lines : List BodyLine) (default : Option ℕ) → AreSayable (body_sets (record { lines = l ∷ lines; default = default })) → AreSayable (line_sets l) × AreSayable (body_sets (record { lines = lines; default = default }))
line_parts l lines default all =
    parts (line_sets l) (body_sets (record { lines = lines; default = default })) (subst AreSayable (append_assoc (line_sets l) (flat_map line_sets lines) (option_to_list default)) all)

lits-sayable : (lits : List BodyLit) (out : ℕ) → AreSayable (map (λ (m : BodyLit). m.set) lits ++ out ∷ []) → AllByRecursion (λ (m : BodyLit). IsSayable m.set) lits × IsSayable out
lits-sayable [] out all = (tt, all.0)
lits-sayable (l ∷ lits) out all = let rest = lits-sayable lits out all.1 in ((all.0, rest.0), rest.1)

pub line-sayable : (l : BodyLine) → AreSayable (line_sets l) → IsSayableLine l
line-sayable l all =
    let both = lits-sayable l.lits l.out all in
    record { lits = All-from_recursion (λ (m : BodyLit). IsSayable m.set) l.lits both.0; out = both.1 }
