-- Rules that are applied one after the other.
use Rattle.std.specs.Prelude.{◌≡◌, Bool, List, [], ◌∷◌}
use Rattle.mv_entry.specs.declared.rule.Rule.{Rule}
use Rattle.mv_net.specs.declared.parts.NetParts.{NetParts}
use Rattle.mv_rules.specs.Applies.{Applies}

-- the rules apply in turn, the first to the old network, and the new one is what the last leaves
abbrev pub Replays : Bool → List Rule → NetParts → NetParts → Type 0
Replays free [] old new = new ≡ old
Replays free (rule ∷ rules) old new = (mid : NetParts)
    × (Applies free rule old mid × Replays free rules mid new)
