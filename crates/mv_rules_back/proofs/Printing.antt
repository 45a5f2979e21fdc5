-- Rules that apply can be printed, one alone and in turn, with notes between them.
use Rattle.std.proofs.Common.{Bool, List, [], ◌∷◌, All, refl}
use Rattle.std.proofs.lemmas.List.Elements.{All-nil, All-cons, All-head, All-tail}
use Rattle.mv_entry.specs.declared.rule.Rule.{Rule}
use Rattle.mv_entry.specs.Entries.{Entry, Applied, Noted, rules_of}
use Rattle.mv_net.specs.declared.parts.NetParts.{NetParts}
use Rattle.mv_net.specs.Formed.{WellFormed}
use Rattle.mv_pass.specs.Going.{Goes}
use Rattle.mv_pass.proofs.Going.{goes_replays}
use Rattle.mv_rules.specs.Applies.{Applies}
use Rattle.mv_rules.specs.Replaying.{Replays}
use Rattle.mv_rules.proofs.Kept.{kept_formed}
use Rattle.mv_rules.proofs.Spoken.{rule_passes}
use Rattle.mv_entries_back.specs.Printable.{is_text_name, Printable}
use Rattle.mv_rules_back.specs.Names.{HasWordNames}
use Rattle.mv_rules_back.specs.Notes.{notes_of, IsPrintableNote}
use Rattle.mv_rules_back.proofs.Short.{words_kept}
use Rattle.mv_rules_back.proofs.Plain.{text_passes}
use Rattle.mv_rules_back.proofs.Sayable.{rule_sayable, rule_formed}

pub applied_printable : (free : Bool) (rule : Rule) (old new : NetParts) → WellFormed old → HasWordNames old.nets → Applies free rule old new → Printable (Applied rule)
applied_printable free rule old new formed names p = record {
  names = rule_passes is_text_name old formed (text_passes old.nets names) free rule new p;
  sets = rule_sayable old formed free rule new p;
  numbers = refl;
  form = rule_formed old formed free rule new p;
}

pub replayed_printable : (free : Bool) (es : List Entry) (old new : NetParts) → WellFormed old → HasWordNames old.nets → All IsPrintableNote (notes_of es) → Replays free (rules_of es) old new → All Printable es
replayed_printable free [] old new formed names notes p = All-nil Printable
replayed_printable free (Applied rule ∷ es) old new formed names notes (mid, (applies, rest)) =
    All-cons Printable (Applied rule) es (applied_printable free rule old mid formed names applies)
    (replayed_printable free es mid new (kept_formed free rule old mid formed applies) (words_kept free rule old mid names applies) notes rest)
replayed_printable free (Noted note ∷ es) old new formed names notes p =
    All-cons Printable (Noted note) es (All-head IsPrintableNote note (notes_of es) notes)
    (replayed_printable free es old new formed names (All-tail IsPrintableNote note (notes_of es) notes) p)

-- whatever the law of a command, its entries can be printed if its notes can
pub goes_printable : (free : Bool) (Lawful : NetParts → Entry → Type 0) (old new : NetParts) (es : List Entry) → WellFormed old → HasWordNames old.nets → All IsPrintableNote (notes_of es) → Goes free Lawful old es new → All Printable es
goes_printable free Lawful old new es formed names notes goes = replayed_printable free es old new formed names notes (goes_replays free Lawful old new es goes)
