-- What rules in turn leave of a network that can be written as BLIF.
use Rattle.std.proofs.Common.{◌≡◌, ℕ, Bool, Some, List}
use Rattle.mv_base.specs.Meaning.{SameMeaning}
use Rattle.mv_blif_back.specs.Said.{AreSaid, IsBinary, inits}
use Rattle.mv_chosen.specs.Written.{AreFirstValues, written_nets}
use Rattle.mv_cover.specs.declared.cover.Cover.{Cover}
use Rattle.mv_cover.specs.Plain.{AllowsOne}
use Rattle.mv_entry.specs.declared.rule.Rule.{Rule}
use Rattle.mv_latch.specs.declared.latch.BlifLatch.{BlifLatch}
use Rattle.mv_net.specs.declared.parts.NetParts.{NetParts}
use Rattle.mv_net.specs.Allowed.{of_net}
use Rattle.mv_net.specs.Changes.{with_nets}
use Rattle.mv_net.specs.Formed.{WellFormed}
use Rattle.mv_net.specs.Nets.{slot, table_in, interface_of}
use Rattle.mv_rules.specs.Replaying.{Replays}
use Rattle.mv_rules.proofs.Replayed.{replayed_formed, replayed_latches, replayed_refines}
use Rattle.mv_rules.proofs.Staying.{replays_binary, replays_total}
use Rattle.mv_blif_rules.proofs.Carried.{binary_alike, are_said_alike, written_means}

looks_alike : (free : Bool) (rules : List Rule) (first net : NetParts) → WellFormed first → Replays free rules first net → interface_of net ≡ interface_of first
unfolding of_net
looks_alike free rules first net formed replays = (replayed_refines free rules first net formed replays).narrows.same

pub replayed_binary : (free : Bool) (rules : List Rule) (first net : NetParts) → WellFormed first → IsBinary first → Replays free rules first net → IsBinary net
replayed_binary free rules first net formed binary replays =
    binary_alike net first (looks_alike free rules first net formed replays)
    (replays_binary free rules first net (record { each = binary.few }) replays).each
    (replays_total free rules first net formed (record { each = binary.total }) replays).each
    binary

pub replayed_said : (free : Bool) (rules : List Rule) (first net : NetParts) (bs : List BlifLatch) → WellFormed first → AreSaid first first.latches bs → Replays free rules first net → AreSaid net net.latches bs
replayed_said free rules first net bs formed said replays =
    are_said_alike net first bs (looks_alike free rules first net formed replays) (replayed_latches free rules first net replays) said

pub replayed_written : (free : Bool) (rules : List Rule) (first net : NetParts) (bs : List BlifLatch) → WellFormed first → IsBinary first → AreFirstValues first (inits bs) → ((n : ℕ) (c : Cover) → table_in (slot first.nets n) ≡ Some c → AllowsOne c) → Replays free rules first net
    → SameMeaning (of_net (with_nets net (written_nets net (inits bs)))) (of_net first)
replayed_written free rules first net bs formed binary are one replays =
    written_means free net first (inits bs) (replayed_formed free rules first net formed replays) (replayed_binary free rules first net formed binary replays) (replayed_latches free rules first net replays)
    (replayed_refines free rules first net formed replays) formed binary are one
