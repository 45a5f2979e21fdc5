-- A network, read and judged.
use Rattle.std.proofs.Common.{◌≡◌, ◌⊎◌, ◌∙◌, ℕ, suc, true, List, [], ◌∷◌, Some, None, inl, inr, length, refl, sym, ap, subst}
use Rattle.mv_base.specs.Outside.{Stored}
use Rattle.mv_base.specs.declared.limits.TheConstants.{MAX_NETWORK_BYTES}
use Rattle.mv_lex.specs.declared.fault.LexFault.{LexFault}
use Rattle.mv_lex.specs.declared.lines.LexLine.{LexLine}
use Rattle.mv_lex.specs.Lines.{lines_of, lex_fault}
use Rattle.mv_design.specs.Proper.{numbers_ascend}
use Rattle.mv_latch.specs.declared.latch.BlifLatch.{BlifLatch}
use Rattle.mv_net.specs.declared.parts.FlatLatch.{FlatLatch}
use Rattle.mv_net.specs.declared.parts.NetParts.{NetParts}
use Rattle.mv_net.specs.Formed.{WellFormed}
use Rattle.mv_parse_laws.specs.Lines.{numbers_of}
use Rattle.mv_parse_laws.proofs.FileLines.{file_ascends, lines-ascend}
use Rattle.mv_read.specs.Reads.{IsNetOf}
use Rattle.mv_read.specs.declared.network.NetFault.TheVariants.{Parse as ParseFault, Flat as FlatFault}
use Rattle.mv_read.proofs.OneNetwork.{one_network}
use Rattle.mv_read.proofs.Refused.{refused-excludes}
use Rattle.mv_blif_back.specs.Said.{AreSaid}
use Rattle.mv_blif_read.specs.Reads.{IsBlifNetOf}
use Rattle.mv_blif_read.specs.declared.network.FileNetwork.{FileNetwork}
use Rattle.mv_blif_read.specs.declared.network.BlifNetFault.TheVariants.{Parse as BlifParseFault, Flat as BlifFlatFault}
use Rattle.mv_blif_read.proofs.OneNetwork as blif
use Rattle.mv_blif_read.proofs.Refused as blif_refused
use Rattle.mv_blif_read.proofs.Said.{latches_said}
use Rattle.mv_rules_back.specs.Names.{HasWordNames}
use Rattle.mv_rules_back.proofs.Short.{design_short}
use Rattle.mv_files.specs.FileReading.{Stay, BeganOne}
use Rattle.mv_files.specs.LexedFiles.{WasLexed, HasFault}
use Rattle.mv_format.specs.declared.fault.FileFault.{FileFault}
use Rattle.mv_format.specs.declared.fault.FileFault.TheVariants.{Lex, Parse, Blif, Flat}
use Rattle.mv_format.specs.declared.format.FileFormat.{FileFormat}
use Rattle.mv_format.specs.declared.format.FileFormat.TheVariants as formats
use Rattle.mv_task.specs.declared.stop.Stop.{Stop}
use Rattle.mv_task.specs.declared.stop.Stop.TheVariants.{Refused, Read, Memory}
use Rattle.mv_format.specs.Faults.{net_line}
use Rattle.mv_format.specs.Blif.{blif_lines}
use Rattle.mv_format.specs.BlifMv.{SayNet, blif_mv, blif_mv_lines}
use Rattle.mv_format.specs.Causes.{IsLinesCause}
use Rattle.mv_format.specs.Chosen.{format_of, lines_of_format}
use Rattle.mv_format.specs.Formats.{network_stage}
use Rattle.mv_format.specs.Texts.{LineFormat, IsAccepted, IsNetOfText, HasByteFault, HasLineFault}
use Rattle.mv_task.specs.Sources.{Source, File, Text, IsContent, IsReadWhole}
use Rattle.mv_task.specs.Stops.{Gives, IsCause, RefusesFor, WasBegun}
use Rattle.mv_task.proofs.Contents.{whole_content}

-- ---- the network of lines

-- the network's names are no longer than words
pub network_named : (lines : List LexLine) (net : NetParts) → IsNetOf lines net → HasWordNames net.nets
network_named lines net n = design_short net.nets n.flat.short

pub blif_network_named : (lines : List LexLine) (f : FileNetwork) → IsBlifNetOf lines f → HasWordNames f.net.nets
blif_network_named lines f n = design_short f.net.nets n.flat.short

-- BLIF-MV says nothing of latches
pub network_bare : (lines : List LexLine) (net : NetParts) (latches : List BlifLatch) → IsNetOf lines net → latches ≡ [] → SayNet lines (record { net = net; latches = latches })
network_bare lines net latches n bare = (n, bare)

said_long : (net : NetParts) (ls : List FlatLatch) (bs : List BlifLatch) → AreSaid net ls bs → length bs ≡ length ls
said_long net [] [] h = refl
said_long net [] (b ∷ bs) h = absurd h
said_long net (l ∷ ls) [] h = absurd h
said_long net (l ∷ ls) (b ∷ bs) h = ap suc (said_long net ls bs h.1)

-- BLIF says something of each
pub blif_settings : (lines : List LexLine) (f : FileNetwork) → numbers_ascend (numbers_of lines) ≡ true → IsBlifNetOf lines f → length f.latches ≡ length f.net.latches
blif_settings lines f up n = said_long f.net f.net.latches f.latches (latches_said lines f up n)

-- ---- what formats keep

-- lines that say a network are accepted, say no other, and aren't refused
pub record AreExact (format : LineFormat) : Type 0 where
  pub accepted : (lines : List LexLine) (f : FileNetwork) → format.IsNet lines f → format.Accepts lines
  pub only : (lines : List LexLine) (one other : FileNetwork) → numbers_ascend (numbers_of lines) ≡ true → format.IsNet lines one → format.IsNet lines other → one ≡ other
  pub excludes : (lines : List LexLine) (f : FileFault) → numbers_ascend (numbers_of lines) ≡ true → format.Refuses lines f → format.Accepts lines → ⊥

mv_only : (lines : List LexLine) (one other : FileNetwork) → numbers_ascend (numbers_of lines) ≡ true → SayNet lines one → SayNet lines other → one ≡ other
mv_only lines one other up p q =
    let net : one.net ≡ other.net = one_network lines one.net other.net up p.0 q.0 in
    let latches : one.latches ≡ other.latches = p.1 ∙ sym q.1 in
    λ i. record { net = net i; latches = latches i }

mv_excludes : (lines : List LexLine) (f : FileFault) → numbers_ascend (numbers_of lines) ≡ true → blif_mv_lines.Refuses lines f → blif_mv_lines.Accepts lines → ⊥
mv_excludes lines (Lex f) up r a = r
mv_excludes lines (Parse f) up r a = refused-excludes lines (ParseFault f) up r (λ e. cc) a
mv_excludes lines (Blif f) up r a = r
mv_excludes lines (Flat f) up r a = refused-excludes lines (FlatFault f) up r (λ e. cc) a

mv_exact : AreExact blif_mv_lines
mv_exact = record {
  accepted = λ lines f p. let n = p.0 in record { design = n.design; is = n.is; within = n.within; sound = n.flat.sound; limits = n.flat.limits; fits = n.flat.fits };
  only = mv_only;
  excludes = mv_excludes;
}

blif_excludes : (lines : List LexLine) (f : FileFault) → numbers_ascend (numbers_of lines) ≡ true → blif_lines.Refuses lines f → blif_lines.Accepts lines → ⊥
blif_excludes lines (Lex f) up r a = r
blif_excludes lines (Parse f) up r a = r
blif_excludes lines (Blif f) up r a = blif_refused.refused-excludes lines (BlifParseFault f) up r (λ e. cc) a
blif_excludes lines (Flat f) up r a = blif_refused.refused-excludes lines (BlifFlatFault f) up r (λ e. cc) a

blif_exact : AreExact blif_lines
blif_exact = record {
  accepted = λ lines f n. record { design = n.design; is = n.is; within = n.within; sound = n.flat.sound; limits = n.flat.limits; fits = n.flat.fits };
  only = blif.one_network;
  excludes = blif_excludes;
}

pub exact : (format : FileFormat) → AreExact (lines_of_format format)
exact formats.BlifMv = mv_exact
exact formats.Blif = blif_exact

-- a network that was made is of a text that is accepted, and is the only one
pub text_accepted : (format : FileFormat) (text : List ℕ) (f : FileNetwork) → IsNetOfText (lines_of_format format) text f → IsAccepted (lines_of_format format) text
text_accepted format text f p = record { lexed = p.lexed; form = (exact format).accepted (lines_of text) f p.net_of }

pub text_only : (format : FileFormat) (text : List ℕ) (one other : FileNetwork) → IsNetOfText (lines_of_format format) text one → IsNetOfText (lines_of_format format) text other
    → one ≡ other
text_only format text one other p q = (exact format).only (lines_of text) one other (lines-ascend text) p.net_of q.net_of

-- ---- what is refused

bytes_exclude : (bytes : List ℕ) (f : FileFault) → HasByteFault bytes f → lex_fault MAX_NETWORK_BYTES bytes ≡ None → ⊥
bytes_exclude bytes (Lex f) h none = cc
bytes_exclude bytes (Parse f) h none = h
bytes_exclude bytes (Blif f) h none = h
bytes_exclude bytes (Flat f) h none = h

-- what is refused for a fault isn't accepted
refuses_none : (format : FileFormat) (bytes : List ℕ) (f : FileFault) → HasByteFault bytes f ⊎ HasLineFault (lines_of_format format) bytes f → IsAccepted (lines_of_format format) bytes → ⊥
refuses_none format bytes f (inl h) a = bytes_exclude bytes f h a.lexed
refuses_none format bytes f (inr h) a = (exact format).excludes (lines_of bytes) f (lines-ascend bytes) h.refused a.form

faulty : (format : FileFormat) (s : Source) (files : Stored) (content : List ℕ) (f : FileFault) → IsContent s files content
    → HasByteFault content f ⊎ HasLineFault (lines_of_format format) content f → RefusesFor net_line (network_stage (format_of format) s) files f
faulty format s files content f is r =
    record { faulty = record { content = content; is = is; refused = refuses_none format content f r; fault = record { fault = f; refuses = r; is = refl } } }

-- what was read to its end, of which these are the lines
module _ (format : FileFormat) (s : Source) (old new : Stored) (lines : List LexLine) (content : List ℕ) (read : IsReadWhole s old new content) (lexed : lex_fault MAX_NETWORK_BYTES content ≡ None) (are : lines ≡ lines_of content) where
  gives : (f : FileNetwork) → (lines_of_format format).IsNet lines f → WellFormed f.net → Gives (format_of format).IsNet (network_stage (format_of format) s) old new f
  gives f h formed =
      let said : IsNetOfText (lines_of_format format) content f = record { lexed = lexed; net_of = subst (λ l. (lines_of_format format).IsNet l f) are h; formed = formed } in
      record { content = content; read = read; accepted = text_accepted format content f said; said = said }

  stops : (stop : Stop FileFault) → IsLinesCause (lines_of_format format) lines stop → IsCause net_line (network_stage (format_of format) s) old new stop
  stops (Refused f) h =
      faulty format s old content f (whole_content s old new content read) (inr (record { lexed = lexed; refused = subst (λ l. (lines_of_format format).Refuses l f) are h }))
  stops Read h = absurd h
  stops Memory h = tt

-- ---- the lines of a file

pub file_ordered : (name : List ℕ) (old new : Stored) (lines : List LexLine) → WasLexed old new name MAX_NETWORK_BYTES lines → numbers_ascend (numbers_of lines) ≡ true
file_ordered name old new lines w = file_ascends lines (record { bytes = w.content; are = w.lines_are })

module _ (format : FileFormat) (name : List ℕ) (old new : Stored) where
  pub file_gives : (lines : List LexLine) (f : FileNetwork) → WasLexed old new name MAX_NETWORK_BYTES lines → (lines_of_format format).IsNet lines f → WellFormed f.net
      → Gives (format_of format).IsNet (network_stage (format_of format) (File name)) old new f
  file_gives lines f w h formed = gives format (File name) old new lines w.content w.read w.lexed w.lines_are f h formed

  pub file_stops : (lines : List LexLine) (stop : Stop FileFault) → WasLexed old new name MAX_NETWORK_BYTES lines → IsLinesCause (lines_of_format format) lines stop
      → IsCause net_line (network_stage (format_of format) (File name)) old new stop
  file_stops lines stop w h = stops format (File name) old new lines w.content w.read w.lexed w.lines_are stop h

  pub file_begun : Stay old new → BeganOne old new → WasBegun (network_stage (format_of format) (File name)) old new
  file_begun stay began = record { stay = stay; begun = began }

pub file_faulty : (format : FileFormat) (name : List ℕ) (old : Stored) (f : LexFault) → HasFault old name MAX_NETWORK_BYTES f
    → RefusesFor net_line (network_stage (format_of format) (File name)) old (Lex f)
file_faulty format name old f h = faulty format (File name) old h.content (Lex f) h.named (inl h.fault_is)

pub ruleset takes_network = (file_ordered, file_gives, file_stops, file_begun, file_faulty)

-- ---- the lines of a text of BLIF-MV

module _ (text : List ℕ) (lines : List LexLine) (are : lines ≡ lines_of text) where
  pub text_ordered : numbers_ascend (numbers_of lines) ≡ true
  text_ordered = file_ascends lines (record { bytes = text; are = are })

  pub text_gives : (f : FileNetwork) (files : Stored) → lex_fault MAX_NETWORK_BYTES text ≡ None → blif_mv_lines.IsNet lines f → WellFormed f.net
      → Gives blif_mv.IsNet (network_stage blif_mv (Text text)) files files f
  text_gives f files lexed h formed = gives formats.BlifMv (Text text) files files lines text refl lexed are f h formed

  pub text_stops : (stop : Stop FileFault) (files : Stored) → lex_fault MAX_NETWORK_BYTES text ≡ None → IsLinesCause blif_mv_lines lines stop
      → IsCause net_line (network_stage blif_mv (Text text)) files files stop
  text_stops stop files lexed h = stops formats.BlifMv (Text text) files files lines text refl lexed are stop h

pub text_faulty : (text : List ℕ) (f : LexFault) (files : Stored) → lex_fault MAX_NETWORK_BYTES text ≡ Some f → RefusesFor net_line (network_stage blif_mv (Text text)) files (Lex f)
text_faulty text f files is = faulty formats.BlifMv (Text text) files text (Lex f) refl (inl is)

pub ruleset makes_network = (text_ordered, text_gives, text_stops, text_faulty)
