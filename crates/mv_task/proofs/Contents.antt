-- What is there for a stage to read, and what was read.
use Rattle.std.proofs.Common.{◌≡◌, ◌∙◌, ℕ, is_some, List, Option, Some, None, refl, sym}
use Rattle.std.specs.Prelude.{IsTrue, IsSomeAnd}
use Rattle.mv_base.specs.Outside.{Held, Stored}
use Rattle.mv_files.specs.FileReading.{Stay}
use Rattle.mv_files.proofs.Contents.{holds_one, never_both, holds_earlier, lacks_earlier, read_earlier, holds_read}
use Rattle.mv_task.specs.Sources.{Source, File, Text, IsContent, IsReadWhole, Misses}

-- files that tell have one content
pub one_content : (s : Source) (files : Stored) (a b : List ℕ) → IsTrue (is_some files.held) → IsContent s files a → IsContent s files b → a ≡ b
one_content (File name) files a b told p q = holds_one name files a b told p q
one_content (Text text) files a b told p q = p ∙ sym q

-- sound files don't hold what they lack
pub never_misses : (s : Source) (files : Stored) (content : List ℕ) → IsSomeAnd files.held (λ held. IsTrue held.sound) → Misses s files → IsContent s files content → ⊥
never_misses (File name) files content sound misses is = never_both name files content sound misses is
never_misses (Text text) files content sound misses is = misses

pub told_sound : (held : Option Held) → IsSomeAnd held (λ h. IsTrue h.sound) → IsTrue (is_some held)
told_sound None sound = absurd sound
told_sound (Some h) sound = refl

-- what was read is what is there
pub whole_content : (s : Source) (old new : Stored) (content : List ℕ) → IsReadWhole s old new content → IsContent s old content
whole_content (File name) old new content r = holds_read name old new content r
whole_content (Text text) old new content r = r

-- ---- files that stay

pub content_earlier : (s : Source) (a b : Stored) (content : List ℕ) → Stay a b → IsContent s b content → IsContent s a content
content_earlier (File name) a b content stay is = holds_earlier name a b stay content is
content_earlier (Text text) a b content stay is = is

pub misses_earlier : (s : Source) (a b : Stored) → Stay a b → Misses s b → Misses s a
misses_earlier (File name) a b stay m = lacks_earlier name a b stay m
misses_earlier (Text text) a b stay m = m

pub whole_earlier : (s : Source) (a b c : Stored) (content : List ℕ) → Stay a b → IsReadWhole s b c content → IsReadWhole s a c content
whole_earlier (File name) a b c content stay r = read_earlier name a b stay c content r
whole_earlier (Text text) a b c content stay r = r
