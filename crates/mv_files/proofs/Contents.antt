-- What the files hold by a name, and what was read of it.
use Rattle.std.proofs.Common.{◌≡◌, ◌≤◌, ◌∙◌, ℕ, is_some, List, [], ◌++◌, length, Option, Some, None, refl, sym, ap, arith}
use Rattle.std.specs.Prelude.{IsTrue, IfSome, IsSomeAnd}
use Rattle.std.proofs.lemmas.Bool.{false≢true}
use Rattle.std.proofs.lemmas.List.{append-nil}
use Rattle.mv_base.specs.Outside.{Held, Stored, Still, file_named}
use Rattle.mv_files.specs.FileReading.{WasRead, Read, StaySame, Stay, Holds, Lacks}
use Rattle.mv_files.specs.LexedFiles.{HasReadAll, ReadAll}
use Rattle.mv_files.proofs.Stills.{still_so, still_before, still_earlier, still_then}

some_content : (a b : List ℕ) → Some a ≡ Some b → a ≡ b
some_content a b e = cc

-- files that tell hold one content by a name
one_named : (name : List ℕ) (held : Option Held) (a b : List ℕ) → IsTrue (is_some held) → IfSome held (λ h. file_named name h.files ≡ Some a)
    → IfSome held (λ h. file_named name h.files ≡ Some b) → a ≡ b
one_named name None a b told p q = absurd (false≢true told)
one_named name (Some h) a b told p q = some_content a b (sym p ∙ q)

pub holds_one : (name : List ℕ) (files : Stored) (a b : List ℕ) → IsTrue (is_some files.held) → Holds files name a → Holds files name b → a ≡ b
holds_one name files a b told p q = one_named name files.held a b told p q

-- sound files don't hold what they lack
named_held : (name : List ℕ) (held : Option Held) (content : List ℕ) → IsSomeAnd held (λ h. IsTrue h.sound) → IfSome held (λ h. IsTrue h.sound → file_named name h.files ≡ None)
    → IfSome held (λ h. file_named name h.files ≡ Some content) → ⊥
named_held name None content sound lacks is = sound
named_held name (Some h) content sound lacks is = let none = lacks sound in cc

pub never_both : (name : List ℕ) (files : Stored) (content : List ℕ) → IsSomeAnd files.held (λ h. IsTrue h.sound) → Lacks files name → Holds files name content → ⊥
never_both name files content sound lacks is = named_held name files.held content sound lacks is

-- ---- files that stay

pub stay_none : (files : Stored) → Stay files files
stay_none files = record { same = still files.held; later = omega arith }
  where
    still : (held : Option Held) → Still held held StaySame
    still None = tt
    still (Some h) = record { files = refl; sound = λ sound. sound }

pub stay_then : (a b c : Stored) → Stay a b → Stay b c → Stay a c
stay_then a b c p q = record {
  same = still_then StaySame StaySame StaySame a.held b.held c.held (λ x y z s t. record { files = t.files ∙ s.files; sound = λ sound. t.sound (s.sound sound) }) p.same q.same;
  later = omega (arith, p.later, q.later);
}

module _ (name : List ℕ) (a b : Stored) (stay : Stay a b) where
  pub holds_earlier : (content : List ℕ) → Holds b name content → Holds a name content
  holds_earlier content is =
      still_earlier StaySame (λ h. file_named name h.files ≡ Some content) (λ h. file_named name h.files ≡ Some content) a.held b.held (λ x y s e. ap (file_named name) (sym s.files) ∙ e) stay.same is

  pub lacks_earlier : Lacks b name → Lacks a name
  lacks_earlier lacks =
      still_earlier StaySame (λ h. IsTrue h.sound → file_named name h.files ≡ None) (λ h. IsTrue h.sound → file_named name h.files ≡ None) a.held b.held
      (λ x y s none sound. ap (file_named name) (sym s.files) ∙ none (s.sound sound)) stay.same lacks

  pub read_earlier : (c : Stored) (content : List ℕ) → ReadAll b c name content → ReadAll a c name content
  read_earlier c content read =
      still_then StaySame (λ y z. HasReadAll y z name content) (λ x z. HasReadAll x z name content) a.held b.held c.held
      (λ x y z s r. record { named = ap (file_named name) (sym s.files) ∙ r.named; files = r.files ∙ s.files; current = r.current; ended = r.ended }) stay.same read

-- ---- what was read

-- it is what the files hold
pub holds_read : (name : List ℕ) (old new : Stored) (content : List ℕ) → ReadAll old new name content → Holds old name content
holds_read name old new content read =
    still_before (λ b a. HasReadAll b a name content) (λ h. file_named name h.files ≡ Some content) old.held new.held (λ b a r. r.named) read

-- what there is of a file behind bytes that were read of it up to a limit
pub record Behind (old : Stored) (name : List ℕ) (limit : ℕ) (bytes : List ℕ) : Type 0 where
  pub rest : List ℕ
  pub is : Holds old name (bytes ++ rest)
  pub ended : length bytes ≤ limit → bytes ++ rest ≡ bytes

behind_of : (name : List ℕ) (limit : ℕ) (bytes : List ℕ) (starts faults : ℕ) (old new : Option Held) → Still old new (λ b a. WasRead b a name limit bytes) → Behind (record { held = old; starts = starts; faults = faults }) name limit bytes
behind_of name limit bytes starts faults None new r = record { rest = []; is = tt; ended = λ short. append-nil bytes }
behind_of name limit bytes starts faults (Some o) None r = absurd r
behind_of name limit bytes starts faults (Some o) (Some n) r =
    record { rest = n.rest; is = r.read.content; ended = λ short. ap (λ z. bytes ++ z) (r.ended short) ∙ append-nil bytes }

pub read_behind : (old new : Stored) (name : List ℕ) (limit : ℕ) (bytes : List ℕ) → Read old new name limit bytes → Behind old name limit bytes
read_behind old new name limit bytes r = behind_of name limit bytes old.starts old.faults old.held new.held r

-- within the limit they are all that there is
pub read_whole : (old new : Stored) (name : List ℕ) (limit : ℕ) (bytes : List ℕ) → length bytes ≤ limit → Read old new name limit bytes → ReadAll old new name bytes
read_whole old new name limit bytes short read =
    still_so (λ b a. WasRead b a name limit bytes) (λ b a. HasReadAll b a name bytes) old.held new.held
    (λ b a r. record {
      named = r.read.content ∙ ap Some (ap (λ z. bytes ++ z) (r.ended short) ∙ append-nil bytes);
      files = r.read.files;
      current = r.read.current;
      ended = r.ended short;
    }) read
