-- How a task's stages, one after the other, lead to its end.
use Rattle.std.proofs.Common.{◌≡◌, ◌∙◌, ℕ, false, List, [], ◌∷◌, ◌++◌, inl, inr, refl, sym, ap, ⊎_elim}
use Rattle.mv_base.specs.Outside.{Stored, Written}
use Rattle.mv_base.proofs.OutsideLemmas.{Rose-earlier}
use Rattle.mv_files.specs.FileReading.{Stay}
use Rattle.mv_files.proofs.Contents.{stay_none, stay_then}
use Rattle.mv_task.specs.declared.stop.Stop.{Stop}
use Rattle.mv_task.specs.declared.stop.Stop.TheVariants.{Refused as refused, Read as unread, Memory as short}
use Rattle.mv_task.specs.Ends.{Sinks, Work, WorkEnds, Done, Denied, DenialCut, OutputCut, NotesCut, Stopped, Own, work_on, work_on_both, Ends, Refused, Unread, Short, seen, is_common}
use Rattle.mv_task.specs.Lines.{TellsLine}
use Rattle.mv_task.specs.Sources.{starts_with}
use Rattle.mv_task.specs.Stages.{Stage, AreRead, EndsRefused, EndsUnread, EndsShort}
use Rattle.mv_task.specs.Stops.{status_of, line_of, IsCause, Gives, WasBegun}
use Rattle.mv_task.proofs.Contents.{whole_content, content_earlier, misses_earlier, whole_earlier}
use Rattle.mv_task.proofs.Walks.{first_at, taken_more, last_more, starts_more}

-- these stages gave these contents, one after the other
pub record Came (front : List Stage) (old now : Stored) (contents : List (List ℕ)) : Type 0 where
  pub read : AreRead front old now contents
  pub stay : Stay old now

pub came_none : (files : Stored) → Came [] files files []
came_none files = record { read = record { taken = tt; last = tt; begun = refl }; stay = stay_none files }

-- one stage more
pub came_more : {V : Type 0} {IsSaid : List ℕ → V → Type 0} {old mid new : Stored} {contents : List (List ℕ)} {value : V} (front : List Stage) (s : Stage)
    → Came front old mid contents → (g : Gives IsSaid s mid new value) → WasBegun s mid new → Came (front ++ s ∷ []) old new (contents ++ g.content ∷ [])
came_more {old = old} {mid = mid} {new = new} {contents = contents} front s came g b = record {
  read = record {
    taken = taken_more front s old contents g.content came.read.taken (record { is = content_earlier s.from old mid g.content came.stay (whole_content s.from mid new g.content g.read); accepted = g.accepted });
    last = last_more front s old new contents g.content came.read.taken (whole_earlier s.from old mid new g.content came.stay g.read);
    begun = b.begun ∙ (ap (starts_with s.from) came.read.begun ∙ sym (starts_more front s old.starts));
  };
  stay = stay_then old mid new came.stay b.stay;
}

-- no file is begun for a text
pub text_begun : (s : Stage) (files : Stored) → starts_with s.from files.starts ≡ files.starts → WasBegun s files files
text_begun s files same = record { stay = stay_none files; begun = sym same }

-- a stage behind them gives nothing
module _ {T : Type 0} (told : T → List ℕ) (front : List Stage) (s : Stage) (rest : List Stage) (work : List (List ℕ) → Work) (out notes notes' : Written) where
  pub stops : {old mid new : Stored} {contents : List (List ℕ)} (stop : Stop T) (status : ℕ) → Came front old mid contents → WasBegun s mid new → is_common s.refusal ≡ false → IsCause told s mid new stop
      → status ≡ status_of s.refusal stop → TellsLine notes notes' (line_of told stop) → Ends (record { stages = front ++ s ∷ rest; work = work }) (seen old out notes) (seen new out notes') status
  stops {old = old} {mid = mid} {new = new} {contents = contents} (refused f) status came b apart why is tells =
      Refused (ap is_common is ∙ apart) (told f)
      (first_at (EndsRefused status (told f) old new) front s rest old old.starts contents came.read.taken (record {
        is = is;
        faulty = record { content = why.faulty.content; is = content_earlier s.from old mid why.faulty.content came.stay why.faulty.is; refused = why.faulty.refused; fault = why.faulty.fault };
        begun = b.begun ∙ ap (starts_with s.from) came.read.begun;
      }))
      refl tells
  stops {old = old} {mid = mid} {new = new} {contents = contents} unread status came b apart why is tells =
      Unread is (Rose-earlier old.faults mid.faults new.faults came.stay.later why.0)
      (first_at (EndsUnread old new) front s rest old old.starts contents came.read.taken (record { misses = misses_earlier s.from old mid came.stay why.1; begun = b.begun ∙ ap (starts_with s.from) came.read.begun }))
      refl tells
  stops {old = old} {mid = mid} {new = new} {contents = contents} short status came b apart why is tells =
      Short is (inr (first_at (EndsShort new) front s rest old old.starts contents came.read.taken (b.begun ∙ ap (starts_with s.from) came.read.begun))) refl tells

-- the work on a value that a content says is work on the content
pub said_ends : {V : Type 0} (IsSaid : List ℕ → V → Type 0) (content : List ℕ) (work : V → Work) (value : V) (old new : Sinks) (status : ℕ) → IsSaid content value → WorkEnds (work value) old new status
    → WorkEnds (work_on IsSaid content work) old new status
said_ends IsSaid content work value old new status said (Done is done) =
    Done is (record { noted = done.noted; written = done.written; does = record { value = value; said = said; holds = done.does }; notes = done.notes; out = done.out })
said_ends IsSaid content work value old new status said (Denied is denied) =
    Denied is (record { written = denied.written; denies = record { value = value; said = said; holds = denied.denies }; notes = denied.notes; out = denied.out })
said_ends IsSaid content work value old new status said (DenialCut is rose untouched written denies part) =
    DenialCut is rose untouched written (record { value = value; said = said; holds = denies }) part
said_ends IsSaid content work value old new status said (OutputCut is rose noted written does notes part) =
    OutputCut is rose noted written (record { value = value; said = said; holds = does }) notes part
said_ends IsSaid content work value old new status said (NotesCut is rose untouched noted does part) =
    NotesCut is rose untouched noted
    (⊎_elim
    (λ (stops : (work value).Notes noted). inl (record { value = value; said = said; holds = stops }))
    (λ (all : (written : List ℕ) × (work value).Does noted written). inr (all.0, record { value = value; said = said; holds = all.1 }))
    does)
    part
said_ends IsSaid content work value old new status said (Stopped is untouched noted stops tells) =
    Stopped is untouched noted
    (⊎_elim
    (λ (none : noted ≡ []). inl none)
    (λ (notes : (work value).Notes noted). inr (record { value = value; said = said; holds = notes }))
    stops)
    tells
said_ends IsSaid content work value old new status said (Own apart untouched line refuses tells) =
    Own apart untouched line (record { value = value; said = said; holds = refuses }) tells

-- so it is with the values that two contents say
pub both_said : {V W : Type 0} {IsFirst : List ℕ → V → Type 0} {IsSecond : List ℕ → W → Type 0} {s t : Stage} {a b c d : Stored} {v : V} {w : W} (work : V → W → Work) (old new : Sinks) (status : ℕ)
    → (g : Gives IsFirst s a b v) → (h : Gives IsSecond t c d w) → WorkEnds (work v w) old new status → WorkEnds (work_on_both IsFirst IsSecond work (g.content ∷ h.content ∷ [])) old new status
both_said {IsFirst = IsFirst} {IsSecond = IsSecond} {v = v} {w = w} work old new status g h ends =
    said_ends IsFirst g.content (λ value. work_on IsSecond h.content (work value)) v old new status g.said (said_ends IsSecond h.content (work v) w old new status h.said ends)
