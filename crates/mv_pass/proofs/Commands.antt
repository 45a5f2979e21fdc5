-- A command from its beginning to its end, or to where it stops.
use Rattle.std.proofs.Common.{◌≡◌, ◌∙◌, ℕ, ◌<◌, ◌^◌, List, [], ◌∷◌, ◌++◌, Result, Ok, Err, refl, ap, subst}
use Rattle.mv_base.specs.declared.outside.Failed.{Failed}
use Rattle.mv_entry.specs.declared.note.Command.{Command}
use Rattle.mv_entry.specs.declared.note.Note.TheVariants.{Begin, End}
use Rattle.mv_entry.specs.Entries.{Entry, Noted}
use Rattle.mv_entry.specs.Tallies.{Journaled, Takes}
use Rattle.mv_net.specs.declared.parts.NetParts.{NetParts}
use Rattle.mv_net.specs.Nets.{literals_in}
use Rattle.mv_pass.specs.Courses.{Course}
use Rattle.mv_pass.specs.Ending.{end_of}
use Rattle.mv_pass.specs.Going.{Does, HasBegun, Begun, Within, Behind, begun}
use Rattle.mv_pass.specs.Taking.{Took, TookPart}
use Rattle.mv_pass.proofs.Taken.{Took-one, Took-then, TookPart-one, TookPart-then}

has_begun : (Part : Course) (command : Command) (a b : NetParts) (xs ys : List Entry) → xs ≡ Noted (Begin command) ∷ [] → Part a ys b → HasBegun Part command a (xs ++ ys) b
has_begun Part command a b xs ys is g = record { steps = ys; course = g; entries_are = ap (λ z. z ++ ys) is }

module _ (Steps Part : Course) (command : Command) where
  does : (a b : NetParts) (literals : ℕ) (xs ys : List Entry) → literals ≡ literals_in b.nets → literals_in b.nets < 2 ^ 128 → HasBegun Steps command a xs b → ys ≡ Noted (End literals) ∷ [] → Does Steps command a (xs ++ ys) b
  does a b literals xs ys count few p is = record {
    steps = p.steps;
    course = p.course;
    few = few;
    entries_are = ap (λ z. z ++ ys) p.entries_are ∙ ap (λ z. begun command p.steps ++ z) (is ∙ ap (λ n. Noted (End n) ∷ []) count);
  }

  -- stopped within the beginning
  pub begin_cut : (a : NetParts) (j k : Journaled) (f : Failed) → Part a [] a → Takes j k (Noted (Begin command)) (Err f) → TookPart (λ es. Begun Steps Part command a es a) j k
  begin_cut a j k f start begins = TookPart-one j k (Noted (Begin command)) f (Within (record { steps = []; course = start; entries_are = refl })) begins

  module _ (a : NetParts) (j k : Journaled) (begins : Takes j k (Noted (Begin command)) (Ok tt)) (b : NetParts) (l : Journaled) where
    -- stopped between two entries
    pub stopped : Took (λ steps. Part a steps b) k l → Took (λ es. Begun Steps Part command a es b) j l
    stopped p =
        Took-then (λ xs ys is g. Within (has_begun Part command a b xs ys is g)) j k l (Took-one j k (Noted (Begin command)) refl begins) p

    -- stopped within a step
    pub cut_short : TookPart (λ steps. Part a steps b) k l → TookPart (λ es. Begun Steps Part command a es b) j l
    cut_short p =
        TookPart-then (λ xs ys is g. Within (has_begun Part command a b xs ys is g)) j k l (Took-one j k (Noted (Begin command)) refl begins) p

    module _ (m : Journaled) (goes : Took (λ steps. Steps a steps b) k l) (literals : ℕ) (count : literals ≡ literals_in b.nets) (few : literals_in b.nets < 2 ^ 128) where
      came : Took (λ es. HasBegun Steps command a es b) j l
      came = Took-then (λ xs ys is g. has_begun Steps command a b xs ys is g) j k l (Took-one j k (Noted (Begin command)) refl begins) goes

      pub did : Takes l m (Noted (End literals)) (Ok tt) → Took (λ es. Does Steps command a es b) j m
      did ends =
          Took-then (λ xs ys p is. does a b literals xs ys count few p is) j l m came (Took-one l m (Noted (End literals)) refl ends)

      -- stopped within the end
      pub end_cut : (f : Failed) → Takes l m (Noted (End literals)) (Err f) → TookPart (λ es. Begun Steps Part command a es b) j m
      end_cut f ends =
          TookPart-then (λ xs ys p is. Behind (does a b literals xs ys count few p is)) j l m came (TookPart-one l m (Noted (End literals)) f refl ends)

-- an end with the number of the network's literals
pub end_put : (net : NetParts) (j k : Journaled) (literals : ℕ) (result : Result (Unit {0}) Failed) → literals ≡ literals_in net.nets → Takes j k (Noted (End literals)) result → Takes j k (end_of net) result
end_put net j k literals result is t = subst (λ n. Takes j k (Noted (End n)) result) is t
