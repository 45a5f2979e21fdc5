-- A sink and files that lie in memory and fail where they are told to.
use Rattle.std.specs.Prelude.{ℕ, ◌-◌, min, Bool, not, ◌&&◌, ◌==◌, nat_le, nat_lt, List, [], ◌∷◌, ◌++◌}
use Rattle.std.specs.Prelude.{length, take, drop, Option, Some, None, is_some, is_none, unwrap_or, if◌then◌else◌}
use Rattle.std.specs.List.{list_any, list_all}
use Rattle.mv_base.specs.Outside.{Held, Stored, Written, counted, file_named}

-- ---- a sink

-- a sink in memory: the bytes that it took, how many it takes in all, the puts that fail, each by
-- its number and how many bytes it takes at most, and how many puts and faults there were
pub record Taken : Type 0 where
  pub bytes : List ℕ
  pub room : ℕ
  pub fails : List (ℕ × ℕ)
  pub calls : ℕ
  pub faults : ℕ

-- its state: it always tells its bytes
abbrev pub written_of : Taken → Written
written_of s = record { told = Some s.bytes; faults = s.faults }

-- what the first entry with this number allows
abbrev pub allowed_at : List (ℕ × ℕ) → ℕ → Option ℕ
allowed_at [] call = None
allowed_at (f ∷ fs) call = if f.0 == call then Some f.1 else allowed_at fs call

-- a put of n bytes works: it isn't listed, and the bytes fit
abbrev pub takes_all : Taken → ℕ → Bool
takes_all s n = is_none (allowed_at s.fails s.calls) && nat_le n (s.room - length s.bytes)

-- how many of n bytes a put takes: those that fit, and no more than is allowed where it is listed
abbrev pub taken_of : Taken → ℕ → ℕ
taken_of s n = min (min n (s.room - length s.bytes)) (unwrap_or (allowed_at s.fails s.calls) n)

-- the sink behind a put
abbrev pub after_put : Taken → List ℕ → Taken
after_put s piece = record s {
  bytes = s.bytes ++ take (taken_of s (length piece)) piece;
  calls = counted s.calls;
  faults = if takes_all s (length piece) then s.faults else counted s.faults;
}

-- ---- files

-- files in memory: their contents by name, the current one and what is left of it, the calls that
-- fail, and how many calls, starts and faults there were
pub record Kept : Type 0 where
  pub files : List (List ℕ × List ℕ)
  pub current : Option (List ℕ)
  pub rest : List ℕ
  pub fails : List ℕ
  pub calls : ℕ
  pub starts : ℕ
  pub faults : ℕ

-- what the files tell: they are sound where every listed call is behind them
abbrev pub held_of : Kept → Held
held_of k =
    record {
      files = k.files;
      current = k.current;
      rest = k.rest;
      sound = list_all (λ n. nat_lt n k.calls) k.fails;
    }

-- their state: they always tell of themselves
abbrev pub stored_of : Kept → Stored
stored_of k = record { held = Some (held_of k); starts = k.starts; faults = k.faults }

-- the next call fails
abbrev pub is_listed : Kept → Bool
is_listed k = list_any (λ n. n == k.calls) k.fails

-- the files behind a call that failed
abbrev pub after_fault : Kept → Kept
after_fault k = record k { calls = counted k.calls; faults = counted k.faults }

-- a start works: it isn't listed, and a file has the name
abbrev pub starts : Kept → List ℕ → Bool
starts k name = not (is_listed k) && is_some (file_named name k.files)

-- the files behind a start that fails
abbrev pub after_failed_start : Kept → Kept
after_failed_start k =
    record k { calls = counted k.calls; starts = counted k.starts; faults = counted k.faults }

-- the files behind a start that works
abbrev pub after_start : Kept → List ℕ → Kept
after_start k name = record k {
  current = Some name;
  rest = unwrap_or (file_named name k.files) [];
  calls = counted k.calls;
  starts = counted k.starts;
}

-- the files behind a `next` that gives n bytes
abbrev pub after_next : Kept → ℕ → Kept
after_next k n = record k { rest = drop n k.rest; calls = counted k.calls }
