-- How much a scan reads of a source: nothing after as many keys as are asked for. Our choice.
use Rattle.std.specs.Io.KnownBytes.{Consumes, IsAtEnd}
use Rattle.std.specs.Prelude.{◌≡◌, ◌≢◌, ◌≤◌, ◌-◌, ◌++◌, ℕ, List, [], OnOk, Option, Result, false, length}
use Rattle.hwdb_spec.specs.declared.errors.ToolError.{ToolError}
use Rattle.hwdb_scan.specs.Internal.{IsScanning}
use Rattle.hwdb_scan.specs.Views.{Scanning, after_bytes, is_over, start}

-- What was read of a source, if anything was: the last piece of it, of at most 65,536 bytes, and what was read before that. After those bytes
-- more keys were asked for than they tell.
pub record IsNoMoreRead (count : Option ℕ) (left_first left : Option (List ℕ)) : Type 0 where
  pub before : List ℕ
  pub last : List ℕ
  pub read : Consumes left_first left (before ++ last)
  pub few : length last ≤ 65536
  pub wanted : before ++ last ≢ [] → is_over (after_bytes (start count) before).wanted ≡ false

-- the same while a scan goes on, and what its scanner holds then
pub record IsGoingOn (count : Option ℕ) (left_first left : Option (List ℕ)) (s : Scanning) : Type 0 where
  pub so_far : IsNoMoreRead count left_first left
  pub held : s ≡ after_bytes (start count) (so_far.before ++ so_far.last)

-- one read brought a piece of at most so many bytes, which the scanner took if it was told
pub record IsOnePiece {X E : Type 0} (left left_now : Option (List ℕ)) (s s_now : Scanning) (result : Result X E) : Type 0 where
  pub piece : List ℕ
  pub read : Consumes left left_now piece
  pub few : length piece ≤ 65536
  pub held : OnOk result (s_now ≡ after_bytes s piece)

-- after one read and what was printed of it: so many bytes came, of as many as may be read; none at the end. What is so between two reads is
-- so again.
pub record WentOn (room n : ℕ) (left left_now out out_now : Option (List ℕ)) (s s_now : Scanning) : Type 0 where
  pub within : n ≤ room
  pub end : n ≡ 0 → IsAtEnd left_now
  pub so : (most : ℕ) (count : Option ℕ) (left_first out_first : Option (List ℕ)) → IsScanning most count left_first left out_first out s room
      → IsScanning most count left_first left_now out_first out_now s_now (room - n)
