-- Laws of files of which some blocks were read, or that are read forward. Our choice.
use Rattle.std.specs.Prelude.{List, ℕ, ◌/◌, ◌*◌, ◌<◌, ◌≡◌, ◌≢◌, length, slice_index, slice_set}
use Rattle.hwdb_spec.specs.Blocks.{block_bytes, MayBe}
use Rattle.hwdb_spec.specs.Format.{layout_of}
use Rattle.hwdb_reader.specs.Passes.Views.{Stands, pending}

-- a block of the file was read into the bytes
pub record IsBlockRead (file before after : List ℕ) (block : ℕ) : Type 0 where
  pub size : length after ≡ length before
  pub there : (i : ℕ) → i < length before → i / block_bytes ≡ block → slice_index after i ≡ slice_index file i
  pub elsewhere : (i : ℕ) → i < length before → i / block_bytes ≢ block → slice_index after i ≡ slice_index before i

-- if no block was read, each file of that length may be the one
abbrev pub EachMayBe : Type 0
EachMayBe =
    (buffer present file : List ℕ) → length file ≡ length buffer → ((block : ℕ) → slice_index present block ≢ 1) → MayBe buffer present file

-- a file that may be the one still may, if a block of it is read
abbrev pub ReadsKeep : Type 0
ReadsKeep =
    (before after present file : List ℕ) (block : ℕ) → MayBe before present file → IsBlockRead file before after block → MayBe after (slice_set present block 1) file

-- if all blocks were read, no other file may be the one
abbrev pub AllReadIsOne : Type 0
AllReadIsOne =
    (buffer present file : List ℕ) → ((block : ℕ) → block * block_bytes < length buffer → slice_index present block ≡ 1) → MayBe buffer present file → file ≡ buffer

-- before the first piece no node is done
abbrev pub PassesBegin : Type 0
PassesBegin = (file offsets heights : List ℕ) → Stands file (pending offsets heights 0) (layout_of file).nodes
