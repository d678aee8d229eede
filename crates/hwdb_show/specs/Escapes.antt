-- Which bytes of JSON's text may need an escape.
use Rattle.std.specs.Prelude.{ℕ, Bool, ◌&&◌, ◌==◌, not}

-- a byte that is neither DEL nor the first one of U+0080 to U+009F in UTF-8
abbrev pub is_clean : ℕ → Bool
is_clean b = not (b == 0x7f) && not (b == 0xc2)
