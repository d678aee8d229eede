-- Worked rows of keys: their codes, as linux/input-event-codes.h has them, and which of them words ask for. The form of their lines is from
-- hwdb(8).
use Rattle.std.specs.Prelude.{◌∷◌, ◌≡◌, List, [], codes, false, map, true, ℕ}
use Rattle.hwdb_spec_commands.specs.Json.{json_line, number_json, object_of, text_json}
use Rattle.hwdb_spec_commands.specs.KeysAsked.{asked_line, key_line, keys_status, keys_text}
use Rattle.hwdb_spec_commands.specs.Properties.{row_for}
use Rattle.hwdb_spec_commands.specs.declared.vocabulary.TheConstants.{KEY_NAMES}

-- `KEY_ESC` is 1, `KEY_102ND` 86, `KEY_SYSRQ` 99, `KEY_LEFTMETA` 125 and `KEY_MICMUTE` 248. `KEY_SCREENLOCK` is `KEY_COFFEE`, which is 152.
-- `BTN_LEFT` is 0x110.
abbrev pub CodeRows : Type 0
CodeRows =
    map (row_for KEY_NAMES.now)
    (codes "esc" ∷ codes "102nd" ∷ codes "sysrq" ∷ codes "leftmeta" ∷ codes "micmute" ∷ codes "screenlock" ∷ codes "coffee" ∷ codes "btn_left" ∷ [])
    ≡ codes "esc 1" ∷ codes "102nd 86" ∷ codes "sysrq 99" ∷ codes "leftmeta 125" ∷ codes "micmute 248" ∷ codes "screenlock 152" ∷ codes "coffee 152" ∷ codes "btn_left 272" ∷ []

-- the line of a key that one word asks for
abbrev pub line_for : (given row : List ℕ) → List ℕ
line_for given row = asked_line false (given ∷ []) row

-- A part of a key's name asks for it, wherever it is, in any case, and after `KEY_`.
abbrev pub PartRows : Type 0
PartRows =
    line_for (codes "meta") (codes "leftmeta 125") ∷ line_for (codes "LEFT") (codes "leftmeta 125") ∷ line_for (codes "KEY_Esc") (codes "esc 1") ∷ line_for (codes "metal") (codes "leftmeta 125") ∷ line_for (codes "25") (codes "leftmeta 125") ∷ []
    ≡ codes "leftmeta 125\n" ∷ codes "leftmeta 125\n" ∷ codes "esc 1\n" ∷ [] ∷ [] ∷ []

-- So does a part of a name that people use for it.
abbrev pub OtherRows : Type 0
OtherRows =
    line_for (codes "Super") (codes "leftmeta 125") ∷ line_for (codes "super") (codes "rightmeta 126") ∷ line_for (codes "super") (codes "leftctrl 29") ∷ line_for (codes "print") (codes "sysrq 99") ∷ line_for (codes "lwin") (codes "rightmeta 126") ∷ []
    ≡ codes "leftmeta 125\n" ∷ codes "rightmeta 126\n" ∷ [] ∷ codes "sysrq 99\n" ∷ [] ∷ []

-- One of several words is enough.
abbrev pub SeveralRows : Type 0
SeveralRows =
    asked_line false (codes "wlan" ∷ codes "mic" ∷ []) (codes "micmute 248") ∷ asked_line false (codes "wlan" ∷ codes "wifi" ∷ []) (codes "micmute 248") ∷ []
    ≡ codes "micmute 248\n" ∷ [] ∷ []

-- Without a word all keys are asked for.
abbrev pub AllRows : Type 0
AllRows = keys_text false [] ≡ KEY_NAMES.now

-- A line of JSON is that of an object with both.
abbrev pub JsonRows : Type 0
JsonRows =
    key_line true (codes "leftmeta 125") ∷ key_line true (codes "leftmeta 125") ∷ []
    ≡ codes "{\"name\":\"leftmeta\",\"code\":125}\n" ∷ json_line (object_of ((codes "name", text_json (codes "leftmeta")) ∷ (codes "code", number_json 125) ∷ [])) ∷ []

-- The status says whether a key was found.
abbrev pub StatusRows : Type 0
StatusRows = keys_status (codes "esc 1\n") ∷ keys_status [] ∷ [] ≡ 0 ∷ 1 ∷ []
