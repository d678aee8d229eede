-- Worked rows: the key that is near to a word which asks for none, and what is said of it.
use Rattle.std.specs.Prelude.{◌≡◌, ◌∷◌, List, [], codes, map, ℕ}
use Rattle.hwdb_spec_commands.specs.KeysAsked.{keys_told, near_key, unfound_line}

-- some rows of the table of keys, and of the names that people use
abbrev pub keys : List ℕ
keys = codes "esc 1\nleftmeta 125\nleftctrl 29\nrightmeta 126\nz 44\n"

abbrev pub others : List ℕ
others = codes "escape esc\nsuper leftmeta rightmeta\n"

-- A letter is missing, in either case, and after `KEY_`; a name that people use; of two that are near the one that fewer letters lead to.
-- Nothing is near, also if a name begins alike.
abbrev pub NearKeyRows : Type 0
NearKeyRows =
    map (near_key keys others)
    (codes "leftmta" ∷ codes "RIGHTMTA" ∷ codes "KEY_LeftMta" ∷ codes "escpe" ∷ codes "leftmtrl" ∷ codes "xyzzy" ∷ codes "leafless" ∷ [] ∷ [])
    ≡ codes "leftmeta" ∷ codes "rightmeta" ∷ codes "leftmeta" ∷ codes "escape" ∷ codes "leftctrl" ∷ [] ∷ [] ∷ [] ∷ []

-- what is said of a word, if nothing is near, and if a key was found
abbrev pub SaidRows : Type 0
SaidRows =
    (unfound_line (codes "leftmta") (codes "leftmeta") ≡ codes "hwdb: no key: leftmta: there is leftmeta\n")
    × (unfound_line (codes "xyzzy") [] ≡ codes "hwdb: no key: xyzzy: 'hwdb keys' lists all\n")
    × (keys_told (codes "f1" ∷ []) (codes "f1 59\n") ≡ [])
