-- Which builtin a word names, after `builtins` and `udev_builtin_lookup` of udev-builtin.c (systemd 257). Three of them came later.
use Rattle.std.specs.Prelude.{List, [], ◌∷◌, ℕ, nat_eq, codes, Option, None, find}
use Rattle.std.specs.List.{starts_with}
use Rattle.hwdb_rulecommands.specs.declared.builtins.Builtin.{Builtin}
use Rattle.hwdb_rulecommands.specs.declared.builtins.Builtin.TheVariants.{Blkid, Btrfs, DissectImage, FactoryReset, Hwdb, InputId, Keyboard, Kmod, NetDriver, NetId, NetSetupLink, PathId, Tpm2Id, Uaccess, UsbId}

abbrev pub name_of : Builtin → List ℕ
name_of Blkid = codes "blkid"
name_of Btrfs = codes "btrfs"
name_of DissectImage = codes "dissect_image"
name_of FactoryReset = codes "factory_reset"
name_of Hwdb = codes "hwdb"
name_of InputId = codes "input_id"
name_of Keyboard = codes "keyboard"
name_of Kmod = codes "kmod"
name_of NetDriver = codes "net_driver"
name_of NetId = codes "net_id"
name_of NetSetupLink = codes "net_setup_link"
name_of PathId = codes "path_id"
name_of Tpm2Id = codes "tpm2_id"
name_of Uaccess = codes "uaccess"
name_of UsbId = codes "usb_id"

-- all builtins, in the order of udev's table
unfoldable pub builtins : List Builtin
builtins =
    Blkid ∷ Btrfs ∷ DissectImage ∷ FactoryReset ∷ Hwdb ∷ InputId ∷ Keyboard ∷ Kmod ∷ NetDriver ∷ NetId ∷ NetSetupLink ∷ PathId ∷ Tpm2Id ∷ Uaccess ∷ UsbId ∷ []

-- the first builtin whose name begins with a word
abbrev pub first_named : List ℕ → Option Builtin
first_named word = find (λ builtin. starts_with nat_eq (name_of builtin) word) builtins

-- the builtin that a word names; that an empty one names none is our choice
abbrev pub builtin_of : List ℕ → Option Builtin
builtin_of [] = None
builtin_of (b ∷ rest) = first_named (b ∷ rest)
