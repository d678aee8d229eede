-- Commands and words at which the definitions are computed. What udev does with each is from udev-builtin.c, udev-builtin-hwdb.c and
-- extract-word.c (systemd 257), and from getopt_long(3).
use Rattle.std.specs.Prelude.{ℕ, List, [], ◌∷◌, codes, map, ◌≡◌, Option, Some, None}
use Prim.Native.String.{String}
use Rattle.hwdb_rulecommands.specs.CommandWords.{words}
use Rattle.hwdb_rulecommands.specs.LookupCommands.{lookup_of}
use Rattle.hwdb_rulecommands.specs.Builtins.{builtin_of}
use Rattle.hwdb_rulecommands.specs.Settable.{may_set, program_may_set, program_name}
use Rattle.hwdb_rulecommands.specs.declared.builtins.Builtin.{Builtin}
use Rattle.hwdb_rulecommands.specs.declared.builtins.Builtin.TheVariants as Builtins

-- the words of a command
abbrev pub Splits : String → List String → Type 0
Splits command answer = words (codes command) ≡ map codes answer

-- commands and their words
pub record WordRows : Type 0 where
  pub none : Splits "" []
  pub gaps : Splits " \t\n\r" []
  pub one : Splits "hwdb" ("hwdb" ∷ [])
  pub two : Splits "  hwdb \t usb:x " ("hwdb" ∷ "usb:x" ∷ [])
  pub newlines : Splits "a\nb\rc" ("a" ∷ "b" ∷ "c" ∷ [])
  pub within : Splits "hwdb 'a b':\"c\"d" ("hwdb" ∷ "a b:cd" ∷ [])
  pub option : Splits "hwdb --subsystem=\"usb\" --lookup-prefix='evdev: '" ("hwdb" ∷ "--subsystem=usb" ∷ "--lookup-prefix=evdev: " ∷ [])
  pub other_kind : Splits "\"it's\" '\"'" ("it's" ∷ "\"" ∷ [])
  pub backslash : Splits "a\\ b" ("a\\" ∷ "b" ∷ [])
  pub backslash_before_quote : Splits "a\\'b c'" ("a\\b c" ∷ [])
  pub backslash_within : Splits "'a\\' b'" ("a\\" ∷ "b" ∷ [])
  pub empty : Splits "''" ("" ∷ [])
  pub empty_among : Splits "hwdb '' \"\" x''" ("hwdb" ∷ "" ∷ "" ∷ "x" ∷ [])
  pub unended : Splits "'x" ("x" ∷ [])
  pub unended_gaps : Splits "a \"b c " ("a" ∷ "b c " ∷ [])
  pub unended_empty : Splits "a '" ("a" ∷ "" ∷ [])
  pub joined : Splits "'a''b'" ("ab" ∷ [])

-- a text that is there
abbrev pub some : String → Option (List ℕ)
some text = Some (codes text)

-- what words after the builtin's name ask: a subsystem, a prefix and a text
abbrev pub Asks : List String → Option (List ℕ) → (prefix : String) → Option (List ℕ) → Type 0
Asks given subsystem prefix text = lookup_of (map codes given) ≡ Some (record { subsystem = subsystem; prefix = codes prefix; text = text })

-- the words aren't followed
abbrev pub IsUnfollowed : List String → Type 0
IsUnfollowed given = lookup_of (map codes given) ≡ None

-- words of the builtin hwdb
pub record LookupRows : Type 0 where
  pub none : Asks [] None "" None
  pub both : Asks ("--subsystem=usb" ∷ "--lookup-prefix=evdev:" ∷ []) (some "usb") "evdev:" None
  pub permuted : Asks ("x" ∷ "--subsystem=usb" ∷ "y" ∷ []) (some "usb") "" (some "x")
  pub only_text : Asks ("usb:v1D6Bp0002" ∷ []) None "" (some "usb:v1D6Bp0002")
  pub prefixed : Asks ("evdev:atkbd" ∷ "--lookup-prefix=a:" ∷ []) None "a:" (some "evdev:atkbd")
  pub later_subsystem : Asks ("--subsystem=usb" ∷ "--subsystem=pci" ∷ []) (some "pci") "" None
  pub later_prefix : Asks ("--lookup-prefix=a" ∷ "--lookup-prefix=" ∷ []) None "" None
  pub empty_subsystem : Asks ("--subsystem=" ∷ []) (some "") "" None
  pub equals_within : Asks ("--subsystem=a=b" ∷ []) (some "a=b") "" None
  pub dash : Asks ("-" ∷ []) None "" (some "-")
  pub dash_within : Asks ("a-b" ∷ []) None "" (some "a-b")
  pub empty_text : Asks ("" ∷ "x" ∷ []) None "" (some "")
  pub short : IsUnfollowed ("-s" ∷ "usb" ∷ [])
  pub short_joined : IsUnfollowed ("-susb" ∷ [])
  pub no_equals : IsUnfollowed ("--subsystem" ∷ "usb" ∷ [])
  pub shortened : IsUnfollowed ("--sub=usb" ∷ [])
  pub filter : IsUnfollowed ("--filter=ID_*" ∷ "--subsystem=usb" ∷ [])
  pub device : IsUnfollowed ("--device=c1:3" ∷ [])
  pub ends_options : IsUnfollowed ("--" ∷ "x" ∷ [])
  pub later_option : IsUnfollowed ("--subsystem=usb" ∷ "x" ∷ "-d" ∷ [])

-- the builtin that a word names
abbrev pub Names : String → Option Builtin → Type 0
Names word answer = builtin_of (codes word) ≡ answer

-- words and builtins
pub record BuiltinRows : Type 0 where
  pub whole : Names "usb_id" (Some Builtins.UsbId)
  pub hwdb : Names "hw" (Some Builtins.Hwdb)
  pub keyboard : Names "k" (Some Builtins.Keyboard)
  pub kmod : Names "km" (Some Builtins.Kmod)
  pub blkid : Names "b" (Some Builtins.Blkid)
  pub btrfs : Names "bt" (Some Builtins.Btrfs)
  pub net_driver : Names "net_" (Some Builtins.NetDriver)
  pub net_id : Names "net_i" (Some Builtins.NetId)
  pub net_setup_link : Names "net_s" (Some Builtins.NetSetupLink)
  pub uaccess : Names "u" (Some Builtins.Uaccess)
  pub path_id : Names "p" (Some Builtins.PathId)
  pub factory_reset : Names "f" (Some Builtins.FactoryReset)
  pub tpm2_id : Names "tpm2_id" (Some Builtins.Tpm2Id)
  pub other : Names "x" None
  pub longer : Names "hwdb2" None
  pub capital : Names "HWDB" None
  pub empty : Names "" None

-- the name of the program that a command runs
abbrev pub Runs : String → String → Type 0
Runs command answer = program_name (codes command) ≡ codes answer

-- what a command's program may set
abbrev pub MaySet : String → List String → Type 0
MaySet command answer = program_may_set (codes command) ≡ Some (map codes answer)

-- a command's program may set any property
abbrev pub MaySetAny : String → Type 0
MaySetAny command = program_may_set (codes command) ≡ None

-- what builtins and programs may set
pub record SettableRows : Type 0 where
  pub path_id : may_set Builtins.PathId ≡ map codes ("ID_PATH" ∷ [])
  pub keyboard : may_set Builtins.Keyboard ≡ []
  pub blkid : may_set Builtins.Blkid ≡ map codes ("ID_FS_" ∷ "ID_PART_" ∷ [])
  pub path : Runs "/usr/lib/udev/ata_id --export $devnode" "ata_id"
  pub bare : Runs "ata_id" "ata_id"
  pub tab : Runs "a/b\tc/d" "b"
  pub slash_at_end : Runs "/usr/lib/ x" ""
  pub space_first : Runs " ata_id" ""
  pub ata_id : MaySet "/usr/lib/udev/ata_id" ("ID_ATA" ∷ "ID_TYPE" ∷ "ID_BUS" ∷ "ID_MODEL" ∷ "ID_REVISION" ∷ "ID_SERIAL" ∷ "ID_WWN" ∷ [])
  pub cdrom_id : MaySet "cdrom_id --lock-media $devnode" ("ID_CDROM" ∷ [])
  pub v4l_id : MaySet "v4l_id $devnode" ("ID_V4L_" ∷ [])
  pub mtd_probe : MaySet "mtd_probe $devnode" ("MTD_FTL" ∷ [])
  pub shell : MaySetAny "/bin/sh -c 'ata_id'"
  pub longer : MaySetAny "ata_id2"
  pub quoted : MaySetAny "'ata_id' x"
  pub empty : MaySetAny ""
