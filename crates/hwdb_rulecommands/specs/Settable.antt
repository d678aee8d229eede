-- Which properties builtins and udev's own programs may set, as lists of how their names begin. They are those of the sources
-- udev-builtin-*.c and of the programs' (systemd 257). A program is known by the last name of its path, and any other one may set any
-- property: both are our choice.
use Rattle.std.specs.Prelude.{List, [], ◌∷◌, if◌then◌else◌, ℕ, codes, Option, Some, None}
use Rattle.std.specs.List.{before_first}
use Rattle.std.specs.Str.{bytes_eq}
use Rattle.hwdb_spec.specs.Lines.{byte, has, is_indent}
use Rattle.hwdb_rulecommands.specs.declared.builtins.Builtin.{Builtin}
use Rattle.hwdb_rulecommands.specs.declared.builtins.Builtin.TheVariants as Builtins

-- of a builtin; what hwdb sets is what the database answers, and isn't listed
abbrev pub may_set : Builtin → List (List ℕ)
may_set Builtins.Blkid = codes "ID_FS_" ∷ codes "ID_PART_" ∷ []
may_set Builtins.Btrfs = codes "ID_BTRFS_READY" ∷ []
may_set Builtins.DissectImage = codes "ID_DISSECT_" ∷ []
may_set Builtins.FactoryReset = codes "ID_FACTORY_RESET" ∷ []
may_set Builtins.Hwdb = []
may_set Builtins.InputId = codes "ID_INPUT" ∷ []
may_set Builtins.Keyboard = []
may_set Builtins.Kmod = []
may_set Builtins.NetDriver = codes "ID_NET_DRIVER" ∷ []
may_set Builtins.NetId = codes "ID_NET_NAME_" ∷ codes "ID_NET_NAMING_SCHEME" ∷ codes "ID_NET_LABEL_ONBOARD" ∷ codes "ID_OUI_FROM_DATABASE" ∷ []
may_set Builtins.NetSetupLink = codes "ID_NET_LINK_FILE" ∷ codes "ID_NET_NAME" ∷ codes "ID_NET_DRIVER" ∷ []
may_set Builtins.PathId = codes "ID_PATH" ∷ []
may_set Builtins.Tpm2Id = codes "ID_TPM2_" ∷ []
may_set Builtins.Uaccess = []
may_set Builtins.UsbId =
    codes "ID_BUS" ∷ codes "ID_INSTANCE" ∷ codes "ID_MODEL" ∷ codes "ID_REVISION" ∷ codes "ID_SERIAL" ∷ codes "ID_TYPE" ∷ codes "ID_USB_" ∷ codes "ID_VENDOR" ∷ []

-- what comes after the last slash of a path; the whole path if it has none
abbrev pub last_name : List ℕ → List ℕ
last_name [] = []
last_name (b ∷ rest) = if has (byte "/") (b ∷ rest) then last_name rest else b ∷ rest

-- the name of the program that a command runs: the last one of its path, which ends before a space or a tab
abbrev pub program_name : List ℕ → List ℕ
program_name command = last_name (before_first is_indent command)

-- a program, and what it may set
pub record Program : Type 0 where
  pub name : List ℕ
  pub sets : List (List ℕ)

abbrev pub ata_id : Program
ata_id =
    record {
      name = codes "ata_id";
      sets = codes "ID_ATA" ∷ codes "ID_TYPE" ∷ codes "ID_BUS" ∷ codes "ID_MODEL" ∷ codes "ID_REVISION" ∷ codes "ID_SERIAL" ∷ codes "ID_WWN" ∷ [];
    }

abbrev pub cdrom_id : Program
cdrom_id = record { name = codes "cdrom_id"; sets = codes "ID_CDROM" ∷ [] }

abbrev pub dmi_memory_id : Program
dmi_memory_id = record { name = codes "dmi_memory_id"; sets = codes "MEMORY_" ∷ [] }

abbrev pub scsi_id : Program
scsi_id =
    record {
      name = codes "scsi_id";
      sets =
          codes "ID_SCSI" ∷ codes "ID_VENDOR" ∷ codes "ID_MODEL" ∷ codes "ID_REVISION" ∷ codes "ID_TYPE" ∷ codes "ID_SERIAL" ∷ codes "ID_WWN" ∷ codes "ID_TARGET_PORT" ∷ codes "ID_BUS" ∷ [];
    }

abbrev pub v4l_id : Program
v4l_id = record { name = codes "v4l_id"; sets = codes "ID_V4L_" ∷ [] }

abbrev pub fido_id : Program
fido_id = record { name = codes "fido_id"; sets = codes "ID_FIDO_TOKEN" ∷ codes "ID_SECURITY_TOKEN" ∷ [] }

abbrev pub mtd_probe : Program
mtd_probe = record { name = codes "mtd_probe"; sets = codes "MTD_FTL" ∷ [] }

-- udev's own programs
abbrev pub programs : List Program
programs = ata_id ∷ cdrom_id ∷ dmi_memory_id ∷ scsi_id ∷ v4l_id ∷ fido_id ∷ mtd_probe ∷ []

abbrev pub sets_of : (name : List ℕ) → List Program → Option (List (List ℕ))
sets_of name [] = None
sets_of name (p ∷ more) = if bytes_eq name p.name then Some p.sets else sets_of name more

-- of a command's program; nothing is told of one that isn't udev's own
abbrev pub program_may_set : List ℕ → Option (List (List ℕ))
program_may_set command = sets_of (program_name command) programs
