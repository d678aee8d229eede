-- Where udev's rules files are, below a root. udev(7) and `CONF_PATHS` of systemd 257 have the four folders.
use Rattle.std.specs.Prelude.{◌++◌, List, [], codes, ℕ}
use Rattle.hwdb_spec.specs.Store.{path_in}
use Rattle.hwdb_rulefiles.specs.RuleFolders.{Chosen}
use Rattle.hwdb_rulefiles.specs.declared.choice.Folder.{Folder}
use Rattle.hwdb_rulefiles.specs.declared.choice.Folder.TheVariants.{Etc, Local, Run, Usr}

-- a folder of rules files
abbrev pub rules_folder : (root : List ℕ) → Folder → List ℕ
rules_folder root Etc = root ++ codes "/etc/udev/rules.d"
rules_folder root Run = root ++ codes "/run/udev/rules.d"
rules_folder root Local = root ++ codes "/usr/local/lib/udev/rules.d"
rules_folder root Usr = root ++ codes "/usr/lib/udev/rules.d"

-- the path of a chosen file below the root, as it is printed
abbrev pub rules_path : Chosen → List ℕ
rules_path c = path_in (rules_folder [] c.folder) c.name
