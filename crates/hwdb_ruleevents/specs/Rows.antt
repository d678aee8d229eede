-- Worked rows: which lookups are told of the lines of rules, by hand from udev-rules.c (systemd 257). Texts are what `udevadm test` of systemd
-- 252 runs, but for long commands, of which it runs some more.
use Rattle.std.specs.Prelude.{List, [], ◌∷◌, ◌++◌, Bool, true, false, if◌then◌else◌, ℕ, codes, map, replicate, ◌≡◌, Option, Some, None}
use Prim.Native.String.{String}
use Rattle.std.specs.Str.{bytes_eq}
use Rattle.hwdb_rulefiles.specs.RuleLines.{RuleLine}
use Rattle.hwdb_rulefiles.specs.RuleFiles.{parsed}
use Rattle.hwdb_rulerun.specs.Rows.{card}
use Rattle.hwdb_rulefiles.specs.declared.tokens.TokenKind.TheVariants as Kinds
use Rattle.hwdb_rulerun.specs.Sights.{Missing, Sight, Unknown, Text}
use Rattle.hwdb_ruleevents.specs.Texts as texts
use Rattle.hwdb_ruleevents.specs.Texts.{Meaning, attribute_text, other_text, value_text}
use Rattle.hwdb_ruleevents.specs.Changes.{Change, Put}
use Rattle.hwdb_ruleevents.specs.Effects.{Commands, Effect, Knowledge, anything, opens}
use Rattle.hwdb_ruleevents.specs.Parents.{Nobody}
use Rattle.hwdb_ruleevents.specs.Telling.{tell_files}

-- a network interface and its parent
abbrev pub machine : Sight
machine =
    record card {
      parents =
          record {
            name = codes "0000:00:1f.6";
            subsystem = Text (codes "pci");
            driver = Text (codes "e1000e");
            attributes = record { name = codes "phys_port_id"; value = Text (codes "p1 ") } ∷ [];
          }
          ∷ [];
    }

-- what is known of two builtins, and of a program; nothing of others
abbrev pub command : (text : List ℕ) → Effect
command text =
    if bytes_eq text (codes "input_id") then record { succeeds = Some true; changes = Put (codes "ID_INPUT") (Text (codes "1")) ∷ [] } else
    (if bytes_eq text (codes "hwdb --subsystem=net") then record { succeeds = Some false; changes = [] } else
    (if bytes_eq text (codes "ata_id") then opens (codes "ID_ATA") else anything))

abbrev pub commands : Commands
commands t None cs = anything
commands t (Some text) cs = command text

-- what is known of a network interface
abbrev pub known : Knowledge
known =
    record {
      sight = machine;
      parent = Nobody;
      others =
          record { name = codes "[dmi/id]modalias"; value = Text (codes "dmi:bvnLENOVO:pvrThinkPadT14:") }
          ∷ record { name = codes "[dmi/id]bios_date"; value = Missing }
          ∷ [];
      commands = commands;
    }

-- its properties before any rule
abbrev pub before : List Change
before = Put (codes "ID_BUS") (Text (codes "pci")) ∷ Put (codes "ID_PATH") Unknown ∷ []

abbrev pub lines_in : String → List RuleLine
lines_in text = (parsed (codes text)).lines

-- the file and the line of each lookup, both from 0, and whether it is certain
abbrev pub Asks : List String → List (ℕ × ℕ × Bool) → Type 0
Asks files answer = map (λ t. (t.at.file, t.at.line, t.certain)) (tell_files known 0 before (map lines_in files)) ≡ answer

-- its one lookup is certain, or perhaps, or there is none
abbrev pub Certain : (first second : String) → Type 0
Certain first second = Asks (first ∷ second ∷ []) ((1, 0, true) ∷ [])

abbrev pub Perhaps : (first second : String) → Type 0
Perhaps first second = Asks (first ∷ second ∷ []) ((1, 0, false) ∷ [])

abbrev pub Nothing : (first second : String) → Type 0
Nothing first second = Asks (first ∷ second ∷ []) []

-- jumps
pub record JumpRows : Type 0 where
  pub taken : Asks ("KERNEL==\"eth*\", GOTO=\"a\"\nIMPORT{builtin}=\"hwdb\"\nLABEL=\"a\"\nIMPORT{builtin}=\"hwdb b\"\n" ∷ []) ((0, 3, true) ∷ [])
  pub not_taken : Asks ("KERNEL==\"wlan*\", GOTO=\"a\"\nIMPORT{builtin}=\"hwdb\"\nLABEL=\"a\"\nIMPORT{builtin}=\"hwdb b\"\n" ∷ []) ((0, 1, true) ∷ (0, 3, true) ∷ [])
  pub perhaps : Asks ("TAG==\"?*\", GOTO=\"a\"\nIMPORT{builtin}=\"hwdb\"\nLABEL=\"a\"\nIMPORT{builtin}=\"hwdb b\"\n" ∷ []) ((0, 1, false) ∷ (0, 3, true) ∷ [])
  pub two_labels : Asks
      ("TAG==\"?*\", GOTO=\"a\"\nGOTO=\"b\"\nIMPORT{builtin}=\"hwdb\"\nLABEL=\"a\"\nIMPORT{builtin}=\"hwdb b\"\nLABEL=\"b\", IMPORT{builtin}=\"hwdb c\"\n" ∷ [])
      ((0, 4, false) ∷ (0, 5, true) ∷ [])
  pub at_its_line : Asks ("GOTO=\"a\"\nLABEL=\"a\", IMPORT{builtin}=\"hwdb\"\n" ∷ []) ((0, 1, true) ∷ [])
  pub next_file : Asks ("TAG==\"?*\", GOTO=\"a\"\nTAG+=\"b\"\nLABEL=\"a\"\n" ∷ "IMPORT{builtin}=\"hwdb\"\n" ∷ []) ((1, 0, true) ∷ [])
  pub no_label : Asks ("GOTO=\"a\"\nIMPORT{builtin}=\"hwdb\"\n" ∷ []) ((0, 0, true) ∷ [])
  pub refused_line : Asks ("ATRS==\"1\", GOTO=\"a\"\nIMPORT{builtin}=\"hwdb\"\nLABEL=\"a\"\n" ∷ []) ((0, 0, true) ∷ [])
  pub failed_import : Asks ("IMPORT{builtin}=\"hwdb --subsystem=net\", GOTO=\"a\"\nIMPORT{builtin}=\"hwdb\"\nLABEL=\"a\"\n" ∷ []) ((0, 0, true) ∷ (0, 1, true) ∷ [])
  pub not_failed : Asks ("IMPORT{builtin}!=\"hwdb --subsystem=net\", GOTO=\"a\"\nIMPORT{builtin}=\"hwdb\"\nLABEL=\"a\"\n" ∷ []) ((0, 0, true) ∷ [])
  pub unknown_import : Asks ("IMPORT{builtin}=\"hwdb a\", GOTO=\"a\"\nIMPORT{builtin}=\"hwdb\"\nLABEL=\"a\"\n" ∷ []) ((0, 0, true) ∷ (0, 1, false) ∷ [])

-- properties that rules set
pub record PropertyRows : Type 0 where
  pub set : Certain "ENV{A}=\"1\"" "ENV{A}==\"1\", IMPORT{builtin}=\"hwdb\""
  pub newest : Nothing "ENV{A}=\"1\"\nENV{A}=\"2\"" "ENV{A}==\"1\", IMPORT{builtin}=\"hwdb\""
  pub emptied : Certain "ENV{ID_BUS}=\"\"" "ENV{ID_BUS}!=\"?*\", IMPORT{builtin}=\"hwdb\""
  pub nothing_added : Certain "ENV{ID_BUS}+=\"\"" "ENV{ID_BUS}==\"pci\", IMPORT{builtin}=\"hwdb\""
  pub first_added : Certain "ENV{A}+=\"1\"" "ENV{A}==\"1\", IMPORT{builtin}=\"hwdb\""
  pub added : Perhaps "ENV{ID_BUS}+=\"b\"" "ENV{ID_BUS}==\"pci b\", IMPORT{builtin}=\"hwdb\""
  pub perhaps_set : Perhaps "TAG==\"?*\", ENV{A}=\"1\"" "ENV{A}==\"1\", IMPORT{builtin}=\"hwdb\""
  pub not_set : Nothing "KERNEL==\"wlan*\", ENV{A}=\"1\"" "ENV{A}==\"1\", IMPORT{builtin}=\"hwdb\""
  pub replaced : Perhaps "ENV{A}=\"a/b\"" "ENV{A}==\"a/b\", IMPORT{builtin}=\"hwdb\""
  pub other_text : Certain "ENV{A}=\"$kernel\"" "ENV{A}==\"eth0\", IMPORT{builtin}=\"hwdb\""
  pub other_property : Certain "ENV{A}=\"$env{ID_BUS}\", ENV{A}+=\"\"" "ENV{A}==\"pci\", IMPORT{builtin}=\"hwdb\""
  pub unknown_text : Perhaps "ENV{A}=\"$attr{speed}\"" "ENV{A}==\"1\", IMPORT{builtin}=\"hwdb\""
  pub behind_jump : Perhaps "TAG==\"?*\", GOTO=\"a\"\nENV{A}=\"1\"\nLABEL=\"a\"" "ENV{A}==\"1\", IMPORT{builtin}=\"hwdb\""
  pub builtin : Certain "IMPORT{builtin}=\"input_id\"" "ENV{ID_INPUT}==\"1\", IMPORT{builtin}=\"hwdb\""
  pub after_builtin : Certain "IMPORT{builtin}=\"input_id\", ENV{A}=\"1\"" "ENV{A}==\"1\", IMPORT{builtin}=\"hwdb\""
  pub program : Certain "IMPORT{program}=\"ata_id\"" "ENV{ID_BUS}==\"pci\", IMPORT{builtin}=\"hwdb\""
  pub its_name : Perhaps "IMPORT{program}=\"ata_id\"" "ENV{ID_ATA_X}==\"1\", IMPORT{builtin}=\"hwdb\""
  pub other_program : Perhaps "IMPORT{program}=\"b\"" "ENV{ID_BUS}==\"pci\", IMPORT{builtin}=\"hwdb\""
  pub stored : Perhaps "IMPORT{db}=\"ID_BUS\"" "ENV{ID_BUS}==\"pci\", IMPORT{builtin}=\"hwdb\""
  pub other_stored : Certain "IMPORT{db}=\"A\"" "ENV{ID_BUS}==\"pci\", IMPORT{builtin}=\"hwdb\""
  pub verbatim : Certain "IMPORT{db}=\"$env{ID_PATH}\"" "ENV{ID_BUS}==\"pci\", IMPORT{builtin}=\"hwdb\""
  pub of_parent : Perhaps "IMPORT{parent}=\"ID_*\"" "ENV{ID_BUS}==\"pci\", IMPORT{builtin}=\"hwdb\""
  pub of_no_parent : Certain "IMPORT{parent}=\"A*\"" "ENV{ID_BUS}==\"pci\", IMPORT{builtin}=\"hwdb\""
  pub tags : Perhaps "TAG+=\"a\"" "ENV{TAGS}==\"?*\", IMPORT{builtin}=\"hwdb\""
  pub links : Perhaps "SYMLINK+=\"a\"" "ENV{DEVLINKS}==\"?*\", IMPORT{builtin}=\"hwdb\""
  pub run_later : Certain "RUN+=\"a\"" "ENV{ID_BUS}==\"pci\", IMPORT{builtin}=\"hwdb\""

-- the texts of the commands of a line
abbrev pub Texts : List RuleLine → List (Option (List ℕ)) → Type 0
Texts lines answer = map (λ t. t.text) (tell_files known 0 before (lines ∷ [])) ≡ answer

-- the line of a command of the builtin hwdb
abbrev pub words_of : String → List RuleLine
words_of words = (parsed (codes "IMPORT{builtin}=\"" ++ (codes words ++ codes "\""))).lines

-- no variable has a text
abbrev pub nothing_said : Meaning
nothing_said variable argument = None

-- the text of the builtin hwdb's words
abbrev pub Asked : (words text : String) → Type 0
Asked words text = Texts (words_of words) (Some (codes text) ∷ [])

-- they aren't known
abbrev pub Unasked : (words : String) → Type 0
Unasked words = Texts (words_of words) (None ∷ [])

-- variables: long names, letters, and what isn't one
pub record TextRows : Type 0 where
  pub literal : Asked "hwdb --subsystem=usb" "hwdb --subsystem=usb"
  pub kernel : Asked "hwdb a:$kernel" "hwdb a:eth0"
  pub letter : Asked "hwdb a:%k" "hwdb a:eth0"
  pub longer : Asked "hwdb a:$kernels" "hwdb a:eth0s"
  pub devpath : Asked "hwdb $devpath %p" "hwdb /devices/pci0000:00/0000:00:1f.6/net/eth0 /devices/pci0000:00/0000:00:1f.6/net/eth0"
  pub number : Asked "hwdb $number%n" "hwdb 00"
  pub property : Asked "hwdb $env{ID_BUS}%E{ID_BUS}" "hwdb pcipci"
  pub no_property : Asked "hwdb a$env{B}b" "hwdb ab"
  pub unknown_property : Unasked "hwdb a$env{ID_PATH}b"
  pub attribute : Asked "hwdb $attr{address}:$sysfs{address}:%s{address}" "hwdb 00:11:00:11:00:11"
  pub unknown_attribute : Unasked "hwdb $attr{speed}"
  pub missing_attribute : Asked "hwdb a$attr{phys_port_id}" "hwdb a"
  pub unread_attribute : Unasked "hwdb $attr{mtu}"
  pub machine : Asked "hwdb 'evdev:atkbd:$attr{[dmi/id]modalias}'" "hwdb 'evdev:atkbd:dmi:bvnLENOVO:pvrThinkPadT14:'"
  pub no_machine : Asked "hwdb a$attr{[dmi/id]bios_date}" "hwdb a"
  pub unread_machine : Unasked "hwdb a$attr{[dmi/id]bios_vendor}"
  pub folders : Asked "hwdb $root $sys %r%S" "hwdb /dev /sys /dev/sys"
  pub doubled : Asked "hwdb a$$b%%c" "hwdb a$b%c"
  pub no_variable : Asked "hwdb $b%z$" "hwdb $b%z$"
  pub no_end : Asked "hwdb a$attr{address" "hwdb a"
  pub nothing_in_braces : Asked "hwdb a$kernel{}b" "hwdb a"
  pub no_braces : Asked "hwdb a$env" "hwdb a"
  pub spare_braces : Asked "hwdb a$kernel{b}c" "hwdb aeth0c"
  pub result : Unasked "hwdb $result"
  pub long : value_text nothing_said Kinds.Env (replicate 512 97) ≡ None
  pub longest : value_text nothing_said Kinds.Env (replicate 511 97) ≡ Some (replicate 511 97)
  pub long_command : value_text nothing_said Kinds.ImportBuiltin (replicate 1024 97) ≡ None
  pub longest_command : value_text nothing_said Kinds.ImportBuiltin (replicate 1023 97) ≡ Some (replicate 1023 97)
  pub long_attribute : attribute_text (replicate 512 97) ≡ None
  pub long_other : other_text (Some (replicate 512 97)) ≡ replicate 511 97

-- attributes, as they are written into texts
pub record WrittenRows : Type 0 where
  pub blanks : attribute_text (codes " a b\t \n") ≡ Some (codes " a b")
  pub other_bytes : attribute_text (codes "a'(b)/c,d") ≡ Some (codes "a__b_/c,d")
  pub tab : attribute_text (codes "a\tb") ≡ Some (codes "a b")
  pub no_digits : texts.number (codes "input") ≡ []
  pub some_digits : texts.number (codes "input12") ≡ codes "12"
  pub all_digits : texts.number (codes "12") ≡ []

-- the text of the one command of the builtin hwdb in some files
abbrev pub AskedIn : List String → Option (List ℕ) → Type 0
AskedIn files answer = map (λ t. t.text) (tell_files known 0 before (map lines_in files)) ≡ answer ∷ []

-- the parent that a line chose
pub record ParentRows : Type 0 where
  pub chosen : AskedIn ("KERNELS==\"0000:*\", IMPORT{builtin}=\"hwdb $id:$driver:$attr{phys_port_id}:\"" ∷ []) (Some (codes "hwdb 0000:00:1f.6:e1000e:p1:"))
  pub nobody : AskedIn ("IMPORT{builtin}=\"hwdb a$id$driver%b%d\"" ∷ []) (Some (codes "hwdb a"))
  pub itself : AskedIn ("KERNELS==\"eth*\", IMPORT{builtin}=\"hwdb $id:$driver:$attr{phys_port_id}:\"" ∷ []) (Some (codes "hwdb eth0:::"))
  pub stays : AskedIn ("KERNELS==\"0000:*\", ENV{A}=\"1\"\nIMPORT{builtin}=\"hwdb $id\"" ∷ []) (Some (codes "hwdb 0000:00:1f.6"))
  pub next_file : AskedIn ("KERNELS==\"0000:*\", ENV{A}=\"1\"" ∷ "IMPORT{builtin}=\"hwdb $id\"" ∷ []) (Some (codes "hwdb 0000:00:1f.6"))
  pub none_fits : AskedIn ("KERNELS==\"0000:*\", ENV{A}=\"1\"\nKERNELS==\"usb*\", ENV{A}=\"1\"\nIMPORT{builtin}=\"hwdb a$id\"" ∷ []) (Some (codes "hwdb a"))
  pub earlier_fails : AskedIn ("KERNEL==\"wlan*\", KERNELS==\"0000:*\", ENV{A}=\"1\"\nIMPORT{builtin}=\"hwdb a$id\"" ∷ []) (Some (codes "hwdb a"))
  pub earlier_unknown : AskedIn ("TAG==\"x\", KERNELS==\"0000:*\", ENV{A}=\"1\"\nIMPORT{builtin}=\"hwdb a$id\"" ∷ []) None
  pub later_unknown : AskedIn ("KERNELS==\"0000:*\", TEST==\"x\", ENV{A}=\"1\"\nIMPORT{builtin}=\"hwdb a$id\"" ∷ []) (Some (codes "hwdb a0000:00:1f.6"))
  pub in_its_line : AskedIn ("TAG==\"x\", KERNELS==\"0000:*\", IMPORT{builtin}=\"hwdb a$id\"" ∷ []) (Some (codes "hwdb a0000:00:1f.6"))
  pub unknown : AskedIn ("ATTRS{speed}==\"1\", ENV{A}=\"1\"\nIMPORT{builtin}=\"hwdb a$id\"" ∷ []) None
  pub after_jump : AskedIn ("TAG==\"x\", GOTO=\"b\"\nKERNELS==\"0000:*\", ENV{A}=\"1\"\nLABEL=\"b\", IMPORT{builtin}=\"hwdb a$id\"" ∷ []) None
  pub of_a_node : AskedIn ("KERNELS==\"0000:*\", MODE=\"0600\"\nIMPORT{builtin}=\"hwdb a$id\"" ∷ []) None
  pub of_an_interface : AskedIn ("KERNELS==\"0000:*\", NAME=\"a\"\nIMPORT{builtin}=\"hwdb a$id\"" ∷ []) None
  pub label_alone : AskedIn ("KERNELS==\"0000:*\", LABEL=\"a\"\nIMPORT{builtin}=\"hwdb a$id\"" ∷ []) None
  pub jump : AskedIn ("KERNELS==\"0000:*\", TEST==\"x\", GOTO=\"a\"\nIMPORT{builtin}=\"hwdb a$id\"\nLABEL=\"a\"" ∷ []) (Some (codes "hwdb a0000:00:1f.6"))
