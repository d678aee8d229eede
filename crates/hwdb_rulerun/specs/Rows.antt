-- Values, texts and lines at which the definitions are computed. What udev does with each is from udev-rules.c (systemd 257), from fnmatch of
-- the C library, and from `udevadm test`.
use Rattle.std.specs.Prelude.{ℕ, List, [], ◌∷◌, codes, flat_map, map, ◌≡◌, Bool, true, false, Option, Some, None}
use Prim.Native.String.{String}
use Rattle.hwdb_rulefiles.specs.RuleTokens.{Token}
use Rattle.hwdb_rulefiles.specs.RuleFiles.{parsed}
use Rattle.hwdb_rulerun.specs.Matching
use Rattle.hwdb_rulerun.specs.Sights.{Missing, Sight, Text, Unknown}
use Rattle.hwdb_rulerun.specs.Telling.{line_told}
use Rattle.hwdb_rulerun.specs.Asking.{told}
use Rattle.hwdb_rulerun.specs.Causes.{cause}

-- the text is as the value has it, or it isn't
abbrev pub Fits : (value text : String) → Bool → Type 0
Fits value text answer = Matching.told false (codes value) (codes text) ≡ Some answer

-- the same, if capitals don't count
abbrev pub FitsFolded : (value text : String) → Bool → Type 0
FitsFolded value text answer = Matching.told true (codes value) (codes text) ≡ Some answer

-- the value isn't followed
abbrev pub IsUntold : (folds : Bool) → (value text : String) → Type 0
IsUntold folds value text = Matching.told folds (codes value) (codes text) ≡ None

-- values and texts
pub record MatchRows : Type 0 where
  pub plain : Fits "eth0" "eth0" true
  pub longer : Fits "eth" "eth0" false
  pub capitals : Fits "ETH0" "eth0" false
  pub star : Fits "eth*" "eth0" true
  pub slash : Fits "a*c" "a/b/c" true
  pub one : Fits "eth?" "eth" false
  pub bracket : Fits "sd[a-c]" "sdb" true
  pub inverted : Fits "sd[!a-c]" "sdb" false
  pub second : Fits "usb|pci" "pci" true
  pub neither : Fits "usb|pci" "usb|pci" false
  pub wild_second : Fits "mmc*|sd*" "sda" true
  pub empty : Fits "" "" true
  pub empty_value : Fits "" "a" false
  pub any : Fits "*" "" true
  pub some : Fits "?*" "" false
  pub bar_at_end : Fits "usb|" "" true
  pub bar_at_start : Fits "|usb" "" true
  pub two_bars : Fits "usb||pci" "" true
  pub no_empty : Fits "usb|pci" "" false
  pub backslash : Fits "a\\b" "a\\b" true
  pub folded : FitsFolded "ETH0" "eth0" true
  pub folded_star : FitsFolded "Eth*" "eTH0" true
  pub escape : IsUntold false "a\\*" "a*"
  pub class : IsUntold false "[[:digit:]]" "1"
  pub folded_bracket : IsUntold true "[A-C]" "b"

-- what is known of a network interface and of its parent
abbrev pub card : Sight
card =
    record {
      action = codes "add";
      path = codes "/devices/pci0000:00/0000:00:1f.6/net/eth0";
      own =
          record {
            name = codes "eth0";
            subsystem = Text (codes "net");
            driver = Missing;
            attributes =
                record { name = codes "address"; value = Text (codes "00:11 \n") }
                ∷ record { name = codes "phys_port_id"; value = Missing }
                ∷ record { name = codes "speed"; value = Unknown }
                ∷ [];
          };
      parents = record { name = codes "0000:00:1f.6"; subsystem = Text (codes "pci"); driver = Text (codes "e1000e"); attributes = [] }
          ∷ [];
      properties = record { name = codes "ID_BUS"; value = Text (codes "pci") } ∷ record { name = codes "ID_PATH"; value = Unknown } ∷ [];
      closed = true;
    }

-- the tokens of the lines of a text
abbrev pub tokens_of : String → List Token
tokens_of text = flat_map (λ l. l.tokens) (parsed (codes text)).lines

-- what is told of the conditions of a line
abbrev pub Tells : String → Option Bool → Type 0
Tells line answer = line_told card (tokens_of line) ≡ answer

-- conditions of lines
pub record ConditionRows : Type 0 where
  pub subsystem : Tells "SUBSYSTEM==\"net\", ENV{A}=\"1\"" (Some true)
  pub other_subsystem : Tells "SUBSYSTEM!=\"net\", ENV{A}=\"1\"" (Some false)
  pub all_subsystems : Tells "SUBSYSTEM==\"bus\", ENV{A}=\"1\"" (Some false)
  pub two : Tells "ACTION==\"add|change\", KERNEL==\"eth*\", ENV{A}=\"1\"" (Some true)
  pub no_driver : Tells "DRIVER==\"\", ENV{A}=\"1\"" (Some true)
  pub blanks : Tells "ATTR{address}==\"00:11\", ENV{A}=\"1\"" (Some true)
  pub blanks_count : Tells "ATTR{address}==\"00:11 \", ENV{A}=\"1\"" (Some false)
  pub no_attribute : Tells "ATTR{phys_port_id}!=\"x\", ENV{A}=\"1\"" (Some false)
  pub unknown_attribute : Tells "ATTR{speed}==\"1\", ENV{A}=\"1\"" None
  pub unread_attribute : Tells "ATTR{mtu}==\"1\", ENV{A}=\"1\"" None
  pub other_device : Tells "ATTR{[dmi/id]x}==\"1\", ENV{A}=\"1\"" None
  pub property : Tells "ENV{ID_BUS}==\"usb|pci\", ENV{A}=\"1\"" (Some true)
  pub no_property : Tells "ENV{ID_MODEL}!=\"?*\", ENV{A}=\"1\"" (Some true)
  pub unknown_property : Tells "ENV{ID_PATH}==\"x\", ENV{A}=\"1\"" None
  pub one_parent : Tells "KERNELS==\"0000:*\", DRIVERS==\"e1000e\", ENV{A}=\"1\"" (Some true)
  pub two_devices : Tells "KERNELS==\"eth*\", DRIVERS==\"e1000e\", ENV{A}=\"1\"" (Some false)
  pub itself : Tells "SUBSYSTEMS==\"net\", ENV{A}=\"1\"" (Some true)
  pub maybe_parent : Tells "ATTRS{vendor}==\"0x8086\", ENV{A}=\"1\"" None
  pub tag : Tells "TAG==\"?*\", ENV{A}=\"1\"" None
  pub no_decides : Tells "KERNEL==\"wlan*\", TAG==\"x\", ENV{A}=\"1\"" (Some false)
  pub unknown_stays : Tells "KERNEL==\"eth*\", TAG==\"x\", ENV{A}=\"1\"" None
  pub no_condition : Tells "ENV{A}=\"1\"" (Some true)

-- the lookups that are told of a line, and whether they are certain
abbrev pub Asks : String → List (List ℕ × Bool) → Type 0
Asks line answer = map (λ a. (a.token.value, a.certain)) (told card (tokens_of line)) ≡ answer

-- the values of the conditions that decide over a line
abbrev pub Decides : (fails : Bool) → String → List String → Type 0
Decides fails line values = map (λ t. t.value) (cause fails card (tokens_of line)) ≡ map codes values

-- lookups of lines, and causes
pub record LookupRows : Type 0 where
  pub certain : Asks "SUBSYSTEM==\"net\", IMPORT{builtin}=\"hwdb --subsystem=net\"" ((codes "hwdb --subsystem=net", true) ∷ [])
  pub refuted : Asks "KERNEL==\"wlan*\", IMPORT{builtin}=\"hwdb\"" []
  pub perhaps : Asks "TAG==\"?*\", IMPORT{builtin}=\"hwdb\"" ((codes "hwdb", false) ∷ [])
  pub second : Asks "IMPORT{builtin}=\"hwdb a\", IMPORT{builtin}=\"hwdb b\"" ((codes "hwdb a", true) ∷ (codes "hwdb b", false) ∷ [])
  pub program : Asks "IMPORT{builtin}=\"hwdb\", PROGRAM==\"x\"" ((codes "hwdb", false) ∷ [])
  pub as_program : Asks "IMPORT{program}=\"hwdb a\"" ((codes "hwdb a", true) ∷ [])
  pub shortened : Asks "IMPORT{builtin}=\"hw a\"" ((codes "hw a", true) ∷ [])
  pub address : Asks "IMPORT{builtin}=\"net_id\"" ((codes "net_id", true) ∷ [])
  pub short_address : Asks "IMPORT{builtin}=\" net_i x\"" ((codes " net_i x", true) ∷ [])
  pub driver : Asks "IMPORT{builtin}=\"net_\", IMPORT{builtin}=\"net_ids\"" []
  pub other : Asks "IMPORT{builtin}=\"usb_id\"" []
  pub refused_line : Asks "ATRS==\"1\", IMPORT{builtin}=\"hwdb\"" []
  pub own_cause : Decides false "KERNEL==\"eth*\", TAG==\"x\", ENV{A}=\"1\"" ("x" ∷ [])
  pub parents_cause : Decides false "KERNEL==\"eth*\", ATTRS{vendor}==\"y\", ENV{A}=\"1\"" ("y" ∷ [])
  pub no_cause : Decides true "TAG==\"x\", KERNEL==\"wlan*\", KERNEL==\"b\", ENV{A}=\"1\"" ("wlan*" ∷ [])
  pub no_parents : Decides true "KERNEL==\"eth*\", KERNELS==\"a\", DRIVERS==\"b\", ENV{A}=\"1\"" ("a" ∷ "b" ∷ [])
