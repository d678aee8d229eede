-- Worked rows: what rules read, what is known before them, what commands do, and which strings are asked. By hand from udev-rules.c,
-- sd-device.c and the sources of the builtins (systemd 257).
use Rattle.std.specs.Prelude.{List, [], ◌∷◌, ◌++◌, Bool, Option, true, false, if◌then◌else◌, ℕ, codes, map, ◌≡◌, Some, None}
use Prim.Native.String.{String}
use Rattle.std.specs.Str.{bytes_eq}
use Rattle.hwdb_spec.specs.Assignment.{Assignment}
use Rattle.hwdb_spec.specs.Tree.Children.{NoMore}
use Rattle.hwdb_spec.specs.Tree.Tree.{Node}
use Rattle.hwdb_spec_commands.specs.Lookups.{Told}
use Rattle.hwdb_spec_commands.specs.Sysfs.{Ancestor, Attribute, Device}
use Rattle.hwdb_spec_commands.specs.declared.devices.DeviceForm.{DeviceForm}
use Rattle.hwdb_spec_commands.specs.declared.devices.DeviceForm.TheVariants as Forms
use Rattle.hwdb_rulefiles.specs.RuleFiles.{parsed}
use Rattle.hwdb_rulefiles.specs.RuleLines.{RuleLine}
use Rattle.hwdb_rulerun.specs.Sights.{Known, Unknown, Missing, Text}
use Rattle.hwdb_ruleevents.specs.Changes.{value_in}
use Rattle.hwdb_spec_rules.specs.RuleAnswers.{rules_misuse, strings_asked, wants_rules, whose, without_ending}
use Rattle.hwdb_spec_rules.specs.RuleNames.{file_names}
use Rattle.hwdb_spec_rules.specs.RuleSights.{first_properties, known_attribute}
use Rattle.hwdb_spec_rules.specs.RuleStrings.{RulesFile, found_by_rules, whys_by_rules}
use Rattle.hwdb_spec_rules.specs.RuleWhys.{whys_form}
use Rattle.hwdb_spec_rules.specs.declared.forms.Whose.TheVariants.{BuiltIn, OwnFirst}

-- the lines of a rules file
abbrev pub lines_of : String → List RuleLine
lines_of text = (parsed (codes text)).lines

-- what a line reads
abbrev pub Names : (line : String) → List (List ℕ) → Type 0
Names line names = file_names (lines_of line) ≡ names

-- the names that lines read
pub record NameRows : Type 0 where
  pub condition : Names "ATTRS{id/vendor}==\"1\", ENV{A}=\"1\"" (codes "id/vendor" ∷ [])
  pub own_condition : Names "ATTR{address}!=\"1\", ENV{A}=\"1\"" (codes "address" ∷ [])
  pub other_device : Names "ATTR{[dmi/id]x}==\"1\", ENV{A}=\"1\"" []
  pub long_name : Names "ENV{A}=\"$attr{name}\"" (codes "name" ∷ [])
  pub old_name : Names "ENV{A}=\"$sysfs{name}\"" (codes "name" ∷ [])
  pub letter : Names "ENV{A}=\"%s{name}\"" (codes "name" ∷ [])
  pub property : Names "ENV{A}=\"$env{name}\"" []
  pub machine : Names "ENV{A}=\"$attr{[dmi/id]modalias}\"" []
  pub command : Names "IMPORT{builtin}=\"hwdb '$attr{a}:$attr{b}'\"" (codes "a" ∷ codes "b" ∷ [])
  pub compared : Names "KERNEL==\"$attr{a}\", ENV{A}=\"1\"" []
  pub run_later : Names "RUN+=\"$attr{a}\"" []

-- an attribute by its words
abbrev pub attribute : (name value : String) → Attribute
attribute name value = record { name = codes name; value = codes value }

-- an event device of a mouse, its input device, its interface on USB, and the device on USB
abbrev pub event : Ancestor
event =
    record {
      path = codes "/devices/usb1/1-1/1-1:1.0/input1/event3";
      name = codes "event3";
      subsystem = codes "input";
      driver = [];
      uevent = codes "MAJOR=13\nDEVNAME=input/event3\nEMPTY=\nODD\n";
      attributes = [];
    }

-- its parent: the input device
abbrev pub input : Ancestor
input =
    record {
      path = codes "/devices/usb1/1-1/1-1:1.0/input1";
      name = codes "input1";
      subsystem = codes "input";
      driver = [];
      uevent = codes "MODALIAS=input:b3\n";
      attributes = attribute "name" "A Mouse\n" ∷ attribute "odd" "a\0b\n" ∷ attribute "driver" "x\n" ∷ attribute "../up" "x\n" ∷ [];
    }

-- the input device's parent: an interface of USB
abbrev pub interface : Ancestor
interface =
    record {
      path = codes "/devices/usb1/1-1/1-1:1.0";
      name = codes "1-1:1.0";
      subsystem = codes "usb";
      driver = codes "usbhid";
      uevent = codes "DEVTYPE=usb_interface\n";
      attributes = attribute "bInterfaceClass" "03\n" ∷ [];
    }

-- the interface's parent: the device on USB
abbrev pub usb : Ancestor
usb =
    record {
      path = codes "/devices/usb1/1-1";
      name = codes "1-1";
      subsystem = codes "usb";
      driver = codes "usb";
      uevent = codes "DEVTYPE=usb_device\n";
      attributes = attribute "idVendor" "045e\n" ∷ attribute "idProduct" "0040\n" ∷ [];
    }

-- the mouse: the device and its parents
abbrev pub mouse : Device
mouse = record { chain = event ∷ input ∷ interface ∷ usb ∷ []; machine = codes "dmi:bvnX:\n" }

-- what is known of an attribute of the input device
abbrev pub IsKnownAs : (name : String) → Known → Type 0
IsKnownAs name value = known_attribute input (codes name) ≡ value

-- what is known of a property before any rule, as the device is added
abbrev pub Begins : (name : String) → Known → Type 0
Begins name value = value_in (first_properties (codes "add") event) (codes name) ≡ value

-- attributes, and the properties that a device begins with
pub record SightRows : Type 0 where
  pub text : IsKnownAs "name" (Text (codes "A Mouse"))
  pub none : IsKnownAs "phys" Missing
  pub with_byte_0 : IsKnownAs "odd" Unknown
  pub link : IsKnownAs "driver" Unknown
  pub above : IsKnownAs "../up" Unknown
  pub told : Begins "MAJOR" (Text (codes "13"))
  pub node : Begins "DEVNAME" Unknown
  pub empty : Begins "EMPTY" Missing
  pub no_value : Begins "ODD" Missing
  pub action : Begins "ACTION" (Text (codes "add"))
  pub path : Begins "DEVPATH" (Text (codes "/devices/usb1/1-1/1-1:1.0/input1/event3"))
  pub subsystem : Begins "SUBSYSTEM" (Text (codes "input"))
  pub number : Begins "SEQNUM" Unknown
  pub other : Begins "ID_BUS" Missing

-- a key that a database gives, with one answer
abbrev pub given : (key value : String) → List ℕ × List Assignment
given key value = (codes key, record { position = record { priority = 1; line = 1; pattern = codes "*"; key = codes key }; value = codes value; path = codes "/a.hwdb" } ∷ [])

-- a database that answers one string
abbrev pub tells : List ℕ → Told
tells text = if bytes_eq text (codes "mine:yes") then given "MINE" "1" ∷ [] else []

-- one rules file
abbrev pub rules : String → List RulesFile
rules text = record { name = codes "60-a"; lines = lines_of text } ∷ []

-- which lines ask which strings for the mouse
abbrev pub Ask : String → List (List ℕ × List ℕ) → Type 0
Ask text found = map (λ f. (f.rule, f.text)) (found_by_rules tells (rules text) mouse) ≡ found

-- a network device with an address of its own
abbrev pub card : Device
card =
    record {
      chain = record {
        path = codes "/devices/virtual/net/eth0";
        name = codes "eth0";
        subsystem = codes "net";
        driver = [];
        uevent = codes "INTERFACE=eth0\nIFINDEX=2\n";
        attributes = attribute "addr_assign_type" "0\n" ∷ attribute "address" "00:16:3e:5e:6c:0f\n" ∷ attribute "ifindex" "2\n" ∷ attribute "iflink" "2\n" ∷ attribute "type" "1\n" ∷ [];
      } ∷ [];
      machine = [];
    }

-- what its address gets
abbrev pub owners : List ℕ → Told
owners text = if bytes_eq text (codes "OUI:00163E5E6C0F") then given "OWNER" "Xensource" ∷ [] else []

-- which lines ask which strings for it
abbrev pub AskNet : String → List (List ℕ × List ℕ) → Type 0
AskNet text found = map (λ f. (f.rule, f.text)) (found_by_rules owners (rules text) card) ≡ found

-- one line that asks one string
abbrev pub one : (rule text : String) → List (List ℕ × List ℕ)
one rule text = (codes rule, codes text) ∷ []

-- the strings that rules ask
pub record AskedRows : Type 0 where
  pub certain : Ask "KERNEL==\"event*\", IMPORT{builtin}=\"hwdb a:$kernel\"" (one "60-a:1" "a:event3")
  pub of_parent : Ask "KERNELS==\"input*\", IMPORT{builtin}=\"hwdb 'a:$attr{name}'\"" (one "60-a:1" "a:A Mouse")
  pub of_machine : Ask "IMPORT{builtin}=\"hwdb '$attr{[dmi/id]modalias}'\"" (one "60-a:1" "dmi:bvnX:")
  pub walk : Ask "IMPORT{builtin}=\"hwdb --subsystem=input --lookup-prefix=a:\"" (one "60-a:1" "a:input:b3")
  pub walk_on : Ask "IMPORT{builtin}=\"hwdb --lookup-prefix=a:\"" ((codes "60-a:1", codes "a:input:b3") ∷ (codes "60-a:1", codes "a:usb:v045Ep0040:") ∷ [])
  pub set_alias : Ask "IMPORT{builtin}=\"hwdb --subsystem=input\"\nENV{MODALIAS}=\"x\"\nIMPORT{builtin}=\"hwdb --subsystem=input\"" ((codes "60-a:1", codes "input:b3") ∷ (codes "60-a:3", codes "x") ∷ (codes "60-a:3", codes "input:b3") ∷ [])
  pub other_subsystem : Ask "ENV{MODALIAS}=\"x\"\nIMPORT{builtin}=\"hwdb --subsystem=usb\"" (one "60-a:2" "usb:v045Ep0040:")
  pub unknown_alias : Ask "IMPORT{parent}=\"*\"\nIMPORT{builtin}=\"hwdb\"" (one "perhaps 60-a:2 (what it asks isn't known)" "hwdb")
  pub perhaps : Ask "TAG==\"x\", IMPORT{builtin}=\"hwdb a\"" (one "perhaps 60-a:1 (TAG==\"x\" isn't known)" "a")
  pub perhaps_passed : Ask "TAG==\"x\", GOTO=\"e\"\nIMPORT{builtin}=\"hwdb a\"\nLABEL=\"e\"" (one "perhaps 60-a:2 (perhaps passed over by GOTO=\"e\")" "a")
  pub perhaps_run : Ask "IMPORT{program}=\"mine\", IMPORT{builtin}=\"hwdb a\"" (one "perhaps 60-a:1 (IMPORT{program}=\"mine\" isn't known)" "a")
  pub untold : Ask "IMPORT{builtin}=\"hwdb $env{DEVNAME}\"" (one "perhaps 60-a:1 (IMPORT{builtin}=\"hwdb $env{DEVNAME}\" isn't known)" "hwdb $env{DEVNAME}")
  pub of_all : strings_asked (Some (rules "IMPORT{builtin}=\"hwdb a:$kernel\"\nIMPORT{builtin}=\"hwdb b\"")) mouse (Node [] [] NoMore) ≡ codes "a:event3" ∷ codes "b" ∷ []
  pub option : Ask "IMPORT{builtin}=\"hwdb --filter=a b\"" (one "perhaps 60-a:1 (what it asks isn't known)" "hwdb --filter=a b")
  pub no_subsystem : Ask "IMPORT{builtin}=\"hwdb --subsystem= --lookup-prefix=a:\"" []
  pub answer : Ask "IMPORT{builtin}=\"hwdb mine:yes\"\nENV{MINE}==\"1\", IMPORT{builtin}=\"hwdb a:$env{MINE}\"" ((codes "60-a:1", codes "mine:yes") ∷ (codes "60-a:2", codes "a:1") ∷ [])
  pub no_answer : Ask "IMPORT{builtin}=\"hwdb mine:no\", ENV{A}=\"1\"\nENV{A}==\"1\", IMPORT{builtin}=\"hwdb a\"" (one "60-a:1" "mine:no")
  pub usb_id : Ask "IMPORT{builtin}=\"usb_id\"\nENV{ID_BUS}==\"usb\", IMPORT{builtin}=\"hwdb $env{ID_VENDOR_ID}:$env{ID_MODEL_ID}\"" (one "60-a:2" "045e:0040")
  pub usb_id_later : Ask "ENV{ID_BUS}=\"x\"\nIMPORT{builtin}=\"usb_id\"\nENV{ID_BUS}==\"x\", IMPORT{builtin}=\"hwdb a\"" (one "60-a:3" "a")
  pub usb_id_other : Ask "IMPORT{builtin}=\"usb_id\"\nENV{ID_MODEL_FROM_DATABASE}==\"\", IMPORT{builtin}=\"hwdb a\"" (one "60-a:2" "a")
  pub usb_id_serial : Ask "IMPORT{builtin}=\"usb_id\"\nENV{ID_SERIAL}!=\"x\", IMPORT{builtin}=\"hwdb a\"" (one "perhaps 60-a:2 (ENV{ID_SERIAL}!=\"x\" isn't known)" "a")
  pub net_id : AskNet "KERNEL==\"eth*\", IMPORT{builtin}=\"net_id\"" (one "60-a:1" "OUI:00163E5E6C0F")
  pub net_id_perhaps : AskNet "TAG==\"x\", IMPORT{builtin}=\"net_id\"" (one "perhaps 60-a:1 (TAG==\"x\" isn't known)" "OUI:00163E5E6C0F")
  pub net_id_gives : AskNet "IMPORT{builtin}=\"net_id\"\nENV{OWNER}!=\"x\", IMPORT{builtin}=\"hwdb a\"\nENV{B}!=\"x\", IMPORT{builtin}=\"hwdb b\""
      ((codes "60-a:1", codes "OUI:00163E5E6C0F") ∷ (codes "perhaps 60-a:2 (ENV{OWNER}!=\"x\" isn't known)", codes "a") ∷ (codes "60-a:3", codes "b") ∷ [])
  pub no_address : Ask "IMPORT{builtin}=\"net_id\"" []
  pub own_program : Ask "IMPORT{program}=\"/usr/lib/udev/ata_id --export $devnode\"\nENV{A}!=\"x\", IMPORT{builtin}=\"hwdb a\"" (one "60-a:2" "a")
  pub other_program : Ask "IMPORT{program}=\"mine\"\nENV{A}!=\"x\", IMPORT{builtin}=\"hwdb a\"" (one "perhaps 60-a:2 (ENV{A}!=\"x\" isn't known)" "a")
  pub change : Ask "ACTION==\"change\", IMPORT{builtin}=\"hwdb a\"\nIMPORT{builtin}=\"hwdb b\"" ((codes "60-a:2", codes "b") ∷ (codes "60-a:1", codes "a") ∷ [])

-- what is printed of why lines ask the mouse's strings, or don't
abbrev pub Tell : (text printed : String) → Type 0
Tell text printed = whys_form Forms.Lookups (whys_by_rules tells (rules text) mouse) ≡ codes printed

-- why lines ask, may ask, or don't
pub record WhyRows : Type 0 where
  pub asks : Tell "KERNEL==\"event*\", IMPORT{builtin}=\"hwdb a\"" "60-a:1 asks\n"
  pub no_lookup : Tell "KERNEL==\"event*\", ENV{A}=\"1\"" ""
  pub own : Tell "KERNEL==\"event*\", SUBSYSTEM!=\"input\", IMPORT{builtin}=\"hwdb a\"" "60-a:1 doesn't ask: SUBSYSTEM!=\"input\" fails\n"
  pub property : Tell "ENV{A}==i\"b\", IMPORT{builtin}=\"hwdb a\"" "60-a:1 doesn't ask: ENV{A}==i\"b\" fails\n"
  pub parents : Tell "KERNELS==\"input*\", SUBSYSTEMS==\"usb\", IMPORT{builtin}=\"hwdb a\"" "60-a:1 doesn't ask: neither the device nor a parent has KERNELS==\"input*\", SUBSYSTEMS==\"usb\"\n"
  pub passed : Tell "GOTO=\"e\"\nIMPORT{builtin}=\"hwdb a\"\nLABEL=\"e\"" "60-a:2 doesn't ask: passed over by GOTO=\"e\"\n"
  pub two_jumps : Tell "TAG==\"x\", GOTO=\"e\"\nGOTO=\"f\"\nIMPORT{builtin}=\"hwdb a\"\nLABEL=\"e\"\nLABEL=\"f\"" "60-a:3 doesn't ask: passed over by GOTO=\"e\", GOTO=\"f\"\n"
  pub same_jump : Tell "TAG==\"x\", GOTO=\"e\"\nGOTO=\"e\"\nIMPORT{builtin}=\"hwdb a\"\nLABEL=\"e\"" "60-a:3 doesn't ask: passed over by GOTO=\"e\"\n"
  pub many_jumps : Tell "TAG==\"x\", GOTO=\"e\"\nTAG==\"x\", GOTO=\"f\"\nTAG==\"x\", GOTO=\"g\"\nTAG==\"x\", GOTO=\"h\"\nGOTO=\"i\"\nIMPORT{builtin}=\"hwdb a\"\nLABEL=\"e\"\nLABEL=\"f\"\nLABEL=\"g\"\nLABEL=\"h\"\nLABEL=\"i\"" "60-a:6 doesn't ask: passed over by GOTO=\"e\", GOTO=\"f\", GOTO=\"g\", ..\n"
  pub run : Tell "IMPORT{builtin}=\"hwdb mine:no\", IMPORT{builtin}=\"hwdb a\"\nIMPORT{builtin}!=\"input_id\", IMPORT{builtin}=\"hwdb a\"" "60-a:1 asks\n60-a:2 doesn't ask: IMPORT{builtin}!=\"input_id\" fails\n"
  pub may : Tell "TAG==\"x\", IMPORT{builtin}=\"hwdb a\"" "60-a:1 may ask: TAG==\"x\" isn't known\n"
  pub may_be_passed : Tell "TAG==\"x\", GOTO=\"e\"\nIMPORT{builtin}=\"hwdb a\"\nLABEL=\"e\"" "60-a:2 may ask: perhaps passed over by GOTO=\"e\"\n"
  pub change : Tell "ACTION==\"change\", IMPORT{builtin}=\"hwdb a\"" "60-a:1 asks\n"
  pub no_action : Tell "ACTION==\"remove\", IMPORT{builtin}=\"hwdb a\"" "60-a:1 doesn't ask: ACTION==\"remove\" fails\n"
  pub json : whys_form Forms.Json (whys_by_rules tells (rules "KERNEL==\"x\", IMPORT{builtin}=\"hwdb a\"\nIMPORT{builtin}=\"hwdb b\"") mouse)
      ≡ codes "{\"rule\":\"60-a:1\",\"asks\":\"no\",\"cause\":\"KERNEL==\\\"x\\\" fails\"}\n{\"rule\":\"60-a:2\",\"asks\":\"yes\"}\n"

-- the words that ask for the machine's own rules
abbrev pub Misuses : (why : Bool) → DeviceForm → (udev given : Option (List ℕ)) (all from : Bool) → Option (List ℕ) → Type 0
Misuses why form udev given all from said = rules_misuse (record { why = why; form = form }) udev given all from ≡ said

-- words
pub record WordRows : Type 0 where
  pub none : wants_rules false None ≡ false
  pub why : wants_rules true None ≡ true
  pub system : wants_rules false (Some (codes "system")) ≡ true
  pub built_in : wants_rules false (Some (codes "built-in")) ≡ false
  pub why_built_in : wants_rules true (Some (codes "built-in")) ≡ true
  pub other_word : wants_rules false (Some (codes "257")) ≡ true
  pub own_first : whose None Forms.Json ≡ OwnFirst Forms.Json
  pub theirs : whose (Some (codes "built-in")) Forms.Json ≡ BuiltIn Forms.Json
  pub other : Misuses false Forms.Lookups (Some (codes "257")) (Some (codes "event3")) false false (Some (codes "--udev takes system or built-in"))
  pub no_device : Misuses false Forms.Lookups (Some (codes "system")) None false false (Some (codes "--udev system needs DEVICE or --all, without --from"))
  pub no_export : Misuses false Forms.Lookups (Some (codes "system")) (Some (codes "event3")) false true (Some (codes "--udev system needs DEVICE or --all, without --from"))
  pub all : Misuses false Forms.Strings (Some (codes "system")) None true false None
  pub fits : Misuses false Forms.Strings (Some (codes "system")) (Some (codes "event3")) false false None
  pub why_fits : Misuses true Forms.Json None (Some (codes "event3")) false false None
  pub why_needs : Misuses true Forms.Lookups None None false false (Some (codes "--why needs DEVICE, without --all and --from"))
  pub why_all : Misuses true Forms.Lookups (Some (codes "system")) (Some (codes "event3")) true false (Some (codes "--why needs DEVICE, without --all and --from"))
  pub why_export : Misuses true Forms.Lookups None (Some (codes "event3")) false true (Some (codes "--why needs DEVICE, without --all and --from"))
  pub why_of_built_in : Misuses true Forms.Lookups (Some (codes "built-in")) (Some (codes "event3")) false false (Some (codes "--why tells of the machine's own rules: leave out --udev built-in"))
  pub why_strings : Misuses true Forms.Strings None (Some (codes "event3")) false false (Some (codes "--why goes without --strings and --pattern"))
  pub why_pattern : Misuses true Forms.Pattern None (Some (codes "event3")) false false (Some (codes "--why goes without --strings and --pattern"))
  pub ending : without_ending (codes "60-evdev.rules") ≡ codes "60-evdev"
