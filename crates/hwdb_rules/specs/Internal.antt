-- What the proofs of this crate speak of.
use Rattle.std.specs.Prelude.{Bool, List, ℕ, [], ◌∷◌, ◌++◌, codes, false, if◌then◌else◌}
use Rattle.hwdb_spec_commands.specs.Inputs.{Bits, has_events}
use Rattle.hwdb_spec.specs.Lines.{byte}
use Rattle.hwdb_spec_commands.specs.Lookups.{Lookup, Question, Scene, ask_one, battery_text, camera_text, itself, of_first, upper, is_carrier, is_driven, is_input_on, is_limited, is_no_tablet, is_psmouse}
use Rattle.hwdb_rules.specs.declared.inputs.Bits.{Bits as OwnedBits}
use Rattle.hwdb_spec_commands.specs.Sysfs.{Ancestor, At, attribute_is, has_driver, has_text, is_in, is_left, is_line_end, is_named, is_usb_device, is_white, left_whole}
use Rattle.hwdb_sysfs.specs.Views.{ancestor_of}
use Rattle.hwdb_rules.specs.declared.ancestors.At.{At as FoundAt}
use Rattle.hwdb_rules.specs.declared.ancestors.Wanted.{Wanted}
use Rattle.hwdb_rules.specs.declared.ancestors.Wanted.TheVariants.{In, DrivenBy, Driven, Named, With, Is, InputOn, Carrier, NoTablet, PsMouse, UsbDevice, Events}
use Rattle.hwdb_rules.specs.declared.values.Ends.{Ends}
use Rattle.hwdb_rules.specs.declared.values.Ends.TheVariants.{Lines, White}

-- whether a byte is cut from the end
abbrev pub is_cut : Ends → ℕ → Bool
is_cut Lines byte = is_line_end byte
is_cut White byte = is_white byte

-- whether a rule is for a device
abbrev pub passes : Wanted → Ancestor → Bool
passes (In subsystem) = is_in subsystem.now
passes (DrivenBy driver) = has_driver driver.now
passes Driven = is_driven
passes (Named start) = is_named start.now
passes (With name) = has_text name.now
passes (Is name value) = attribute_is name.now value.now
passes (InputOn number) = is_input_on number.now
passes Carrier = is_carrier
passes NoTablet = is_no_tablet
passes PsMouse = is_psmouse
passes UsbDevice = is_usb_device
passes Events = has_events

-- a device or a parent that was found
abbrev pub found_at : FoundAt → At
found_at f = record { place = f.place; ancestor = ancestor_of f.ancestor.now }

-- the masks of an input device
abbrev pub bits_in : OwnedBits → Bits
bits_in b = record { events = b.events.items; axes = b.axes.items; relative = b.relative.items; keys = b.keys.items; properties = b.properties.items }

-- one string
abbrev pub one_question : (parent : ℕ) → List ℕ → List Question
one_question parent text = record { parent = parent; text = text } ∷ []

-- strings of one rules file
abbrev pub one_plan : (rule : List ℕ) → List Question → List Lookup
one_plan rule questions = record { rule = rule; questions = questions } ∷ []

-- the string that is made of a device on USB that tells its numbers
abbrev pub usb_text_of : (vendor id product : List ℕ) → List ℕ
usb_text_of vendor id product = codes "usb:v" ++ (upper vendor ++ (codes "p" ++ (upper id ++ (byte ":" ∷ product))))

-- how many bytes from here on are left as they are
abbrev pub kept : ℕ → List ℕ → ℕ
kept b rest = if is_left b then 1 else left_whole b rest

-- whether it is a battery whose charge can be limited
unfoldable pub is_battery : Scene → Bool
is_battery s = if is_in (codes "power_supply") s.own then is_limited s.own else false

-- what is asked of a battery
unfoldable pub battery_plan : Scene → List Lookup
battery_plan s = ask_one (codes "60-upower-battery") (itself s) (battery_text s)

-- whether it is a device of video
unfoldable pub is_video : Scene → Bool
is_video s = is_in (codes "video4linux") s.own

-- what is asked of a camera
unfoldable pub camera_plan : Scene → List Lookup
camera_plan s = of_first is_usb_device s (λ p. ask_one (codes "70-camera") p (camera_text s p))
