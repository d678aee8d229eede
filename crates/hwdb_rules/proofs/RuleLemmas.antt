-- Rules whose names are long.
use Rattle.std.proofs.Common.{◌≡◌, ◌++◌, ◌∙◌, Bool, List, [], true, false, refl, ap, sym, append-nil, append_assoc, codes, Option, Some, ℕ}
use Rattle.std.specs.Option.{option_map_or}
use Rattle.hwdb_spec_commands.specs.Sysfs.{At, first_of, is_in, is_named}
use Rattle.hwdb_spec_commands.specs.Lookups.{Lookup, Scene, address_rule, along_bus, ask_one, battery_rules, driver_rule, net_rules, serial_rules, when, battery_text, camera_rules, itself, name_text, named_rules, phys_text}
use Rattle.hwdb_rules.specs.Internal.{battery_plan, camera_plan, is_battery, is_video}

battery_when : (s : Scene) → is_battery s ≡ true → battery_rules s ≡ battery_plan s
unfolding is_battery battery_plan
battery_when s e = rw e refl

battery_unless : (s : Scene) → is_battery s ≡ false → battery_rules s ≡ []
unfolding is_battery battery_plan
battery_unless s e = rw e refl

camera_when : (s : Scene) → is_video s ≡ true → camera_rules s ≡ camera_plan s
unfolding is_video camera_plan
camera_when s e = rw e refl

camera_unless : (s : Scene) → is_video s ≡ false → camera_rules s ≡ []
unfolding is_video camera_plan
camera_unless s e = rw e refl

pub battery_asked : (s : Scene) (old new : List Lookup) → is_battery s ≡ true → new ≡ old ++ battery_plan s → new ≡ old ++ battery_rules s
battery_asked s old new e f = f ∙ ap (λ (l : List Lookup). old ++ l) (sym (battery_when s e))

pub no_battery : (s : Scene) (old : List Lookup) → is_battery s ≡ false → old ≡ old ++ battery_rules s
no_battery s old e = sym (append-nil old) ∙ ap (λ (l : List Lookup). old ++ l) (sym (battery_unless s e))

pub camera_asked : (s : Scene) (old new : List Lookup) → is_video s ≡ true → new ≡ old ++ camera_plan s → new ≡ old ++ camera_rules s
camera_asked s old new e f = f ∙ ap (λ (l : List Lookup). old ++ l) (sym (camera_when s e))

pub no_camera : (s : Scene) (old : List Lookup) → is_video s ≡ false → old ≡ old ++ camera_rules s
no_camera s old e = sym (append-nil old) ∙ ap (λ (l : List Lookup). old ++ l) (sym (camera_unless s e))

pub named : (s : Scene) (p : At) (old mid new : List Lookup) → Some p ≡ first_of (is_named (codes "input")) s.chain
    → mid ≡ old ++ ask_one (codes "60-evdev") p (name_text s p) → new ≡ mid ++ ask_one (codes "60-evdev") p (phys_text s p) → new ≡ old ++ named_rules s
named s p old mid new f e g =
    let n : List Lookup = ask_one (codes "60-evdev") p (name_text s p) in
    let h : List Lookup = ask_one (codes "60-evdev") p (phys_text s p) in
    g ∙ ap (λ (l : List Lookup). l ++ h) e ∙ append_assoc old n h
    ∙ ap (λ (o : Option At). old ++ option_map_or (λ q. ask_one (codes "60-evdev") q (name_text s q) ++ ask_one (codes "60-evdev") q (phys_text s q)) o []) f

pub battery_step : (s : Scene) (p : At) (text : List ℕ) (old new : List Lookup) → p ≡ itself s → text ≡ battery_text s
    → new ≡ old ++ ask_one (codes "60-upower-battery") p text → new ≡ old ++ battery_plan s
unfolding battery_plan
battery_step s p text old new e f g =
    g ∙ ap (λ (q : At). old ++ ask_one (codes "60-upower-battery") q text) e ∙ ap (λ (t : List ℕ). old ++ ask_one (codes "60-upower-battery") (itself s) t) f

when_so : {A : Type 0} (t : Bool) (l : List A) → t ≡ true → l ≡ when t l
when_so t l e = ap (λ (b : Bool). when b l) (sym e)

pub serial_asked : (s : Scene) (old new : List Lookup) → is_in (codes "tty") s.own ≡ true → new ≡ old ++ along_bus (codes "60-serial") s → new ≡ old ++ serial_rules s
serial_asked s old new e f = f ∙ ap (λ (l : List Lookup). old ++ l) (when_so (is_in (codes "tty") s.own) (along_bus (codes "60-serial") s) e)

pub net_asked : (s : Scene) (old a b new : List Lookup) → is_in (codes "net") s.own ≡ true → a ≡ old ++ driver_rule s
    → b ≡ a ++ along_bus (codes "75-net-description") s → new ≡ b ++ address_rule s → new ≡ old ++ net_rules s
net_asked s old a b new e f g h =
    let d : List Lookup = driver_rule s in
    let l : List Lookup = along_bus (codes "75-net-description") s in
    h ∙ ap (λ (x : List Lookup). x ++ address_rule s) (g ∙ ap (λ (x : List Lookup). x ++ l) f ∙ append_assoc old d l)
    ∙ append_assoc old (d ++ l) (address_rule s)
    ∙ ap (λ (x : List Lookup). old ++ x) (append_assoc d l (address_rule s) ∙ when_so (is_in (codes "net") s.own) (d ++ (l ++ address_rule s)) e)
