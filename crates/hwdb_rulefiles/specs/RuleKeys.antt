-- The keys of rules and what each of them takes, after `parse_token` of udev-rules.c (systemd 257) and udev(7). CONST{cvm} came later.
use Rattle.std.specs.Prelude.{List, [], ◌∷◌, Bool, true, false, if◌then◌else◌, ℕ, ◌==◌, ◌-◌, nat_le, length, codes, not, Option, Some, None}
use Rattle.std.specs.List.{prefix_len}
use Rattle.std.specs.Str.{bytes_eq}
use Rattle.hwdb_spec.specs.Lines.{byte, is, is_none}
use Rattle.hwdb_rulefiles.specs.declared.findings.FindingKind.{FindingKind}
use Rattle.hwdb_rulefiles.specs.declared.findings.FindingKind.TheVariants.{NoAttribute, SpareAttribute, WrongAttribute, WrongOperator, WrongPrefix}
use Rattle.hwdb_rulefiles.specs.declared.pairs.Operator.{Operator}
use Rattle.hwdb_rulefiles.specs.declared.pairs.Operator.TheVariants.{Match, NoMatch, Add, Remove, Assign, AssignFinal}
use Rattle.hwdb_rulefiles.specs.declared.keys.Key.{Key}
use Rattle.hwdb_rulefiles.specs.declared.keys.Key.TheVariants.{Action, Devpath, Kernel, Subsystem, Driver, Const, Test, ProgramResult, Kernels, Subsystems, Drivers, Attrs, Tags, Symlink, Name, Env, Tag, Attr, Sysctl, Program, Import, Options, Owner, Group, Mode, Seclabel, Run, Goto, Label}
use Rattle.hwdb_rulefiles.specs.declared.keys.Need.{Need}
use Rattle.hwdb_rulefiles.specs.declared.keys.Need.TheVariants
use Rattle.hwdb_rulefiles.specs.declared.keys.Range.{Range}
use Rattle.hwdb_rulefiles.specs.declared.keys.Range.TheVariants.{Conditions, All, NoRemove, Effects, OnlyAssign}

-- keys that are compared
abbrev pub condition_key : List ℕ → Option Key
condition_key name =
    if bytes_eq name (codes "ACTION") then Some Action else
    (if bytes_eq name (codes "DEVPATH") then Some Devpath else
    (if bytes_eq name (codes "KERNEL") then Some Kernel else
    (if bytes_eq name (codes "SUBSYSTEM") then Some Subsystem else
    (if bytes_eq name (codes "DRIVER") then Some Driver else
    (if bytes_eq name (codes "CONST") then Some Const else
    (if bytes_eq name (codes "TEST") then Some Test else
    (if bytes_eq name (codes "RESULT") then Some ProgramResult else None)))))))

-- keys that are compared with a device or one of its parents
abbrev pub parent_key : List ℕ → Option Key
parent_key name =
    if bytes_eq name (codes "KERNELS") then Some Kernels else
    (if bytes_eq name (codes "SUBSYSTEMS") then Some Subsystems else
    (if bytes_eq name (codes "DRIVERS") then Some Drivers else
    (if bytes_eq name (codes "ATTRS") then Some Attrs else
    (if bytes_eq name (codes "TAGS") then Some Tags else None))))

-- keys that are compared or set
abbrev pub either_key : List ℕ → Option Key
either_key name =
    if bytes_eq name (codes "SYMLINK") then Some Symlink else
    (if bytes_eq name (codes "NAME") then Some Name else
    (if bytes_eq name (codes "ENV") then Some Env else
    (if bytes_eq name (codes "TAG") then Some Tag else
    (if bytes_eq name (codes "ATTR") then Some Attr else
    (if bytes_eq name (codes "SYSCTL") then Some Sysctl else
    (if bytes_eq name (codes "PROGRAM") then Some Program else
    (if bytes_eq name (codes "IMPORT") then Some Import else None)))))))

-- keys that are set
abbrev pub effect_key : List ℕ → Option Key
effect_key name =
    if bytes_eq name (codes "OPTIONS") then Some Options else
    (if bytes_eq name (codes "OWNER") then Some Owner else
    (if bytes_eq name (codes "GROUP") then Some Group else
    (if bytes_eq name (codes "MODE") then Some Mode else
    (if bytes_eq name (codes "SECLABEL") then Some Seclabel else
    (if bytes_eq name (codes "RUN") then Some Run else
    (if bytes_eq name (codes "GOTO") then Some Goto else
    (if bytes_eq name (codes "LABEL") then Some Label else None)))))))

-- the first of two that is there
abbrev pub or_else : {A : Type 0} → Option A → Option A → Option A
or_else (Some a) other = Some a
or_else None other = other

-- the key with this name
abbrev pub key_of : List ℕ → Option Key
key_of name = or_else (condition_key name) (or_else (parent_key name) (or_else (either_key name) (effect_key name)))

-- what a key takes in braces
abbrev pub need_of : Key → Need
need_of Env = TheVariants.Name
need_of Attr = TheVariants.Name
need_of Sysctl = TheVariants.Name
need_of Attrs = TheVariants.Name
need_of Seclabel = TheVariants.Name
need_of Const = TheVariants.Constant
need_of Test = TheVariants.Mode
need_of Import = TheVariants.Source
need_of Run = TheVariants.Command
need_of key = TheVariants.Nothing

-- which operators a key takes
abbrev pub range_of : Key → Range
range_of Symlink = All
range_of Tag = All
range_of Name = NoRemove
range_of Env = NoRemove
range_of Attr = NoRemove
range_of Sysctl = NoRemove
range_of Program = NoRemove
range_of Import = NoRemove
range_of Options = Effects
range_of Owner = Effects
range_of Group = Effects
range_of Mode = Effects
range_of Seclabel = Effects
range_of Run = Effects
range_of Goto = OnlyAssign
range_of Label = OnlyAssign
range_of key = Conditions

-- whether an operator compares
abbrev pub compares : Operator → Bool
compares Match = true
compares NoMatch = true
compares o = false

abbrev pub is_remove : Operator → Bool
is_remove Remove = true
is_remove o = false

abbrev pub is_assign : Operator → Bool
is_assign Assign = true
is_assign o = false

-- whether a range has an operator
abbrev pub has : Range → Operator → Bool
has Conditions o = compares o
has All o = true
has NoRemove o = not (is_remove o)
has Effects o = if compares o then false else not (is_remove o)
has OnlyAssign o = is_assign o

abbrev pub is_octal : ℕ → Bool
is_octal b = if nat_le (byte "0") b then nat_le b (byte "7") else false

abbrev pub octal_len : List ℕ → ℕ
octal_len text = prefix_len is_octal text

abbrev pub zeros_len : List ℕ → ℕ
zeros_len text = prefix_len (is (byte "0")) text

-- a mode, or no text: at most four octal digits after its zeros (`parse_mode`)
abbrev pub is_mode : List ℕ → Bool
is_mode text = if octal_len text == length text then nat_le (length text - zeros_len text) 4 else false

abbrev pub is_constant : List ℕ → Bool
is_constant text = if bytes_eq text (codes "arch") then true else (if bytes_eq text (codes "virt") then true else bytes_eq text (codes "cvm"))

-- where IMPORT takes properties from
abbrev pub is_source : List ℕ → Bool
is_source text =
    if bytes_eq text (codes "file") then true else (if bytes_eq text (codes "program") then true else (if bytes_eq text (codes "builtin") then true
    else (if bytes_eq text (codes "db") then true else (if bytes_eq text (codes "cmdline") then true else bytes_eq text (codes "parent")))))

-- what RUN runs
abbrev pub is_command : List ℕ → Bool
is_command text = if bytes_eq text (codes "program") then true else bytes_eq text (codes "builtin")

-- what is wrong if there is no attribute
abbrev pub lack : Need → Option FindingKind
lack TheVariants.Name = Some NoAttribute
lack TheVariants.Constant = Some NoAttribute
lack TheVariants.Source = Some NoAttribute
lack need = None

-- whether a need takes an attribute
abbrev pub takes : Need → List ℕ → Bool
takes TheVariants.Nothing text = false
takes TheVariants.Name text = not (is_none text)
takes TheVariants.Constant text = is_constant text
takes TheVariants.Mode text = is_mode text
takes TheVariants.Source text = is_source text
takes TheVariants.Command text = is_command text

-- what is wrong if it doesn't
abbrev pub mismatch : Need → FindingKind
mismatch TheVariants.Nothing = SpareAttribute
mismatch TheVariants.Name = NoAttribute
mismatch need = WrongAttribute

-- what is wrong with an attribute
abbrev pub need_fault : Need → Option (List ℕ) → Option FindingKind
need_fault need None = lack need
need_fault need (Some text) = if takes need text then None else Some (mismatch need)

abbrev pub attribute_fault : Key → Option (List ℕ) → Option FindingKind
attribute_fault key attribute = need_fault (need_of key) attribute

-- whether a value may have an `i` before it: if it is compared, but for what is run or tested
abbrev pub may_fold : Key → Operator → Bool
may_fold Test o = false
may_fold Program o = false
may_fold Import o = false
may_fold key o = compares o

-- what is wrong with a pair, whatever its value is; the first of these is told, which is our choice
abbrev pub form_fault : Key → (attribute : Option (List ℕ)) → Operator → (folds : Bool) → Option FindingKind
form_fault key attribute o folds =
    or_else (attribute_fault key attribute)
    (if has (range_of key) o then (if folds then (if may_fold key o then None else Some WrongPrefix) else None) else Some WrongOperator)

-- the operators in place of which udev takes =, and says so
abbrev pub is_taken_as_set : Key → Operator → Bool
is_taken_as_set Name Add = true
is_taken_as_set Owner Add = true
is_taken_as_set Group Add = true
is_taken_as_set Mode Add = true
is_taken_as_set Attr Add = true
is_taken_as_set Attr AssignFinal = true
is_taken_as_set Sysctl Add = true
is_taken_as_set Sysctl AssignFinal = true
is_taken_as_set Env AssignFinal = true
is_taken_as_set Tag AssignFinal = true
is_taken_as_set Seclabel AssignFinal = true
is_taken_as_set key o = false

-- the operator of a condition by what is run: = is as ==
abbrev pub as_condition : Operator → Operator
as_condition NoMatch = NoMatch
as_condition o = Match

abbrev pub as_option : Operator → Operator
as_option Add = Assign
as_option o = o

abbrev pub as_set : Key → Operator → Operator
as_set key o = if is_taken_as_set key o then Assign else o

-- the operator that udev takes
abbrev pub operator_for : Key → Operator → Operator
operator_for Program o = as_condition o
operator_for Import o = as_condition o
operator_for Options o = as_option o
operator_for key o = as_set key o
