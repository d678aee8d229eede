-- Rules files at which `parsed` is computed. What udev does with each is from udev-rules.c (systemd 257), from udev(7), and from
-- `udevadm test` and `udevadm verify`; some lines are as in systemd's own rules.
use Rattle.std.specs.Prelude.{ℕ, List, [], codes, ◌∷◌, ◌++◌, map, ◌≡◌, Option, Some, None, replicate}
use Prim.Native.String.{String}
use Rattle.hwdb_rulefiles.specs.RuleTokens.{Token}
use Rattle.hwdb_rulefiles.specs.RuleLines.{RuleLine}
use Rattle.hwdb_rulefiles.specs.RuleText.{rows}
use Rattle.hwdb_rulefiles.specs.RuleFiles.{parsed}
use Rattle.hwdb_rulefiles.specs.RuleSpots.{spot}
use Rattle.hwdb_rulefiles.specs.RuleTexts.{report}
use Rattle.hwdb_rulefiles.specs.RuleFolders.{Chosen, choice}
use Rattle.hwdb_rulefiles.specs.declared.choice.Folder.{Folder}
use Rattle.hwdb_rulefiles.specs.declared.choice.Folder.TheVariants.{Etc, Run, Local, Usr}
use Rattle.hwdb_rulefiles.specs.declared.findings.Finding.{Finding}
use Rattle.hwdb_rulefiles.specs.declared.findings.FindingKind.{FindingKind}
use Rattle.hwdb_rulefiles.specs.declared.findings.FindingKind.TheVariants as Found
use Rattle.hwdb_rulefiles.specs.declared.tokens.TokenKind.{TokenKind}
use Rattle.hwdb_rulefiles.specs.declared.tokens.TokenKind.TheVariants as Kinds

-- the number of each line that is kept, and the types of its tokens
abbrev pub kept : List ℕ → List (ℕ × List TokenKind)
kept file = map (λ l. (l.number, map (λ t. t.kind) l.tokens)) (parsed file).lines

-- the line and the kind of each finding
abbrev pub told : List ℕ → List (ℕ × FindingKind)
told file = map (λ f. (f.line, f.kind)) (parsed file).findings

-- what a file keeps, and what is found in it
abbrev pub Says : String → List (ℕ × List TokenKind) → List (ℕ × FindingKind) → Type 0
Says file lines findings = (kept (codes file) ≡ lines) × (told (codes file) ≡ findings)

-- the file is one line, which is kept, and nothing is found
abbrev pub IsFine : String → List TokenKind → Type 0
IsFine file kinds = Says file ((1, kinds) ∷ []) []

-- the only line is left out for one reason
abbrev pub IsRefused : String → FindingKind → Type 0
IsRefused file kind = Says file [] ((1, kind) ∷ [])

-- the values of all tokens
abbrev pub values : List ℕ → List (List (List ℕ))
values file = map (λ l. map (λ t. t.value) l.tokens) (parsed file).lines

-- rows and lines that go on
pub record LineRows : Type 0 where
  pub none : Says "" [] []
  pub comment : Says "# one\n  # two\n\n" [] []
  pub two : Says "ENV{A}=\"1\"\nENV{B}=\"2\"\n" ((1, Kinds.Env ∷ []) ∷ (2, Kinds.Env ∷ []) ∷ []) []
  pub open_row : IsFine "ENV{A}=\"1\"" (Kinds.Env ∷ [])
  pub carriage : Says "ENV{A}=\"1\"\r\nENV{B}=\"2\"\r\n" ((1, Kinds.Env ∷ []) ∷ (2, Kinds.Env ∷ []) ∷ []) []
  pub goes_on : IsFine "KERNEL==\"a\", \\\n  ENV{A}=\"1\"\n" (Kinds.MatchKernel ∷ Kinds.Env ∷ [])
  pub comment_within : IsFine "KERNEL==\"a\", \\\n# note\n  ENV{A}=\"1\"\n" (Kinds.MatchKernel ∷ Kinds.Env ∷ [])
  pub empty_within : Says "KERNEL==\"a\", \\\n\n  ENV{A}=\"1\"\n" ((3, Kinds.Env ∷ []) ∷ []) ((1, Found.NoEffect) ∷ [])
  pub open_end : Says "ENV{A}=\"1\"\nENV{B}=\"2\" \\\n" ((1, Kinds.Env ∷ []) ∷ []) ((2, Found.OpenEnd) ∷ [])

-- what refuses a whole line
pub record RefusedRows : Type 0 where
  pub builtin : Says "IMPORT{builtin}=\"nothing\"\nENV{A}=\"1\"\n" ((2, Kinds.Env ∷ []) ∷ []) ((1, Found.UnknownBuiltin) ∷ [])
  pub prefix : IsRefused "ENV{A}=i\"1\"\n" Found.WrongPrefix
  pub operator : IsRefused "KERNEL=\"x\", ENV{A}=\"1\"\n" Found.WrongOperator
  pub set_operator : IsRefused "RUN==\"x\"\n" Found.WrongOperator
  pub key : IsRefused "ATRS{idVendor}==\"1\", ENV{A}=\"1\"\n" Found.UnknownKey
  pub lower : IsRefused "kernel==\"x\", ENV{A}=\"1\"\n" Found.UnknownKey
  pub attribute : IsRefused "KERNEL{x}==\"1\", ENV{A}=\"1\"\n" Found.SpareAttribute
  pub no_attribute : IsRefused "ENV=\"1\"\n" Found.NoAttribute
  pub source : IsRefused "IMPORT{files}==\"x\"\n" Found.WrongAttribute
  pub mode : IsRefused "TEST{99}==\"x\", ENV{A}=\"1\"\n" Found.WrongAttribute
  pub no_end : IsRefused "MODE=\"0600\\\"\n" Found.NoEnd
  pub no_quote : IsRefused "ENV{A}=1\n" Found.NoQuote
  pub no_brace : IsRefused "ENV{A=\"1\"\n" Found.NoBrace
  pub no_operator : IsRefused "ENV{A} \"1\"\n" Found.NoOperator
  pub word : IsRefused "hello\n" Found.NoOperator
  pub fixed : IsRefused "ENV{DEVNAME}=\"x\"\n" Found.FixedProperty
  pub name : IsRefused "NAME=\"%k\"\n" Found.IdleName
  pub no_name : IsRefused "NAME=\"\"\n" Found.IdleName
  pub priority : IsRefused "OPTIONS=\"link_priority=high\"\n" Found.WrongOption
  pub idle : IsRefused "KERNEL==\"x\"\n" Found.NoEffect
  pub escape : IsRefused "ENV{A}=e\"\\q\"\n" Found.WrongEscape

-- what is kept with a remark
pub record RemarkRows : Type 0 where
  pub option : Says "OPTIONS=\"last_rule\", ENV{A}=\"1\"\n" ((1, Kinds.Env ∷ []) ∷ []) ((1, Found.UnknownOption) ∷ [])
  pub assumed : Says "NAME+=\"x\"\n" ((1, Kinds.Name ∷ []) ∷ []) ((1, Found.TakenAsSet) ∷ [])
  pub joined : Says "KERNEL==\"a\"ENV{A}=\"1\"\n" ((1, Kinds.MatchKernel ∷ Kinds.Env ∷ []) ∷ []) ((1, Found.NoSeparator) ∷ [])
  pub blanks : IsFine "KERNEL==\"a\" ENV{A}=\"1\"\n" (Kinds.MatchKernel ∷ Kinds.Env ∷ [])
  pub commas : IsFine "KERNEL == \"a\",, ENV{A} = \"1\",\n" (Kinds.MatchKernel ∷ Kinds.Env ∷ [])

-- the order of tokens, whatever order they are written in
pub record OrderRows : Type 0 where
  pub late : IsFine "ENV{A}=\"1\", IMPORT{builtin}=\"hwdb\", KERNEL==\"x\"\n" (Kinds.MatchKernel ∷ Kinds.ImportBuiltin ∷ Kinds.Env ∷ [])
  pub parents : Says "TEST==\"x\", ATTRS{a}==\"1\", ENV{B}==\"1\", GOTO=\"e\"\nLABEL=\"e\"\n" ((1, Kinds.MatchEnv ∷ Kinds.ParentsAttr ∷ Kinds.MatchTest ∷ []) ∷ (2, []) ∷ []) []
  pub stable : values (codes "ENV{A}=\"1\", KERNEL==\"x\", ENV{A}=\"2\"\n") ≡ (codes "x" ∷ codes "1" ∷ codes "2" ∷ []) ∷ []
  pub program : IsFine "IMPORT{program}=\"usb_id x\"\n" (Kinds.ImportBuiltin ∷ [])
  pub shortened : IsFine "IMPORT{builtin}=\"usb\"\n" (Kinds.ImportBuiltin ∷ [])
  pub other : IsFine "IMPORT{program}=\"/bin/usb_id\"\n" (Kinds.ImportProgram ∷ [])

-- values
pub record ValueRows : Type 0 where
  pub quote : values (codes "ENV{A}=\"a\\\"b\"\n") ≡ (codes "a\"b" ∷ []) ∷ []
  pub backslash : values (codes "ENV{A}=\"a\\tb\\\\\"\n") ≡ []
  pub kept : values (codes "ENV{A}=\"a\\tb\"\n") ≡ (codes "a\\tb" ∷ []) ∷ []
  pub escaped : values (codes "ENV{A}=e\"a\\tb\\x41\\101\\u00e9\"\n") ≡ ((97 ∷ 9 ∷ 98 ∷ 65 ∷ 65 ∷ 195 ∷ 169 ∷ []) ∷ []) ∷ []
  pub empty : values (codes "ENV{A}=\"\"\n") ≡ ([] ∷ []) ∷ []

-- jumps
pub record JumpRows : Type 0 where
  pub jump : Says "KERNEL!=\"a\", GOTO=\"end\"\nENV{A}=\"1\"\nLABEL=\"end\"\n" ((1, Kinds.MatchKernel ∷ []) ∷ (2, Kinds.Env ∷ []) ∷ (3, []) ∷ []) []
  pub back : Says "LABEL=\"a\"\nGOTO=\"a\"\n" ((1, []) ∷ []) ((2, Found.NoLabel) ∷ [])
  pub nowhere : Says "GOTO=\"a\", ENV{A}=\"1\"\n" ((1, Kinds.Env ∷ []) ∷ []) ((1, Found.NoLabel) ∷ [])
  pub own : Says "LABEL=\"a\", GOTO=\"a\"\n" ((1, []) ∷ []) ((1, Found.NoLabel) ∷ [])
  pub second : Says "GOTO=\"a\", GOTO=\"b\"\nLABEL=\"a\"\n" ((1, []) ∷ (2, []) ∷ []) ((1, Found.SecondGoto) ∷ [])
  pub ordered : Says "GOTO=\"a\"\nATRS==\"x\"\n" [] ((1, Found.NoLabel) ∷ (2, Found.UnknownKey) ∷ [])

-- lines as in systemd's rules
pub record SystemRows : Type 0 where
  pub evdev : Says "KERNELS==\"input*\", IMPORT{builtin}=\"hwdb --subsystem=input --lookup-prefix=evdev:\", \\\n  RUN{builtin}+=\"keyboard\", GOTO=\"e\"\nLABEL=\"e\"\n"
      ((1, Kinds.ParentsKernel ∷ Kinds.ImportBuiltin ∷ Kinds.RunBuiltin ∷ []) ∷ (3, []) ∷ []) []
  pub usb : IsFine "SUBSYSTEM==\"usb\", ENV{DEVTYPE}==\"usb_device\", IMPORT{builtin}=\"usb_id\", IMPORT{builtin}=\"hwdb --subsystem=usb\"\n" (Kinds.MatchEnv ∷ Kinds.MatchSubsystem ∷ Kinds.ImportBuiltin ∷ Kinds.ImportBuiltin ∷ [])
  pub event : IsFine "ACTION==\"remove\", RUN{builtin}+=\"keyboard\", MODE=\"0660\", GROUP=\"input\", TAG+=\"uaccess\"\n" (Kinds.MatchAction ∷ Kinds.Group ∷ Kinds.Mode ∷ Kinds.Tag ∷ Kinds.RunBuiltin ∷ [])

abbrev pub from : Folder → String → Chosen
from folder name = record { folder = folder; name = codes name }

-- which files are chosen
pub record ChoiceRows : Type 0 where
  pub first : choice (codes "b.rules" ∷ []) (codes "b.rules" ∷ codes "a.rules" ∷ []) (codes "a.rules" ∷ codes "c.rules" ∷ []) (codes "c.rules" ∷ codes "d.rules" ∷ [])
      ≡ from Run "a.rules" ∷ from Etc "b.rules" ∷ from Local "c.rules" ∷ from Usr "d.rules" ∷ []
  pub others : choice [] [] [] (codes "a.rules.bak" ∷ codes ".b.rules" ∷ codes "README" ∷ codes "60-a.rules" ∷ codes "6-a.rules" ∷ [])
      ≡ from Usr "6-a.rules" ∷ from Usr "60-a.rules" ∷ []

-- the line and the column of each finding
abbrev pub spots : List ℕ → List (ℕ × ℕ)
spots file = map (λ f. ((spot (rows file) f).line, (spot (rows file) f).column)) (parsed file).findings

-- where findings are, and how they are printed
pub record SpotRows : Type 0 where
  pub first : spots (codes "ATRS==\"x\"\n") ≡ (1, 1) ∷ []
  pub indented : spots (codes "\n  ATRS==\"x\"\n") ≡ (2, 3) ∷ []
  pub second : spots (codes "KERNEL==\"a\", ATRS==\"x\"\n") ≡ (1, 14) ∷ []
  pub goes_on : spots (codes "KERNEL==\"a\", \\\n  ATRS==\"x\"\n") ≡ (2, 3) ∷ []
  pub comment_within : spots (codes "KERNEL==\"a\", \\\n# note\n\tATRS==\"x\"\n") ≡ (3, 2) ∷ []
  pub told : report (codes "a.rules") (codes "\nATRS==\"x\"\n") ≡ codes "a.rules:2:1: the key isn't known: udev leaves the line out [unknown-key]\n"
