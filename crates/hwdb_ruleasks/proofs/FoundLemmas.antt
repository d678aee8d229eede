-- What rules tell, of what the code knows of a device.
use Rattle.std.proofs.Common.{◌≡◌, ◌∙◌, ap, sym, codes, map, List, ◌∷◌, ℕ}
use Rattle.hwdb_spec_commands.specs.Sysfs.{Ancestor, Device}
use Rattle.hwdb_rulefiles.specs.RuleLines.{RuleLine}
use Rattle.hwdb_rulerun.specs.Sights.{Entry, Seen}
use Rattle.hwdb_ruleevents.specs.Effects.{Knowledge}
use Rattle.hwdb_ruleevents.specs.Parents.{Nobody}
use Rattle.hwdb_spec_rules.specs.DeviceCommands.{Tells, commands}
use Rattle.hwdb_spec_rules.specs.RuleNames.{names_read}
use Rattle.hwdb_spec_rules.specs.RuleSights.{others, seen, sight_of}
use Rattle.hwdb_spec_rules.specs.RuleStrings.{Account, RulesFile, account_at, lines_in}
use Rattle.hwdb_ruleasks.specs.SettingViews.{account_in}

-- both accounts of a device, as something is made of them
module _ {X : Type 0} (make : List Ancestor → (added changed : Account) → X) (tells : Tells) (files : List RulesFile) (d : Device) (own : Ancestor) (parents : List Ancestor) where
  abbrev known : (chain : List Ancestor) → Seen → List Seen → List Entry → (action : List ℕ) → Knowledge
  known chain s ss os action = record { sight = sight_of action own.path s ss; parent = Nobody; others = os; commands = commands tells chain }

  abbrev made : (given chain : List Ancestor) → List (List RuleLine) → Seen → List Seen → List Entry → X
  made given chain lines s ss os =
      make given (account_in (known chain s ss os) own lines (codes "add")) (account_in (known chain s ss os) own lines (codes "change"))

  abbrev asked : (chain : List Ancestor) → X
  asked chain =
      let lines = lines_in files in
      make d.chain (account_at tells lines (codes "add") d.machine chain) (account_at tells lines (codes "change") d.machine chain)

  -- with the device's chain as it was handed on
  pub told_when : (given of : List Ancestor) (lines : List (List RuleLine)) (names : List (List ℕ)) (s : Seen) (ss : List Seen) (os : List Entry) (all : X)
      → given ≡ d.chain → of ≡ d.chain → d.chain ≡ own ∷ parents → lines ≡ lines_in files → names ≡ names_read lines → s ≡ seen names own → ss ≡ map (seen names) parents → os ≡ others d.machine
      → all ≡ made given of lines s ss os → all ≡ asked d.chain
  told_when given of lines names s ss os all g o chain is read itself above other e =
      let ls = lines_in files in
      let ns = names_read ls in
      let named : names ≡ ns = read ∙ ap names_read is in
      e ∙ ap (λ (c : List Ancestor). made c of lines s ss os) g
      ∙ ap (λ (c : List Ancestor). made d.chain c lines s ss os) o
      ∙ ap (λ (l : List (List RuleLine)). made d.chain d.chain l s ss os) is
      ∙ ap (λ (x : Seen). made d.chain d.chain ls x ss os) (itself ∙ ap (λ (n : List (List ℕ)). seen n own) named)
      ∙ ap (λ (x : List Seen). made d.chain d.chain ls (seen ns own) x os) (above ∙ ap (λ (n : List (List ℕ)). map (seen n) parents) named)
      ∙ ap (λ (x : List Entry). made d.chain d.chain ls (seen ns own) (map (seen ns) parents) x) other
      ∙ ap (λ (c : List Ancestor). made d.chain c ls (seen ns own) (map (seen ns) parents) (others d.machine)) chain
      ∙ sym (ap asked chain)
