use Rattle.std.proofs.Common.{◌∙◌, ◌++◌, [], codes, subst, sym, ℕ, List, ◌≡◌, true}
use Rattle.hwdb_spec_commands.specs.Lookups.{is_owned}
use Rattle.hwdb_rules.specs.Views.{questions_of}
use Rattle.hwdb_sysfs.specs.Views.{ancestor_of}
use Rattle.hwdb_rules.proofs.AddressLemmas.{address_asked}
use Rattle.hwdb_rules.proofs.late.address_strings.Goals as goal

pub returns : goal.returns
returns c =
    address_asked (record { own = ancestor_of c.args.own.now; chain = []; machine = [] }) c.in_ok-digits.digits.items c.in_ok-text.text.items (questions_of c.in_ok-questions.questions.items)
    (sym c.has_own_address.ensures ∙ c.if-not-has_own_address.false) c.in_ok-digits.ensures
    (subst (λ (d : List ℕ). is_owned d ≡ true) c.deref.ensures.value (sym c.is_owned.ensures ∙ c.if-not-is_owned.false))
    (subst (λ (d : List ℕ). c.in_ok-text.text.items ≡ codes "OUI:" ++ d) c.deref-2.ensures.value c.in_ok-text.ensures) c.in_ok-questions.ensures
