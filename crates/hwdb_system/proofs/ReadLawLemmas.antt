-- What the definitions of Raw come to.
use Rattle.std.proofs.Common.{◌≡◌, inl, inr, refl, sym, ap, ◌∙◌, Bool, true, false, [], ◌∷◌, Result, Ok, Err}
use Rattle.std.specs.Prelude.{codes}
use Rattle.std.proofs.lemmas.Bool.{true≢false}
use Rattle.hwdb_spec.specs.Lines.{pieces}
use Rattle.hwdb_spec.specs.declared.errors.ToolError.TheVariants.{Read, TooLong}
use Rattle.hwdb_spec_commands.specs.declared.unread.Unread.{Unread}
use Rattle.hwdb_spec_commands.specs.declared.refusals.Refusal.TheVariants.{At}
use Rattle.hwdb_system.specs.ReadLaws.{ErrorsHaveOneCause, KindsAreTold, LinksAreTold, ReadIsNoError, ignored, listed}

pub kinds_are_told : KindsAreTold
kinds_are_told = record {
  file = λ bytes. (refl, refl);
  null = λ bytes. (refl, refl);
  folder = λ bytes. (refl, refl);
  pipe = λ bytes. (refl, refl);
  socket = λ bytes. (refl, refl);
  device = λ bytes. (refl, refl);
  missing = λ kind bytes. refl;
}

pub links_are_told : LinksAreTold
links_are_told = record { link = refl; none = refl; other = refl; database = refl }

is_read : {X : Type 0} → Result X Unread → Bool
is_read (Ok x) = true
is_read (Err w) = false

pub read_is_no_error : ReadIsNoError
unfolding is_read
read_is_no_error answer bytes path refusal is (inl memory) = memory
read_is_no_error answer bytes path refusal is (inr (w, e, one)) = absurd (true≢false (ap is_read (sym is ∙ e)))

pub errors_have_one_cause : ErrorsHaveOneCause
errors_have_one_cause v w path (At Read at cause) first second = first.1 ∙ sym second.1
errors_have_one_cause v w path (At TooLong at cause) first second = first.1 ∙ sym second.1
errors_have_one_cause v w path refusal first second = absurd first

pub names_are_listed : listed ≡ Ok (codes "a.hwdb" ∷ (codes "c.hwdb" ∷ []))
unfolding pieces
names_are_listed = refl

pub others_are_ignored : ignored ≡ Ok (codes "b" ∷ (codes "e.hwdb.txt" ∷ []))
unfolding pieces
others_are_ignored = refl
