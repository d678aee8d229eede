-- What is told of a line that was tried.
use Rattle.std.proofs.Common.{◌≡◌, ◌∙◌, ◌++◌, ap, subst, sym, ℕ, Bool, true, false, cond, List, [], ◌∷◌, map}
use Rattle.std.proofs.lemmas.List.{append-nil}
use Rattle.hwdb_spec.specs.Lines.{Line}
use Rattle.hwdb_spec_commands.specs.Wanted.{GivenValue, about, failures, holds}
use Rattle.hwdb_test.specs.Internal.{AscendByKey, IsApart, holds_by, tried_text, unnamed}
use Rattle.hwdb_test.specs.Views.{given_at, pair_at}
use Rattle.hwdb_test.specs.declared.given_values.GivenValue.{GivenValue as Found}
use Rattle.hwdb_test.proofs.AboutLemmas.{holds_is}

-- the properties that were found, and those of them that no line names
pub apart_from : (all : List Line) (items first found kept others : List Found) → first ≡ items → found ≡ items → others ≡ kept → AscendByKey items
    → map given_at kept ≡ unnamed all (map given_at first) → IsApart all found others
apart_from all items first found kept others a f o up is = record {
  ascend = subst AscendByKey (sym f) up;
  others = ap (map given_at) o ∙ is ∙ ap (λ (xs : List Found). unnamed all (map given_at xs)) (a ∙ sym f);
}

module _ (json : Bool) (path device : List ℕ) (all : List Line) (found these : List Found) (l : Line) (is : map given_at these ≡ about all (map given_at found) l) where
  fits_is : (fits : Bool) → fits ≡ holds_by l (map pair_at these) → holds all (map pair_at found) l ≡ fits
  fits_is fits e = sym (e ∙ holds_is all found these l is)

  -- it holds
  pub kept_silent : (fits : Bool) (text after : List ℕ) → fits ≡ holds_by l (map pair_at these) → fits ≡ true → after ≡ text
      → after ≡ text ++ tried_text json path device all (map given_at found) (map pair_at found) l
  kept_silent fits text after e fit same =
      same ∙ sym (append-nil text)
      ∙ ap (λ (t : List ℕ). text ++ t) (sym (ap (λ (b : Bool). cond b [] (failures json path device l (about all (map given_at found) l))) (fits_is fits e ∙ fit)))

  -- it doesn't
  pub told_failed : (fits : Bool) (text after : List ℕ) → fits ≡ holds_by l (map pair_at these) → fits ≡ false → after ≡ text ++ failures json path device l (map given_at these)
      → after ≡ text ++ tried_text json path device all (map given_at found) (map pair_at found) l
  told_failed fits text after e fit pushed =
      pushed ∙ ap (λ (gs : List GivenValue). text ++ failures json path device l gs) is
      ∙ ap (λ (t : List ℕ). text ++ t) (sym (ap (λ (b : Bool). cond b [] (failures json path device l (about all (map given_at found) l))) (fits_is fits e ∙ fit)))

  -- whether it holds
  pub tells_holds : (fits : Bool) (old new : List Bool) → fits ≡ holds_by l (map pair_at these) → new ≡ old ++ fits ∷ [] → new ≡ old ++ holds all (map pair_at found) l ∷ []
  tells_holds fits old new e pushed = pushed ∙ ap (λ (b : Bool). old ++ b ∷ []) (sym (fits_is fits e))
