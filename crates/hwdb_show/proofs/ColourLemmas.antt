-- Colours are taken out again.
use Rattle.std.proofs.Common.{◌≡◌, ◌≢◌, ◌∙◌, ◌++◌, ◌∷◌, [], All, Bool, List, ap, false, ne_eqb, refl, sym, true, ℕ}
use Rattle.std.specs.Prelude.{◌==◌, if◌then◌else◌}
use Rattle.std.proofs.lemmas.List.{append-nil}
use Rattle.std.proofs.lemmas.List.Elements.{All-head, All-tail}
use Rattle.hwdb_spec_commands.specs.Colours.{is_same, painted_after, part_at, plain, sequence, style_of, styled_after, turn, without_sequences}
use Rattle.hwdb_spec_commands.specs.declared.colours.LinePart.{LinePart}
use Rattle.hwdb_spec_commands.specs.declared.colours.LinePart.TheVariants as part
use Rattle.hwdb_spec_commands.specs.declared.colours.Style.{Style}
use Rattle.hwdb_spec_commands.specs.declared.colours.Style.TheVariants as style
use Rattle.hwdb_spec_commands.specs.declared.colours.TextKind.{TextKind}
use Rattle.hwdb_spec_commands.specs.declared.colours.TextKind.TheVariants as text

pub same_bytes : (kind : TextKind) (before : LinePart) (bytes : List ℕ) → plain (styled_after kind before bytes) ≡ bytes
same_bytes kind before [] = refl
same_bytes kind before (b ∷ bs) = ap (λ l. b ∷ l) (same_bytes kind (part_at kind before b) bs)

sequence_out : (s : Style) (rest : List ℕ) → without_sequences false (sequence s ++ rest) ≡ without_sequences false rest
sequence_out style.Plain rest = refl
sequence_out style.Key rest = refl
sequence_out style.Path rest = refl
sequence_out style.Fault rest = refl
sequence_out style.Mark rest = refl

turn_out : (before now : Style) (rest : List ℕ) → without_sequences false (turn before now ++ rest) ≡ without_sequences false rest
turn_out before now rest = go (is_same before now)
  where
    go : (same : Bool) → without_sequences false ((if same then [] else sequence now) ++ rest) ≡ without_sequences false rest
    go true = refl
    go false = sequence_out now rest

byte_kept : (b : ℕ) (rest : List ℕ) → b ≢ 27 → without_sequences false (b ∷ rest) ≡ b ∷ without_sequences false rest
byte_kept b rest other = rw (ne_eqb b 27 other) refl

pub taken_out : (kind : TextKind) (before : LinePart) (bytes : List ℕ) → All (λ b. b ≢ 27) bytes
    → without_sequences false (painted_after (style_of before) (styled_after kind before bytes)) ≡ bytes
taken_out kind before [] none = ap (without_sequences false) (sym (append-nil (turn (style_of before) style.Plain))) ∙ turn_out (style_of before) style.Plain []
taken_out kind before (b ∷ bs) none =
    let here = part_at kind before b in
    let more = painted_after (style_of here) (styled_after kind here bs) in
    turn_out (style_of before) (style_of here) (b ∷ more) ∙ byte_kept b more (All-head (λ x. x ≢ 27) b bs none)
    ∙ ap (λ l. b ∷ l) (taken_out kind here bs (All-tail (λ x. x ≢ 27) b bs none))

-- text of the kind `Plain` after such a byte
abbrev IsKept : LinePart → List ℕ → Type 0
IsKept before bytes = painted_after style.Plain (styled_after text.Plain before bytes) ≡ bytes

plain_step : (ends : Bool) (b : ℕ) (bs : List ℕ) → IsKept part.Ended bs → IsKept part.Value bs
    → (let here : LinePart = if ends then part.Ended else part.Value in turn style.Plain (style_of here) ++ b ∷ painted_after (style_of here) (styled_after text.Plain here bs) ≡ b ∷ bs)
plain_step true b bs ended value = ap (λ l. b ∷ l) ended
plain_step false b bs ended value = ap (λ l. b ∷ l) value

pub plain_kept : (bytes : List ℕ) → IsKept part.Ended bytes × IsKept part.Value bytes
plain_kept [] = (refl, refl)
plain_kept (b ∷ bs) =
    let rest = plain_kept bs in
    (plain_step (b == 10) b bs rest.0 rest.1, plain_step (b == 10) b bs rest.0 rest.1)
