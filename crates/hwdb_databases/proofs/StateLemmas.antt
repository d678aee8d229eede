-- Bytes that are compared.
use Rattle.std.proofs.Common.{◌≡◌, ◌≢◌, ◌∙◌, ap, sym, false, true≢false, List, ℕ}
use Rattle.hwdb_spec.specs.Folders.{same}
use Rattle.hwdb_spec.specs.Lemmas.Orders.{same_itself}

pub not_same : (m n : List ℕ) → same m n ≡ false → m ≢ n
not_same m n e is = absurd (true≢false (sym (ap (same m) (sym is) ∙ same_itself m) ∙ e))
