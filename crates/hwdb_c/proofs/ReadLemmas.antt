-- Files of which some blocks were read.
use Rattle.std.proofs.Common.{◌≡◌, ◌≢◌, ◌<◌, ◌∙◌, ◌/◌, ◌⊎◌, inl, inr, ℕ, length, slice_index, slice_set, sym, arith}
use Rattle.std.proofs.lemmas.List.{ext_get_or, get_or-set_other}
use Rattle.std.proofs.lemmas.Bool.Decides.{eqb_tells}
use Rattle.hwdb_spec.specs.Blocks.{IsRead}
use Rattle.hwdb_c.specs.Laws.{EachMayBe, ReadsKeep, AllReadIsOne}

pub each_may_be : EachMayBe
each_may_be buffer present file size none = record { size = size; same = λ i lt read. absurd (none (i / 4096) read) }

pub reads_keep : ReadsKeep
reads_keep before after present file block m r =
    record { size = m.size ∙ sym r.size; same = λ i lt read. let long = r.size in at i (omega (arith, lt, long)) read (here i) }
  where
    here : (i : ℕ) → (i / 4096 ≡ block) ⊎ (i / 4096 ≢ block)
    here i = elim (eqb_tells (i / 4096) block) [ inl t ↦ inl t.1 | inr t ↦ inr t.1 ]

    at : (i : ℕ) → i < length before → IsRead (slice_set present block 1) i → (i / 4096 ≡ block) ⊎ (i / 4096 ≢ block) → slice_index file i ≡ slice_index after i
    at i lt read (inl is) = sym (r.there i lt is)
    at i lt read (inr other) = m.same i lt (sym (get_or-set_other present block (i / 4096) 1 0 other) ∙ read) ∙ sym (r.elsewhere i lt other)

pub all_read_is_one : AllReadIsOne
all_read_is_one buffer present file all m =
    ext_get_or 0 file buffer m.size (λ i lt. let size = m.size in m.same i (omega (arith, lt, size)) (all (i / 4096) (omega (arith, lt, size))))
