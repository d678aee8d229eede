use Rattle.std.proofs.Common.{◌≡◌, ◌+◌, ◌*◌, ◌-◌, ◌↔◌, ℕ, None, option_map, MatchOption}
use Rattle.hwdb_spec.specs.Format.{number_at, text_at, IsPlace, ValuesText}
use Rattle.hwdb_reader.specs.Internal.Read.{values_at}
use Rattle.hwdb_reader.proofs.values.check_values.Given as goal

abbrev pub invariant-loop-i : goal.invariant-loop-i
invariant-loop-i l =
    record {
      same : l.repeats ≡ l.initial.repeats;
      entry : l.entry ≡ l.first + l.l.sizes.value_size * l.i;
      rest : ValuesText l.l.sizes l.b l.entry (option_map (text_at l.b) l.before) (values_at l.l.sizes l.b l.entry (l.n - l.i)) ↔ ValuesText l.l.sizes l.b l.first None (values_at l.l.sizes l.b l.first l.n);
      last : MatchOption l.before (l.i ≡ 0) (λ k. (j : ℕ) × (l.i ≡ j + 1) × IsPlace l.l.sizes l.b (number_at 8 (l.first + l.l.sizes.value_size * j) l.b) × (k ≡ number_at 8 (l.first + l.l.sizes.value_size * j) l.b));
    }
