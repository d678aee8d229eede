use Rattle.std.proofs.Common.{◌∙◌, ◌++◌, ap, map, sym, subst, length, arith}
use Rattle.std.specs.List.Sorted.{IsPermutation}
use Rattle.std.proofs.lemmas.List.{length-map, with_items_is}
use Rattle.std.proofs.lemmas.List.Sorted.{length_permutation}
use Rattle.hwdb_spec.specs.Assignment.{ascending}
use Rattle.hwdb_writer.specs.Internal.Word.{word_of}
use Rattle.hwdb_writer.specs.Internal.Numbered.{texts, distinct, bounded_place, bounded_end}
use Rattle.hwdb_spec.specs.Written.{section_of}
use Rattle.hwdb_writer.proofs.TableLemmas.{distinct_is}
use Rattle.hwdb_writer.proofs.strings.table_of.Goals as goal

pub returns : goal.returns
returns c =
    let words = c.into_words-ordered.result.items in
    let sorted = c.sort_unstable.new.self.items in
    let first = c.args.first in
    let numbered = c.into_words-ordered.ensures.numbered in
    let moved = c.sort_unstable.ensures.permutation in
    let strings = c.into_words-ordered.ensures.texts in
    let table = distinct_is words sorted numbered moved c.sort_unstable.ensures.sorted ∙ ap ascending strings in
    let read = ap (λ l. distinct (texts l)) c.deref-2.ensures.value ∙ table in
    let filled = c.in_ok-end.ensures.filled words numbered (subst (IsPermutation words) (sym c.deref-2.ensures.value) moved) in
    record {
      section = c.in_ok-end.ensures.section ∙ ap (λ l. l ++ section_of (distinct (texts c.deref-2.result.now))) c.in_ok-section.ensures.items ∙ ap section_of read;
      places = with_items_is c.in_ok-places.places c.fill.new.places
          (omega (arith, ap length filled.placed, length-map (texts words) (bounded_place first (distinct (texts c.deref-2.result.now))), length-map words word_of, length_permutation words sorted moved, c.in_ok-places.places.ok.0, c.in_ok-places.ensures.len, c.len.ensures))
          ∙ filled.placed
          ∙ (λ i. map (bounded_place first (read i)) (strings i));
      ended = filled.ended ∙ ap (bounded_end first) read;
    }
