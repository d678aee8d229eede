use Rattle.std.proofs.Common.{arith, add-one, ap, refl, ◌∙◌, ◌+◌}
use Rattle.std.proofs.lemmas.List.{take_rest}
use Rattle.hwdb_spec.specs.Patterns.{tokens}
use Rattle.hwdb_forms.specs.Internal.{fields_of}
use Rattle.hwdb_forms.proofs.PlainLemmas.{cut_on, within_text}
use Rattle.hwdb_forms.proofs.TemplateLemmas.{ways_done, ways_on}
use Rattle.hwdb_forms.proofs.templates.meets_ways.Goals as goal

pub loop-done-preserved : goal.loop-done-preserved
loop-done-preserved c = record {
  ways = omega arith;
  within = within_text c.args.text.now _ c.loop-done.at _ c.in-Some.taken (take_rest c.args.text.now c.loop-done.at) (omega arith) refl c.in-Some.ensures.within;
  cut = cut_on c.args.text.now _ c.loop-done.at _ c.in-Some.taken (c.loop-done.at + c.in-Some.taken) refl refl (take_rest c.args.text.now c.loop-done.at) c.loop-done.invariant.cut c.in-Some.ensures.cut;
  met = ways_on _ (λ way. way.now) (fields_of c.args.fields.now) c.args.ways.now _ (tokens c.args.text.now) _ c.loop-done.done (c.loop-done.done + 1) c.loop-done.at (c.loop-done.at + c.in-Some.taken) c.in-Some.taken
      c.requires (omega arith) (add-one c.loop-done.done) (ap tokens (take_rest c.args.text.now c.loop-done.at) ∙ c.loop-done.invariant.cut) refl c.in-Some.ensures.through c.loop-done.invariant.met;
}

pub returns : goal.returns
returns c = λ met.
    ways_done _ (λ way. way.now) (fields_of c.args.fields.now) c.args.ways.now (tokens c.args.text.now) _ c.loop-done.done c.loop-done.at c.requires (omega arith)
    (ap tokens (take_rest c.args.text.now c.loop-done.at) ∙ c.loop-done.invariant.cut) (c.ends.ensures met) c.loop-done.invariant.met
