use Rattle.std.proofs.Common.{List, ℕ, ◌++◌, ◌-◌, take, drop, length, ap, ◌∙◌}
use Rattle.std.proofs.lemmas.List.{take_rest}
use Rattle.std.proofs.lemmas.Bool.{false≢true}
use Rattle.hwdb_pattern.specs.Views.{Reached}
use Rattle.hwdb_pattern.proofs.PathLemmas.{fed, lost_front}
use Rattle.hwdb_pattern.specs.Internal.Met.{lengths_of}
use Rattle.hwdb_pattern.proofs.paths.Reach.follow_text.Goals as goal

pub returns-clause-path : goal.returns-clause-path
returns-clause-path c path piece text stands =
    fed c.args.self.now c.self.inside.device.now (lengths_of c.self.inside.met) (lengths_of c.in_ok-met.met) c.args.text.now _ c.extend_from_slice.new.self.items path piece
    (ap (λ (r : Reached). r.device) c.self.view_is)
    (ap (λ (r : Reached). r.lengths) c.self.view_is)
    text c.closed_end-end.ensures.before
    (c.in_ok-extend_from_slice.ensures.items ∙ ap (λ (l : List ℕ). l ++ take (length c.args.text.now - c.closed_end-end.result) (drop c.closed_end-end.result c.args.text.now)) c.new-kept.ensures.items ∙ take_rest c.args.text.now c.closed_end-end.result ∙ c.closed_end-end.ensures.behind)
    c.in_ok-met.ensures.follows stands

pub returns-in_err-met-clause-free : goal.returns-in_err-met-clause-free
returns-in_err-met-clause-free c lost =
    let l = lost_front c.args.self.now c.self.inside.device.now (lengths_of c.self.inside.met) c.args.text.now c.closed_end-end.result
    (ap (λ (r : Reached). r.device) c.self.view_is)
    (ap (λ (r : Reached). r.lengths) c.self.view_is)
    c.closed_end-end.ensures.behind lost in
    absurd (false≢true (c.in_err-met.ensures.free l.0 l.1 l.2))
